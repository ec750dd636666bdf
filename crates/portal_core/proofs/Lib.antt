pub mod Beginning
pub mod HeldCounts
pub mod Desks
pub mod StrictAnswers
pub mod Renewals
pub mod Counting
pub mod WaitingSeats
