pub mod Places
pub mod Shifts
pub mod Enough
pub mod Rounds
pub mod Sends
