pub mod Seats
pub mod Counted
pub mod Numbered
