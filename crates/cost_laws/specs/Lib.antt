pub mod Seats
pub mod Streams
pub mod StreamExamples
pub mod Totals
pub mod Links
