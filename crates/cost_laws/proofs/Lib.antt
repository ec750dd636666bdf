pub mod Seats
pub mod Streams
pub mod Totals
pub mod Links
mod StreamExampleProofs
