pub mod Breaks
pub mod Reads
