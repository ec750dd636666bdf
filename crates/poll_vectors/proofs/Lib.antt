pub mod Closed
pub mod Shy
