pub mod Parts
pub mod PolledLinks
pub mod Links
