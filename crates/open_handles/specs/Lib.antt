pub mod Opened
pub mod HandleErrors
