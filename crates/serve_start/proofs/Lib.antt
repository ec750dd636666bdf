pub mod FileLimits
pub mod GuidBytes
pub mod Listening
pub mod NameTexts
pub mod PathLaw
pub mod PostCount
