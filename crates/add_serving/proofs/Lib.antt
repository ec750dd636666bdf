mod Given
mod Regranted
mod Stirred
mod RecordSteps
mod AddSteps
pub mod Bounded
mod PlaceSteps
