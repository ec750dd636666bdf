pub mod Commands
pub mod Inputs
pub mod Openings
pub mod Runs
pub mod Parting
pub mod Worlds
pub mod Generated
