pub mod Apart
pub mod Changes
pub mod OwnSights
pub mod Dropped
pub mod Steps
pub mod Untold
