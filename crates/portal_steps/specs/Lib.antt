pub mod Story
pub mod TreeCalls
pub mod Devices
pub mod Answered
pub mod Served
pub mod Documents
pub mod Held
pub mod Stored
