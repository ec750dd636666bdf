pub mod Draws
pub mod Frames
pub mod Calls
pub mod Lines
pub mod Laws
