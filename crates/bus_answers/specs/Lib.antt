pub mod Rooms
pub mod Little
pub mod Begun
