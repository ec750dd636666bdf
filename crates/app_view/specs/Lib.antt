pub mod Books
pub mod Places
pub mod Entries
pub mod Sights
pub mod Reached
pub mod Opened
