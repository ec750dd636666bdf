pub mod Fields
pub mod Dirents
pub mod Replies
pub mod Rooms
