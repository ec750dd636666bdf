pub mod Properties
pub mod Asks
pub mod Replies
pub mod Signals
pub mod Writable
