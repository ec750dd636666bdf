pub mod Posts
pub mod Rounds
pub mod Statuses
