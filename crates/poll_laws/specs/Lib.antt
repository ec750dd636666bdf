pub mod Courses
pub mod Polls
pub mod Laws
