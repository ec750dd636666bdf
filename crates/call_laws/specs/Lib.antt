pub mod Answers
pub mod Returns
