pub mod Books
pub mod Serves
pub mod KeeperCalls
pub mod Arguments
pub mod Answers
pub mod Queues
pub mod Changes
