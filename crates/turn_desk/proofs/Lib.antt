pub mod Fronts
pub mod Turns
pub mod Answering
pub mod Ending
pub mod Trying
