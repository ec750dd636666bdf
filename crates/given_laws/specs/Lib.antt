pub mod OneGiven
pub mod Faulted
