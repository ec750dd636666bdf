pub mod Types
pub mod Reading
pub mod Breaks
pub mod Names
pub mod Messages
pub mod formers
