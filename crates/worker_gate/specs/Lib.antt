pub mod Listening
pub mod InMemory
pub mod Gates
pub mod Polled
pub mod Working
