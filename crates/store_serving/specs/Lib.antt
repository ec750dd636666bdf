pub mod Refusals
pub mod Waiting
pub mod Records
pub mod Serving
