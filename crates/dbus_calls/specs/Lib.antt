pub mod Signatures
pub mod Tables
pub mod Errors
pub mod Calls
