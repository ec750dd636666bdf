pub mod Own
pub mod Tables
pub mod Taken
pub mod TempErrors
