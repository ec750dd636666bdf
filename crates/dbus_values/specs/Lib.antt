pub mod Extends
pub mod Values
pub mod Spells
pub mod Spelling
