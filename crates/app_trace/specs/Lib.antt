pub mod Told
pub mod Matches
pub mod Held
pub mod Contents
