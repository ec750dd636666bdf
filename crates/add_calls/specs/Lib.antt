pub mod Giving
pub mod Limits
pub mod Placing
pub mod Shown
