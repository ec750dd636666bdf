pub mod Opening
pub mod Knowing
pub mod Trying
