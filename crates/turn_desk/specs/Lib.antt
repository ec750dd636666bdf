pub mod Knowing
pub mod Views
pub mod Rules
pub mod Plays
pub mod Sights
pub mod Deals
pub mod Asking
pub mod Staying
