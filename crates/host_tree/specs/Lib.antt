pub mod Beside
pub mod Children
pub mod Devices
pub mod NameOrders
pub mod Stored
pub mod Trees
