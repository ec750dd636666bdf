pub mod Folders
pub mod Namings
pub mod Nodes
pub mod Examples
