pub mod Entries
pub mod FilesBelow
pub mod HiddenNames
