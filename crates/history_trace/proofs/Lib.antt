pub mod BesideItems
pub mod TreeFiles
pub mod Quiet
pub mod Going
pub mod Fronts
pub mod LentLists
pub mod FreshFiles
