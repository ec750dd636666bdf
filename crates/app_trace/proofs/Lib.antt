pub mod FirstDifferences
pub mod Told
pub mod Matched
pub mod HeldInOrder
pub mod ContentsInOrder
pub mod FilesInOrder
pub mod FilesPlaced
pub mod ViewedParts
