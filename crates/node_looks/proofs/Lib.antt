pub mod NumberedNames
pub mod SeenNumbers
pub mod Follow
pub mod OpenTable
pub mod DoneLemmas
pub mod OpenFiles
pub mod FoundBytes
pub mod LowKinds
