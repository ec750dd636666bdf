pub mod Joining
pub mod Endings
pub mod LawsOfPolls
