pub mod KindLemmas
pub mod ShownLemmas
pub mod Counts
pub mod Giving
pub mod PathLemmas
pub mod PlacingLemmas
