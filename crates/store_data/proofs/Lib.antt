pub mod EightAlignments
pub mod WalkedLeaves
pub mod WalkedParts
pub mod SpelledData
pub mod EndLemmas
pub mod ChangedHeader
pub mod ChangedBody
