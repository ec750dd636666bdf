pub mod BlockLemmas
pub mod RowBytes
