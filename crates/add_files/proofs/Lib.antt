pub mod ArgumentLemmas
pub mod ItemLemmas
pub mod Following
pub mod Earlier
pub mod Adding
