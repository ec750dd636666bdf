pub mod ArgumentLemmas
pub mod LookupLemmas
pub mod ChangeLemmas
