mod Outcomes
mod OwnLemmas
pub mod Owned
mod TakenLemmas
mod WithinLimit
