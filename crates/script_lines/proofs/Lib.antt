pub mod GrantFacts
pub mod TextFacts
pub mod WordFacts
pub mod LineFacts
pub mod JoinFacts
pub mod RowFacts
pub mod SameFacts
