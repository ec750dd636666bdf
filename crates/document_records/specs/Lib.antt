pub mod Applications
pub mod DocumentErrors
pub mod DocumentIndex
pub mod Documents
pub mod GrantIndex
pub mod Grants
pub mod Holdings
pub mod Given
