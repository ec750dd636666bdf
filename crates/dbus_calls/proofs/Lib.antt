pub mod Behind
pub mod Methods
