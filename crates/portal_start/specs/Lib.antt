pub mod Loading
pub mod Laws
pub mod Renewed
