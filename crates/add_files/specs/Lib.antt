pub mod Plans
pub mod Items
pub mod Arguments
