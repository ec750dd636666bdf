pub mod Rights
pub mod Unknown
