pub mod Children
pub mod Named
pub mod NamingErrors
