pub mod OpenNumbers
pub mod Named
pub mod Seated
