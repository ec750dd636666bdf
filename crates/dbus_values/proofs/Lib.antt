pub mod Ascii
pub mod ListFronts
pub mod LimitsByLayer
pub mod PackedBytes
pub mod OneSpelling
pub mod SpelledType
pub mod Lengths
