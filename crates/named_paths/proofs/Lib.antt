pub mod OpenPaths
pub mod PathsHeld
pub mod KeptNumbers
pub mod StillOpen
pub mod TempsAt
pub mod NamesHeld
