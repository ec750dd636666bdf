mod DrawnAlike
mod OneNumbers
pub mod OneEntry
pub mod FaultLaws
pub mod FaultlessHistories
