pub mod StageRuns
pub mod Serving
pub mod Attending
