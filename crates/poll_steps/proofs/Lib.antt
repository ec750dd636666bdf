pub mod Sending
pub mod StepRuns
pub mod Asking
pub mod Reading
pub mod Connected
pub mod EnterLeave
pub mod Acting
