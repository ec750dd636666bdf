mod Texts
mod Verdicts
mod Records
mod Requests
pub mod Signals
mod StoreAnswers
pub mod Calls
pub mod LittleAnswers
mod Sizes
mod Shifts
mod StoreCosts
pub mod Costs
pub mod ReturnSignatures
pub mod ReturnVerdicts
pub mod ReturnRequests
pub mod StoreRequests
pub mod ReturnsAsked
pub mod PortalReturns
pub mod LocalReturns
