mod PathArguments
pub mod ServedSteps
mod ReadAnswers
mod ListedDocuments
mod DeleteSteps
pub mod QueueSteps
pub mod KeptRights
mod RevokeSteps
pub mod AddedRights
mod GrantSteps
