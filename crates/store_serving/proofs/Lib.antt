pub mod Waits
mod Passed
mod EntrySteps
mod RecordSteps
mod StoreSteps
mod CallArguments
mod AskedTexts
mod Settled
mod SameRows
