mod Places
mod MadeByIt
mod OwnExchanges
mod Fronts
mod Told
mod OneEnding
pub mod Replies
pub mod Bytes
pub mod WholeStreams
mod ServedPlaces
pub mod ServedReplies
mod ButContents
mod SaidAlike
pub mod ServedBytes
pub mod ServedStreams
pub mod RepliesSoFar
pub mod BytesSoFar
mod ServedFronts
pub mod ServedSoFar
mod BlindedViews
mod BlindedNodes
mod BlindedBuses
pub mod BlindedSteps
mod KnownFiles
pub mod BlindedTraces
mod BlindedSeats
pub mod Unread
mod SightExampleProofs
mod ReadExampleProofs
