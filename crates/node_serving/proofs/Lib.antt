mod FairWalks
mod FirstChanged
mod SeatSteps
