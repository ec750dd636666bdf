use Rattle.store_data.proofs.ChangedHeader.{told-within}
use Rattle.store_data.proofs.lengths.fits_message.Goals as goal

pub returns-in-Some : goal.returns-in-Some
returns-in-Some c = λ body ends. told-within c.in-Some.end body (rw c.in-Some.is at ends).0
