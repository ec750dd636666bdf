use Rattle.portal_model.proofs.ExampleProofs.{seats}
use Rattle.portal_model.proofs.examples.answers_of_seats.Goals as goal

pub returns : goal.returns
returns c = seats
