use Rattle.portal_model.proofs.SeatLaws.{run-bound, run-open}
use Rattle.portal_model.proofs.laws.seats_tell_their_connections.Goals as goal

pub returns : goal.returns
returns c = record {
  binding = λ seat s h. run-bound seat h s;
  open_one = λ seat s h. run-open seat h s;
}
