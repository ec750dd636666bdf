use Rattle.portal_model.proofs.SeatLaws.{exchanges-append, exchanges-own, exchanges-other, exchanges-entries, exchanges-lengths}
use Rattle.portal_model.proofs.laws.exchanges_of_a_seat_join.Goals as goal

pub returns : goal.returns
returns c = record {
  join = λ seat s h more. exchanges-append seat h more s;
  own = exchanges-own;
  other = exchanges-other;
  entries = λ seat s h. exchanges-entries seat h s;
  lengths = λ seat s h. exchanges-lengths seat h s;
}
