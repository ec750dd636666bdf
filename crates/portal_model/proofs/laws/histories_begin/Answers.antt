use Rattle.portal_model.proofs.SeatLaws.{begins-itself, begins-through, begins-joined, begins-taken, begins-lengths, begins-whole, begins-between}
use Rattle.portal_model.proofs.laws.histories_begin.Goals as goal

pub returns : goal.returns
returns c = record {
  itself = begins-itself;
  through = begins-through;
  joined = begins-joined;
  taken = begins-taken;
  lengths = begins-lengths;
  whole = begins-whole;
  between = begins-between;
}
