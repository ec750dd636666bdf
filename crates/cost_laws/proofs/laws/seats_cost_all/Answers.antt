use Rattle.cost_laws.proofs.Seats.{seats-cost-all}
use Rattle.cost_laws.proofs.laws.seats_cost_all.Goals as goal

pub returns : goal.returns
returns c = seats-cost-all
