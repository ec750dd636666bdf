use Rattle.cost_laws.proofs.Links.{workers-cost-as-asked}
use Rattle.cost_laws.proofs.laws.workers_cost_as_asked.Goals as goal

pub returns : goal.returns
returns g c = workers-cost-as-asked
