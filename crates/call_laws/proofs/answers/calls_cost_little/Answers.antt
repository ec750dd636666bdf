use Rattle.call_laws.proofs.Costs.{call_costs}
use Rattle.call_laws.proofs.answers.calls_cost_little.Goals as goal

pub returns : goal.returns
returns c settings bytes call request is asks = call_costs settings bytes call request is asks
