use Rattle.add_calls.proofs.Counts.{as-planned}
use Rattle.add_calls.proofs.laws.limits_need_no_numbers.Goals as goal

pub returns : goal.returns
returns c = as-planned
