use Rattle.std.proofs.Common.{◌-◌, length}
use Rattle.add_calls.proofs.place.+take_back_from.Given as goal

-- the files that are left
abbrev pub decreases-take_back_from : goal.decreases-take_back_from
decreases-take_back_from l = length l.plan.now.items - l.at
