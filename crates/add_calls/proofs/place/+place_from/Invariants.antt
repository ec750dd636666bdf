use Rattle.std.proofs.Common.{◌-◌, length}
use Rattle.add_calls.proofs.place.+place_from.Given as goal

-- the files that are left
abbrev pub decreases-place_from : goal.decreases-place_from
decreases-place_from g l = length l.plan.now.items - l.at
