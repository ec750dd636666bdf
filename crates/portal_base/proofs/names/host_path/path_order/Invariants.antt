use Rattle.std.proofs.Common.{◌-◌, ◌≡◌, ◌≤◌, length, drop}
use Rattle.portal_base.specs.PathOrder.{path_order}
use Rattle.portal_base.proofs.names.host_path.path_order.Given as goal

-- as far as they are read, the paths are the same
abbrev pub invariant-loop-at : goal.invariant-loop-at
invariant-loop-at l = (path_order (drop l.at l.first) (drop l.at l.second) ≡ path_order l.first l.second) × (l.at ≤ length l.first) × (l.at ≤ length l.second)

abbrev pub decreases-loop-at : goal.decreases-loop-at
decreases-loop-at l = length l.first - l.at
