use Rattle.std.proofs.Common.{◌≡◌, ◌≤◌, ◌-◌, drop, length}
use Rattle.portal_model.specs.Add.{are_folders_and_files}
use Rattle.add_calls.proofs.kinds.are_folders_and_files.Given as goal

-- what all looks are is seen at those that are left
abbrev pub invariant-loop-at : goal.invariant-loop-at
invariant-loop-at l = (l.at ≤ length l.looks) × (are_folders_and_files (drop l.at l.looks) ≡ are_folders_and_files l.looks)

abbrev pub decreases-loop-at : goal.decreases-loop-at
decreases-loop-at l = length l.looks - l.at
