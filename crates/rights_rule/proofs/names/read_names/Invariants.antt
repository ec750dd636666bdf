use Rattle.std.proofs.Common.{◌≡◌, true, take}
use Rattle.rights_rule.specs.Rights.{rights_named, are_right_names}
use Rattle.rights_rule.proofs.names.read_names.Given as goal

-- the names so far are known, and the rights are theirs
abbrev pub invariant-loop-index : goal.invariant-loop-index
invariant-loop-index l = (l.rights ≡ rights_named (take l.index l.names)) × (are_right_names (take l.index l.names) ≡ true)
