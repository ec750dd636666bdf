use Rattle.std.proofs.Common.{◌≡◌, take}
use Rattle.node_looks.proofs.listed.names_again.Given as goal

-- the copy so far is the front of the list
abbrev pub invariant-loop-name : goal.invariant-loop-name
invariant-loop-name l = l.again ≡ take l.name-index l.names
