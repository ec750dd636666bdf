use Rattle.std.proofs.Common.{◌≡◌, false, take}
use Rattle.std.specs.List.{list_any}
use Rattle.portal_base.specs.Names.{is_same}
use Rattle.node_looks.proofs.names.number_named.Given as goal

-- no application so far has the name
abbrev pub invariant-loop-index : goal.invariant-loop-index
invariant-loop-index l = list_any (λ app. is_same app l.name) (take l.index l.applications) ≡ false
