use Rattle.std.proofs.Common.{◌≡◌, map, drop}
use Rattle.std.specs.List.{list_any}
use Rattle.portal_model.specs.Changed.{holds_handle}
use Rattle.portal_model.proofs.datum.+handles.Given as goal

-- whether one of all values holds a handle is seen at those that are left
abbrev pub invariant-one_holds_handle-loop-value : goal.invariant-one_holds_handle-loop-value
invariant-one_holds_handle-loop-value l = list_any (λ b. b) (map holds_handle (drop l.value-index l.values)) ≡ list_any (λ b. b) (map holds_handle l.values)
