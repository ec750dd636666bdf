use Rattle.std.proofs.Common.{◌≡◌, ℕ, List, ◌++◌, drop}
use Rattle.dbus_types.specs.Types.{types_text}
use Rattle.dbus_calls.proofs.signature.+behind.Given as goal

-- what is passed is the texts of the types so far
abbrev pub invariant-behind_types-loop-kind : goal.invariant-behind_types-loop-kind
invariant-behind_types-loop-kind l = (done : List ℕ) × (l.text ≡ done ++ l.rest) × (types_text l.kinds ≡ done ++ types_text (drop l.kind-index l.kinds))
