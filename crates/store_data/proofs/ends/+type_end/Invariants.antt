use Rattle.std.proofs.Common.{◌≡◌, ◌+◌, length, drop}
use Rattle.dbus_types.specs.Types.{types_text}
use Rattle.store_data.proofs.ends.+type_end.Given as goal

-- what is passed and what is left come to the whole
abbrev pub invariant-types_end-loop-kind : goal.invariant-types_end-loop-kind
invariant-types_end-loop-kind l = l.end + length (types_text (drop l.kind-index l.kinds)) ≡ l.at + length (types_text l.kinds)
