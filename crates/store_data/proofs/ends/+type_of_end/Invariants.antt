use Rattle.std.proofs.Common.{◌≡◌, ◌+◌, length, drop, map}
use Rattle.dbus_types.specs.Types.{types_text}
use Rattle.dbus_values.specs.Values.{type_of}
use Rattle.store_data.proofs.ends.+type_of_end.Given as goal

-- what is passed and what is left come to the whole
abbrev pub invariant-types_of_end-loop-value : goal.invariant-types_of_end-loop-value
invariant-types_of_end-loop-value l = l.end + length (types_text (map type_of (drop l.value-index l.values))) ≡ l.at + length (types_text (map type_of l.values))
