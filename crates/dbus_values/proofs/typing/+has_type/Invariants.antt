use Rattle.std.proofs.Common.{◌≡◌, map, take}
use Rattle.dbus_values.specs.Values.{type_of}
use Rattle.dbus_values.proofs.typing.+has_type.Given as goal

abbrev pub invariant-have_types-loop-index : goal.invariant-have_types-loop-index
invariant-have_types-loop-index l = map type_of (take l.index l.values) ≡ take l.index l.kinds
