use Rattle.std.proofs.Common.{◌≡◌, ◌++◌, drop, map}
use Rattle.dbus_types.specs.Types.{types_text}
use Rattle.dbus_values.specs.Values.{type_of}
use Rattle.dbus_values.specs.Spelling.{Extends}
use Rattle.dbus_marshal.proofs.header_field.put_types.Given as goal

-- the texts that are put and those that are left are the whole
abbrev pub invariant-loop-value : goal.invariant-loop-value
invariant-loop-value l = record {
  whole : l.out ++ types_text (map type_of (drop l.value-index l.values)) ≡ l.fn.out ++ types_text (map type_of l.values);
  begins : Extends l.fn.out l.out;
}
