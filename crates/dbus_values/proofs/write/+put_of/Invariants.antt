use Rattle.std.proofs.Common.{◌≡◌, ◌++◌, drop, map}
use Rattle.dbus_types.specs.Types.{types_text}
use Rattle.dbus_values.specs.Values.{type_of}
use Rattle.dbus_values.specs.Extends.{Extends}
use Rattle.dbus_values.proofs.write.+put_of.Given as goal

abbrev pub invariant-put_types_of-loop-value : goal.invariant-put_types_of-loop-value
invariant-put_types_of-loop-value l = record {
  whole : l.out ++ types_text (map type_of (drop l.value-index l.values)) ≡ l.fn.out ++ types_text (map type_of l.values);
  begins : Extends l.fn.out l.out;
}
