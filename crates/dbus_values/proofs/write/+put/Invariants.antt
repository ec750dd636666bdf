use Rattle.std.proofs.Common.{◌≡◌, ◌++◌, drop}
use Rattle.dbus_types.specs.Types.{types_text}
use Rattle.dbus_values.specs.Extends.{Extends}
use Rattle.dbus_values.proofs.write.+put.Given as goal

abbrev pub invariant-put_types-loop-kind : goal.invariant-put_types-loop-kind
invariant-put_types-loop-kind l = record {
  whole : l.out ++ types_text (drop l.kind-index l.kinds) ≡ l.fn.out ++ types_text l.kinds;
  begins : Extends l.fn.out l.out;
}
