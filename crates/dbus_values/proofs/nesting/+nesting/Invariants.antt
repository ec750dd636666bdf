use Rattle.std.proofs.Common.{◌≡◌, map, drop, max, min}
use Rattle.dbus_types.specs.Types.{greatest}
use Rattle.dbus_values.specs.Values.{nesting}
use Rattle.dbus_values.proofs.nesting.+nesting.Given as goal

-- the deepest so far, and of those that are left, is the deepest of all
abbrev pub invariant-deepest-loop-value : goal.invariant-deepest-loop-value
invariant-deepest-loop-value l = max l.most (min (greatest (map nesting (drop l.value-index l.values))) 4_294_967_295) ≡ min (greatest (map nesting l.values)) 4_294_967_295
