use Rattle.std.proofs.Common.{◌≡◌, take}
use Rattle.std.specs.List.{flat_map}
use Rattle.std.specs.Option.{option_to_list}
use Rattle.dbus_types.specs.declared.types.Value.{out-Value}
use Rattle.dbus_requests.specs.Arguments.{row_of}
use Rattle.dbus_requests.proofs.arguments.rows_in.Given as goal

-- what is in the items so far
abbrev pub invariant-loop-item : goal.invariant-loop-item
invariant-loop-item l = l.rows ≡ flat_map (λ item. option_to_list (row_of (out-Value item))) (take l.item-index l.items)
