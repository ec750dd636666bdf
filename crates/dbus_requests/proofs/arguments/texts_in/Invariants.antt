use Rattle.std.proofs.Common.{◌≡◌, take}
use Rattle.std.specs.List.{flat_map}
use Rattle.std.specs.Option.{option_to_list}
use Rattle.dbus_types.specs.declared.types.Value.{out-Value}
use Rattle.dbus_requests.specs.Arguments.{text_of}
use Rattle.dbus_requests.proofs.arguments.texts_in.Given as goal

-- what is in the items so far
abbrev pub invariant-loop-item : goal.invariant-loop-item
invariant-loop-item l = l.texts ≡ flat_map (λ item. option_to_list (text_of (out-Value item))) (take l.item-index l.items)
