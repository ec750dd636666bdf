use Rattle.std.proofs.Common.{◌≡◌, take}
use Rattle.std.specs.Prelude.{All}
use Rattle.dbus_values.specs.Values.{type_of, KeepsWithin}
use Rattle.dbus_values.proofs.keeping.+keeps.Given as goal

-- those that were seen keep the rules
abbrev pub invariant-items_keep-loop-item : goal.invariant-items_keep-loop-item
invariant-items_keep-loop-item l = All (λ v. (type_of v ≡ l.element) × KeepsWithin l.depth v) (take l.item-index l.items)

abbrev pub invariant-members_keep-loop-member : goal.invariant-members_keep-loop-member
invariant-members_keep-loop-member l = All (KeepsWithin l.depth) (take l.member-index l.members)
