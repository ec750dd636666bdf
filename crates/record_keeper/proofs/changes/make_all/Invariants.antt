use Rattle.std.proofs.Common.{◌≡◌, ◌+◌, ◌≤◌, length}
use Rattle.std.specs.Vec.{vec_len, vec_capacity}
use Rattle.std.specs.Vec.Iter.{into_iter_items, into_iter_len}
use Rattle.portal_model.specs.RecordChanges.{changed_by}
use Rattle.record_keeper.proofs.changes.make_all.Given as goal

-- the changes to come make of the records what all make of the first ones, and there is room for them
abbrev pub invariant-loop-change : goal.invariant-loop-change
invariant-loop-change l =
    (changed_by (into_iter_items l.change-iterator) (record { version = l.version; documents = l.documents.items; entries = l.entries.items })
    ≡ changed_by (into_iter_items l.initial.change-iterator) (record { version = l.initial.version; documents = l.initial.documents.items; entries = l.initial.entries.items }))
    × (into_iter_len l.change-iterator ≡ length (into_iter_items l.change-iterator))
    × (vec_len l.documents + into_iter_len l.change-iterator ≤ vec_capacity l.documents)
    × (vec_len l.entries + into_iter_len l.change-iterator ≤ vec_capacity l.entries)
