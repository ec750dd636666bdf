use Rattle.std.proofs.Common.{◌≡◌, ◌+◌, ◌≤◌, ◌++◌, List, length, map, true}
use Rattle.std.specs.Vec.Iter.{into_iter_items, into_iter_len}
use Rattle.portal_model.specs.declared.entry.Entry.{Entry}
use Rattle.portal_model.specs.History.{cost}
use Rattle.reserve_laws.specs.Rows.{are_reserved, asked_by, cost_of_all}
use Rattle.reserve_laws.proofs.rows.ask_each.Given as goal

-- the history grew by the requests so far; of the memory no more is gone than what is for them
abbrev pub invariant-loop-asked : goal.invariant-loop-asked
invariant-loop-asked g l = record {
  opening : l.portal.story.opening ≡ l.initial.portal.story.opening;
  row : (entries : List Entry) × (l.portal.story.history ≡ l.initial.portal.story.history ++ entries) × (map asked_by entries ++ into_iter_items l.asked-iterator ≡ into_iter_items l.initial.asked-iterator);
  count : into_iter_len l.asked-iterator ≡ length (into_iter_items l.asked-iterator);
  reserved : are_reserved (into_iter_items l.initial.asked-iterator) ≡ true → are_reserved (into_iter_items l.asked-iterator) ≡ true;
  spare : are_reserved (into_iter_items l.initial.asked-iterator) ≡ true → l.initial.portal.spare + length (into_iter_items l.asked-iterator) ≤ l.portal.spare + length (into_iter_items l.initial.asked-iterator);
  costs : cost l.portal.story.history + cost_of_all (into_iter_items l.asked-iterator) ≡ cost l.initial.portal.story.history + cost_of_all (into_iter_items l.initial.asked-iterator);
}
