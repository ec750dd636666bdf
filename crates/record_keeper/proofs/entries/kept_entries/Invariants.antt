use Rattle.std.proofs.Common.{◌≡◌, ◌++◌, map, length, true}
use Rattle.std.specs.List.{All, list_all}
use Rattle.std.specs.Vec.Iter.{into_iter_items, into_iter_len}
use Rattle.portal_model.specs.Store.{record_of}
use Rattle.portal_model.specs.Valid.{is_valid_entry}
use Rattle.record_keeper.specs.SoundRecords.{IsValidEntry}
use Rattle.record_keeper.proofs.entries.kept_entries.Given as goal

-- the entries so far are those of the first records, and the records to come have data
abbrev pub invariant-loop-kept : goal.invariant-loop-kept
invariant-loop-kept l = record {
  kept : map record_of l.entries.items ++ into_iter_items l.kept-iterator ≡ into_iter_items l.initial.kept-iterator;
  valid : list_all is_valid_entry l.entries.items ≡ true;
  sound : All IsValidEntry (into_iter_items l.kept-iterator);
  count : into_iter_len l.kept-iterator ≡ length (into_iter_items l.kept-iterator);
}
