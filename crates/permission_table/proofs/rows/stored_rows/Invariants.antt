use Rattle.std.proofs.Common.{◌≡◌, [], length, true}
use Rattle.std.specs.Vec.Iter.{into_iter_items, into_iter_len}
use Rattle.portal_model.specs.Ordered.{is_rising}
use Rattle.portal_model.specs.Rows.{row_less}
use Rattle.permission_table.proofs.StableRows.{put_each}
use Rattle.permission_table.proofs.rows.stored_rows.Given as goal

-- the rows to come make of those that stand in order what all make of none
abbrev pub invariant-loop-row : goal.invariant-loop-row
invariant-loop-row l = record {
  put : put_each l.stored.items (into_iter_items l.row-iterator) ≡ put_each [] (into_iter_items l.initial.row-iterator);
  order : is_rising row_less l.stored.items ≡ true;
  count : into_iter_len l.row-iterator ≡ length (into_iter_items l.row-iterator);
}
