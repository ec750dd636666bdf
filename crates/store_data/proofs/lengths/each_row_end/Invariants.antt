use Rattle.std.proofs.Common.{◌≡◌, ◌+◌, drop, map}
use Rattle.dbus_values.specs.Spelling.{spelled_lengths}
use Rattle.portal_model.specs.Changed.{row_value}
use Rattle.store_data.proofs.lengths.each_row_end.Given as goal

-- what is passed and what is left come to the whole
abbrev pub invariant-loop-row : goal.invariant-loop-row
invariant-loop-row l = l.end + spelled_lengths l.end (map row_value (drop l.row-index l.rows)) ≡ l.at + spelled_lengths l.at (map row_value l.rows)
