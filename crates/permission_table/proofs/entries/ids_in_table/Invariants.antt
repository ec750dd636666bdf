use Rattle.std.proofs.Common.{◌≡◌, take}
use Rattle.permission_table.specs.Tables.{ids_in_table}
use Rattle.permission_table.proofs.entries.ids_in_table.Given as goal

-- the identifiers among the entries so far
abbrev pub invariant-loop-entry : goal.invariant-loop-entry
invariant-loop-entry l = l.ids.items ≡ ids_in_table l.table (take l.entry-index l.entries)
