use Rattle.std.proofs.Common.{◌≡◌, ◌++◌, length}
use Rattle.std.specs.Vec.Iter.{into_iter_items, into_iter_len}
use Rattle.permission_table.proofs.indexed.IndexedEntries.of.Given as goal

-- the entries so far, and those to come behind them, are all
abbrev pub invariant-loop-entry : goal.invariant-loop-entry
invariant-loop-entry l = record {
  all : l.indexed ++ into_iter_items l.entry-iterator ≡ into_iter_items l.initial.entry-iterator;
  count : into_iter_len l.entry-iterator ≡ length (into_iter_items l.entry-iterator);
}
