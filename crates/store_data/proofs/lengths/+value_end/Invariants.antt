use Rattle.std.proofs.Common.{◌≡◌, ◌+◌, drop}
use Rattle.dbus_values.specs.Spelling.{spelled_lengths}
use Rattle.store_data.proofs.lengths.+value_end.Given as goal

-- what is passed and what is left come to the whole
abbrev pub invariant-values_end-loop-value : goal.invariant-values_end-loop-value
invariant-values_end-loop-value l = l.end + spelled_lengths l.end (drop l.value-index l.values) ≡ l.at + spelled_lengths l.at l.values
