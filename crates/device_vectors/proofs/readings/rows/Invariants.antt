use Rattle.std.proofs.Common.{◌≡◌, true}
use Rattle.permission_table.specs.Tables.{have_texts}
use Rattle.device_vectors.proofs.readings.rows.Given as goal

-- no text of the rows so far has a zero byte
abbrev pub invariant-loop-row : goal.invariant-loop-row
invariant-loop-row l = have_texts l.rows ≡ true
