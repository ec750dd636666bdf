use Rattle.std.proofs.Common.{◌≡◌, ◌-◌, ◌^◌, min, take}
use Rattle.std.specs.List.{sum_by}
use Rattle.portal_history.specs.Rows.{row_bytes}
use Rattle.portal_history.proofs.cost.rows_bytes.Given as goal

abbrev pub invariant-loop-row : goal.invariant-loop-row
invariant-loop-row l = l.bytes ≡ min (sum_by row_bytes (take l.row-index l.row-items)) (2 ^ 64 - 1)
