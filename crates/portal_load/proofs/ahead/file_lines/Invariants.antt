use Rattle.std.proofs.Common.{◌≡◌, map}
use Rattle.std.specs.List.{range_with_len}
use Rattle.portal_load.specs.Lines.{file_line}
use Rattle.portal_load.proofs.ahead.file_lines.Given as goal

abbrev pub invariant-loop-number : goal.invariant-loop-number
invariant-loop-number l = l.lines ≡ map file_line (range_with_len 0 l.number)
