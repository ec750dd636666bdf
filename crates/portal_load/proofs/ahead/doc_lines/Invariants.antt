use Rattle.std.proofs.Common.{◌≡◌, map}
use Rattle.std.specs.List.{range_with_len}
use Rattle.portal_load.specs.Lines.{doc_line}
use Rattle.portal_load.proofs.ahead.doc_lines.Given as goal

abbrev pub invariant-loop-number : goal.invariant-loop-number
invariant-loop-number l = l.lines ≡ map doc_line (range_with_len 0 l.number)
