use Rattle.std.proofs.Common.{◌≡◌, ◌++◌}
use Rattle.portal_load.specs.Draws.{number_of}
use Rattle.portal_load.specs.Lines.{lines_ahead, request_lines}
use Rattle.portal_load.proofs.load.generate.Given as goal

-- the lines of the requests so far, and the number that the last was drawn from
abbrev pub invariant-loop-before : goal.invariant-loop-before
invariant-loop-before l = record { number : l.number ≡ number_of l.before; lines : l.lines ≡ lines_ahead ++ request_lines l.before }
