use Rattle.std.proofs.Common.{◌≡◌, map}
use Rattle.std.specs.List.{range_with_len}
use Rattle.portal_load.specs.Lines.{mount_line}
use Rattle.portal_load.proofs.ahead.open_lines.Given as goal

abbrev pub invariant-loop-app : goal.invariant-loop-app
invariant-loop-app l = l.lines ≡ map mount_line (range_with_len 0 l.app)
