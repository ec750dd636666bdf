use Rattle.std.proofs.Common.{◌≡◌, take}
use Rattle.std.specs.Prelude.{map}
use Rattle.script_replay.specs.Texts.{out_line}
use Rattle.script_replay.proofs.line.out_lines.Given as goal

abbrev pub invariant-loop-piece : goal.invariant-loop-piece
invariant-loop-piece l = l.lines ≡ map (out_line l.seat) (take l.piece-index l.pieces)
