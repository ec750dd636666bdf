use Rattle.std.proofs.Common.{◌≡◌, map, take}
use Rattle.std.specs.List.{All}
use Rattle.script_lines.specs.Lines.{row_text, IsNamedRow}
use Rattle.script_lines.proofs.rows.read_rows.Given as goal

-- the rows so far are those of the pieces so far
abbrev pub invariant-loop-piece : goal.invariant-loop-piece
invariant-loop-piece l = record {
  same : map row_text l.rows ≡ map (λ p. p.now) (take l.piece-index l.piece-items);
  each : All IsNamedRow l.rows;
}
