use Rattle.std.proofs.Common.{◌≡◌, map, take}
use Rattle.std.specs.List.{All}
use Rattle.script_lines.proofs.RowFacts.{IsName, itself}
use Rattle.script_lines.proofs.rows.read_names.Given as goal

-- the names so far are the pieces so far
abbrev pub invariant-loop-piece : goal.invariant-loop-piece
invariant-loop-piece l = record {
  same : map itself l.names ≡ map (λ p. p.now) (take l.piece-index l.piece-items);
  each : All IsName l.names;
}
