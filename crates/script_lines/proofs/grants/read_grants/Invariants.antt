use Rattle.std.proofs.Common.{◌≡◌, map, take}
use Rattle.std.specs.List.{All}
use Rattle.record_keeper.specs.SoundRecords.{IsGrant, IsRising}
use Rattle.script_lines.specs.Lines.{grant_text}
use Rattle.script_lines.proofs.grants.read_grants.Given as goal

-- the grants so far are those of the pieces so far
abbrev pub invariant-loop-piece : goal.invariant-loop-piece
invariant-loop-piece l = record {
  same : map grant_text l.grants ≡ map (λ p. p.now) (take l.piece-index l.piece-items);
  each : All IsGrant l.grants;
  rising : IsRising (map (λ grant. grant.app) l.grants);
}
