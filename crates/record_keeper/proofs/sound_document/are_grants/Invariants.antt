use Rattle.std.proofs.Common.{take}
use Rattle.std.specs.List.{All}
use Rattle.record_keeper.specs.SoundRecords.{IsGrant}
use Rattle.record_keeper.proofs.sound_document.are_grants.Given as goal

-- those so far are grants
abbrev pub invariant-loop-grant : goal.invariant-loop-grant
invariant-loop-grant l = All IsGrant (take l.grant-index l.grants)
