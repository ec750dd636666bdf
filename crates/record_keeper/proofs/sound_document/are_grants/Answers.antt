use Rattle.std.proofs.Common.{refl, subst}
use Rattle.std.proofs.lemmas.List.{take_more, take_all}
use Rattle.std.proofs.lemmas.List.Elements.{All-push}
use Rattle.record_keeper.specs.SoundRecords.{IsGrant}
use Rattle.record_keeper.proofs.sound_document.are_grants.Goals as goal

pub loop-grant-preserved : goal.loop-grant-preserved
loop-grant-preserved c =
    rw (take_more c.args.grants.now c.loop-grant.grant-index c.grant-item.result c.loop-grant-test.true)
    (All-push IsGrant _ _ c.loop-grant.invariant (subst IsGrant c.grant-item.is (c.is_grant.ensures.0 c.if-not-is_grant.false)))

pub returns : goal.returns
returns c = (λ yes. rw (take_all c.loop-grant.grant-index c.args.grants.now c.loop-grant-test.false) at c.loop-grant.invariant, λ all. refl)
