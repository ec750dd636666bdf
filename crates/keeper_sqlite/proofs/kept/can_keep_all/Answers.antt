use Rattle.std.proofs.Common.{refl, subst}
use Rattle.std.proofs.lemmas.List.{take_more, take_all}
use Rattle.std.proofs.lemmas.List.Elements.{All-push}
use Rattle.keeper_sqlite.specs.Kept.{CanKeep}
use Rattle.keeper_sqlite.proofs.kept.can_keep_all.Goals as goal

pub loop-change-preserved : goal.loop-change-preserved
loop-change-preserved c =
    rw (take_more c.args.changes.now c.loop-change.change-index c.change-item.result c.loop-change-test.true)
    (All-push CanKeep _ _ c.loop-change.invariant (subst CanKeep c.change-item.is (c.can_keep.ensures.0 c.if-not-can_keep.false)))

pub returns : goal.returns
returns c = (λ yes. rw (take_all c.loop-change.change-index c.args.changes.now c.loop-change-test.false) at c.loop-change.invariant, λ all. refl)
