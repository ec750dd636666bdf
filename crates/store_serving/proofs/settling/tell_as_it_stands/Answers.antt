use Rattle.std.proofs.Common.{refl, subst}
use Rattle.change_signals.specs.Unsent.{AtEach, told}
use Rattle.portal_model.specs.declared.reply.Change.{Change}
use Rattle.store_serving.proofs.Settled.{always-err, same-boxes}
use Rattle.store_serving.proofs.settling.tell_as_it_stands.Goals as goal

pub returns-in-None-clause-told : goal.returns-in-None-clause-told
returns-in-None-clause-told c = rw (c.in-None.is) (λ s. refl)

pub returns-in_ok-post-in-Some-clause-told : goal.returns-in_ok-post-in-Some-clause-told
returns-in_ok-post-in-Some-clause-told c =
    rw (c.in-Some.is) (subst (λ (x : Change). AtEach (told x) c.args.outboxes.now c.post.new.self) c.in_ok-change-in-Some.ensures c.in_ok-post-in-Some.ensures.ok)

pub returns-in_err-post-in-Some-clause-err : goal.returns-in_err-post-in-Some-clause-err
returns-in_err-post-in-Some-clause-err c = always-err _ c.from_residual-in_err-post-in-Some.result (same-boxes c.args.outboxes.now c.post.new.self c.in_err-post-in-Some.ensures.err)
