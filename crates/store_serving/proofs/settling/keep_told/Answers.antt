use Rattle.std.proofs.Common.{inl, refl}
use Rattle.store_serving.proofs.Settled.{always-err, same-boxes}
use Rattle.store_serving.proofs.settling.keep_told.Goals as goal

pub returns-in_err-post-clause-outboxes : goal.returns-in_err-post-clause-outboxes
returns-in_err-post-clause-outboxes g c = always-err _ c.from_residual.result (same-boxes c.args.outboxes.now c.post.new.self c.in_err-post.ensures.err)

pub returns-in_err-post-clause-keeper : goal.returns-in_err-post-clause-keeper
returns-in_err-post-clause-keeper g c = always-err _ c.from_residual.result (inl refl)

pub returns-in-Ok-true-clause-told : goal.returns-in-Ok-true-clause-told
returns-in-Ok-true-clause-told g c = c.unpost.ensures.back c.args.outboxes.now c.args.change c.in_ok-post.ensures.ok

pub returns-in-Err-clause-outboxes : goal.returns-in-Err-clause-outboxes
returns-in-Err-clause-outboxes g c = c.unpost-in-Err.ensures.back c.args.outboxes.now c.args.change c.in_ok-post.ensures.ok
