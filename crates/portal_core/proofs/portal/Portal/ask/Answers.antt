use Rattle.std.proofs.Common.{ℕ, refl}
use Rattle.std.proofs.lemmas.Result.{IfOk-weaker}
use Rattle.portal_model.specs.Seated.{rises_by}
use Rattle.portal_core.proofs.Counting.{as_before_err, err_counted, ok_counted, on_err, on_ok, only_counts}
use Rattle.portal_core.proofs.StrictAnswers.{strict-follows}
use Rattle.portal_core.proofs.portal.Portal.ask.Goals as goal

pub returns-clause-strict : goal.returns-clause-strict
returns-clause-strict g c =
    IfOk-weaker c.answer-answered.result _ _
    (λ reply a. strict-follows g.T.HostTree.is g.K.Keeper.is g.C.Clock.reads g.W.Words.told c.args.self.now c.answer-answered.new.self c.args.seat c.args.request reply c.strict_handles_follow_revocations.ensures a)
    c.answer-answered.ensures.ok

pub returns-clause-ok : goal.returns-clause-ok
returns-clause-ok g c =
    rw c.count_refusals.ensures (ok_counted g.T.HostTree.is g.K.Keeper.is g.C.Clock.reads g.W.Words.told c.args.self.now c.answer-answered.new.self c.refusals_after.result c.answer-answered.result c.args.seat c.args.request c.answer-answered.ensures.ok)

pub returns-clause-err : goal.returns-clause-err
returns-clause-err g c =
    rw c.count_refusals.ensures (err_counted g.T.HostTree.is g.K.Keeper.is g.C.Clock.reads g.W.Words.told c.args.self.now c.answer-answered.new.self c.refusals_after.result c.answer-answered.result c.args.request c.answer-answered.ensures.err)

pub returns-clause-drew : goal.returns-clause-drew
returns-clause-drew g c = rw c.count_refusals.ensures c.answer-answered.ensures.drew

pub returns-clause-unasked : goal.returns-clause-unasked
returns-clause-unasked g c h = as_before_err c.answer-answered.result c.args.self.now c.answer-answered.new.self c.count_refusals.new.self c.refusals_after.result c.count_refusals.ensures (c.answer-answered.ensures.unasked h)

pub returns-clause-nothing : goal.returns-clause-nothing
returns-clause-nothing g c h = only_counts c.args.self.now c.answer-answered.new.self c.count_refusals.new.self c.refusals_after.result c.count_refusals.ensures (c.answer-answered.ensures.nothing h)

pub returns-clause-uncounted : goal.returns-clause-uncounted
returns-clause-uncounted g c = rw c.count_refusals.ensures (on_ok c.answer-answered.result c.refusals_after.result c.refusals_after.result c.refusals-before.result c.args.self.now.refusals refl c.refusals-before.ensures c.refusals_after.ensures.ok)

pub returns-clause-counted : goal.returns-clause-counted
returns-clause-counted g c = rw c.count_refusals.ensures (on_err c.answer-answered.result (λ (k : ℕ). rises_by k 1) c.refusals_after.result c.refusals_after.result c.refusals-before.result c.args.self.now.refusals refl c.refusals-before.ensures c.refusals_after.ensures.err)

pub returns-clause-fault : goal.returns-clause-fault
returns-clause-fault g c = rw c.count_refusals.ensures c.answer-answered.ensures.fault

pub returns-clause-failure : goal.returns-clause-failure
returns-clause-failure g c = rw c.count_refusals.ensures c.answer-answered.ensures.failure

pub returns-clause-began : goal.returns-clause-began
returns-clause-began g c = rw c.count_refusals.ensures c.answer-answered.ensures.began

pub returns-clause-opening : goal.returns-clause-opening
returns-clause-opening g c = rw c.count_refusals.ensures c.answer-answered.ensures.opening

pub returns-clause-spare : goal.returns-clause-spare
returns-clause-spare g c = rw c.count_refusals.ensures c.answer-answered.ensures.spare

pub returns-clause-remains : goal.returns-clause-remains
returns-clause-remains g c = rw c.count_refusals.ensures c.answer-answered.ensures.remains

pub returns-clause-freed : goal.returns-clause-freed
returns-clause-freed g c = rw c.count_refusals.ensures c.answer-answered.ensures.freed
