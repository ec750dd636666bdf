use Rattle.std.proofs.Common.{subst, sym}
use Rattle.document_calls.specs.declared.served.ServedCall.{ServedCall}
use Rattle.store_serving.specs.Serving.{ServesStore}
use Rattle.store_serving.proofs.Passed.{passed-arguments}
use Rattle.store_serving.proofs.StoreSteps.{passed-follows, refusal-follows}
use Rattle.store_serving.proofs.calls.serve.Goals as goal

pub returns-in-Some-clause-ok : goal.returns-in-Some-clause-ok
returns-in-Some-clause-ok g c = λ s b w h.
    let who = c.args.who.now in
    let call = c.args.call.now in
    let keeper = g.K.Keeper.is c.args.keeper.now in
    subst (λ (x : ServedCall). ServesStore s b call keeper c.args.tables.now c.args.outboxes.now keeper x) (sym c.answered.ensures)
    (refusal-follows who call c.in-Some.code c.args.tables.now c.args.outboxes.now keeper (sym c.in-Some.ensures) s b w h)

pub serve_passed-requires : goal.serve_passed-requires
serve_passed-requires g c = passed-arguments c.args.who.now c.args.call.now (sym c.in-None.ensures)

pub returns-in-None-clause-ok : goal.returns-in-None-clause-ok
returns-in-None-clause-ok g c =
    passed-follows c.args.who.now c.args.call.now c.args.tables.now c.serve_passed.new.tables c.args.outboxes.now c.serve_passed.new.outboxes (g.K.Keeper.is c.args.keeper.now) (g.K.Keeper.is c.serve_passed.new.keeper) c.serve_passed.result
    (sym c.in-None.ensures) c.serve_passed.ensures.ok
