use Rattle.std.proofs.Common.{Err, inl, refl}
use Rattle.portal_model.specs.Store.{Entries}
use Rattle.portal_model.specs.declared.store.StoreCall.{StoreCall}
use Rattle.document_calls.specs.declared.served.ServedCall.{ServedCall}
use Rattle.store_serving.specs.Serving.{IsMadeOf, StoreServed}
use Rattle.store_serving.proofs.Settled.{always-err, ok-each}
use Rattle.store_serving.proofs.StoreSteps.{error-back, refused-settled}
use Rattle.store_serving.proofs.settling.settle.Goals as goal

pub returns-in-Ok-clause-ok : goal.returns-in-Ok-clause-ok
returns-in-Ok-clause-ok g c = rw (c.in-Ok.is) c.settle_answer.ensures.ok

pub returns-in-Ok-clause-tables : goal.returns-in-Ok-clause-tables
returns-in-Ok-clause-tables g c = rw (c.in-Ok.is) c.settle_answer.ensures.tables

pub returns-in-Err-clause-ok : goal.returns-in-Err-clause-ok
returns-in-Err-clause-ok g c =
    let table = c.args.table.now in
    let id = c.args.id.now in
    let tables = c.args.tables.now in
    let boxes = c.args.outboxes.now in
    let keeper = g.K.Keeper.is c.args.keeper.now in
    let former = c.args.former in
    rw (c.refused.ensures, c.in-Err.is) (ok-each (λ (call : StoreCall) (before : Entries). IsMadeOf call before tables table id former (Err c.in-Err.error))
    (λ (call : StoreCall) (before : Entries) (x : ServedCall). StoreServed call before boxes keeper tables boxes keeper x) _
    (λ call before m. refused-settled call before tables table id former c.in-Err.error boxes keeper m))

pub returns-in-Err-clause-tables : goal.returns-in-Err-clause-tables
returns-in-Err-clause-tables g c =
    rw (c.in-Err.is) (always-err _ c.refused.result (λ call before m. error-back call before c.args.tables.now c.args.table.now c.args.id.now c.args.former c.in-Err.error m))

pub returns-in-Err-clause-outboxes : goal.returns-in-Err-clause-outboxes
returns-in-Err-clause-outboxes g c = always-err _ c.refused.result (λ s. refl)

pub returns-in-Err-clause-keeper : goal.returns-in-Err-clause-keeper
returns-in-Err-clause-keeper g c = always-err _ c.refused.result (inl refl)
