use Rattle.std.proofs.Common.{◌≡◌, inl, refl}
use Rattle.portal_model.specs.Store.{Entries}
use Rattle.portal_model.specs.declared.store.StoreCall.{StoreCall}
use Rattle.store_serving.specs.Serving.{IsMadeOf}
use Rattle.store_serving.proofs.Settled.{always-err}
use Rattle.store_serving.proofs.StoreSteps.{if_err, if_ok}
use Rattle.store_serving.proofs.calls.change.Goals as goal

pub returns-clause-ok : goal.returns-clause-ok
returns-clause-ok g c =
    let made : IsMadeOf c.args.call.now c.args.tables.now c.ask-answer.new.tables c.args.table.now c.args.id.now c.in_ok-former.former c.ask-answer.result = record {
      kind = c.requires.kind;
      table_is = c.requires.table;
      id_is = c.requires.id;
      former_is = c.in_ok-former.ensures.former;
      gives = c.ask-answer.ensures;
    } in
    if_ok _ _ c.settle.result (λ served k. k c.args.call.now c.args.tables.now made) c.settle.ensures.ok

pub returns-clause-tables : goal.returns-clause-tables
returns-clause-tables g c =
    let made : IsMadeOf c.args.call.now c.args.tables.now c.ask-answer.new.tables c.args.table.now c.args.id.now c.in_ok-former.former c.ask-answer.result = record {
      kind = c.requires.kind;
      table_is = c.requires.table;
      id_is = c.requires.id;
      former_is = c.in_ok-former.ensures.former;
      gives = c.ask-answer.ensures;
    } in
    if_err ((call : StoreCall) (before : Entries) → IsMadeOf call before c.ask-answer.new.tables c.args.table.now c.args.id.now c.in_ok-former.former c.ask-answer.result → c.settle.new.tables ≡ before)
    (c.settle.new.tables ≡ c.args.tables.now) c.settle.result (λ k. k c.args.call.now c.args.tables.now made) c.settle.ensures.tables

pub returns-in_err-former-clause-outboxes : goal.returns-in_err-former-clause-outboxes
returns-in_err-former-clause-outboxes g c = always-err _ c.from_residual.result (λ s. refl)

pub returns-in_err-former-clause-keeper : goal.returns-in_err-former-clause-keeper
returns-in_err-former-clause-keeper g c = always-err _ c.from_residual.result (inl refl)
