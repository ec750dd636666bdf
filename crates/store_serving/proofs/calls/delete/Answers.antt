use Rattle.std.proofs.Common.{◌∙◌, ap, Bool, cond, Some, subst, sym}
use Rattle.document_calls.specs.KeeperCalls.{AppliedIf}
use Rattle.document_calls.specs.declared.served.ServedCall.{ServedCall}
use Rattle.portal_model.specs.Store.{without_entry}
use Rattle.portal_model.specs.declared.records.RecordChange.{RecordChange}
use Rattle.portal_model.specs.declared.records.RecordChange.TheVariants.{RemoveEntry}
use Rattle.portal_model.specs.declared.store.StoreCall.TheVariants as Call
use Rattle.store_serving.specs.Serving.{StoreServed}
use Rattle.store_serving.proofs.EntrySteps.{former-there}
use Rattle.store_serving.proofs.StoreSteps.{delete-follows, missing-follows}
use Rattle.store_serving.proofs.calls.delete.Goals as goal

pub returns-in_default-clause-ok : goal.returns-in_default-clause-ok
returns-in_default-clause-ok g c =
    let table = c.args.table.now in
    let id = c.args.id.now in
    let tables = c.args.tables.now in
    let boxes = c.args.outboxes.now in
    let keeper = g.K.Keeper.is c.args.keeper.now in
    subst (λ (x : ServedCall). StoreServed (Call.Delete table id) tables boxes keeper tables boxes keeper x) (sym c.answered.ensures)
    (missing-follows tables table id boxes keeper (sym c.in_default.is ∙ c.in_ok-former.ensures.former))

pub returns-then-failed-clause-ok : goal.returns-then-failed-clause-ok
returns-then-failed-clause-ok g c =
    let table = c.args.table.now in
    let id = c.args.id.now in
    let tables = c.args.tables.now in
    let boxes = c.args.outboxes.now in
    let old = g.K.Keeper.is c.args.keeper.now in
    let new = g.K.Keeper.is c.keep_told.new.keeper in
    let failed = c.in_ok-failed.failed in
    let kept : AppliedIf (Some (RemoveEntry table id)) old failed new = subst (λ (r : RecordChange). AppliedIf (Some r) old failed new) c.in_ok-made.ensures c.in_ok-failed.ensures.kept in
    subst (λ (x : ServedCall). StoreServed (Call.Delete table id) tables boxes old tables c.keep_told.new.outboxes new x) (sym c.done.ensures)
    (delete-follows tables table id boxes c.in-Some.former c.in_ok-change.change tables c.keep_told.new.outboxes old new failed (sym c.in-Some.is ∙ c.in_ok-former.ensures.former) c.in_ok-change.ensures kept
    (ap (λ (b : Bool). cond b tables (without_entry table id tables)) (sym c.if-failed.true)) c.in_ok-failed.ensures.told)

pub forget-requires : goal.forget-requires
forget-requires g c = former-there c.in-Some.former c.args.tables.now c.args.table.now c.args.id.now (sym c.in-Some.is ∙ c.in_ok-former.ensures.former)

pub returns-clause-ok : goal.returns-clause-ok
returns-clause-ok g c =
    let table = c.args.table.now in
    let id = c.args.id.now in
    let tables = c.args.tables.now in
    let boxes = c.args.outboxes.now in
    let old = g.K.Keeper.is c.args.keeper.now in
    let new = g.K.Keeper.is c.keep_told.new.keeper in
    let failed = c.in_ok-failed.failed in
    let kept : AppliedIf (Some (RemoveEntry table id)) old failed new = subst (λ (r : RecordChange). AppliedIf (Some r) old failed new) c.in_ok-made.ensures c.in_ok-failed.ensures.kept in
    subst (λ (x : ServedCall). StoreServed (Call.Delete table id) tables boxes old c.forget.new.tables c.keep_told.new.outboxes new x) (sym c.done-2.ensures)
    (delete-follows tables table id boxes c.in-Some.former c.in_ok-change.change c.forget.new.tables c.keep_told.new.outboxes old new failed (sym c.in-Some.is ∙ c.in_ok-former.ensures.former) c.in_ok-change.ensures kept
    (c.forget.ensures ∙ ap (λ (b : Bool). cond b tables (without_entry table id tables)) (sym c.if-failed.false)) c.in_ok-failed.ensures.told)
