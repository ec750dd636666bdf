use Rattle.std.proofs.Common.{◌≡◌, Ok, subst, sym}
use Rattle.document_calls.specs.declared.served.ServedCall.{ServedCall}
use Rattle.portal_model.specs.Store.{Entries}
use Rattle.portal_model.specs.declared.reply.Answer.TheVariants as Answer
use Rattle.portal_model.specs.declared.store.StoreAnswer.{StoreAnswer}
use Rattle.portal_model.specs.declared.store.StoreCall.{StoreCall}
use Rattle.store_serving.specs.Serving.{IsMadeOf, StoreServed, ToldIfThere, answered_call, entry_with}
use Rattle.store_serving.proofs.Settled.{always-err, ok-by}
use Rattle.store_serving.proofs.StoreSteps.{done-back, done-follows, entry-never, kept-back, kept-follows}
use Rattle.store_serving.proofs.settling.settle_answer.Goals as goal

pub returns-in-Ok-clause-ok : goal.returns-in-Ok-clause-ok
returns-in-Ok-clause-ok g c = λ call before m.
    let table = c.args.table.now in
    let id = c.args.id.now in
    let tables = c.args.tables.now in
    let boxes = c.args.outboxes.now in
    let old = g.K.Keeper.is c.args.keeper.now in
    let new = g.K.Keeper.is c.keep_entry.new.keeper in
    let change = c.in-Done.change in
    let kept = c.in-Ok.ensures.kept in
    let made : IsMadeOf call before tables table id c.args.former (Ok (StoreAnswer.Done change)) = rw (c.in-Done.is) at m in
    subst (λ (x : ServedCall). StoreServed call before boxes old c.keep_entry.new.tables c.keep_entry.new.outboxes new x) (sym c.done.ensures)
    (done-follows call before tables table id c.args.former change c.keep_entry.new.tables boxes c.keep_entry.new.outboxes old new c.in-Ok.failed kept.0 made kept.1 kept.2 c.in-Ok.ensures.left c.in-Ok.ensures.told)

pub returns-in-Err-clause-tables : goal.returns-in-Err-clause-tables
returns-in-Err-clause-tables g c = λ call before m.
    let tables = c.args.tables.now in
    let made : IsMadeOf call before tables c.args.table.now c.args.id.now c.args.former (Ok (StoreAnswer.Done c.in-Done.change)) = rw (c.in-Done.is) at m in
    done-back call before tables c.args.table.now c.args.id.now c.args.former c.in-Done.change c.keep_entry.new.tables made c.in-Err.ensures.tables

pub returns-in-Kept-clause-ok : goal.returns-in-Kept-clause-ok
returns-in-Kept-clause-ok g c =
    let table = c.args.table.now in
    let id = c.args.id.now in
    let tables = c.args.tables.now in
    let boxes = c.args.outboxes.now in
    let after = c.tell_as_it_stands.new.outboxes in
    let keeper = g.K.Keeper.is c.args.keeper.now in
    let former = c.args.former in
    rw (c.in-Kept.is) (ok-by (λ (x : ServedCall). x ≡ answered_call Answer.Done) (λ (x : ServedCall). ToldIfThere (entry_with table id former) boxes after)
    (λ (x : ServedCall). (call : StoreCall) (before : Entries) → IsMadeOf call before tables table id former (Ok StoreAnswer.Kept) → StoreServed call before boxes keeper tables after keeper x) c.tell_as_it_stands.result
    (λ x e t. λ call before m. subst (λ (y : ServedCall). StoreServed call before boxes keeper tables after keeper y) (sym e) (kept-follows call before tables table id former boxes after keeper m t))
    c.tell_as_it_stands.ensures.served c.tell_as_it_stands.ensures.told)

pub returns-in-Kept-clause-tables : goal.returns-in-Kept-clause-tables
returns-in-Kept-clause-tables g c =
    rw (c.in-Kept.is) (always-err _ c.tell_as_it_stands.result (λ call before m. kept-back call before c.args.tables.now c.args.table.now c.args.id.now c.args.former m))

pub returns-in-Entry-clause-ok : goal.returns-in-Entry-clause-ok
returns-in-Entry-clause-ok g c = λ call before m.
    let answer : StoreAnswer = StoreAnswer.Entry c.in-Entry.rows c.in-Entry.datum in
    let made : IsMadeOf call before c.args.tables.now c.args.table.now c.args.id.now c.args.former (Ok answer) = rw (c.in-Entry.is) at m in
    absurd (entry-never call before c.args.tables.now c.args.table.now c.args.id.now c.args.former answer (λ change e. cc) (λ e. cc) made)

pub returns-in-Names-clause-ok : goal.returns-in-Names-clause-ok
returns-in-Names-clause-ok g c = λ call before m.
    let answer : StoreAnswer = StoreAnswer.Names c.in-Names.names in
    let made : IsMadeOf call before c.args.tables.now c.args.table.now c.args.id.now c.args.former (Ok answer) = rw (c.in-Names.is) at m in
    absurd (entry-never call before c.args.tables.now c.args.table.now c.args.id.now c.args.former answer (λ change e. cc) (λ e. cc) made)
