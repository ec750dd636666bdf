use Rattle.std.proofs.Common.{Option, subst}
use Rattle.add_calls.specs.declared.place.Use.{Use}
use Rattle.add_calls.specs.Placing.{Used, WasUsed, book_of}
use Rattle.add_calls.proofs.place.take_item_back.Goals as goal

pub returns-in-Some-clause-rights : goal.returns-in-Some-clause-rights
returns-in-Some-clause-rights c = λ add before was.
    let used : Used c.args.who.now add c.args.plan.now c.args.item.now c.in-Some.used before (book_of c.args.documents.now c.args.grants.now c.args.applications.now) =
    subst (λ (o : Option Use). WasUsed c.args.who.now add c.args.plan.now c.args.item.now o before (book_of c.args.documents.now c.args.grants.now c.args.applications.now)) c.in-Some.is was in
    c.take_both_back.ensures.rights before.rights before.applications used.gave

pub returns-in-Some-clause-applications : goal.returns-in-Some-clause-applications
returns-in-Some-clause-applications c = λ add before was.
    let used : Used c.args.who.now add c.args.plan.now c.args.item.now c.in-Some.used before (book_of c.args.documents.now c.args.grants.now c.args.applications.now) =
    subst (λ (o : Option Use). WasUsed c.args.who.now add c.args.plan.now c.args.item.now o before (book_of c.args.documents.now c.args.grants.now c.args.applications.now)) c.in-Some.is was in
    c.take_both_back.ensures.applications before.rights before.applications used.gave
