use Rattle.std.proofs.Common.{sym}
use Rattle.document_calls.proofs.GrantSteps.{grant-follows, grant-full, grant-refused}
use Rattle.document_calls.proofs.granting.grant.Goals as goal

pub returns-in-Err-clause-ok : goal.returns-in-Err-clause-ok
returns-in-Err-clause-ok g c =
    grant-refused c.args.call.now c.args.who.now c.args.documents.now c.args.grants.now c.args.applications.now (g.K.Keeper.is c.args.keeper.now) c.in-Err.error c.refused.result c.refused.ensures c.in-Err.ensures.err

pub returns-then-has_no_number-clause-ok : goal.returns-then-has_no_number-clause-ok
returns-then-has_no_number-clause-ok g c =
    grant-full c.args.call.now c.args.who.now c.args.documents.now c.args.grants.now c.args.applications.now (g.K.Keeper.is c.args.keeper.now) c.in-Ok.plan c.full.result c.in-Ok.ensures.ok (sym c.if-has_no_number.ensures) c.full.ensures

pub returns-in-Ok-give-clause-ok : goal.returns-in-Ok-give-clause-ok
returns-in-Ok-give-clause-ok g c =
    grant-follows c.args.call.now c.args.who.now c.args.documents.now c.args.grants.now c.give.new.grants c.args.applications.now c.give.new.applications (g.K.Keeper.is c.args.keeper.now) (g.K.Keeper.is c.give.new.keeper)
    c.in-Ok.plan c.in-Ok-give.failed c.done.result c.in-Ok.ensures.ok (sym c.if-has_no_number.ensures) c.in-Ok-give.ensures.called c.in-Ok-give.ensures.given c.in-Ok-give.ensures.numbered c.done.ensures
