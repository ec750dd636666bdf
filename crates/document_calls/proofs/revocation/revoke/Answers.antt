use Rattle.document_calls.proofs.RevokeSteps.{revoke-follows, revoke-refused}
use Rattle.document_calls.proofs.revocation.revoke.Goals as goal

pub returns-in-Err-clause-ok : goal.returns-in-Err-clause-ok
returns-in-Err-clause-ok g c =
    revoke-refused c.args.call.now c.args.who.now c.args.documents.now c.args.grants.now (g.K.Keeper.is c.args.keeper.now) c.in-Err.error c.refused.result c.refused.ensures c.in-Err.ensures.err

pub returns-in-Ok-take-clause-ok : goal.returns-in-Ok-take-clause-ok
returns-in-Ok-take-clause-ok g c =
    revoke-follows c.args.call.now c.args.who.now c.args.documents.now c.args.grants.now c.take.new.grants (g.K.Keeper.is c.args.keeper.now) (g.K.Keeper.is c.take.new.keeper)
    c.in-Ok.plan c.in-Ok-take.failed c.done.result c.in-Ok.ensures.ok c.in-Ok-take.ensures.called c.in-Ok-take.ensures.left c.done.ensures
