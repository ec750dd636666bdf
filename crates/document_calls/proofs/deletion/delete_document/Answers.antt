use Rattle.document_calls.proofs.DeleteSteps.{delete-follows, delete-refused}
use Rattle.document_calls.proofs.deletion.delete_document.Goals as goal

pub returns-in-Err-clause-ok : goal.returns-in-Err-clause-ok
returns-in-Err-clause-ok g c =
    delete-refused c.args.doc.now c.args.who.now c.args.documents.now c.args.grants.now (g.K.Keeper.is c.args.keeper.now) c.in-Err.error c.refused.result c.refused.ensures c.in-Err.ensures.err

pub returns-in-Ok-delete-clause-ok : goal.returns-in-Ok-delete-clause-ok
returns-in-Ok-delete-clause-ok g c =
    delete-follows c.args.doc.now c.args.who.now c.args.documents.now c.delete.new.documents c.args.grants.now c.delete.new.grants (g.K.Keeper.is c.args.keeper.now) (g.K.Keeper.is c.delete.new.keeper)
    c.in-Ok.id c.in-Ok-delete.failed c.done.result c.in-Ok.ensures.ok c.in-Ok-delete.ensures.called c.in-Ok-delete.ensures.rest c.in-Ok-delete.ensures.left c.done.ensures
