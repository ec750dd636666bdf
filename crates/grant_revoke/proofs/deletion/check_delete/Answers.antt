use Rattle.grant_revoke.proofs.ChangeLemmas.{delete-id}
use Rattle.grant_revoke.proofs.deletion.check_delete.Goals as goal

pub returns-clause-document : goal.returns-clause-document
returns-clause-document c = delete-id c.args.documents.now.live c.args.grants.now c.args.who.now c.args.doc.now c.deletion.result c.deletion.ensures
