use Rattle.session.proofs.OwnEntries.{still_isolated}
use Rattle.session.proofs.session.Session.begin.Goals as goal

-- nothing was asked
pub returns-in_err-client-clause-isolated : goal.returns-in_err-client-clause-isolated
returns-in_err-client-clause-isolated g c = still_isolated c.args.who.now (g.D.Desk.seated c.args.desk.now)
