use Rattle.std.proofs.Common.{sym}
use Rattle.portal_steps.proofs.StoredCalls.{stored-nowhere, stored-somewhere}
use Rattle.portal_steps.proofs.store.serve.Goals as goal

pub returns-in-None-clause-ok : goal.returns-in-None-clause-ok
returns-in-None-clause-ok g c = stored-nowhere c.args.call.now c.args.tables.now c.args.outboxes.now (g.K.Keeper.is c.args.keeper.now) c.answered.result _ (sym c.in-None.ensures) c.answered.ensures

pub returns-in-Some-clause-ok : goal.returns-in-Some-clause-ok
returns-in-Some-clause-ok g c =
    stored-somewhere c.args.call.now c.args.tables.now c.serve.new.tables c.args.outboxes.now c.serve.new.outboxes (g.K.Keeper.is c.args.keeper.now) (g.K.Keeper.is c.serve.new.keeper) c.serve.result _ c.in-Some.bus.now (sym c.in-Some.ensures) c.serve.ensures.ok
