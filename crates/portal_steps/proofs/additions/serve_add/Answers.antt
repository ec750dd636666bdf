use Rattle.std.proofs.Common.{◌≡◌, List, false, true, is_some, rules}
use Rattle.portal_model.specs.declared.state.Connection.{Connection}
use Rattle.portal_model.specs.State.{connection_of}
use Rattle.portal_model.specs.Step.{bus_of}
use Rattle.portal_steps.proofs.AddedFiles.{add-nowhere, draws-somewhere}
use Rattle.portal_steps.proofs.Boxes.{same-queues}
use Rattle.portal_steps.proofs.additions.serve_add.Goals as goal

pub returns-then-is_none-clause-ok : goal.returns-then-is_none-clause-ok
returns-then-is_none-clause-ok g c =
    let cs : List Connection = c.args.connections.now in
    let nowhere : is_some (bus_of (connection_of cs c.args.seat)) ≡ false = search rules in
    add-nowhere c.args.documents.now c.args.rights.now c.args.applications.now cs (g.T.HostTree.is c.args.tree.now).told (bus_of (connection_of cs c.args.seat)) c.args.request.now (g.K.Keeper.is c.args.keeper.now) c.answered.result nowhere c.answered.ensures

pub returns-then-is_none-clause-queues : goal.returns-then-is_none-clause-queues
returns-then-is_none-clause-queues g c = same-queues c.args.connections.now

pub returns-clause-made : goal.returns-clause-made
returns-clause-made g c =
    let cs : List Connection = c.args.connections.now in
    let somewhere : is_some (bus_of (connection_of cs c.args.seat)) ≡ true = search rules in
    draws-somewhere c.args.documents.now c.args.rights.now c.args.applications.now cs (g.T.HostTree.is c.args.tree.now).told (bus_of (connection_of cs c.args.seat)) c.args.request.now (g.W.Words.told c.args.words.now) (g.W.Words.told c.add_on.new.words) c.add_on.result somewhere c.add_on.ensures.made
