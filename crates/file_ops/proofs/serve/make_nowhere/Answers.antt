use Rattle.std.proofs.lemmas.Result.{IfOk-weaker}
use Rattle.file_ops.proofs.DoesSaving.{nowhere-does}
use Rattle.file_ops.proofs.Savings.{all-ok}
use Rattle.file_ops.proofs.serve.make_nowhere.Goals as goal

pub returns-clause-ok : goal.returns-clause-ok
returns-clause-ok g c = λ table tables named temped op.
    let book = c.args.book.now in
    let call = c.args.call.now in
    IfOk-weaker c.create_nowhere.result _ _
    (λ done goes. nowhere-does book call c.args.own c.args.place table tables (g.T.HostTree.is c.args.tree.now) done table tables.temps (g.T.HostTree.is c.create_nowhere.new.tree) named temped c.requires.sight c.args.name.now c.args.flags op c.requires.nowhere goes)
    (all-ok _ c.create_nowhere.result (λ x. c.create_nowhere.ensures.ok book.view call.who.now call.request.now x.0 x.1 x.2))
