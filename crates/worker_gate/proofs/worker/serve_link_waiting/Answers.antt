use Rattle.std.proofs.Common.{false, rules}
use Rattle.session.specs.Standings.{client}
use Rattle.worker_gate.specs.Working.{sides}
use Rattle.worker_gate.proofs.Links.{link_served}
use Rattle.worker_gate.proofs.worker.serve_link_waiting.Goals as goal

pub returns-clause-serves : goal.returns-clause-serves
returns-clause-serves g c =
    link_served
    (sides g.L.In.Source.left g.L.In.Source.faults g.L.Out.Sink.told g.L.Out.Sink.faults)
    false
    (client c.args.post.now.who c.args.post.now.kind c.args.settings.now)
    c.args.link
    (g.D.Desk.seated c.args.desk.now)
    _
    _
    c.serve_connection-served.result
    (search rules)
    (search rules)
    (search rules)
    (search rules)
    (search rules)
