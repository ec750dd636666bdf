use Rattle.std.proofs.Common.{rules}
use Rattle.session.specs.declared.served.Served.TheVariants as served
use Rattle.session.specs.Standings.{client}
use Rattle.worker_gate.specs.Working.{sides, spring_of, world_of}
use Rattle.worker_gate.proofs.Links.{link_polled}
use Rattle.worker_gate.proofs.PolledLinks.{nothing_polled}
use Rattle.worker_gate.proofs.worker.serve_link_polled.Goals as goal

-- there was no memory for the client
pub returns-in_default-clause-serves : goal.returns-in_default-clause-serves
returns-in_default-clause-serves g c =
    let s = sides g.L.In.Source.left g.L.In.Source.faults g.L.Out.Sink.told g.L.Out.Sink.faults in
    let who = client c.args.post.now.who c.args.post.now.kind c.args.settings.now in
    let d = g.D.Desk.seated c.args.desk.now in
    link_polled s who c.args.link d c.args.link d served.Memory (nothing_polled who (spring_of s c.args.link) (world_of s d c.args.link)) c.known.ensures c.known.ensures c.requires c.requires

pub returns-in_default-clause-goes : goal.returns-in_default-clause-goes
returns-in_default-clause-goes g c = g.met.D.Desk.stands c.args.desk.now

pub returns-clause-serves : goal.returns-clause-serves
returns-clause-serves g c =
    link_polled
    (sides g.L.In.Source.left g.L.In.Source.faults g.L.Out.Sink.told g.L.Out.Sink.faults)
    (client c.args.post.now.who c.args.post.now.kind c.args.settings.now)
    c.args.link
    (g.D.Desk.seated c.args.desk.now)
    _
    _
    _
    (search rules)
    c.known.ensures
    (search rules)
    c.requires
    (search rules)
