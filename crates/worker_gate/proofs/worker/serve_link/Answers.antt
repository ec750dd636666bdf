use Rattle.std.proofs.Common.{Bool, List, is_some, sym, ap, ◌∙◌, subst}
use Rattle.portal_model.specs.Seated.{Exchange}
use Rattle.session.specs.Standings.{client}
use Rattle.worker_gate.specs.Working.{ServesLink, sides, visit}
use Rattle.worker_gate.proofs.worker.serve_link.Goals as goal

-- it is polled where there is a task
pub returns-in-Some-clause-serves : goal.returns-in-Some-clause-serves
returns-in-Some-clause-serves g c =
    subst
    (λ (z : Bool). (made : List Exchange) × ServesLink (sides g.L.In.Source.left g.L.In.Source.faults g.L.Out.Sink.told g.L.Out.Sink.faults) z (client c.args.post.now.who c.args.post.now.kind c.args.settings.now) c.args.link (g.D.Desk.seated c.args.desk.now)
    (visit c.serve_link_polled.result.1 made) c.serve_link_polled.result.0 (g.D.Desk.seated c.serve_link_polled.new.desk))
    (sym (ap is_some c.in-Some.is) ∙ c.requires.polled) c.serve_link_polled.ensures.serves

pub returns-in-None-clause-serves : goal.returns-in-None-clause-serves
returns-in-None-clause-serves g c =
    subst
    (λ (z : Bool). (made : List Exchange) × ServesLink (sides g.L.In.Source.left g.L.In.Source.faults g.L.Out.Sink.told g.L.Out.Sink.faults) z (client c.args.post.now.who c.args.post.now.kind c.args.settings.now) c.args.link (g.D.Desk.seated c.args.desk.now)
    (visit c.serve_link_waiting.result.1 made) c.serve_link_waiting.result.0 (g.D.Desk.seated c.serve_link_waiting.new.desk))
    (sym (ap is_some c.in-None.is) ∙ c.requires.polled) c.serve_link_waiting.ensures.serves
