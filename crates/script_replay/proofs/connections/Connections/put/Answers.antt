use Rattle.std.proofs.Common.{◌≡◌, ◌<◌, ℕ, length, Option, Some, ap, ◌∙◌, arith}
use Rattle.session.specs.Standings.{Standing}
use Rattle.script_replay.specs.Scenes.{placed, sessions_of}
use Rattle.script_replay.proofs.SessionTable.{set_is}
use Rattle.script_replay.proofs.connections.Connections.put.Goals as goal

pub returns-clause-ok : goal.returns-clause-ok
returns-clause-ok c =
    let items = c.self.inside.sessions.items in
    let is : items ≡ c.reach.new.self = c.self.view_is in
    let inside : c.args.seat < length items = omega (arith, c.in_ok-reach.ensures.reached, ap length is) in
    set_is items c.args.seat (Some c.args.session) inside
    ∙ ap (λ (f : ℕ → Option Standing). placed f c.args.seat (Some c.args.session)) (ap sessions_of is ∙ c.in_ok-reach.ensures.same)
