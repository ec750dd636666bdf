use Rattle.std.proofs.Common.{◌≡◌, ℕ, ◌+◌, ◌≤◌, length, Ok, Err, refl, sym, ap, ◌∙◌, arith}
use Rattle.session.specs.declared.served.Fed.TheVariants as fed
use Rattle.session.specs.Ledger.{world}
use Rattle.session.specs.Standings.{Standing, longest}
use Rattle.session.proofs.SessionCalls.{fed_err, fed_lets, fed_ok, taken_of}
use Rattle.session.proofs.ConnectionStaysOpen.{stays_open}
use Rattle.session.proofs.Feed.{feeds_open}
use Rattle.session.proofs.OwnEntries.{lets_isolated, still_isolated}
use Rattle.session.proofs.session.Session.feed.Goals as goal
use Rattle.session.proofs.session.Session.feed.Goals.{in-Ok, in-Err}

pub returns-clause-feeds : goal.returns-clause-feeds
returns-clause-feeds g c =
    let s = c.args.self.now in
    let v = world (g.D.Desk.seated c.args.desk.now) (g.K.Sink.told c.args.sink.now) (g.K.Sink.faults c.args.sink.now) in
    let w = world (g.D.Desk.seated c.take.new.desk) (g.K.Sink.told c.take.new.sink) (g.K.Sink.faults c.take.new.sink) in
    let piece = c.args.piece.now in
    let is = c.self.view_is in
    let more : s.fed ≡ fed.More = ap (λ (z : Standing). z.fed) (sym is) ∙ c.in-More.is in
    let at : c.self.inside.before ≡ s.before = ap (λ (z : Standing). z.before) is in
    let rest : c.self.inside.rest.items ≡ s.rest = ap (λ (z : Standing). z.rest) is in
    let client : c.self.inside.client ≡ s.client = ap (λ (z : Standing). z.client) is in
    let stage : c.self.inside.stage ≡ s.stage = ap (λ (z : Standing). z.stage) is in
    let room : s.before + length s.rest + length piece ≤ longest = omega (arith, at, ap length rest, c.len.ensures.value, c.if-piece-room.false, c.self.invariant.room) in
    elim c.match-take.branch [
      | in-Ok x ↦
          let run = x.in-Ok.run' in
          let took = taken_of _ s.client (Ok run) _ s.stage c.take.new.stage v w _ s.rest piece _ client stage rest x.in-Ok.ensures.stops x.in-Ok.ensures.held in
          feeds_open s v piece _ _ w more (rw x.self-inside-is (fed_ok s v w piece run _ room took.0 (ap (λ (z : ℕ). z + run.len) at) took.1 client x.fed_of-self-inside.ensures))
      | in-Err x ↦
          let why = x.in-Err.halt in
          let took = taken_of _ s.client (Err why) _ s.stage c.take.new.stage v w _ s.rest piece _ client stage rest x.in-Err.ensures.stops x.in-Err.ensures.held in
          feeds_open s v piece _ _ w more (rw x.self-inside-is (fed_err why s v w piece _ took.0 client refl room (at, took.1)))
    ]

-- what was asked left the connection open
pub returns-clause-stays_open : goal.returns-clause-stays_open
returns-clause-stays_open g c =
    let s = c.args.self.now in
    let v = world (g.D.Desk.seated c.args.desk.now) (g.K.Sink.told c.args.sink.now) (g.K.Sink.faults c.args.sink.now) in
    let w = world (g.D.Desk.seated c.take.new.desk) (g.K.Sink.told c.take.new.sink) (g.K.Sink.faults c.take.new.sink) in
    let more : s.fed ≡ fed.More = ap (λ (z : Standing). z.fed) (sym c.self.view_is) ∙ c.in-More.is in
    stays_open s.client v.seated w.seated c.known.ensures c.known-2.ensures (fed_lets s v w c.args.piece.now _ _ more (returns-clause-feeds g c))

pub returns-clause-isolated : goal.returns-clause-isolated
returns-clause-isolated g c =
    let s = c.args.self.now in
    let v = world (g.D.Desk.seated c.args.desk.now) (g.K.Sink.told c.args.sink.now) (g.K.Sink.faults c.args.sink.now) in
    let w = world (g.D.Desk.seated c.take.new.desk) (g.K.Sink.told c.take.new.sink) (g.K.Sink.faults c.take.new.sink) in
    let more : s.fed ≡ fed.More = ap (λ (z : Standing). z.fed) (sym c.self.view_is) ∙ c.in-More.is in
    lets_isolated s.client v.seated w.seated c.known.ensures c.known-2.ensures (fed_lets s v w c.args.piece.now _ _ more (returns-clause-feeds g c))

-- and here nothing was asked
pub returns-in_default-clause-isolated : goal.returns-in_default-clause-isolated
returns-in_default-clause-isolated g c = λ is. still_isolated c.args.self.now.client.who (g.D.Desk.seated c.args.desk.now)

pub returns-then-piece-room-clause-isolated : goal.returns-then-piece-room-clause-isolated
returns-then-piece-room-clause-isolated g c = λ is. still_isolated c.args.self.now.client.who (g.D.Desk.seated c.args.desk.now)
