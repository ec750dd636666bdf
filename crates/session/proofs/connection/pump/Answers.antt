use Rattle.std.proofs.Common.{◌≡◌, ◌≤◌, [], ◌++◌, length, take, refl, sym, ap, ◌∙◌, subst, arith}
use Rattle.std.proofs.lemmas.List.{length-append, length-take}
use Rattle.session.specs.declared.served.Fed.TheVariants as fed
use Rattle.session.specs.declared.served.Stop.TheVariants as stop
use Rattle.session.specs.Ledger.{world}
use Rattle.session.specs.Pumps.{Kept}
use Rattle.session.specs.Standings.{Standing}
use Rattle.session.proofs.Pump.{behind_none, came_last, client_on, kept_none, kept_on, opened, over_on}
use Rattle.session.proofs.ServeConnection.{dry_still, left_later, left_same, opens_on}
use Rattle.session.proofs.connection.pump.Goals as goal

pub pieces-init : goal.pieces-init
pieces-init g c =
    let v = world (g.D.Desk.seated c.args.desk.now) (g.K.Sink.told c.args.sink.now) (g.K.Sink.faults c.args.sink.now) in
    let who = c.args.session.now.client in
    record {
      some = c.requires.some;
      most = c.requires.most;
      so_far = ([], behind_none _, subst (λ (s : Standing). Kept who [] stop.More v s v) (sym c.requires.fresh) (kept_none who v));
      faults = refl;
      still = ap (λ (s : Standing). s.fed) c.requires.fresh;
      client_is = refl;
      stays = λ h. h;
      goes = g.met.D.Desk.stands c.args.desk.now;
    }

pub pieces-smaller : goal.pieces-smaller
pieces-smaller g c =
    let s = c.pieces.session in
    let m = world (g.D.Desk.seated c.pieces.desk) (g.K.Sink.told c.pieces.sink) (g.K.Sink.faults c.pieces.sink) in
    let w = world (g.D.Desk.seated c.feed.new.desk) (g.K.Sink.told c.feed.new.sink) (g.K.Sink.faults c.feed.new.sink) in
    let f = opened s m c.front.result.now fed.More c.feed.new.self w c.pieces.invariant.still c.in-More.ensures.feeds in
    let r = c.in-Got.ensures.reads in
    let front : c.front.result.now ≡ take c.in-Got.len c.read_piece.new.buffer.items = c.front.ensures ∙ ap (take c.in-Got.len) c.as_slice.ensures.value in
    let p : length c.front.result.now ≡ c.in-Got.len = ap length front ∙ omega (arith, length-take c.in-Got.len c.read_piece.new.buffer.items, r.1) in
    omega (arith, f.0.room, f.0.before, ap length f.0.bytes, length-append s.rest c.front.result.now, length-append f.0.taken c.feed.new.self.rest, p, r.0)

pub pieces-preserved : goal.pieces-preserved
pieces-preserved g c =
    let s = c.pieces.session in
    let i = c.pieces.invariant in
    let who = c.args.session.now.client in
    let v = world (g.D.Desk.seated c.args.desk.now) (g.K.Sink.told c.args.sink.now) (g.K.Sink.faults c.args.sink.now) in
    let m = world (g.D.Desk.seated c.pieces.desk) (g.K.Sink.told c.pieces.sink) (g.K.Sink.faults c.pieces.sink) in
    let w = world (g.D.Desk.seated c.feed.new.desk) (g.K.Sink.told c.feed.new.sink) (g.K.Sink.faults c.feed.new.sink) in
    let piece = c.front.result.now in
    let f = opened s m piece fed.More c.feed.new.self w i.still c.in-More.ensures.feeds in
    let r = c.in-Got.ensures.reads in
    let n = c.in-Got.ensures.counts in
    let front : c.front.result.now ≡ take c.in-Got.len c.read_piece.new.buffer.items = c.front.ensures ∙ ap (take c.in-Got.len) c.as_slice.ensures.value in
    record {
      some = omega (arith, i.some, c.in-Got.ensures.long, c.widen.ensures.least);
      most = c.widen.ensures.most;
      so_far = (i.so_far.0 ++ piece, left_later i.so_far.0 _ piece _ _ _ i.so_far.1 r.2 front, kept_on who i.so_far.0 piece v m w s c.feed.new.self i.so_far.2 i.client_is stop.More f.0);
      faults = n ∙ i.faults;
      still = f.1.0;
      client_is = client_on who i.so_far.0 piece v m w s c.feed.new.self i.so_far.2 i.client_is fed.More f;
      stays = λ h. opens_on s.client who (g.D.Desk.seated c.pieces.desk) (g.D.Desk.seated c.feed.new.desk) i.client_is c.in-More.ensures.stays_open (i.stays h);
      goes = g.met.D.Desk.follows _ _ _ i.goes c.in-More.ensures.goes;
    }

pub returns-in-End : goal.returns-in-End
returns-in-End g c =
    let i = c.pieces.invariant in
    let r = c.in-End.ensures.reads in
    let n = c.in-End.ensures.counts in
    record {
      pumps = (i.so_far.0, left_same i.so_far.0 _ _ _ i.so_far.1 r.0, omega (arith, i.faults, n), i.client_is, (i.so_far.2, i.still, dry_still _ _ r.0 r.1, n ∙ i.faults));
      stays_open = i.stays;
      goes = i.goes;
    }

pub returns-in-Failed : goal.returns-in-Failed
returns-in-Failed g c =
    let i = c.pieces.invariant in
    let r = c.in-Failed.ensures.reads in
    let n = c.in-Failed.ensures.counts in
    record {
      pumps = (i.so_far.0, left_same i.so_far.0 _ _ _ i.so_far.1 r, omega (arith, i.faults, n.0), i.client_is, (i.so_far.2, i.still, omega (arith, i.faults, n.0, n.1)));
      stays_open = i.stays;
      goes = i.goes;
    }

pub returns-in_default : goal.returns-in_default
returns-in_default g c =
    let s = c.pieces.session in
    let i = c.pieces.invariant in
    let who = c.args.session.now.client in
    let v = world (g.D.Desk.seated c.args.desk.now) (g.K.Sink.told c.args.sink.now) (g.K.Sink.faults c.args.sink.now) in
    let m = world (g.D.Desk.seated c.pieces.desk) (g.K.Sink.told c.pieces.sink) (g.K.Sink.faults c.pieces.sink) in
    let w = world (g.D.Desk.seated c.feed.new.desk) (g.K.Sink.told c.feed.new.sink) (g.K.Sink.faults c.feed.new.sink) in
    let piece = c.front.result.now in
    let f = opened s m piece c.feed.result c.feed.new.self w i.still c.feed.ensures.feeds in
    let r = c.in-Got.ensures.reads in
    let front : c.front.result.now ≡ take c.in-Got.len c.read_piece.new.buffer.items = c.front.ensures ∙ ap (take c.in-Got.len) c.as_slice.ensures.value in
    let few : length piece ≤ 262144 = omega (arith, ap length front, length-take c.in-Got.len c.read_piece.new.buffer.items, r.1, i.most, c.in-Got.ensures.long) in
    let n = c.in-Got.ensures.counts in
    record {
      pumps = (i.so_far.0 ++ piece, left_later i.so_far.0 _ piece _ _ _ i.so_far.1 r.2 front, omega (arith, i.faults, n), client_on who i.so_far.0 piece v m w s c.feed.new.self i.so_far.2 i.client_is c.feed.result f, (over_on who i.so_far.0 piece v m w s c.feed.new.self i.so_far.2 i.client_is few c.feed.result c.in_default.not-More f, came_last who i.so_far.0 piece v m w s c.feed.new.self i.so_far.2 i.client_is few, n ∙ i.faults));
      stays_open = λ h. opens_on s.client who (g.D.Desk.seated c.pieces.desk) (g.D.Desk.seated c.feed.new.desk) i.client_is c.feed.ensures.stays_open (i.stays h);
      goes = g.met.D.Desk.follows _ _ _ i.goes c.feed.ensures.goes;
    }
