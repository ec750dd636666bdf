use Rattle.std.proofs.Common.{length, inl, refl, sym, ap, subst, arith}
use Rattle.session.specs.Connections.{Serves}
use Rattle.session.specs.Ledger.{world}
use Rattle.session.specs.Pumps.{spring}
use Rattle.session.specs.Standings.{client}
use Rattle.portal_model.specs.declared.reply.Refused.TheVariants as refused
use Rattle.session.specs.declared.served.Served.{Served}
use Rattle.session.specs.declared.served.Served.TheVariants as served
use Rattle.session.proofs.ServeConnection.{begun_fresh, serves_closed, serves_faulted, serves_refused, still_open}
use Rattle.session.proofs.ConnectionEntries.{heard, isolated, serves_connect}
use Rattle.session.proofs.connection.serve_connection.Goals as goal

pub pump-pumped-requires : goal.pump-pumped-requires
pump-pumped-requires g c = record {
  fresh = begun_fresh (client c.args.who.now c.args.kind c.args.settings.now) _ c.in-Ok-begin.ensures.opens.1;
  some = omega (arith, c.in-Ok.ensures.len);
  most = omega (arith, c.in-Ok.ensures.len);
}

pub end-served-requires : goal.end-served-requires
end-served-requires g c =
    let p = c.pump-pumped.ensures.pumps in
    still_open (client c.args.who.now c.args.kind c.args.settings.now) _ c.pump-pumped.new.session (g.D.Desk.seated c.begin.new.desk) (g.D.Desk.seated c.pump-pumped.new.desk)
    c.in-Ok-begin.ensures.opens.1 c.in-Ok-begin.ensures.open_now c.pump-pumped.ensures.stays_open p.3

pub returns-in_default : goal.returns-in_default
returns-in_default g c =
    let who = client c.args.who.now c.args.kind c.args.settings.now in
    let i = spring (g.S.Source.left c.args.source.now) (g.S.Source.faults c.args.source.now) in
    let o = g.K.Sink.told c.args.sink.now in
    let f = g.K.Sink.faults c.args.sink.now in
    let d = g.D.Desk.seated c.args.desk.now in
    let s = serves_refused who refused.Memory d d i o f (inl (refl, refl)) in
    record {
      serves = s;
      closed_now = c.requires;
      known = c.known.ensures;
      heard = heard who d d c.known.ensures c.known.ensures (serves_connect who served.Memory i i (world d o f) (world d o f) s) c.requires;
      isolated = isolated who d d c.known.ensures c.known.ensures (serves_connect who served.Memory i i (world d o f) (world d o f) s) c.requires;
      goes = g.met.D.Desk.stands c.args.desk.now;
    }

pub returns-in-Err : goal.returns-in-Err
returns-in-Err g c =
    let who = client c.args.who.now c.args.kind c.args.settings.now in
    let i = spring (g.S.Source.left c.args.source.now) (g.S.Source.faults c.args.source.now) in
    let o = g.K.Sink.told c.args.sink.now in
    let f = g.K.Sink.faults c.args.sink.now in
    let d0 = g.D.Desk.seated c.args.desk.now in
    let d3 = g.D.Desk.seated c.begin.new.desk in
    let s = subst (λ (r : Served). Serves who r i i (world d0 o f) (world d3 o f)) (sym c.refused_ending.ensures) (serves_refused who c.in-Err.refused d0 d3 i o f c.in-Err.ensures.opens.0) in
    record {
      serves = s;
      closed_now = c.in-Err.ensures.still_closed;
      known = c.known-in-Err.ensures;
      heard = heard who d0 d3 c.known.ensures c.known-in-Err.ensures (serves_connect who c.refused_ending.result i i (world d0 o f) (world d3 o f) s) c.requires;
      isolated = isolated who d0 d3 c.known.ensures c.known-in-Err.ensures (serves_connect who c.refused_ending.result i i (world d0 o f) (world d3 o f) s) c.requires;
      goes = c.in-Err.ensures.goes;
    }

pub returns-in-Fault : goal.returns-in-Fault
returns-in-Fault g c =
    let who = client c.args.who.now c.args.kind c.args.settings.now in
    let i = spring (g.S.Source.left c.args.source.now) (g.S.Source.faults c.args.source.now) in
    let j = spring (g.S.Source.left c.pump-pumped.new.source) (g.S.Source.faults c.pump-pumped.new.source) in
    let o = g.K.Sink.told c.args.sink.now in
    let f = g.K.Sink.faults c.args.sink.now in
    let n = g.K.Sink.told c.pump-pumped.new.sink in
    let k = g.K.Sink.faults c.pump-pumped.new.sink in
    let d0 = g.D.Desk.seated c.args.desk.now in
    let d1 = g.D.Desk.seated c.begin.new.desk in
    let d2 = g.D.Desk.seated c.pump-pumped.new.desk in
    let d3 = g.D.Desk.seated c.end-served.new.desk in
    let a = c.in-Ok-begin.ensures.opens in
    let s = serves_faulted who c.in-Ok-begin.session c.pump-pumped.new.session d0 d1 d2 d3 i j o n f k c.end-served.result a.0 a.1 c.end-served.ensures.closes c.in-Fault.ensures.pumps in
    record {
      serves = s;
      closed_now = c.end-served.ensures.closed_now;
      known = c.known-2.ensures;
      heard = heard who d0 d3 c.known.ensures c.known-2.ensures (serves_connect who served.ReadFault i j (world d0 o f) (world d3 n k) s) c.requires;
      isolated = isolated who d0 d3 c.known.ensures c.known-2.ensures (serves_connect who served.ReadFault i j (world d0 o f) (world d3 n k) s) c.requires;
      goes = g.met.D.Desk.follows _ _ _ c.in-Ok-begin.ensures.goes (g.met.D.Desk.follows _ _ _ c.pump-pumped.ensures.goes c.end-served.ensures.goes);
    }

pub returns : goal.returns
returns g c =
    let who = client c.args.who.now c.args.kind c.args.settings.now in
    let i = spring (g.S.Source.left c.args.source.now) (g.S.Source.faults c.args.source.now) in
    let j = spring (g.S.Source.left c.pump-pumped.new.source) (g.S.Source.faults c.pump-pumped.new.source) in
    let o = g.K.Sink.told c.args.sink.now in
    let f = g.K.Sink.faults c.args.sink.now in
    let n = g.K.Sink.told c.pump-pumped.new.sink in
    let k = g.K.Sink.faults c.pump-pumped.new.sink in
    let d0 = g.D.Desk.seated c.args.desk.now in
    let d1 = g.D.Desk.seated c.begin.new.desk in
    let d2 = g.D.Desk.seated c.pump-pumped.new.desk in
    let d3 = g.D.Desk.seated c.end-served.new.desk in
    let a = c.in-Ok-begin.ensures.opens in
    let s = serves_closed who c.in-Ok-begin.session c.pump-pumped.new.session d0 d1 d2 d3 i j o n f k c.end-served.result a.0 a.1 c.end-served.ensures.closes c.pump-pumped.result c.in_default-pumped.not-Fault c.pump-pumped.ensures.pumps in
    record {
      serves = s;
      closed_now = c.end-served.ensures.closed_now;
      known = c.known-2.ensures;
      heard = heard who d0 d3 c.known.ensures c.known-2.ensures (serves_connect who c.end-served.result i j (world d0 o f) (world d3 n k) s) c.requires;
      isolated = isolated who d0 d3 c.known.ensures c.known-2.ensures (serves_connect who c.end-served.result i j (world d0 o f) (world d3 n k) s) c.requires;
      goes = g.met.D.Desk.follows _ _ _ c.in-Ok-begin.ensures.goes (g.met.D.Desk.follows _ _ _ c.pump-pumped.ensures.goes c.end-served.ensures.goes);
    }
