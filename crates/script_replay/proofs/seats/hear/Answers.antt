use Rattle.std.proofs.Common.{inl, inr, ap, subst, arith}
use Rattle.portal_base.specs.Devices.{SinkState}
use Rattle.session.specs.declared.served.Fed.{Fed}
use Rattle.session.specs.Sessions.{Feeds}
use Rattle.script_replay.specs.Seats.{known_at, sunk}
use Rattle.script_replay.proofs.Hear.{heard_last, heard_more, wants_request, wants_room}
use Rattle.script_replay.proofs.RoomToHear.{unfilled_at}
use Rattle.script_replay.proofs.seats.hear.Goals as goal

pub returns-then-refusals-gt0-clause-unfilled : goal.returns-then-refusals-gt0-clause-unfilled
returns-then-refusals-gt0-clause-unfilled c = (
  c.feed-fed.result.refusals,
  unfilled_at c.args.portal.now c.feed-fed.new.portal c.args.seat c.feed-fed.result.refusals c.args.session.now c.feed-fed.new.session c.args.bytes.now c.new-written.result c.feed-fed.new.written c.feed-fed.result.fed
      c.feed-fed.ensures.own c.requires.goes_on c.requires.room c.feed-fed.ensures.feeds,
)

pub returns-in-More-clause-unfilled : goal.returns-in-More-clause-unfilled
returns-in-More-clause-unfilled c = (
  c.feed-fed.result.refusals,
  unfilled_at c.args.portal.now c.feed-fed.new.portal c.args.seat c.feed-fed.result.refusals c.args.session.now c.feed-fed.new.session c.args.bytes.now c.new-written.result c.feed-fed.new.written c.feed-fed.result.fed
      c.feed-fed.ensures.own c.requires.goes_on c.requires.room c.feed-fed.ensures.feeds,
)

pub returns-in-Over-clause-unfilled : goal.returns-in-Over-clause-unfilled
returns-in-Over-clause-unfilled c = (
  c.feed-fed.result.refusals,
  unfilled_at c.args.portal.now c.feed-fed.new.portal c.args.seat c.feed-fed.result.refusals c.args.session.now c.feed-fed.new.session c.args.bytes.now c.new-written.result c.feed-fed.new.written c.feed-fed.result.fed
      c.feed-fed.ensures.own c.requires.goes_on c.requires.room c.feed-fed.ensures.feeds,
)

pub returns-in-WriteFault-clause-unfilled : goal.returns-in-WriteFault-clause-unfilled
returns-in-WriteFault-clause-unfilled c = (
  c.feed-fed.result.refusals,
  unfilled_at c.args.portal.now c.feed-fed.new.portal c.args.seat c.feed-fed.result.refusals c.args.session.now c.feed-fed.new.session c.args.bytes.now c.new-written.result c.feed-fed.new.written c.feed-fed.result.fed
      c.feed-fed.ensures.own c.requires.goes_on c.requires.room c.feed-fed.ensures.feeds,
)

pub returns-in-WriteFault-clause-err : goal.returns-in-WriteFault-clause-err
returns-in-WriteFault-clause-err c = (
  c.feed-fed.result.refusals,
  unfilled_at c.args.portal.now c.feed-fed.new.portal c.args.seat c.feed-fed.result.refusals c.args.session.now c.feed-fed.new.session c.args.bytes.now c.new-written.result c.feed-fed.new.written c.feed-fed.result.fed
      c.feed-fed.ensures.own c.requires.goes_on c.requires.room c.feed-fed.ensures.feeds,
  wants_room c.args.session.now c.feed-fed.new.session _ _ c.args.bytes.now c.feed-fed.result.refusals c.requires.goes_on (inl (subst (λ (r : Fed). Feeds c.args.session.now.fed c.args.session.now (sunk (known_at c.args.portal.now c.args.seat 0) c.new-written.result) c.args.bytes.now r c.feed-fed.new.session (sunk (known_at c.feed-fed.new.portal c.args.seat c.feed-fed.result.refusals) c.feed-fed.new.written)) c.in-WriteFault.is c.feed-fed.ensures.feeds)),
)

pub returns-in-Memory-clause-unfilled : goal.returns-in-Memory-clause-unfilled
returns-in-Memory-clause-unfilled c = (
  c.feed-fed.result.refusals,
  unfilled_at c.args.portal.now c.feed-fed.new.portal c.args.seat c.feed-fed.result.refusals c.args.session.now c.feed-fed.new.session c.args.bytes.now c.new-written.result c.feed-fed.new.written c.feed-fed.result.fed
      c.feed-fed.ensures.own c.requires.goes_on c.requires.room c.feed-fed.ensures.feeds,
)

pub returns-in-Memory-clause-err : goal.returns-in-Memory-clause-err
returns-in-Memory-clause-err c = (
  c.feed-fed.result.refusals,
  unfilled_at c.args.portal.now c.feed-fed.new.portal c.args.seat c.feed-fed.result.refusals c.args.session.now c.feed-fed.new.session c.args.bytes.now c.new-written.result c.feed-fed.new.written c.feed-fed.result.fed
      c.feed-fed.ensures.own c.requires.goes_on c.requires.room c.feed-fed.ensures.feeds,
  wants_room c.args.session.now c.feed-fed.new.session _ _ c.args.bytes.now c.feed-fed.result.refusals c.requires.goes_on (inr (subst (λ (r : Fed). Feeds c.args.session.now.fed c.args.session.now (sunk (known_at c.args.portal.now c.args.seat 0) c.new-written.result) c.args.bytes.now r c.feed-fed.new.session (sunk (known_at c.feed-fed.new.portal c.args.seat c.feed-fed.result.refusals) c.feed-fed.new.written)) c.in-Memory.is c.feed-fed.ensures.feeds)),
)

pub returns-then-refusals-gt0-clause-err : goal.returns-then-refusals-gt0-clause-err
returns-then-refusals-gt0-clause-err c = (
  c.feed-fed.result.refusals,
  unfilled_at c.args.portal.now c.feed-fed.new.portal c.args.seat c.feed-fed.result.refusals c.args.session.now c.feed-fed.new.session c.args.bytes.now c.new-written.result c.feed-fed.new.written c.feed-fed.result.fed
      c.feed-fed.ensures.own c.requires.goes_on c.requires.room c.feed-fed.ensures.feeds,
  wants_request c.feed-fed.new.session.fed c.feed-fed.result.refusals (omega arith),
)

pub returns-in-More-clause-ok : goal.returns-in-More-clause-ok
returns-in-More-clause-ok c =
    let e = c.feed-fed.ensures in
    heard_more c.args.portal.now c.feed-fed.new.portal c.args.seat c.feed-fed.result.refusals c.args.session.now c.feed-fed.new.session c.args.bytes.now c.new-written.result c.feed-fed.new.written
    (ap (λ (z : SinkState). z.pieces) c.new-written.ensures) e.opening e.own e.legal (omega arith) c.requires.told c.requires.goes_on
    (subst (λ (r : Fed). Feeds c.args.session.now.fed c.args.session.now (sunk (known_at c.args.portal.now c.args.seat 0) c.new-written.result) c.args.bytes.now r c.feed-fed.new.session (sunk (known_at c.feed-fed.new.portal c.args.seat c.feed-fed.result.refusals) c.feed-fed.new.written)) c.in-More.is c.feed-fed.ensures.feeds)

pub returns-in-Over-clause-ok : goal.returns-in-Over-clause-ok
returns-in-Over-clause-ok c =
    let e = c.feed-fed.ensures in
    heard_last c.args.portal.now c.feed-fed.new.portal c.args.seat c.feed-fed.result.refusals c.args.session.now c.feed-fed.new.session c.args.bytes.now c.new-written.result c.feed-fed.new.written
    (ap (λ (z : SinkState). z.pieces) c.new-written.ensures) e.opening e.own e.legal (omega arith) c.requires.told c.requires.goes_on c.in-Over.served c.requires.space
    (subst (λ (r : Fed). Feeds c.args.session.now.fed c.args.session.now (sunk (known_at c.args.portal.now c.args.seat 0) c.new-written.result) c.args.bytes.now r c.feed-fed.new.session (sunk (known_at c.feed-fed.new.portal c.args.seat c.feed-fed.result.refusals) c.feed-fed.new.written)) c.in-Over.is c.feed-fed.ensures.feeds)
    c.heard_last.result c.heard_last.ensures.written c.heard_last.ensures.over
