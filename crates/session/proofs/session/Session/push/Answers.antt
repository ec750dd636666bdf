use Rattle.std.proofs.Common.{◌≡◌, Ok, Err, ap, sym, ◌∙◌, subst}
use Rattle.portal_base.specs.declared.who.Who.{Who}
use Rattle.session.specs.declared.served.Fed.{Fed}
use Rattle.session.specs.Ledger.{world}
use Rattle.session.specs.Pushes.{Tells, with_fed, with_serial}
use Rattle.session.specs.Standings.{Standing}
use Rattle.session.proofs.ConnectionStaysOpen.{stays_open}
use Rattle.session.proofs.Telling.{not_more, pushed_err, pushed_ok, tells_let}
use Rattle.session.proofs.session.Session.push.Goals as goal

-- what it halted with isn't that it goes on
pub invariant_of-self-in-Err : goal.invariant_of-self-in-Err
invariant_of-self-in-Err g c = record {
  room = c.self.invariant.room;
  too_few = λ more. absurd (not_more c.in-Err.halt _ _ _ c.in-Err.ensures.tells more);
}

pub returns-in-Ok-clause-pushes : goal.returns-in-Ok-clause-pushes
returns-in-Ok-clause-pushes g c =
    let s = c.args.self.now in
    let v = world (g.D.Desk.seated c.args.desk.now) (g.K.Sink.told c.args.sink.now) (g.K.Sink.faults c.args.sink.now) in
    let w = world (g.D.Desk.seated c.serve_untold-told.new.desk) (g.K.Sink.told c.serve_untold-told.new.sink) (g.K.Sink.faults c.serve_untold-told.new.sink) in
    pushed_ok s v w c.in-Ok.serial _ (ap (with_serial c.in-Ok.serial) c.self.view_is) (rw (← c.self.view_is) c.in-Ok.ensures.tells)

pub returns-in-Err-clause-pushes : goal.returns-in-Err-clause-pushes
returns-in-Err-clause-pushes g c =
    let s = c.args.self.now in
    let v = world (g.D.Desk.seated c.args.desk.now) (g.K.Sink.told c.args.sink.now) (g.K.Sink.faults c.args.sink.now) in
    let w = world (g.D.Desk.seated c.serve_untold-told.new.desk) (g.K.Sink.told c.serve_untold-told.new.sink) (g.K.Sink.faults c.serve_untold-told.new.sink) in
    pushed_err c.in-Err.halt s v w _ (ap (with_fed c.in-Err.halt) c.self.view_is) (rw (← c.self.view_is) c.in-Err.ensures.tells)

pub returns-in-Ok-clause-stays_open : goal.returns-in-Ok-clause-stays_open
returns-in-Ok-clause-stays_open g c =
    let v = world (g.D.Desk.seated c.args.desk.now) (g.K.Sink.told c.args.sink.now) (g.K.Sink.faults c.args.sink.now) in
    let w = world (g.D.Desk.seated c.serve_untold-told.new.desk) (g.K.Sink.told c.serve_untold-told.new.sink) (g.K.Sink.faults c.serve_untold-told.new.sink) in
    stays_open c.args.self.now.client v.seated w.seated c.known.ensures c.known-2.ensures (tells_let (Ok c.in-Ok.serial) _ v w c.in-Ok.ensures.tells)

pub returns-in-Err-clause-stays_open : goal.returns-in-Err-clause-stays_open
returns-in-Err-clause-stays_open g c =
    let v = world (g.D.Desk.seated c.args.desk.now) (g.K.Sink.told c.args.sink.now) (g.K.Sink.faults c.args.sink.now) in
    let w = world (g.D.Desk.seated c.serve_untold-told.new.desk) (g.K.Sink.told c.serve_untold-told.new.sink) (g.K.Sink.faults c.serve_untold-told.new.sink) in
    stays_open c.args.self.now.client v.seated w.seated c.known.ensures c.known-2.ensures (tells_let (Err c.in-Err.halt) _ v w c.in-Err.ensures.tells)

-- it is a host's
pub returns-in-Ok-clause-isolated : goal.returns-in-Ok-clause-isolated
returns-in-Ok-clause-isolated g c app is = let no : Who.Host ≡ Who.App app = sym c.requires.host ∙ is in absurd (cc)

pub returns-in-Err-clause-isolated : goal.returns-in-Err-clause-isolated
returns-in-Err-clause-isolated g c app is = let no : Who.Host ≡ Who.App app = sym c.requires.host ∙ is in absurd (cc)
