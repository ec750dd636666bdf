use Rattle.std.proofs.Common.{Ok, Err, subst}
use Rattle.portal_base.specs.declared.who.Who.{Who}
use Rattle.portal_model.specs.declared.request.Request.{Request}
use Rattle.portal_model.specs.Seated.{Asks}
use Rattle.session.proofs.OwnEntries.{still_isolated}
use Rattle.session.proofs.SessionCalls.{enter_asked, enter_asked_isolated, enter_refused, enter_refused_isolated, whatever_err}
use Rattle.session.proofs.session.enter.Goals as goal

pub returns-in_err-asked-clause-still_closed : goal.returns-in_err-asked-clause-still_closed
returns-in_err-asked-clause-still_closed g c =
    let v = g.D.Desk.seated c.args.desk.now in
    let w = g.D.Desk.seated c.ask-asked.new.self in
    let asks = subst (λ (x : Who). Asks v (Request.Enter x c.args.kind) (Err c.in_err-asked.field-0.0) w) c.in_ok-replica.ensures c.in_err-asked.ensures.asks in
    whatever_err c.from_residual-in_err-asked.result (enter_refused c.args.who.now c.args.kind v w c.in_err-asked.field-0.0 c.known.ensures c.known-2.ensures c.requires asks)

pub returns-clause-open_now : goal.returns-clause-open_now
returns-clause-open_now g c =
    let v = g.D.Desk.seated c.args.desk.now in
    let w = g.D.Desk.seated c.ask-asked.new.self in
    let asks = subst (λ (x : Who). Asks v (Request.Enter x c.args.kind) (Ok c.in_ok-asked.field-0) w) c.in_ok-replica.ensures c.in_ok-asked.ensures.asks in
    enter_asked c.args.who.now c.args.kind v w c.in_ok-asked.field-0 c.known.ensures c.known-2.ensures c.requires asks

pub returns-in_err-replica-clause-isolated : goal.returns-in_err-replica-clause-isolated
returns-in_err-replica-clause-isolated g c = still_isolated c.args.who.now (g.D.Desk.seated c.args.desk.now)

pub returns-in_err-asked-clause-isolated : goal.returns-in_err-asked-clause-isolated
returns-in_err-asked-clause-isolated g c =
    let v = g.D.Desk.seated c.args.desk.now in
    let w = g.D.Desk.seated c.ask-asked.new.self in
    let asks = subst (λ (x : Who). Asks v (Request.Enter x c.args.kind) (Err c.in_err-asked.field-0.0) w) c.in_ok-replica.ensures c.in_err-asked.ensures.asks in
    enter_refused_isolated c.args.who.now c.args.kind v w c.in_err-asked.field-0.0 c.known.ensures c.known-2.ensures asks

pub returns-clause-isolated : goal.returns-clause-isolated
returns-clause-isolated g c =
    let v = g.D.Desk.seated c.args.desk.now in
    let w = g.D.Desk.seated c.ask-asked.new.self in
    let asks = subst (λ (x : Who). Asks v (Request.Enter x c.args.kind) (Ok c.in_ok-asked.field-0) w) c.in_ok-replica.ensures c.in_ok-asked.ensures.asks in
    enter_asked_isolated c.args.who.now c.args.kind v w c.in_ok-asked.field-0 c.known.ensures c.known-2.ensures c.requires asks
