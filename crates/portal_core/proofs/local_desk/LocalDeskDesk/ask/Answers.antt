use Rattle.std.proofs.Common.{rules}
use Rattle.portal_core.proofs.Desks.{asked, denied, goes_on, goes_refused}
use Rattle.portal_core.proofs.local_desk.LocalDeskDesk.ask.Goals as goal

pub returns-in-Ok-clause-asks : goal.returns-in-Ok-clause-asks
returns-in-Ok-clause-asks g c =
    let d = c.args.self.now in
    let t = g.S.Storied in
    asked (λ e. t.says d.portal.now e c.ask.new.self) (t.opening d.portal.now) (t.opening c.ask.new.self) (t.entries d.portal.now) (t.entries c.ask.new.self) d.seat d.refusals c.args.request c.in-Ok.reply c.in-Ok.ensures.opening c.in-Ok.ensures.answered

pub returns-in-Ok-clause-goes : goal.returns-in-Ok-clause-goes
returns-in-Ok-clause-goes g c =
    let d = c.args.self.now in
    let t = g.S.Storied in
    (search rules, goes_on t.says t.spends t.refusals d.portal.now c.ask.new.self (t.opening d.portal.now) (t.opening c.ask.new.self) (t.entries d.portal.now) (t.entries c.ask.new.self) d.seat d.refusals c.args.request c.in-Ok.reply c.in-Ok.ensures.opening c.in-Ok.ensures.uncounted c.in-Ok.ensures.answered)

pub returns-in-Err-clause-goes : goal.returns-in-Err-clause-goes
returns-in-Err-clause-goes g c =
    let d = c.args.self.now in
    let t = g.S.Storied in
    (search rules, goes_refused t.says t.spends t.refusals d.portal.now c.ask.new.self (t.opening d.portal.now) (t.opening c.ask.new.self) (t.entries d.portal.now) (t.entries c.ask.new.self) d.seat d.refusals _ c.args.request c.in-Err.ensures.opening c.in-Err.ensures.refused (search rules) c.in-Err.ensures.counted c.in-Err.ensures.spent)

pub returns-in-Err-clause-asks : goal.returns-in-Err-clause-asks
returns-in-Err-clause-asks g c =
    let d = c.args.self.now in
    let t = g.S.Storied in
    denied (t.opening d.portal.now) (t.opening c.ask.new.self) (t.entries d.portal.now) (t.entries c.ask.new.self) d.seat d.refusals _ c.args.request c.in-Err.refused c.in-Err.ensures.opening c.in-Err.ensures.refused (search rules) c.in-Err.ensures.cause (search rules)
