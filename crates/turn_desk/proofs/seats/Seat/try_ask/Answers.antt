use Rattle.std.proofs.Common.{rules, ◌∙◌, subst}
use Rattle.portal_model.specs.declared.asked.Asked.TheVariants as Asked
use Rattle.turn_desk.specs.Asking.{Tries}
use Rattle.turn_desk.specs.Sights.{Sight}
use Rattle.turn_desk.proofs.Answering.{answers, refuses, sight}
use Rattle.turn_desk.proofs.seats.Seat.try_ask.Goals as goal

pub invariant_of-self-in-Ok-ask : goal.invariant_of-self-in-Ok-ask
invariant_of-self-in-Ok-ask g c =
    let s = g.S.Storied in
    let i = c.self.inside in
    let t = c.in-Ok.ensures.answer in
    let a = c.in-Ok-ask.ensures in
    let w = c.give_written.new.place in
    let x = answers i.place.table_id w.table_id i.place.me.0 i.refusals (s.opening c.in-Ok.portal) (s.opening c.ask.new.self) (s.entries c.in-Ok.portal) (s.entries c.ask.new.self) c.try_take.new.place.me w.me
    c.self.invariant.3 (c.give_written.ensures.same.0 ∙ c.in-Ok.ensures.same.0) t.0 t.1 t.2 t.3 a.opening a.legal a.within
    i.number c.args.request c.in-Ok-ask.reply _ c.self.invariant.2 a.answered c.give_written.ensures.view in
    (search rules, x.carried, c.self.invariant.2 ∙ x.number, x.rest)

pub returns-in-Ok-ask : goal.returns-in-Ok-ask
returns-in-Ok-ask g c =
    let s = g.S.Storied in
    let i = c.self.inside in
    let t = c.in-Ok.ensures.answer in
    let a = c.in-Ok-ask.ensures in
    let w = c.give_written.new.place in
    let x = answers i.place.table_id w.table_id i.place.me.0 i.refusals (s.opening c.in-Ok.portal) (s.opening c.ask.new.self) (s.entries c.in-Ok.portal) (s.entries c.ask.new.self) c.try_take.new.place.me w.me
    c.self.invariant.3 (c.give_written.ensures.same.0 ∙ c.in-Ok.ensures.same.0) t.0 t.1 t.2 t.3 a.opening a.legal a.within
    i.number c.args.request c.in-Ok-ask.reply _ c.self.invariant.2 a.answered c.give_written.ensures.view in
    subst (λ (z : Sight). Tries z c.args.request (Asked.Answered c.in-Ok-ask.reply) (sight w.table_id w.me.0 i.refusals)) c.self.view_is x.tries

pub returns-in-Err-ask : goal.returns-in-Err-ask
returns-in-Err-ask g c =
    let s = g.S.Storied in
    let i = c.self.inside in
    let t = c.in-Ok.ensures.answer in
    let a = c.in-Err-ask.ensures in
    let w = c.give_same.new.place in
    let x = refuses i.place.table_id w.table_id i.place.me.0 i.refusals (s.opening c.in-Ok.portal) (s.opening c.ask.new.self) (s.entries c.in-Ok.portal) (s.entries c.ask.new.self) c.try_take.new.place.me w.me
    c.self.invariant.3 (c.give_same.ensures.same.0 ∙ c.in-Ok.ensures.same.0) t.0 t.1 t.2 t.3 a.opening a.legal a.within
    c.args.request c.in-Err-ask.refused c.saturating_add-self-inside.result i.number c.self.invariant.2 a.refused a.cause a.leave (search rules) c.give_same.ensures.view in
    subst (λ (z : Sight). Tries z c.args.request (Asked.Refused c.in-Err-ask.refused) (sight w.table_id w.me.0 c.saturating_add-self-inside.result)) c.self.view_is x
