use Rattle.std.proofs.Common.{rules, ap, sym, ◌∙◌, ◌∷◌, Some}
use Rattle.atomic_table.specs.Table.{rest}
use Rattle.turn_desk.proofs.Turns.{tries_as}
use Rattle.turn_desk.proofs.steps.try_take.Goals as goal

pub compare_exchange-found-requires : goal.compare_exchange-found-requires
compare_exchange-found-requires g c = (search rules, search rules, tries_as g.S.Storied.opening g.S.Storied.entries _ _ _ _ _ c.requires.seat.0 c.requires.seat.1 c.requires.seat.2)

pub exchange-requires : goal.exchange-requires
exchange-requires g c =
    let t = c.compare_exchange-found.ensures.2.0 c.if-found-ne0.false in
    (search rules, (Some t.value, t.carried ∙ ap (λ cs. (0, Some t.value) ∷ rest cs) (sym t.carried)))
