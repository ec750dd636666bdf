use Rattle.std.proofs.Common.{rules, ap, sym, ◌∙◌}
use Rattle.turn_desk.proofs.Turns.{frees_from}
use Rattle.turn_desk.proofs.steps.give_same.Goals as goal

pub swap-requires : goal.swap-requires
swap-requires g c =
    let m = c.put.ensures.2 in (
      search rules,
      search rules,
      frees_from g.S.Storied.opening g.S.Storied.entries _ _ _ _ c.args.portal
          (ap (λ z. z.0.holds) m ∙ c.requires.seat.1)
          (ap (λ z. z.1) m)
          (c.requires.same ∙ sym (ap (λ z. z.0.found) m))
          (c.requires.seat.2 ∙ sym (ap (λ z. z.0.opening) m)),
    )
