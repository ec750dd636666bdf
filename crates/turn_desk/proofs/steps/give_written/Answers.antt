use Rattle.std.proofs.Common.{rules, ap, sym, ◌∙◌, ◌++◌, ◌∷◌, []}
use Rattle.turn_desk.proofs.Turns.{adds_to, frees_from}
use Rattle.turn_desk.proofs.steps.give_written.Goals as goal

pub fetch_add-requires : goal.fetch_add-requires
fetch_add-requires g c =
    let m = c.put.ensures.2 in
    let e = c.requires.entry in (
      search rules,
      search rules,
      adds_to g.S.Storied.opening g.S.Storied.entries _ _ _ _ c.args.portal e.0
          (ap (λ z. z.0.holds) m ∙ c.requires.seat.1)
          (ap (λ z. z.1) m)
          (e.1 ∙ sym (ap (λ z. z.0.found ++ e.0 ∷ []) m))
          (e.2 ∙ sym (ap (λ z. z.0.number) m))
          c.requires.short,
    )

pub swap-requires : goal.swap-requires
swap-requires g c =
    let m = c.put.ensures.2 in
    let e = c.requires.entry in
    let w = c.fetch_add.ensures.2 c.args.portal e.0 (ap (λ z. z.1) m) (e.1 ∙ sym (ap (λ z. z.0.found ++ e.0 ∷ []) m)) in (
      search rules,
      search rules,
      frees_from g.S.Storied.opening g.S.Storied.entries _ _ _ _ c.args.portal
          (ap (λ z. z.0.holds) w ∙ (ap (λ z. z.0.holds) m ∙ c.requires.seat.1))
          (ap (λ z. z.1) w ∙ ap (λ z. z.1) m)
          (e.1 ∙ (sym (ap (λ z. z.0.found ++ e.0 ∷ []) m) ∙ sym (ap (λ z. z.0.found) w)))
          (c.requires.seat.2 ∙ (sym (ap (λ z. z.0.opening) m) ∙ sym (ap (λ z. z.0.opening) w))),
    )
