use Rattle.std.proofs.Common.{sym, ◌∙◌, ap}
use Rattle.std.specs.List.{list_any}
use Rattle.portal_model.specs.Content.{is_above}
use Rattle.script_form.proofs.SetFacts.{last_above, above_by_last, seen_ahead}
use Rattle.script_form.proofs.paths.PathSet.has_above.Goals as goal

pub returns-in-Some : goal.returns-in-Some
returns-in-Some c =
    let path = c.args.path.now in
    c.lies_above.ensures
    ∙ ((λ i. is_above (c.as_bytes.ensures.bytes i) (c.as_bytes-in-Some.ensures.bytes i))
    ∙ (above_by_last path _ _ _ c.in-Some.ensures.steps
    ∙ (ap (last_above path) (c.range-ahead.ensures.between tt)
    ∙ (seen_ahead path c.self.inside.paths.keys c.range-ahead.ensures.ordered c.self.invariant
    ∙ ap (list_any (λ other. is_above other path)) c.self.view_is))))

pub returns-in-None : goal.returns-in-None
returns-in-None c =
    let path = c.args.path.now in
    ap (last_above path) (sym c.in-None.ensures.steps.0 ∙ c.range-ahead.ensures.between tt)
    ∙ (seen_ahead path c.self.inside.paths.keys c.range-ahead.ensures.ordered c.self.invariant
    ∙ ap (list_any (λ other. is_above other path)) c.self.view_is)
