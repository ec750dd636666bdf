use Rattle.std.proofs.Common.{sym, ◌∙◌, ap}
use Rattle.std.specs.List.{list_any}
use Rattle.portal_model.specs.Content.{is_above}
use Rattle.script_form.proofs.SetFacts.{first_below, seen_behind}
use Rattle.script_form.proofs.paths.PathSet.has_below.Goals as goal

pub returns-in-Some : goal.returns-in-Some
returns-in-Some c =
    let path = c.args.path.now in
    c.lies_above.ensures
    ∙ ((λ i. is_above (c.as_bytes.ensures.bytes i) (c.as_bytes-in-Some.ensures.bytes i))
    ∙ (ap (first_below path) (sym c.in-Some.ensures.steps ∙ c.range-behind.ensures.between tt)
    ∙ (seen_behind path c.self.inside.paths.keys c.range-behind.ensures.ordered
    ∙ ap (list_any (is_above path)) c.self.view_is)))

pub returns-in-None : goal.returns-in-None
returns-in-None c =
    let path = c.args.path.now in
    ap (first_below path) (sym c.in-None.ensures.steps.0 ∙ c.range-behind.ensures.between tt)
    ∙ (seen_behind path c.self.inside.paths.keys c.range-behind.ensures.ordered
    ∙ ap (list_any (is_above path)) c.self.view_is)
