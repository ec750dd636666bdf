use Rattle.std.proofs.Common.{sym, ◌∙◌, ap}
use Rattle.std.specs.List.{list_any}
use Rattle.portal_model.specs.Content.{is_above}
use Rattle.script_form.specs.Paths.{clash}
use Rattle.script_form.proofs.SetFacts.{clash_same, clash_above, clash_below}
use Rattle.script_form.proofs.paths.PathSet.has_clash.Goals as goal

pub returns-then-contains : goal.returns-then-contains
returns-then-contains c =
    let path = c.args.path.now in
    let keys = c.self.inside.paths.keys in
    sym (clash_same path keys (sym c.if-contains.ensures)) ∙ ap (list_any (clash path)) c.self.view_is

pub returns-then-has_above : goal.returns-then-has_above
returns-then-has_above c =
    let path = c.args.path.now in
    let keys = c.self.inside.paths.keys in
    sym (clash_above path keys (ap (list_any (λ other. is_above other path)) c.self.view_is ∙ sym c.if-has_above.ensures)) ∙ ap (list_any (clash path)) c.self.view_is

pub returns : goal.returns
returns c =
    let path = c.args.path.now in
    let keys = c.self.inside.paths.keys in
    clash_below path keys c.has_below.result (sym c.if-contains.ensures) (ap (list_any (λ other. is_above other path)) c.self.view_is ∙ sym c.if-has_above.ensures)
    (c.has_below.ensures ∙ ap (list_any (is_above path)) (sym c.self.view_is))
    ∙ ap (list_any (clash path)) c.self.view_is
