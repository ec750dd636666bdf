use Rattle.std.proofs.Common.{◌≡◌, sym, ◌∙◌, ap, subst, List, ℕ, false, ◌||◌}
use Rattle.std.specs.List.{list_any}
use Rattle.portal_base.specs.PathOrder.{path_order}
use Rattle.script_form.specs.Paths.{clash, AreApart}
use Rattle.script_form.proofs.SetFacts.{any_inserted, apart_inserted, none_tied}
use Rattle.script_form.proofs.paths.PathSet.add.Goals as goal

pub invariant_of-self-2 : goal.invariant_of-self-2
invariant_of-self-2 c =
    let old = c.self.inside.paths.keys in
    let clear : list_any (clash c.args.path) old ≡ false = ap (list_any (clash c.args.path)) c.self.view_is ∙ c.requires in
    subst AreApart (sym c.in_ok-insert.ensures.keys) (apart_inserted c.args.path old c.self.invariant clear)

pub returns-clause-ok : goal.returns-clause-ok
returns-clause-ok c = λ test.
    let old = c.self.inside.paths.keys in
    let clear : list_any (clash c.args.path) old ≡ false = ap (list_any (clash c.args.path)) c.self.view_is ∙ c.requires in
    ap (list_any test) c.in_ok-insert.ensures.keys
    ∙ any_inserted path_order c.args.path test old (none_tied c.args.path old clear)
    ∙ ap (λ (paths : List (List ℕ)). test c.args.path || list_any test paths) c.self.view_is
