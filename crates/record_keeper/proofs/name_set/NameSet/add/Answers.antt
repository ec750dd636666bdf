use Rattle.std.proofs.Common.{◌∙◌, ap, List, ℕ, ◌||◌}
use Rattle.std.specs.Cmp.Lexicographic.{slice_cmp}
use Rattle.std.specs.List.{list_any}
use Rattle.std.specs.Ordering.{nat_cmp}
use Rattle.portal_base.specs.Names.{is_same}
use Rattle.record_keeper.proofs.NameSets.{same_as_tied, any_inserted}
use Rattle.record_keeper.proofs.name_set.NameSet.add.Goals as goal

pub returns-clause-ok : goal.returns-clause-ok
returns-clause-ok c = λ test.
    let name = c.args.name in
    let old = c.self.inside.names.keys in
    ap (list_any test) c.in_ok-insert.ensures.keys
    ∙ any_inserted (slice_cmp nat_cmp) name test old (same_as_tied name old ∙ ap (list_any (is_same name)) c.self.view_is ∙ c.requires)
    ∙ ap (λ (names : List (List ℕ)). test name || list_any test names) c.self.view_is
