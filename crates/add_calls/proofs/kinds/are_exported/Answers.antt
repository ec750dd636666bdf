use Rattle.std.proofs.Common.{Bool, not, ◌&&◌, sym, ap, ◌∙◌, rules, tests}
use Rattle.std.specs.List.{list_all}
use Rattle.std.proofs.lemmas.Iterator.{YieldsList-from_slice}
use Rattle.std.proofs.lemmas.Iterator.Search.{all_from_yields_List}
use Rattle.portal_model.specs.Add.{is_folder_look}
use Rattle.add_calls.proofs.kinds.are_exported.Goals as goal

pub returns-then-not-has_root : goal.returns-then-not-has_root
returns-then-not-has_root c =
    all_from_yields_List is_folder_look _ _ c.all.result c.all.ensures.ran (YieldsList-from_slice c.args.looks.now cc) (λ x b q k. search (rules, tests))
    ∙ ap (λ (b : Bool). not b && list_all is_folder_look c.args.looks.now) (sym c.if-not-has_root.true ∙ c.has_root.ensures)
