use Rattle.std.proofs.Common.{ℕ, List, ◌∙◌, rules, tests}
use Rattle.std.proofs.lemmas.Iterator.Search.{any_from_yields_List}
use Rattle.std.proofs.lemmas.Iterator.{YieldsList-from_slice}
use Rattle.portal_base.specs.Names.{is_same, root}
use Rattle.add_files.specs.declared.plan.PlanItem.{PlanItem}
use Rattle.add_calls.proofs.KindLemmas.{any-path}
use Rattle.add_calls.proofs.kinds.has_root.Goals as goal

pub returns : goal.returns
returns c =
    any_from_yields_List (λ (item : PlanItem). is_same item.path root) _ _ c.any.result c.any.ensures.ran (YieldsList-from_slice c.args.items.now cc) (λ x b q k. search (rules, tests))
    ∙ any-path (λ (path : List ℕ). is_same path root) c.args.items.now
