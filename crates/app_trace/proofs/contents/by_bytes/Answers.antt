use Rattle.std.proofs.Common.{ℕ, rules, List, subst, sym}
use Rattle.std.specs.List.Sorted.{IsSortedBy}
use Rattle.std.proofs.lemmas.Cmp.{nat_list_cmp_total}
use Rattle.std.proofs.lemmas.List.Sorted.{answers_always, ranks_by}
use Rattle.app_trace.specs.Contents.{path_less}
use Rattle.app_trace.proofs.contents.by_bytes.Goals as goal

pub returns-clause-order : goal.returns-clause-order
returns-clause-order c =
    subst (λ (ps : List (List ℕ)). IsSortedBy path_less ps) (sym c.from_vec.ensures)
    (c.sort_unstable_by.ensures.sorted path_less (ranks_by nat_list_cmp_total (λ (p : List ℕ). p)) (answers_always _ _ _ (λ f a r g k. search rules)))
