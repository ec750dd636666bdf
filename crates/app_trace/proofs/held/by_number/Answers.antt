use Rattle.std.proofs.Common.{rules, List, subst, sym}
use Rattle.std.specs.List.Sorted.{IsSortedBy}
use Rattle.std.proofs.lemmas.Cmp.{nat_cmp_total}
use Rattle.std.proofs.lemmas.List.Sorted.{answers_always, ranks_by}
use Rattle.app_trace.specs.declared.view.HeldDocument.{HeldDocument}
use Rattle.app_trace.specs.Held.{number_less}
use Rattle.app_trace.proofs.held.by_number.Goals as goal

pub returns-clause-order : goal.returns-clause-order
returns-clause-order c =
    subst (λ (ds : List HeldDocument). IsSortedBy number_less ds) (sym c.from_vec.ensures)
    (c.sort_unstable_by.ensures.sorted number_less (ranks_by nat_cmp_total (λ (d : HeldDocument). d.document.id.number)) (answers_always _ _ _ (λ f a r g k. search rules)))
