use Rattle.std.proofs.Common.{rules, List, subst, sym}
use Rattle.std.specs.List.Sorted.{IsSortedBy}
use Rattle.std.proofs.lemmas.Cmp.{nat_list_cmp_total}
use Rattle.std.proofs.lemmas.List.Sorted.{answers_always, ranks_by}
use Rattle.portal_model.specs.declared.reply.DirName.{DirName}
use Rattle.app_view.specs.Entries.{entry_less}
use Rattle.app_view.proofs.order.by_name.Goals as goal

pub returns-clause-order : goal.returns-clause-order
returns-clause-order c =
    subst (λ (es : List DirName). IsSortedBy entry_less es) (sym c.from_vec.ensures)
    (c.sort_unstable_by.ensures.sorted entry_less (ranks_by nat_list_cmp_total (λ (e : DirName). e.name)) (answers_always _ _ _ (λ f a r g k. search rules)))
