use Rattle.std.proofs.Common.{rules, List, subst, sym}
use Rattle.std.specs.List.Sorted.{IsSortedBy}
use Rattle.std.proofs.lemmas.Cmp.{nat_list_cmp_total}
use Rattle.std.proofs.lemmas.List.Sorted.{answers_always, ranks_by}
use Rattle.portal_base.specs.declared.files.File.{File}
use Rattle.app_trace.specs.Contents.{file_less}
use Rattle.app_trace.proofs.contents.files_by_bytes.Goals as goal

pub returns-clause-order : goal.returns-clause-order
returns-clause-order c =
    subst (λ (ps : List File). IsSortedBy file_less ps) (sym c.from_vec.ensures)
    (c.sort_unstable_by.ensures.sorted file_less (ranks_by nat_list_cmp_total (λ (f : File). f.path)) (answers_always _ _ _ (λ f a r g k. search rules)))
