use Rattle.std.proofs.Common.{rules}
use Rattle.std.proofs.lemmas.Cmp.{nat_list_cmp_total}
use Rattle.std.proofs.lemmas.List.Sorted.{answers_always, ranks_by}
use Rattle.permission_table.specs.Keys.{key_less}
use Rattle.permission_table.proofs.ordered.sort_stably.Goals as goal

pub returns-clause-stable : goal.returns-clause-stable
returns-clause-stable g c =
    let key = g.T.Keyed.key_of in
    c.sort_by.ensures.stable (λ a b. key_less (key a) (key b)) (ranks_by nat_list_cmp_total key) (answers_always _ _ _ (λ f a r q k. search rules))

pub returns-clause-order : goal.returns-clause-order
returns-clause-order g c =
    let key = g.T.Keyed.key_of in
    c.in_ok-sort_by.ensures.sorted (λ a b. key_less (key a) (key b)) (ranks_by nat_list_cmp_total key) (answers_always _ _ _ (λ f a r q k. search rules))
