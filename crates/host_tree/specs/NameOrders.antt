-- The laws of the order of names.
use Rattle.std.proofs.Common.{◌≡◌, ℕ, ◌==◌, List, arith}
use Rattle.std.proofs.lemmas.Bool.Decides.{nat_tests}
use Rattle.std.specs.Ordering.{eq_by_cmp, nat_cmp}
use Rattle.std.specs.Cmp.{IsTotalOrder, nat_cmp_total}
use Rattle.std.specs.Cmp.Lexicographic.{lists_total, lists_ties}
use Rattle.portal_base.specs.Names.{is_same}
use Rattle.portal_base.specs.NameOrder.{name_order}

pub name_order_total : IsTotalOrder name_order
name_order_total = lists_total nat_cmp_total

bytes_tie : (a b : ℕ) → (a == b) ≡ eq_by_cmp nat_cmp a b
bytes_tie a b = grind (arith, nat_tests)

pub name_order_ties : (a b : List ℕ) → is_same a b ≡ eq_by_cmp name_order a b
name_order_ties = lists_ties nat_cmp bytes_tie
