-- The laws of the order of paths.
use Rattle.std.proofs.Common.{◌≡◌, ℕ, ◌==◌, List, arith}
use Rattle.std.proofs.lemmas.Bool.Decides.{nat_tests}
use Rattle.std.specs.Ordering.{eq_by_cmp}
use Rattle.std.specs.Cmp.{IsTotalOrder, on_total, nat_cmp_total}
use Rattle.std.specs.Cmp.Lexicographic.{lists_total, lists_ties}
use Rattle.portal_base.specs.Names.{is_same}
use Rattle.portal_base.specs.PathOrder.{place_of_byte, byte_order, path_order}

pub path_order_total : IsTotalOrder path_order
path_order_total = lists_total (on_total place_of_byte nat_cmp_total)

byte_order_ties : (a b : ℕ) → (a == b) ≡ eq_by_cmp byte_order a b
byte_order_ties a b = grind (arith, nat_tests)

pub path_order_ties : (a b : List ℕ) → is_same a b ≡ eq_by_cmp path_order a b
path_order_ties = lists_ties byte_order byte_order_ties
