-- The laws of the order of names, which is that of their bytes.
use Rattle.std.specs.Prelude.{◌≡◌, ℕ, List}
use Rattle.std.specs.Ordering.{eq_by_cmp, nat_cmp}
use Rattle.std.specs.Cmp.{unsigned_ties}
use Rattle.std.specs.Cmp.Lexicographic.{slice_cmp, lists_ties}
use Rattle.portal_base.specs.Names.{is_same}

pub byte_order_ties : (a b : List ℕ) → is_same a b ≡ eq_by_cmp (slice_cmp nat_cmp) a b
byte_order_ties = lists_ties nat_cmp unsigned_ties
