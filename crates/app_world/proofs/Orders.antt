-- Numbers and paths are ordered.
use Rattle.std.proofs.Common.{◌==◌, nat_lt, arith}
use Rattle.std.proofs.lemmas.Bool.Decides.{nat_tests}
use Rattle.portal_base.specs.Names.{is_same}
use Rattle.portal_model.specs.Ordered.{bytes_less}
use Rattle.portal_model.proofs.RisingLists.{Order}
use Rattle.portal_model.proofs.TripleOrder.{bytes-irreflexive, bytes-through, bytes-total, is_same-eq, is_same-refl, nat-itself, nat_is}

pub numbers : Order nat_lt (λ a b. a == b)
numbers = record {
  eq = nat_is;
  itself = nat-itself;
  irreflexive = λ a. grind (arith, nat_tests);
  total = λ a b h l. grind (arith, nat_tests);
  through = λ a b c h l. grind (arith, nat_tests);
}

pub paths : Order bytes_less is_same
paths = record { eq = is_same-eq; itself = is_same-refl; irreflexive = bytes-irreflexive; total = bytes-total; through = bytes-through }
