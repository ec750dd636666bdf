-- The order of triples, and that of grants by their keys.
use Rattle.std.proofs.Common.{◌≡◌, ℕ, ◌==◌, ltb, List, [], ◌∷◌, Bool, true, false, ◌&&◌, cond, Some, refl, sym, ap, subst, ◌∙◌, arith}
use Rattle.std.specs.Cmp.Lexicographic.{slice_partial_cmp}
use Rattle.std.specs.Ordering.{nat_cmp, is_lt, is_some_and}
use Rattle.std.proofs.lemmas.Bool.Decides.{nat_tests}
use Rattle.std.proofs.lemmas.Cmp.{same_from_slice_cmp_tested}
use Rattle.portal_base.specs.Names.{is_same}
use Rattle.portal_model.specs.declared.rights.Right.{Right}
use Rattle.portal_model.specs.declared.rights.Right.TheVariants.{Read, Write, GrantPermissions, Delete}
use Rattle.portal_model.specs.declared.state.Triple.{Triple}
use Rattle.portal_model.specs.State.{bit_of, same_right}
use Rattle.portal_model.specs.Ordered.{bytes_less}
use Rattle.portal_model.specs.Rights.{same_triple, triple_less}
use Rattle.portal_model.proofs.RisingLists.{Order}

pub nat_is : (a b : ℕ) → (a == b) ≡ true → a ≡ b
nat_is a b h = grind (arith, nat_tests)

pub nat-itself : (a : ℕ) → (a == a) ≡ true
nat-itself a = grind (arith, nat_tests)

-- ---- texts

pub is_same-eq : (a b : List ℕ) → is_same a b ≡ true → a ≡ b
is_same-eq [] [] h = refl
is_same-eq [] (y ∷ ys) h = cc
is_same-eq (x ∷ xs) [] h = cc
is_same-eq (x ∷ xs) (y ∷ ys) h = grind (arith, nat_tests, is_same-eq xs ys)

pub is_same-refl : (a : List ℕ) → is_same a a ≡ true
is_same-refl [] = refl
is_same-refl (x ∷ xs) = grind (arith, nat_tests, is_same-refl xs)

pub is_same-sym : (a b : List ℕ) → is_same a b ≡ is_same b a
is_same-sym [] [] = refl
is_same-sym [] (y ∷ ys) = refl
is_same-sym (x ∷ xs) [] = refl
is_same-sym (x ∷ xs) (y ∷ ys) = grind (arith, nat_tests, is_same-sym xs ys)

pub bytes-irreflexive : (a : List ℕ) → bytes_less a a ≡ false
bytes-irreflexive [] = refl
bytes-irreflexive (x ∷ xs) = grind (arith, nat_tests, bytes-irreflexive xs)

pub bytes-total : (a b : List ℕ) → bytes_less a b ≡ false → bytes_less b a ≡ false → a ≡ b
bytes-total [] [] h l = refl
bytes-total [] (y ∷ ys) h l = cc
bytes-total (x ∷ xs) [] h l = cc
bytes-total (x ∷ xs) (y ∷ ys) h l = grind (arith, nat_tests, bytes-total xs ys)

pub bytes-through : (a b c : List ℕ) → bytes_less a b ≡ true → bytes_less b c ≡ true → bytes_less a c ≡ true
bytes-through [] [] c h l = cc
bytes-through [] (y ∷ ys) [] h l = cc
bytes-through [] (y ∷ ys) (z ∷ zs) h l = refl
bytes-through (x ∷ xs) [] c h l = cc
bytes-through (x ∷ xs) (y ∷ ys) [] h l = cc
bytes-through (x ∷ xs) (y ∷ ys) (z ∷ zs) h l = grind (arith, nat_tests, bytes-through xs ys zs)

-- the order is that of slices
pub bytes-compared : (a b : List ℕ) (r : Bool) → r ≡ is_some_and is_lt (slice_partial_cmp (λ x y. Some (nat_cmp x y)) a b) → r ≡ bytes_less a b
bytes-compared = same_from_slice_cmp_tested nat_cmp is_lt bytes_less refl (λ _ _. refl) (λ _ _. refl) (λ x y xs ys o h. grind (arith, nat_tests))

-- ---- triples

same-true : (a b : List ℕ) → a ≡ b → is_same a b ≡ true
same-true a b e = subst (λ (x : List ℕ). is_same a x ≡ true) e (is_same-refl a)

same_numbers : (t u : Triple) → triple_less t u ≡ false → triple_less u t ≡ false → t.id.number ≡ u.id.number
same_numbers t u h l = grind (arith, nat_tests)

same_apps : (t u : Triple) → triple_less t u ≡ false → triple_less u t ≡ false → t.app ≡ u.app
same_apps t u h l = grind (arith, nat_tests, is_same-eq t.app u.app, is_same-sym t.app u.app, bytes-total t.app u.app)

same_bits : (t u : Triple) → triple_less t u ≡ false → triple_less u t ≡ false → bit_of t.right ≡ bit_of u.right
same_bits t u h l =
    let a : is_same t.app u.app ≡ true = same-true t.app u.app (same_apps t u h l) in
    let b : is_same u.app t.app ≡ true = same-true u.app t.app (sym (same_apps t u h l)) in
    grind (arith, nat_tests)

right_of_bit : ℕ → Right
right_of_bit n = cond (n == 1) Read (cond (n == 2) Write (cond (n == 4) GrantPermissions Delete))

right_of-bit_of : (a : Right) → right_of_bit (bit_of a) ≡ a
unfolding right_of_bit
right_of-bit_of Read = refl
right_of-bit_of Write = refl
right_of-bit_of GrantPermissions = refl
right_of-bit_of Delete = refl

pub bits-apart : (a b : Right) → bit_of a ≡ bit_of b → a ≡ b
bits-apart a b e = sym (right_of-bit_of a) ∙ (ap right_of_bit e ∙ right_of-bit_of b)

triples-total : (t u : Triple) → triple_less t u ≡ false → triple_less u t ≡ false → t ≡ u
triples-total t u h l = λ i. record {
  app = same_apps t u h l i;
  id = record { number = same_numbers t u h l i };
  right = bits-apart t.right u.right (same_bits t u h l) i;
}

same_triple-eq : (t u : Triple) → same_triple t u ≡ true → t ≡ u
same_triple-eq t u h =
    let a : is_same t.app u.app ≡ true = grind arith in
    let b : (t.id.number == u.id.number) ≡ true = grind arith in
    let c : same_right t.right u.right ≡ true = grind arith in
    λ i. record { app = is_same-eq t.app u.app a i; id = record { number = nat_is t.id.number u.id.number b i }; right = bits-apart t.right u.right (nat_is (bit_of t.right) (bit_of u.right) c) i }

same_triple-itself : (t : Triple) → same_triple t t ≡ true
same_triple-itself t = grind (arith, nat_tests, is_same-refl t.app)

triple-irreflexive : (t : Triple) → triple_less t t ≡ false
triple-irreflexive t = grind (arith, nat_tests, is_same-refl t.app)

triple-through : (t u w : Triple) → triple_less t u ≡ true → triple_less u w ≡ true → triple_less t w ≡ true
triple-through t u w h l = grind (arith, nat_tests, is_same-eq t.app u.app, is_same-eq u.app w.app, is_same-eq t.app w.app, is_same-refl t.app, bytes-through t.app u.app w.app, bytes-irreflexive t.app)

pub triples : Order triple_less same_triple
triples = record { eq = same_triple-eq; itself = same_triple-itself; irreflexive = triple-irreflexive; total = triples-total; through = triple-through }

-- ---- keys of grants: a number and a name

pub record Key : Type 0 where
  pub number : ℕ
  pub app : List ℕ

abbrev pub key_less : Key → Key → Bool
key_less j k = cond (j.number == k.number) (bytes_less j.app k.app) (ltb j.number k.number)

abbrev pub same_key : Key → Key → Bool
same_key j k = (j.number == k.number) && is_same j.app k.app

key-eq : (j k : Key) → same_key j k ≡ true → j ≡ k
key-eq j k h =
    let a : (j.number == k.number) ≡ true = grind arith in
    let b : is_same j.app k.app ≡ true = grind arith in
    λ i. record { number = nat_is j.number k.number a i; app = is_same-eq j.app k.app b i }

key-itself : (k : Key) → same_key k k ≡ true
key-itself k = grind (arith, nat_tests, is_same-refl k.app)

key-irreflexive : (k : Key) → key_less k k ≡ false
key-irreflexive k = grind (arith, nat_tests, bytes-irreflexive k.app)

key-numbers : (j k : Key) → key_less j k ≡ false → key_less k j ≡ false → j.number ≡ k.number
key-numbers j k h l = grind (arith, nat_tests)

key-apps : (j k : Key) → key_less j k ≡ false → key_less k j ≡ false → j.app ≡ k.app
key-apps j k h l = grind (arith, nat_tests, bytes-total j.app k.app)

key-total : (j k : Key) → key_less j k ≡ false → key_less k j ≡ false → j ≡ k
key-total j k h l = λ i. record { number = key-numbers j k h l i; app = key-apps j k h l i }

key-through : (j k m : Key) → key_less j k ≡ true → key_less k m ≡ true → key_less j m ≡ true
key-through j k m h l = grind (arith, nat_tests, bytes-through j.app k.app m.app)

pub keys : Order key_less same_key
keys = record { eq = key-eq; itself = key-itself; irreflexive = key-irreflexive; total = key-total; through = key-through }
