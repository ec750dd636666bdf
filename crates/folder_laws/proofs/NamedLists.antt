-- A list of namings that gets one more: what stood under a number stands there still, and the new one has its number.
use Rattle.std.proofs.Common.{◌≡◌, ◌<◌, ℕ, zero, suc, ◌+◌, ◌-◌, ◌==◌, List, [], ◌∷◌, ◌++◌, length, Bool, true, false, not, ◌&&◌, ◌||◌, cond, Some, None, refl, sym, ap, ◌∙◌, arith}
use Rattle.std.specs.List.{list_all, list_any, position_or_len, slice_get}
use Rattle.std.proofs.lemmas.Bool.Decides.{nat_tests}
use Rattle.std.proofs.lemmas.Option.{slice_get_within}
use Rattle.portal_base.specs.Names.{is_same}
use Rattle.portal_model.specs.declared.naming.Naming.{Naming}
use Rattle.portal_model.specs.SeatNames.{is_named_before, naming_of, number_of_naming, same_naming, with_naming}
use Rattle.portal_model.proofs.DocumentChanges.{first_of_both, second_of_both}
use Rattle.portal_model.proofs.ListLookups.{is_same-eq, nat_is}

-- ---- places

got-more : {X : Type 0} (xs ys : List X) (i : ℕ) (x : X) → slice_get xs i ≡ Some x → slice_get (xs ++ ys) i ≡ Some x
got-more [] ys i x e = cc
got-more (y ∷ xs) ys zero x e = e
got-more (y ∷ xs) ys (suc i) x e = got-more xs ys i x e

got-last : {X : Type 0} (xs : List X) (x : X) → slice_get (xs ++ x ∷ []) (length xs) ≡ Some x
got-last [] x = refl
got-last (y ∷ xs) x = got-last xs x

pub got-passes : {X : Type 0} (p : X → Bool) (xs : List X) (i : ℕ) (x : X) → slice_get xs i ≡ Some x → list_all p xs ≡ true → p x ≡ true
got-passes p [] i x e h = cc
got-passes p (y ∷ xs) zero x e h = let same : y ≡ x = cc in ap p (sym same) ∙ first_of_both (p y) (list_all p xs) h
got-passes p (y ∷ xs) (suc i) x e h = got-passes p xs i x e (second_of_both (p y) (list_all p xs) h)

-- ---- numbers, which are places from 1

pub number-at : (ns : List Naming) (i : ℕ) (n : Naming) → slice_get ns i ≡ Some n → naming_of ns (i + 1) ≡ Some n
number-at ns i n e =
    let some : (i + 1 == 0) ≡ false = grind (arith, nat_tests) in
    let back : i + 1 - 1 ≡ i = omega arith in
    (λ j. cond (some j) None (slice_get ns (back j))) ∙ e

pub at-number : (ns : List Naming) (k : ℕ) (n : Naming) → naming_of ns k ≡ Some n → slice_get ns (k - 1) ≡ Some n
at-number ns k n e = step (k == 0) e
  where
    step : (b : Bool) → cond b None (slice_get ns (k - 1)) ≡ Some n → slice_get ns (k - 1) ≡ Some n
    step true h = cc
    step false h = h

pub number-some : (ns : List Naming) (k : ℕ) (n : Naming) → naming_of ns k ≡ Some n → (k == 0) ≡ false
number-some ns k n e = step (k == 0) e
  where
    step : (b : Bool) → cond b None (slice_get ns (k - 1)) ≡ Some n → b ≡ false
    step true h = cc
    step false h = refl

pub number-passes : (p : Naming → Bool) (ns : List Naming) (k : ℕ) (n : Naming) → naming_of ns k ≡ Some n → list_all p ns ≡ true → p n ≡ true
number-passes p ns k n e h = got-passes p ns (k - 1) n (at-number ns k n e) h

pub number-within : (ns : List Naming) (k : ℕ) (n : Naming) → naming_of ns k ≡ Some n → k < length ns + 1
number-within ns k n e =
    let l = slice_get_within ns (k - 1) n (at-number ns k n e) in
    let some = number-some ns k n e in
    grind (arith, nat_tests)

-- ---- one more

pub number-stays : (ns : List Naming) (new : Naming) (k : ℕ) (n : Naming) → naming_of ns k ≡ Some n → naming_of (with_naming ns new) k ≡ Some n
number-stays ns new k n e = step (is_named_before ns new) (k == 0) e
  where
    step : (b z : Bool) → cond z None (slice_get ns (k - 1)) ≡ Some n → cond z None (slice_get (cond b ns (ns ++ new ∷ [])) (k - 1)) ≡ Some n
    step true z h = h
    step false true h = h
    step false false h = got-more ns (new ∷ []) (k - 1) n h

same-is : (a b : Naming) → same_naming a b ≡ true → a ≡ b
same-is a b e =
    let rest = second_of_both (a.view == b.view) (a.document.number == b.document.number && is_same a.path b.path) e in
    let view : a.view ≡ b.view = nat_is a.view b.view (first_of_both (a.view == b.view) (a.document.number == b.document.number && is_same a.path b.path) e) in
    let number : a.document.number ≡ b.document.number = nat_is a.document.number b.document.number (first_of_both (a.document.number == b.document.number) (is_same a.path b.path) rest) in
    let path : a.path ≡ b.path = is_same-eq a.path b.path (second_of_both (a.document.number == b.document.number) (is_same a.path b.path) rest) in
    λ i. record { view = view i; document = record { number = number i }; path = path i }

found-there : (new : Naming) (ns : List Naming) → list_any (same_naming new) ns ≡ true → slice_get ns (position_or_len (same_naming new) ns) ≡ Some new
found-there new [] h = cc
found-there new (n ∷ ns) h = step (same_naming new n) refl h (found-there new ns)
  where
    step : (b : Bool) → same_naming new n ≡ b → (b || list_any (same_naming new) ns) ≡ true → (list_any (same_naming new) ns ≡ true → slice_get ns (position_or_len (same_naming new) ns) ≡ Some new) →
        slice_get (n ∷ ns) (cond (not b) (1 + position_or_len (same_naming new) ns) 0) ≡ Some new
    step true e k f = ap Some (sym (same-is new n e))
    step false e k f = let one : 1 + position_or_len (same_naming new) ns ≡ suc (position_or_len (same_naming new) ns) = omega arith in ap (slice_get (n ∷ ns)) one ∙ f k

none-there : (p : Naming → Bool) (ns : List Naming) → list_any p ns ≡ false → position_or_len p ns ≡ length ns
none-there p [] h = refl
none-there p (n ∷ ns) h = step (p n) h (none-there p ns)
  where
    step : (b : Bool) → (b || list_any p ns) ≡ false → (list_any p ns ≡ false → position_or_len p ns ≡ length ns) → cond (not b) (1 + position_or_len p ns) 0 ≡ length (n ∷ ns)
    step true k f = cc
    step false k f = let e = f k in omega arith

-- the new one stands under its number
pub number-named : (ns : List Naming) (new : Naming) → naming_of (with_naming ns new) (number_of_naming ns new) ≡ Some new
number-named ns new = number-at (with_naming ns new) (position_or_len (same_naming new) ns) new (step (is_named_before ns new) refl)
  where
    step : (b : Bool) → is_named_before ns new ≡ b → slice_get (cond b ns (ns ++ new ∷ [])) (position_or_len (same_naming new) ns) ≡ Some new
    step true e = found-there new ns e
    step false e = ap (slice_get (ns ++ new ∷ [])) (none-there (same_naming new) ns e) ∙ got-last ns new
