-- The places beside entries, which rise, and the entries that they lead to.
use Rattle.std.proofs.Common.{◌≡◌, ℕ, zero, suc, ◌+◌, ◌<◌, ◌≤◌, ltb, nat_lt, List, [], ◌∷◌, ◌++◌, length, get_or, ◌-◌, Bool, true, false, not, ◌&&◌, ◌||◌, cond, Option, Some, None, option_to_list, Result, Ok, Err, IfOk, IfSome, OnOk, OnErr, is_err, take, refl, sym, ap, ◌∙◌, arith}
use Rattle.std.specs.List.{IsDistinct, AllByRecursion, filter, list_all, list_any, position, position_or_len, prefix_len, remove, slice_get}
use Rattle.std.specs.List.Sorted.{IsPartitionedBy}
use Rattle.std.specs.Option.{MatchOption}
use Rattle.std.specs.Result.{result_ok}
use Rattle.std.proofs.lemmas.Bool.Decides.{nat_tests}
use Rattle.std.proofs.lemmas.List.Folds.{list_all-append}
use Rattle.portal_base.specs.Names.{is_same}
use Rattle.portal_model.specs.Ordered.{is_rising}
use Rattle.portal_model.specs.Store.{Entries, is_entry_of}
use Rattle.portal_model.specs.Valid.{same_entry}
use Rattle.portal_model.specs.declared.store.StoredEntry.{StoredEntry}
use Rattle.permission_table.specs.EntryIndex.{place_beside}

abbrev less-than : ℕ → ℕ → Bool
less-than p q = nat_lt q p

-- ---- where the entry of a place stands

pub above : (h : ℕ) (test : StoredEntry → Bool) (es : Entries) (ps : List ℕ) (p : ℕ) → list_all (nat_lt h) ps ≡ true → place_beside test es ps ≡ Some p → nat_lt h p ≡ true
above h test [] ps p a e = cc
above h test (x ∷ xs) [] p a e = cc
above h test (x ∷ xs) (q ∷ qs) p a e = step (test x) e (above h test xs qs p)
  where
    step : (b : Bool) → cond b (Some q) (place_beside test xs qs) ≡ Some p → (list_all (nat_lt h) qs ≡ true → place_beside test xs qs ≡ Some p → nat_lt h p ≡ true) → nat_lt h p ≡ true
    step true f more = let same : q ≡ p = cc in grind arith
    step false f more = more (grind arith) f

record StandsAt (test : StoredEntry → Bool) (es : Entries) (ps : List ℕ) (p : ℕ) : Type 0 where
  pub place : prefix_len (λ q. nat_lt q p) ps ≡ position_or_len test es
  pub within : position_or_len test es < length es

stands : (test : StoredEntry → Bool) (es : Entries) (ps : List ℕ) (p : ℕ) → is_rising nat_lt ps ≡ true → place_beside test es ps ≡ Some p → StandsAt test es ps p
stands test [] ps p r e = let never : ⊥ = cc in absurd never
stands test (x ∷ xs) [] p r e = let never : ⊥ = cc in absurd never
stands test (x ∷ xs) (q ∷ qs) p r e = step (test x) refl e (stands test xs qs p (grind arith))
  where
    ahead : place_beside test xs qs ≡ Some p → nat_lt q p ≡ true
    ahead f = above q test xs qs p (grind arith) f

    step : (b : Bool) → test x ≡ b → cond b (Some q) (place_beside test xs qs) ≡ Some p → (place_beside test xs qs ≡ Some p → StandsAt test xs qs p) → StandsAt test (x ∷ xs) (q ∷ qs) p
    step true h f more =
        let same : q ≡ p = cc in
        let here : nat_lt q p ≡ false = grind (arith, nat_tests) in
        record {
          place = ap (λ (b : Bool). cond b (1 + prefix_len (λ z. nat_lt z p) qs) 0) here ∙ ap (λ (b : Bool). cond (not b) (1 + position_or_len test xs) 0) (sym h);
          within = let first : position_or_len test (x ∷ xs) ≡ 0 = ap (λ (b : Bool). cond (not b) (1 + position_or_len test xs) 0) h in omega arith;
        }
    step false h f more =
        let rest = more f in
        let later : position_or_len test (x ∷ xs) ≡ 1 + position_or_len test xs = ap (λ (b : Bool). cond (not b) (1 + position_or_len test xs) 0) h in
        record {
          place = ap (λ (b : Bool). cond b (1 + prefix_len (λ z. nat_lt z p) qs) 0) (ahead f) ∙ (ap (λ (n : ℕ). 1 + n) rest.place ∙ sym later);
          within = let inside = rest.within in omega arith;
        }

pub position-is : (test : StoredEntry → Bool) (es : Entries) (ps : List ℕ) (p : ℕ) → is_rising nat_lt ps ≡ true → place_beside test es ps ≡ Some p
    → Some (prefix_len (λ q. nat_lt q p) ps) ≡ position test es
position-is test es ps p r e =
    let at = stands test es ps p r e in
    let in_list : nat_lt (position_or_len test es) (length es) ≡ true = (let inside = at.within in grind (arith, nat_tests)) in
    ap (λ (n : ℕ). Some n) at.place ∙ ap (λ (b : Bool). cond b (Some (position_or_len test es)) None) (sym in_list)

nowhere : (test : StoredEntry → Bool) (es : Entries) (ps : List ℕ) → length ps ≡ length es → place_beside test es ps ≡ None → position_or_len test es ≡ length es
nowhere test [] ps l e = refl
nowhere test (x ∷ xs) [] l e = absurd (omega arith)
nowhere test (x ∷ xs) (q ∷ qs) l e = step (test x) refl e (nowhere test xs qs (omega arith))
  where
    step : (b : Bool) → test x ≡ b → cond b (Some q) (place_beside test xs qs) ≡ None → (place_beside test xs qs ≡ None → position_or_len test xs ≡ length xs) → position_or_len test (x ∷ xs) ≡ length (x ∷ xs)
    step true h f more = let never : ⊥ = cc in absurd never
    step false h f more =
        let later : position_or_len test (x ∷ xs) ≡ 1 + position_or_len test xs = ap (λ (b : Bool). cond (not b) (1 + position_or_len test xs) 0) h in
        let rest = more f in
        omega arith

pub position-none : (test : StoredEntry → Bool) (es : Entries) (ps : List ℕ) → length ps ≡ length es → place_beside test es ps ≡ None → None ≡ position test es
position-none test es ps l e =
    let end = nowhere test es ps l e in
    let out : nat_lt (position_or_len test es) (length es) ≡ false = grind (arith, nat_tests) in
    ap (λ (b : Bool). cond b (Some (position_or_len test es)) None) (sym out)

-- ---- rising places in two parts

each-of : (h : ℕ) (ps : List ℕ) (j d : ℕ) → j < length ps → list_all (nat_lt h) ps ≡ true → nat_lt h (get_or ps j d) ≡ true
each-of h [] j d l a = absurd (omega arith)
each-of h (p ∷ ps) zero d l a = grind arith
each-of h (p ∷ ps) (suc j) d l a = each-of h ps j d (omega arith) (grind arith)

pub in-two-parts : (n : ℕ) (ps : List ℕ) → is_rising nat_lt ps ≡ true → IsPartitionedBy (λ p. nat_lt p n) ps
in-two-parts n [] r i j d le lt h = absurd (omega arith)
in-two-parts n (p ∷ ps) r zero zero d le lt h = h
in-two-parts n (p ∷ ps) r zero (suc j) d le lt h =
    let more : nat_lt p (get_or ps j d) ≡ true = each-of p ps j d (omega arith) (grind arith) in
    grind (arith, nat_tests)
in-two-parts n (p ∷ ps) r (suc i) zero d le lt h = absurd (omega arith)
in-two-parts n (p ∷ ps) r (suc i) (suc j) d le lt h = in-two-parts n ps (grind arith) i j d (omega arith) (omega arith) h

-- ---- a place above the others

pub last-above : (ps : List ℕ) (last : ℕ) → is_rising nat_lt ps ≡ true → slice_get ps (length ps - 1) ≡ Some last → list_all (λ p. nat_lt p (last + 1)) ps ≡ true
last-above [] last r e = refl
last-above (p ∷ []) last r e = let same : p ≡ last = cc in grind (arith, nat_tests)
last-above (p ∷ q ∷ qs) last r e =
    let rest : list_all (λ x. nat_lt x (last + 1)) (q ∷ qs) ≡ true = last-above (q ∷ qs) last (grind arith) (next ∙ e) in
    grind (arith, nat_tests)
  where
    next : slice_get (q ∷ qs) (length (q ∷ qs) - 1) ≡ slice_get (p ∷ q ∷ qs) (length (p ∷ q ∷ qs) - 1)
    next = let n : length (p ∷ q ∷ qs) - 1 ≡ suc (length (q ∷ qs) - 1) = omega arith in ap (slice_get (p ∷ q ∷ qs)) (sym n)

pub rising-last : (ps : List ℕ) (n : ℕ) → is_rising nat_lt ps ≡ true → list_all (λ p. nat_lt p n) ps ≡ true → is_rising nat_lt (ps ++ n ∷ []) ≡ true
rising-last [] n h k = refl
rising-last (p ∷ ps) n h k = grind (arith, rising-last ps n, list_all-append (nat_lt p) ps (n ∷ []))

all-without : (q : ℕ → Bool) (ps : List ℕ) (i : ℕ) → list_all q ps ≡ true → list_all q (remove ps i) ≡ true
all-without q [] zero h = h
all-without q [] (suc i) h = h
all-without q (p ∷ ps) zero h = grind arith
all-without q (p ∷ ps) (suc i) h = grind (arith, all-without q ps i)

pub rising-without : (ps : List ℕ) (i : ℕ) → is_rising nat_lt ps ≡ true → is_rising nat_lt (remove ps i) ≡ true
rising-without [] zero h = h
rising-without [] (suc i) h = h
rising-without (p ∷ ps) zero h = grind arith
rising-without (p ∷ ps) (suc i) h = grind (arith, rising-without ps i, all-without (nat_lt p) ps i)

pub next-above : {E : Type 0} (ps : List ℕ) (last : ℕ) (o : Option ℕ) (r : Result ℕ E) → is_rising nat_lt ps ≡ true → slice_get ps (length ps - 1) ≡ Some last
    → IfSome o (λ n. n ≡ last + 1) → o ≡ result_ok r → IfOk r (λ next. list_all (λ other. nat_lt other next) ps ≡ true)
next-above ps last o (Err e) h g s k = tt
next-above ps last None (Ok n) h g s k = let never : ⊥ = cc in absurd never
next-above ps last (Some m) (Ok n) h g s k =
    let same : n ≡ last + 1 = (let one : m ≡ n = cc in sym one ∙ s) in
    rw same (last-above ps last h g)

-- ---- what was put last goes again

take-front : {X : Type 0} (xs ys : List X) → take (length xs) (xs ++ ys) ≡ xs
take-front [] ys = refl
take-front {X = X} (x ∷ xs) ys = ap (λ (zs : List X). x ∷ zs) (take-front xs ys)

one-more : {X : Type 0} (xs : List X) (x : X) → length (xs ++ x ∷ []) - 1 ≡ length xs
one-more [] x = refl
one-more {X = X} (y ∷ ys) x = let more = one-more ys x in let long : length (ys ++ x ∷ []) ≡ suc (length ys) = counted ys in omega arith
  where
    counted : (zs : List X) → length (zs ++ x ∷ []) ≡ suc (length zs)
    counted [] = refl
    counted (z ∷ zs) = ap suc (counted zs)

abbrev front : {X : Type 0} → List X → List X
front xs = take (length xs - 1) xs

front-more : {X : Type 0} (xs : List X) (x : X) → front (xs ++ x ∷ []) ≡ xs
front-more xs x = ap (λ (n : ℕ). take n (xs ++ x ∷ [])) (one-more xs x) ∙ take-front xs (x ∷ [])

-- as `pop` leaves a vector, of which the length is known
pub vec-popped : {X : Type 0} (A : Type 0) (B : X → Type 0) (r : Option X) (old new before : List X) (x : X) (n m : ℕ) → old ≡ new ++ option_to_list r → MatchOption r ((n ≡ 0) × A) B → n ≡ m + 1 → old ≡ before ++ x ∷ [] → new ≡ before
vec-popped A B None old new before x n m h c l e = let none = c.0 in absurd (omega arith)
vec-popped A B (Some y) old new before x n m h c l e = sym (front-more new y) ∙ (sym (ap front h) ∙ (ap front e ∙ front-more before x))

-- as `pop` leaves a list
pub list-popped : {X : Type 0} (r : Option X) (old new before : List X) (x : X) → MatchOption r ((old ≡ []) × (new ≡ [])) (λ l. old ≡ new ++ l ∷ []) → old ≡ before ++ x ∷ [] → new ≡ before
list-popped None old new before x m e = m.1 ∙ (sym (ap front m.0) ∙ (ap front e ∙ front-more before x))
list-popped (Some l) old new before x m e = sym (front-more new l) ∙ (sym (ap front m) ∙ (ap front e ∙ front-more before x))

pub on-ok : {A E : Type 0} (r : Result A E) (P : Type 0) → OnOk r P → false ≡ is_err r → P
on-ok (Ok x) P h e = h
on-ok (Err x) P h e = cc

pub ok-so : {A E P Q : Type 0} (r : Result A E) → OnOk r P → (P → Q) → OnOk r Q
ok-so (Ok x) h f = f h
ok-so (Err e) h f = tt

pub on-err : {A E : Type 0} (r : Result A E) (P : Type 0) → OnErr r P → true ≡ is_err r → P
on-err (Ok x) P h e = cc
on-err (Err x) P h e = h
