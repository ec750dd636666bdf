-- What a join keeps of the views.
use Rattle.std.proofs.Common.{◌≡◌, ◌⊎◌, ℕ, ◌+◌, ◌<◌, ◌≤◌, List, [], ◌∷◌, ◌++◌, length, take, drop, get_or, Some, refl, sym, ap, ◌∙◌, subst, inl, inr, ⊎_elim, arith}
use Rattle.std.specs.Prelude.{slice_get}
use Rattle.std.proofs.lemmas.Option.{get_or_from_slice_get}
use Rattle.std.proofs.Common.{add-one, length-append, length-take, zero, suc}
use mathlib.Core.Option.{some}
use lib.ListN.{get_elem?}
use Rattle.atomic_table.proofs.Lists.{at_longer, at_last}
use Rattle.turn_desk.specs.Knowing.{View}
use Rattle.turn_desk.specs.Knowing.{Done}
use Rattle.turn_desk.specs.Views.{IsKept, joined, done}
use Rattle.turn_desk.specs.Rules.{Covers, FitsDone}
use Rattle.turn_desk.specs.Deals.{Stands}
use Rattle.portal_model.specs.declared.entry.Entry.{Entry}
use Rattle.portal_model.specs.Seated.{BeginsWith, exchanges}
use Rattle.portal_model.specs.State.{State}

pub kept_old : (v w u : View) → IsKept v u → IsKept (joined v w) u
kept_old v w u h = (h.0, at_longer (v.kept ++ done v ∷ []) (done w ∷ []) h.0 (done u) (at_longer v.kept (done v ∷ []) h.0 (done u) h.1))

pub kept_root : (v w : View) → IsKept (joined v w) v
kept_root v w = (length v.kept, at_longer (v.kept ++ done v ∷ []) (done w ∷ []) (length v.kept) (done v) (at_last v.kept (done v) (length v.kept) refl))

pub kept_other : (v w : View) → IsKept (joined v w) w
kept_other v w = (length (v.kept ++ done v ∷ []), at_last (v.kept ++ done v ∷ []) (done w) (length (v.kept ++ done v ∷ [])) refl)

pub kept_first : (v w u : View) (X : Type 0) → (((v ≡ u) × X) ⊎ IsKept v u) → IsKept (joined v w) u
kept_first v w u X h = ⊎_elim (λ (e : (v ≡ u) × X). subst (λ (z : View). IsKept (joined v w) z) e.0 (kept_root v w)) (λ k. kept_old v w u k) h

-- the list before a pop, which began another
pub popped : {X : Type 0} (xs zs : List X) (q : X) (n : ℕ) → take n xs ≡ zs ++ q ∷ [] → n ≤ length xs → (zs ≡ take (length zs) xs) × (length zs + 1 ≡ n) × (slice_get xs (length zs) ≡ Some q)
popped {X = X} [] zs q n e le = let a = ap length e in absurd (omega (arith, a, length-append zs (q ∷ []), length-take {A = X} n [], le))
popped (x ∷ xs) zs q zero e le = let a = ap length e in absurd (omega (arith, a, length-append zs (q ∷ [])))
popped (x ∷ xs) [] q (suc n) e le = let rest : take n xs ≡ [] = cc in let a = ap length rest in let same : x ≡ q = cc in (refl, omega (arith, a, length-take n xs), ap (λ y. Some y) same)
popped (x ∷ xs) (z ∷ zs) q (suc n) e le =
    let rest : take n xs ≡ zs ++ q ∷ [] = cc in
    let same : z ≡ x = cc in
    let r = popped xs zs q n rest (omega arith) in
    (ap (λ l. z ∷ l) r.0 ∙ ap (λ y. y ∷ take (length zs) xs) same, omega (arith, r.1), r.2)

-- without one of its items a list has all others, and nothing else
pub still_there : {X : Type 0} (xs : List X) (i k : ℕ) (q p : X) → slice_get xs i ≡ Some q → slice_get xs k ≡ Some p → (p ≡ q) ⊎ ((j : ℕ) × (slice_get (take i xs ++ drop (suc i) xs) j ≡ Some p))
still_there [] i k q p e f = absurd (cc)
still_there (x ∷ xs) zero zero q p e f = inl (cc)
still_there (x ∷ xs) zero (suc k) q p e f = inr (k, f)
still_there (x ∷ xs) (suc i) zero q p e f = inr (0, f)
still_there (x ∷ xs) (suc i) (suc k) q p e f = ⊎_elim (λ same. inl same) (λ (r : (j : ℕ) × (slice_get (take i xs ++ drop (suc i) xs) j ≡ Some p)). inr (suc r.0, r.1)) (still_there xs i k q p e f)

pub was_there : {X : Type 0} (xs : List X) (i j : ℕ) (p : X) → slice_get (take i xs ++ drop (suc i) xs) j ≡ Some p → (k : ℕ) × (slice_get xs k ≡ Some p)
was_there [] zero j p e = absurd (cc)
was_there [] (suc i) j p e = absurd (cc)
was_there (x ∷ xs) zero j p e = (suc j, e)
was_there (x ∷ xs) (suc i) zero p e = (0, e)
was_there (x ∷ xs) (suc i) (suc j) p e = let r = was_there xs i j p e in (suc r.0, r.1)

-- each item of a list is the one that was taken out, or one that is left
abbrev pub Parts : {X : Type 0} → List X → List X → X → Type 0
Parts {X = X} xs rest q = (k : ℕ) (p : X) → slice_get xs k ≡ Some p → (p ≡ q) ⊎ ((j : ℕ) × (slice_get rest j ≡ Some p))

pub taken : {X : Type 0} (xs rest : List X) (i : ℕ) (q p : X) → slice_get xs i ≡ Some p → q ≡ get_or xs i q → rest ≡ take i xs ++ drop (i + 1) xs → (q ≡ p) × Parts xs rest q
taken {X = X} xs rest i q p at value items =
    let same : q ≡ p = value ∙ get_or_from_slice_get xs i p q at in
    let is : rest ≡ take i xs ++ drop (suc i) xs = items ∙ ap (λ (n : ℕ). take i xs ++ drop n xs) (add-one i) in (
      same,
      λ k x e. subst (λ (l : List X). (x ≡ q) ⊎ ((j : ℕ) × (slice_get l j ≡ Some x))) (sym is) (still_there xs i k q x (at ∙ ap (λ (y : X). Some y) (sym same)) e),
    )

-- where each number has a pass, the first seat with all others joined into it covers each number
pub covers_all : {X : Type 0} (view : X → View) (xs rest : List X) (q : X) (root : View) (seats : ℕ) → Parts xs rest q → (view q).number ≡ 1 → root.number ≡ 1 → root.made ≡ seats
    → ((n : ℕ) → 1 ≤ n → n ≤ seats → (k : ℕ) × (p : X) × (slice_get xs k ≡ Some p) × ((view p).number ≡ n)) → ((j : ℕ) (p : X) → slice_get rest j ≡ Some p → IsKept root (view p)) → (m : ℕ) → 0 < m → m ≤ root.made → Covers root m
covers_all view xs rest q root seats parts first one made all kept m pos le =
    let a = all m (omega arith) (omega arith) in
    ⊎_elim
    (λ (e : a.1 ≡ q). inl (omega arith, one ∙ (sym first ∙ (ap (λ x. (view x).number) (sym e) ∙ a.3))))
    (λ (r : (j : ℕ) × (slice_get rest j ≡ Some a.1)). let i = kept r.0 a.1 r.1 in inr (i.0, done (view a.1), i.1, a.3))
    (parts a.0 a.1 a.2)

pub stands_kept : (made : ℕ) (o : State) (log : List Entry) (root u : View) → ((k : ℕ) (d : Done) → get_elem? root.kept k ≡ some d → FitsDone made o log d) → IsKept root u → Stands o log u
stands_kept made o log root u fits k = let f = fits k.0 (done u) k.1 in record { seen = f.seen; mine = sym f.mine; known = f.known }

pub all_stand : {X : Type 0} (view : X → View) (made : ℕ) (o : State) (log : List Entry) (xs rest : List X) (q : X) (root : View) → Parts xs rest q
    → BeginsWith log root.seen → root.mine ≡ exchanges root.number o log → root.known ≤ length log → ((k : ℕ) (d : Done) → get_elem? root.kept k ≡ some d → FitsDone made o log d)
    → (Y : Type 0) → (((root ≡ view q) × Y) ⊎ IsKept root (view q)) → ((j : ℕ) (p : X) → slice_get rest j ≡ Some p → IsKept root (view p)) → (k : ℕ) (p : X) → slice_get xs k ≡ Some p → Stands o log (view p)
all_stand view made o log xs rest q root parts seen mine known fits Y first others k p at = ⊎_elim
    (λ (e : p ≡ q). subst (λ x. Stands o log (view x)) (sym e) (⊎_elim
    (λ (h : (root ≡ view q) × Y). subst (Stands o log) h.0 (record { seen = seen; mine = sym mine; known = known }))
    (λ h. stands_kept made o log root (view q) fits h)
    first))
    (λ (r : (j : ℕ) × (slice_get rest j ≡ Some p)). stands_kept made o log root (view p) fits (others r.0 p r.1))
    (parts k p at)
