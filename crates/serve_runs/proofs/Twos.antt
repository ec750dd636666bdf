-- A list of two passes.
use Rattle.std.proofs.Common.{◌≡◌, ℕ, zero, suc, ◌≤◌, List, [], ◌∷◌, ◌++◌, Some, length, length-append, refl, sym, ap, ◌∙◌, subst, arith}
use Rattle.std.specs.Prelude.{slice_get}
use Rattle.atomic_table.specs.Seated.{TableId}
use Rattle.turn_desk.specs.Deals.{AreAll, IsPassOf}
use Rattle.turn_desk.specs.Sights.{Sight}

-- the passes of both seats are all passes
pub all_two : (z : TableId) (seats : ℕ) (a b : Sight) (passes : List Sight) → seats ≡ 2 → passes ≡ b ∷ a ∷ [] → a.table ≡ z → a.knows.number ≡ 1 → a.knows.made ≡ 2 → b.table ≡ z → b.knows.number ≡ 2 → AreAll z seats passes
all_two z seats a b passes two is at one made bt second = subst (AreAll z seats) (sym is) (record { each = each; all = all })
  where
    each : (k : ℕ) (p : Sight) → slice_get (b ∷ a ∷ []) k ≡ Some p → IsPassOf z seats p
    each zero p e = let same : b ≡ p = cc in subst (IsPassOf z seats) same (record { table_is = bt; all_given = λ n. absurd (omega arith) })
    each (suc zero) p e = let same : a ≡ p = cc in subst (IsPassOf z seats) same (record { table_is = at; all_given = λ n. omega arith })
    each (suc (suc k)) p e = absurd (cc)

    all : (n : ℕ) → 1 ≤ n → n ≤ seats → (k : ℕ) × (p : Sight) × (slice_get (b ∷ a ∷ []) k ≡ Some p) × (p.knows.number ≡ n)
    all zero l m = absurd (omega arith)
    all (suc zero) l m = (1, a, refl, one)
    all (suc (suc zero)) l m = (0, b, refl, second)
    all (suc (suc (suc n))) l m = absurd (omega arith)

-- what is popped twice of two
pub popped_two : {X : Type 0} (xs ys zs : List X) (a b : X) → xs ≡ ys ++ b ∷ [] → ys ≡ zs ++ a ∷ [] → length xs ≡ 2 → (zs ≡ []) × (xs ≡ a ∷ b ∷ [])
popped_two xs ys [] a b e f n = (refl, e ∙ ap (λ l. l ++ b ∷ []) f)
popped_two xs ys (z ∷ zs) a b e f n = let p = ap length e in let q = ap length f in absurd (omega (arith, p, q, length-append ys (b ∷ []), length-append zs (a ∷ [])))
