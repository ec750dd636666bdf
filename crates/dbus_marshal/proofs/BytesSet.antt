-- Four items written over those at a place.
use Rattle.std.proofs.Common.{◌≡◌, ℕ, zero, suc, ◌+◌, ◌≤◌, List, [], ◌∷◌, ◌++◌, length, set, take, drop, refl, ap, arith}

pub four_set : (xs : List ℕ) (at a b c d : ℕ) → at + 4 ≤ length xs → set (set (set (set xs at a) (at + 1) b) (at + 2) c) (at + 3) d ≡ take at xs ++ (a ∷ b ∷ c ∷ d ∷ drop (at + 4) xs)
four_set [] at a b c d le = absurd (omega (arith, le))
four_set (p ∷ []) zero a b c d le = absurd (omega (arith, le))
four_set (p ∷ q ∷ []) zero a b c d le = absurd (omega (arith, le))
four_set (p ∷ q ∷ r ∷ []) zero a b c d le = absurd (omega (arith, le))
four_set (p ∷ q ∷ r ∷ s ∷ xs) zero a b c d le = refl
four_set (x ∷ xs) (suc at) a b c d le =
    let one : suc at + 1 ≡ suc (at + 1) = omega arith in
    let two : suc at + 2 ≡ suc (at + 2) = omega arith in
    let three : suc at + 3 ≡ suc (at + 3) = omega arith in
    let four : suc at + 4 ≡ suc (at + 4) = omega arith in
    rw (one, two, three, four) (ap (λ (w : List ℕ). x ∷ w) (four_set xs at a b c d (omega (arith, le))))
