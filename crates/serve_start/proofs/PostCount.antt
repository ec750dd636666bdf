-- So many posts are neither none nor too many.
use Rattle.std.proofs.Common.{◌≡◌, ◌∙◌, ℕ, ◌+◌, ◌*◌, ◌≤◌, ap, sym, subst, arith}
use Rattle.std.proofs.lemmas.Nat.{mul-le}

fit : (w n : ℕ) → 1 ≤ w → w ≤ 8 → n ≤ 64 → (1 ≤ w * (2 + 2 * n)) × (w * (2 + 2 * n) ≤ 65535)
fit w n some few apps =
    let least : 1 * 1 ≤ w * (2 + 2 * n) = mul-le 1 1 w (2 + 2 * n) some (omega arith) in
    let most : w * (2 + 2 * n) ≤ 8 * 130 = mul-le w (2 + 2 * n) 8 130 few (omega (arith, apps)) in
    (omega (arith, least), omega (arith, most))

-- those of so many sockets, where there are so many applications
pub posts_fit : (w n sockets posts : ℕ) → 1 ≤ w → w ≤ 8 → n ≤ 64 → sockets ≡ 2 + 2 * n → posts ≡ w * sockets
    → (1 ≤ posts) × (posts ≤ 65535)
posts_fit w n sockets posts some few apps count each =
    let same : posts ≡ w * (2 + 2 * n) = each ∙ ap (λ k. w * k) count in
    subst (λ k. (1 ≤ k) × (k ≤ 65535)) (sym same) (fit w n some few apps)
