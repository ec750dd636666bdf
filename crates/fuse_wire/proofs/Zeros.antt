-- Where the first zero byte stands there is a byte.
use Rattle.std.proofs.Common.{◌≡◌, ℕ, ◌==◌, ◌<◌, List, length, Bool, true, false, cond, ltb, Some, None, refl, arith}
use Rattle.std.proofs.lemmas.Bool.Decides.{nat_tests}
use Rattle.std.specs.List.{position, position_or_len}

inside : (n l i : ℕ) (b : Bool) → ltb n l ≡ b → Some i ≡ cond b (Some n) None → i < l
inside n l i true h e =
    let same : i ≡ n = cc in
    grind (arith, nat_tests)
inside n l i false h e = absurd (cc)

pub zero-inside : (bytes : List ℕ) (i : ℕ) → Some i ≡ position (λ (b : ℕ). b == 0) bytes → i < length bytes
zero-inside bytes i e =
    let n = position_or_len (λ (b : ℕ). b == 0) bytes in
    inside n (length bytes) i (ltb n (length bytes)) refl e
