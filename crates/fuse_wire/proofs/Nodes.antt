-- The nodes of a FUSE_BATCH_FORGET, one after another.
use Rattle.std.proofs.Common.{◌≡◌, ◌+◌, ◌<◌, ◌-◌, ℕ, zero, suc, List, ◌∷◌, drop, ap, arith}
use Rattle.fuse_wire.specs.Bodies.{forget_one, forget_one_len, forget_ones}

ones-suc : (m k : ℕ) (bytes : List ℕ) → m ≡ k + 1 → forget_ones m bytes ≡ forget_one bytes ∷ forget_ones k (drop forget_one_len bytes)
ones-suc zero k bytes e = absurd (omega (arith, e))
ones-suc (suc m) k bytes e = let same : m ≡ k = omega (arith, e) in ap (λ (x : ℕ). forget_one bytes ∷ forget_ones x (drop forget_one_len bytes)) same

-- where some are left, the first of them stands at the front
pub ones-next : (count done : ℕ) (bytes : List ℕ) → done < count → forget_ones (count - done) bytes ≡ forget_one bytes ∷ forget_ones (count - (done + 1)) (drop forget_one_len bytes)
ones-next count done bytes h = ones-suc (count - done) (count - (done + 1)) bytes (omega (arith, h))
