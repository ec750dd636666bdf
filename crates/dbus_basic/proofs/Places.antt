-- Fields at an offset of a slice.
use Rattle.std.proofs.Common.{◌≡◌, ℕ, zero, suc, ◌+◌, ◌-◌, ◌<◌, ◌≤◌, List, [], ◌∷◌, length, get_or, drop, Ok, Err, refl, sym, ap, subst, drop-cons, add-one, arith}
use Rattle.std.proofs.Math.ListN.{drop_of_length-le}
use Rattle.dbus_basic.specs.declared.error.ReadError.{ReadError}
use Rattle.dbus_basic.specs.declared.error.ReadError.TheVariants.{Short, Padding, Memory}
use Rattle.dbus_basic.specs.Reading.{Fails, after, place}
use Rattle.dbus_basic.specs.Fields.{byte_at, ended, zeros}

module _ (bytes : List ℕ) (at : ℕ) where
  pub at_end : length bytes ≤ at → drop at bytes ≡ []
  at_end le = drop_of_length-le bytes le

  pub at_byte : (b : ℕ) → at < length bytes → b ≡ get_or bytes at b → drop at bytes ≡ b ∷ drop (at + 1) bytes
  at_byte b lt e = rw (drop-cons bytes at b lt, ← e, add-one) refl

  pub byte_none : length bytes ≤ at → byte_at at (drop at bytes) ≡ Err (Short at)
  unfolding byte_at
  byte_none le = rw (at_end le) refl

  pub byte_some : (b : ℕ) → at < length bytes → b ≡ get_or bytes at b → byte_at at (drop at bytes) ≡ Ok (after bytes (b, at + 1))
  unfolding byte_at
  byte_some b lt e = rw (at_byte b lt e) refl

  pub ended_none : (e : ReadError) → length bytes ≤ at → ended e at (drop at bytes) ≡ Err (Short at)
  unfolding ended
  ended_none e le = rw (at_end le) refl

  pub ended_zero : (e : ReadError) → at < length bytes → 0 ≡ get_or bytes at 0 → ended e at (drop at bytes) ≡ Ok (place bytes (at + 1))
  unfolding ended
  ended_zero e lt is = rw (at_byte 0 lt is) refl

  ended_cell : (e : ReadError) (b : ℕ) (rest : List ℕ) → (b ≡ 0 → ⊥) → Fails e (ended e at (b ∷ rest))
  unfolding ended
  ended_cell e zero rest h = absurd (h refl)
  ended_cell Memory (suc b) rest h = tt
  ended_cell e (suc b) rest h = refl

  pub ended_other : (e : ReadError) (b : ℕ) → at < length bytes → b ≡ get_or bytes at b → (b ≡ 0 → ⊥) → Fails e (ended e at (drop at bytes))
  ended_other e b lt is h = subst (λ (w : List ℕ). Fails e (ended e at w)) (sym (at_byte b lt is)) (ended_cell e b (drop (at + 1) bytes) h)

  pub zeros_nothing : (count : ℕ) → count ≡ 0 → zeros count at (drop at bytes) ≡ Ok (place bytes at)
  unfolding zeros
  zeros_nothing count e = rw e refl

  pub zeros_none : (count : ℕ) → (count ≡ 0 → ⊥) → length bytes ≤ at → zeros count at (drop at bytes) ≡ Err (Short at)
  unfolding zeros
  zeros_none zero h le = absurd (h refl)
  zeros_none (suc n) h le = rw (at_end le) refl

  pub zeros_zero : (count : ℕ) → (count ≡ 0 → ⊥) → at < length bytes → 0 ≡ get_or bytes at 0 → zeros count at (drop at bytes) ≡ zeros (count - 1) (at + 1) (drop (at + 1) bytes)
  unfolding zeros
  zeros_zero zero h lt is = absurd (h refl)
  zeros_zero (suc n) h lt is = rw (at_byte 0 lt is) (ap (λ (k : ℕ). zeros k (at + 1) (drop (at + 1) bytes)) (omega arith))

  zeros_cell : (n b : ℕ) (rest : List ℕ) → (b ≡ 0 → ⊥) → zeros (suc n) at (b ∷ rest) ≡ Err (Padding at)
  unfolding zeros
  zeros_cell n zero rest h = absurd (h refl)
  zeros_cell n (suc b) rest h = refl

  pub zeros_other : (count b : ℕ) → (count ≡ 0 → ⊥) → at < length bytes → b ≡ get_or bytes at b → (b ≡ 0 → ⊥) → zeros count at (drop at bytes) ≡ Err (Padding at)
  zeros_other zero b h lt is other = absurd (h refl)
  zeros_other (suc n) b h lt is other = rw (at_byte b lt is) (zeros_cell n b (drop (at + 1) bytes) other)
