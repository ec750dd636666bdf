-- Padding by the distance from a multiple of 8.
use Rattle.std.proofs.Common.{◌≡◌, ℕ, zero, suc, ◌-◌, ◌%◌, ◌<◌, arith}
use Rattle.std.proofs.Math.Nat.{mod-eq_of_lt}
use Rattle.dbus_values.specs.Spells.{gap}

gap_1 : (at phase : ℕ) → phase ≡ at % 8 → (1 - phase % 1) % 1 ≡ gap 1 at
gap_1 at phase p = omega (arith, p)

gap_2 : (at phase : ℕ) → phase ≡ at % 8 → (2 - phase % 2) % 2 ≡ gap 2 at
gap_2 at phase p = omega (arith, p)

gap_4 : (at phase : ℕ) → phase ≡ at % 8 → (4 - phase % 4) % 4 ≡ gap 4 at
gap_4 at phase p = omega (arith, p)

gap_8 : (at phase : ℕ) → phase ≡ at % 8 → (8 - phase % 8) % 8 ≡ gap 8 at
gap_8 at phase p = omega (arith, p)

none_above : (n : ℕ) → 8 < n → 8 % n ≡ 0 → ⊥
none_above n far e = let same : 8 % n ≡ 8 = mod-eq_of_lt far in omega (arith, e, same)

-- an alignment that divides 8 sees no more of an offset
pub same-gap : (to at phase : ℕ) → 0 < to → 8 % to ≡ 0 → phase ≡ at % 8 → (to - phase % to) % to ≡ gap to at
same-gap zero at phase some e p = absurd (omega arith)
same-gap (suc zero) at phase some e p = gap_1 at phase p
same-gap (suc (suc zero)) at phase some e p = gap_2 at phase p
same-gap (suc (suc (suc zero))) at phase some e p = absurd (omega (arith, e))
same-gap (suc (suc (suc (suc zero)))) at phase some e p = gap_4 at phase p
same-gap (suc (suc (suc (suc (suc zero))))) at phase some e p = absurd (omega (arith, e))
same-gap (suc (suc (suc (suc (suc (suc zero)))))) at phase some e p = absurd (omega (arith, e))
same-gap (suc (suc (suc (suc (suc (suc (suc zero))))))) at phase some e p = absurd (omega (arith, e))
same-gap (suc (suc (suc (suc (suc (suc (suc (suc zero)))))))) at phase some e p = gap_8 at phase p
same-gap (suc (suc (suc (suc (suc (suc (suc (suc (suc n))))))))) at phase some e p = absurd (none_above (suc (suc (suc (suc (suc (suc (suc (suc (suc n))))))))) (omega arith) e)
