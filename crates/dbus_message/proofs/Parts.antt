-- The part of a name after its last `.`.
use Rattle.std.proofs.Common.{◌≡◌, ℕ, ◌+◌, ◌-◌, ◌<◌, ◌≤◌, Bool, true, false, eqb, List, length, get_or, take, drop, Bor, Some, None, sym, ap, ◌∙◌, arith}
use Rattle.std.specs.Prelude.{not}
use Rattle.std.specs.List.{suffix_len}
use Rattle.std.specs.Str.Pattern.{RFindsChar}
use Rattle.std.proofs.lemmas.List.{get_or-drop, length-drop}
use Rattle.std.proofs.lemmas.List.Sums.{suffix_len_is}
use Rattle.std.proofs.lemmas.Str.{len_utf8_ascii}
use Rattle.std.proofs.lemmas.Str.Pattern.{NoCharPasses-char}
use Rattle.std.proofs.lemmas.Bool.Decides.{nat_tests}
use Rattle.dbus_message.specs.Written.{last_part}

abbrev is_other : ℕ → Bool
is_other b = not (eqb b 46)

other : (b : ℕ) → (b ≡ 46 → ⊥) → is_other b ≡ true
other b h = grind (arith, nat_tests)

-- there is no `.`
pub after_none : (name : List ℕ) → RFindsChar 46 name None → last_part name ≡ name
after_none name h =
    let tail : suffix_len is_other name ≡ length name - 0 = suffix_len_is is_other name 0 0 (omega arith) (λ k low high. other _ (λ e. NoCharPasses-char 46 name k h (omega arith) high e)) (λ lt. absurd (omega (arith, lt))) in
    let none : length name - suffix_len is_other name ≡ 0 = omega (arith, tail) in
    ap (λ (n : ℕ). drop n name) none

-- the last `.` stands from i to j
pub after_some : (name : List ℕ) (x : Bor (List ℕ) × Bor (List ℕ))
    → (i : ℕ) × (j : ℕ) × RFindsChar 46 name (Some (i, j)) × (x.0.now ≡ take i name) × (x.1.now ≡ drop j name) × (i ≤ j) × (length x.0.now ≡ i) × (length x.1.now + j ≡ length name) → x.1.now ≡ last_part name
after_some name x h =
    let i : ℕ = h.0 in
    let j : ℕ = h.1 in
    let next : j ≡ i + 1 = omega (arith, h.2.1.ends, len_utf8_ascii 46 (omega arith)) in
    let later : (k : ℕ) → j ≤ k → k < length name → is_other (get_or name k 0) ≡ true = λ k low high.
    let back : j + (k - j) ≡ k = omega arith in
    other _ (λ e. NoCharPasses-char 46 (drop j name) (k - j) h.2.0 (omega arith) (omega (arith, length-drop j name)) (get_or-drop j name (k - j) 0 ∙ (ap (λ (n : ℕ). get_or name n 0) back ∙ e))) in
    let here : j - 1 ≡ i = omega arith in
    let stops : is_other (get_or name (j - 1) 0) ≡ false = ap (λ (n : ℕ). is_other (get_or name n 0)) here ∙ ap is_other (h.2.1.byte (omega arith)) in
    let tail : suffix_len is_other name ≡ length name - j = suffix_len_is is_other name j 0 (omega (arith, h.7)) later (λ lt. stops) in
    let at : length name - suffix_len is_other name ≡ j = omega (arith, tail, h.7) in
    h.4 ∙ ap (λ (n : ℕ). drop n name) (sym at)
