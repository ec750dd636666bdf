-- The parts of a call, put one behind another.
use Rattle.std.proofs.Common.{◌≡◌, ℕ, ◌+◌, ◌-◌, List, [], ◌∷◌, ◌++◌, length, take, drop, replicate, ap, ◌∙◌, append_assoc, arith}
use Rattle.std.proofs.lemmas.List.{length-append}
use Rattle.std.specs.Int.{w32}
use Rattle.std.specs.Prelude.{OnOk, Result, Ok, Err}
use Rattle.dbus_types.specs.declared.types.Endian.TheVariants.{Little}
use Rattle.dbus_values.specs.Spells.{number, gap}
use Rattle.dbus_marshal.proofs.TakenFronts.{four, number_len}
use Rattle.portal_load.specs.Calls.{laid}

pub head_laid : (serial : ℕ) (a b d : List ℕ) → a ≡ 108 ∷ 1 ∷ 0 ∷ 1 ∷ [] → b ≡ a ++ (0 ∷ 0 ∷ 0 ∷ 0 ∷ []) → d ≡ b ++ number Little w32 serial
    → d ≡ 108 ∷ 1 ∷ 0 ∷ 1 ∷ 0 ∷ 0 ∷ 0 ∷ 0 ∷ number Little w32 serial
head_laid serial a b d p q r = r ∙ ap (λ (w : List ℕ). w ++ number Little w32 serial) (q ∙ ap (λ (w : List ℕ). w ++ (0 ∷ 0 ∷ 0 ∷ 0 ∷ [])) p)

pub head_len : (serial : ℕ) (d : List ℕ) → d ≡ 108 ∷ 1 ∷ 0 ∷ 1 ∷ 0 ∷ 0 ∷ 0 ∷ 0 ∷ number Little w32 serial → length d ≡ 12
head_len serial d e = omega (arith, ap length e, number_len Little four serial)

-- the parts of a call, and then the length of the body
module _ (serial : ℕ) (T B : List ℕ) where
  regroup : (S P : List ℕ) → ((S ++ T) ++ P) ++ B ≡ S ++ (T ++ (P ++ B))
  regroup S P = simp append_assoc

  pub parts_laid : (d e f g : List ℕ) (n : ℕ) → d ≡ (108 ∷ 1 ∷ 0 ∷ 1 ∷ 0 ∷ 0 ∷ 0 ∷ 0 ∷ number Little w32 serial) ++ T → e ≡ d ++ replicate (gap 8 (length d)) 0 → f ≡ e ++ B
      → n ≡ length f - length e → g ≡ take 4 f ++ (number Little w32 n ++ drop 8 f) → g ≡ laid serial T B
  parts_laid d e f g n head t u size put =
      let len : length d ≡ 12 + length T = omega (arith, ap length head, length-append (number Little w32 serial) T, number_len Little four serial) in
      let P : List ℕ = replicate (gap 8 (12 + length T)) 0 in
      let pads : e ≡ d ++ P = t ∙ ap (λ (m : ℕ). d ++ replicate (gap 8 m) 0) len in
      let rest : List ℕ = number Little w32 serial ++ (T ++ (P ++ B)) in
      let whole : f ≡ 108 ∷ 1 ∷ 0 ∷ 1 ∷ 0 ∷ 0 ∷ 0 ∷ 0 ∷ rest = u ∙ (ap (λ (w : List ℕ). w ++ B) (pads ∙ ap (λ (w : List ℕ). w ++ P) head)
      ∙ ap (λ (w : List ℕ). 108 ∷ 1 ∷ 0 ∷ 1 ∷ 0 ∷ 0 ∷ 0 ∷ 0 ∷ w) (regroup (number Little w32 serial) P)) in
      let count : n ≡ length B = omega (arith, size, ap length u, length-append e B) in
      put ∙ (ap (λ (w : List ℕ). take 4 w ++ (number Little w32 n ++ drop 8 w)) whole ∙ ap (λ (m : ℕ). 108 ∷ 1 ∷ 0 ∷ 1 ∷ (number Little w32 m ++ rest)) count)

pub on_ok : {X E : Type 0} {P Q : Type 0} (r : Result X E) → (P → Q) → OnOk r P → OnOk r Q
on_ok (Ok x) f p = f p
on_ok (Err e) f p = tt
