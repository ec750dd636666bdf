-- A text that breaks the rule of names is none, and a list with an unknown name of a right isn't one
-- of names of rights.
use Rattle.std.proofs.Common.{◌≡◌, ◌+◌, ◌<◌, ℕ, List, [], ◌∷◌, length, drop, Bool, true, false, ◌&&◌, nat_le, inl, inr, refl, ap, ◌∙◌, arith, zero, suc, Some}
use Rattle.std.specs.List.{slice_get}
use Rattle.std.proofs.lemmas.Bool.Decides.{nat_tests}
use Rattle.std.proofs.lemmas.List.{take-append-drop}
use Rattle.portal_base.specs.Names.{IsFirstBreak, is_app_name, has_app_form, app_limit}
use Rattle.rights_rule.specs.Rights.{is_right_name, are_right_names}

and-false : (b : Bool) → (b && false) ≡ false
and-false true = refl
and-false false = refl

never-true : (b : Bool) → (b ≡ true → ⊥) → b ≡ false
never-true true h = absurd (h refl)
never-true false h = refl

too-long : (b : Bool) (n limit : ℕ) → limit < n → (b && nat_le n limit) ≡ false
too-long b n limit h = grind (arith, nat_tests)

broken : (has_form : List ℕ → Bool) (limit : ℕ) (t : List ℕ) (n : ℕ) → IsFirstBreak has_form limit t n → (has_form t && nat_le (length t) limit) ≡ false
broken has_form limit t n b = elim b.here [
  | inl ended ↦ ap (λ (x : Bool). x && nat_le (length t) limit) ended.1
  | inr inside ↦ elim inside.1 [
    | inl past ↦ too-long (has_form t) (length t) limit (omega arith)
    | inr none ↦
        let other : has_form t ≡ false = never-true (has_form t) (λ h. none (drop (n + 1) t, ap has_form (take-append-drop (n + 1) t) ∙ h)) in
        ap (λ (x : Bool). x && nat_le (length t) limit) other
  ]
]

pub broken-name : (t : List ℕ) (n : ℕ) → IsFirstBreak has_app_form app_limit t n → is_app_name t ≡ false
unfolding is_app_name
broken-name t n b = broken has_app_form app_limit t n b

-- one item that doesn't pass
pub unknown-name : (names : List (List ℕ)) (at : ℕ) (text : List ℕ) → slice_get names at ≡ Some text → is_right_name text ≡ false → are_right_names names ≡ false
unknown-name [] at text h k = cc
unknown-name (t ∷ ts) zero text h k = let e : t ≡ text = cc in ap (λ (x : List ℕ). is_right_name x && are_right_names ts) e ∙ ap (λ (x : Bool). x && are_right_names ts) k
unknown-name (t ∷ ts) (suc at) text h k = ap (λ (x : Bool). is_right_name t && x) (unknown-name ts at text h k) ∙ and-false (is_right_name t)
