-- Texts that the readers of names refuse: none of them is a name.
use Rattle.std.proofs.Common.{◌≡◌, ℕ, ◌+◌, ◌<◌, ◌&&◌, inl, inr, Bool, true, false, List, length, drop, refl, arith}
use Rattle.std.specs.Prelude.{nat_le}
use Rattle.std.proofs.lemmas.Bool.{lt-leb}
use Rattle.std.proofs.lemmas.List.{take-append-drop}
use Rattle.portal_base.specs.Names.{IsFirstBreak, has_app_form, app_limit, has_path_form, path_limit, is_app_name, is_host_path}

and_false : (b : Bool) → (b && false) ≡ false
and_false true = refl
and_false false = refl

pub no_true : (b : Bool) → (b ≡ true → ⊥) → b ≡ false
no_true true h = absurd (h refl)
no_true false h = refl

-- a text that breaks a rule at some place isn't of that form, or passes the limit
broken : (has_form : List ℕ → Bool) (limit : ℕ) (t : List ℕ) (n : ℕ) → IsFirstBreak has_form limit t n
    → (has_form t && nat_le (length t) limit) ≡ false
broken has_form limit t n b = elim b.here [
  | inl ended ↦ rw (ended.1) refl
  | inr inside ↦ elim inside.1 [
    | inl past ↦
        let long : limit < length t = omega arith in
        rw (lt-leb (length t) limit long) (and_false (has_form t))
    | inr none ↦
        let other : has_form t ≡ false = no_true (has_form t) (λ h. none (drop (n + 1) t, rw take-append-drop h)) in
        rw other refl
  ]
]

pub broken_path : (t : List ℕ) (n : ℕ) → IsFirstBreak has_path_form path_limit t n → is_host_path t ≡ false
unfolding is_host_path
broken_path t n b = broken has_path_form path_limit t n b

pub broken_app : (t : List ℕ) (n : ℕ) → IsFirstBreak has_app_form app_limit t n → is_app_name t ≡ false
unfolding is_app_name
broken_app t n b = broken has_app_form app_limit t n b
