-- A text that is a name breaks its rule nowhere.
use Rattle.std.proofs.Common.{◌≡◌, ◌+◌, ◌≤◌, ℕ, List, length, drop, Bool, true, false, ◌&&◌, nat_le, inl, inr, refl, sym, ap, ◌∙◌, arith}
use Rattle.std.proofs.lemmas.Bool.Decides.{nat_tests}
use Rattle.std.proofs.lemmas.List.{take-append-drop}
use Rattle.portal_base.specs.Names.{IsFirstBreak, is_app_name, is_host_path, has_app_form, has_path_form, app_limit, path_limit}

no_break : (has_form : List ℕ → Bool) (limit : ℕ) (t : List ℕ) (n : ℕ) → has_form t ≡ true → length t ≤ limit → IsFirstBreak has_form limit t n → ⊥
no_break has_form limit t n form short b = elim b.here [
  | inl a ↦ let e : true ≡ false = sym form ∙ a.1 in cc
  | inr a ↦ elim a.1 [
    | inl at_limit ↦ omega arith
    | inr never ↦ never (drop (n + 1) t, ap has_form (take-append-drop (n + 1) t) ∙ form)
  ]
]

form_of : (b : Bool) (n limit : ℕ) → (b && nat_le n limit) ≡ true → (b ≡ true) × (n ≤ limit)
form_of true n limit h = (refl, grind (arith, nat_tests))
form_of false n limit h = cc

pub no_break_of_name : (t : List ℕ) (n : ℕ) → is_app_name t ≡ true → IsFirstBreak has_app_form app_limit t n → ⊥
unfolding is_app_name
no_break_of_name t n h b = let k = form_of (has_app_form t) (length t) app_limit h in no_break has_app_form app_limit t n k.0 k.1 b

pub no_break_of_path : (t : List ℕ) (n : ℕ) → is_host_path t ≡ true → IsFirstBreak has_path_form path_limit t n → ⊥
unfolding is_host_path
no_break_of_path t n h b = let k = form_of (has_path_form t) (length t) path_limit h in no_break has_path_form path_limit t n k.0 k.1 b
