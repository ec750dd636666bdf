-- A path that ends with a zero byte.
use Rattle.std.proofs.Common.{◌≡◌, ◌+◌, ◌-◌, ◌==◌, ◌++◌, take, get_or, cond, ◌<◌, ◌≤◌, ℕ, List, [], ◌∷◌, length, drop, Bool, true, false, ◌&&◌, Some, None, nat_le, inl, inr, refl, sym, ap, ◌∙◌, arith}
use Rattle.std.proofs.lemmas.Bool.Decides.{nat_tests}
use Rattle.std.proofs.lemmas.List.{take-append-drop, take_more, take_all}
use Rattle.portal_base.specs.Names.{IsFirstBreak, is_host_path, is_same, has_path_form, path_limit}
use Rattle.portal_model.specs.Arguments.{ahead_of_end, has_end}

never-true : (b : Bool) → (b ≡ true → ⊥) → b ≡ false
never-true true h = absurd (h refl)
never-true false h = refl

too-long : (b : Bool) (n limit : ℕ) → limit < n → (b && nat_le n limit) ≡ false
too-long b n limit h = grind (arith, nat_tests)

broken : (has_form : List ℕ → Bool) (limit : ℕ) (t : List ℕ) (n : ℕ) → IsFirstBreak has_form limit t n → (has_form t && nat_le (length t) limit) ≡ false
broken has_form limit t n b = elim b.here [
  | inl ended ↦ ap (λ (x : Bool). x && nat_le (length t) limit) ended.1
  | inr inside ↦ elim inside.1 [
    | inl past ↦ too-long (has_form t) (length t) limit (omega arith)
    | inr none ↦
        let other : has_form t ≡ false = never-true (has_form t) (λ h. none (drop (n + 1) t, ap has_form (take-append-drop (n + 1) t) ∙ h)) in
        ap (λ (x : Bool). x && nat_le (length t) limit) other
  ]
]

broken-path : (t : List ℕ) (n : ℕ) → IsFirstBreak has_path_form path_limit t n → is_host_path t ≡ false
unfolding is_host_path
broken-path t n b = broken has_path_form path_limit t n b

and-false : (b : Bool) → (b && false) ≡ false
and-false true = refl
and-false false = refl

-- the bytes ahead of the end are no path
pub no-path : (bytes ahead : List ℕ) (n : ℕ) → ahead ≡ ahead_of_end bytes → IsFirstBreak has_path_form path_limit ahead n → None ≡ cond (has_end bytes && is_host_path (ahead_of_end bytes)) (Some (ahead_of_end bytes)) None
no-path bytes ahead n e b =
    let none : is_host_path (ahead_of_end bytes) ≡ false = ap is_host_path (sym e) ∙ broken-path ahead n b in
    sym (ap (λ (x : Bool). cond (has_end bytes && x) (Some (ahead_of_end bytes)) None) none ∙ ap (λ (x : Bool). cond x (Some (ahead_of_end bytes)) None) (and-false (has_end bytes)))

same-last : (xs : List ℕ) (x : ℕ) → is_same (xs ++ x ∷ []) (xs ++ 0 ∷ []) ≡ (x == 0)
same-last [] x = grind (arith, nat_tests)
same-last (y ∷ ys) x = grind (arith, nat_tests, same-last ys x)

pub last-is : (bytes : List ℕ) → 1 ≤ length bytes → (get_or bytes (length bytes - 1) 0 == 0) ≡ has_end bytes
last-is bytes h =
    let inside : length bytes - 1 < length bytes = omega arith in
    let whole : length bytes ≤ length bytes - 1 + 1 = omega arith in
    let parts : bytes ≡ take (length bytes - 1) bytes ++ get_or bytes (length bytes - 1) 0 ∷ [] = sym (take_all (length bytes - 1 + 1) bytes whole) ∙ take_more bytes (length bytes - 1) 0 inside in
    sym (ap (λ (b : List ℕ). is_same b (take (length bytes - 1) bytes ++ 0 ∷ [])) parts ∙ same-last (take (length bytes - 1) bytes) (get_or bytes (length bytes - 1) 0))
