-- A joined path that breaks the rule of paths is none.
use Rattle.std.proofs.Common.{◌≡◌, ◌+◌, ◌<◌, ℕ, List, length, drop, Bool, true, false, ◌&&◌, cond, Some, None, nat_le, inl, inr, refl, sym, ap, ◌∙◌, arith}
use Rattle.std.proofs.lemmas.Bool.Decides.{nat_tests}
use Rattle.std.proofs.lemmas.List.{take-append-drop}
use Rattle.portal_base.specs.Names.{IsFirstBreak, child_of, is_host_path, has_path_form, path_limit}
use Rattle.folder_documents.specs.Children.{child_of_folder}

never-true : (b : Bool) → (b ≡ true → ⊥) → b ≡ false
never-true true h = absurd (h refl)
never-true false h = refl

too-long : (b : Bool) (n limit : ℕ) → limit < n → (b && nat_le n limit) ≡ false
too-long b n limit h = grind (arith, nat_tests)

broken : (has_form : List ℕ → Bool) (limit : ℕ) (t : List ℕ) (n : ℕ) → IsFirstBreak has_form limit t n → (has_form t && nat_le (length t) limit) ≡ false
broken has_form limit t n b = elim b.here [
  | inl ended ↦ ap (λ (x : Bool). x && nat_le (length t) limit) ended.1
  | inr inside ↦ elim inside.1 [
    | inl past ↦ too-long (has_form t) (length t) limit (omega arith)
    | inr none ↦
        let other : has_form t ≡ false = never-true (has_form t) (λ h. none (drop (n + 1) t, ap has_form (take-append-drop (n + 1) t) ∙ h)) in
        ap (λ (x : Bool). x && nat_le (length t) limit) other
  ]
]

broken-path : (t : List ℕ) (n : ℕ) → IsFirstBreak has_path_form path_limit t n → is_host_path t ≡ false
unfolding is_host_path
broken-path t n b = broken has_path_form path_limit t n b

pub broken-child : (parent name : List ℕ) (n : ℕ) → IsFirstBreak has_path_form path_limit (child_of parent name) n → None ≡ child_of_folder parent name
broken-child parent name n b = ap (λ (x : Bool). cond x (Some (child_of parent name)) None) (sym (broken-path (child_of parent name) n b))
