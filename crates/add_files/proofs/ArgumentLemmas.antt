-- A text that breaks the rule of names is none, and a list with an unknown name of a right isn't one
-- of names of rights.
use Rattle.std.proofs.Common.{◌≡◌, ◌+◌, ◌-◌, ◌==◌, ◌++◌, take, get_or, not, ◌||◌, cond, subst, IsTrue, ◌↔◌, ◌<◌, ◌≤◌, ℕ, List, [], ◌∷◌, length, drop, Bool, true, false, ◌&&◌, nat_le, inl, inr, refl, sym, ap, ◌∙◌, arith, zero, suc, Some}
use Rattle.std.specs.List.{slice_get}
use Rattle.std.proofs.lemmas.Bool.Decides.{nat_tests}
use Rattle.std.proofs.lemmas.List.{take-append-drop, take_more, take_all}
use Rattle.portal_base.specs.Names.{IsFirstBreak, child_of, is_app_name, is_host_path, is_same, has_app_form, has_path_form, app_limit, path_limit}
use Rattle.portal_model.specs.declared.request.AddRequest.{AddRequest}
use Rattle.portal_model.specs.Arguments.{ahead_of_end, has_end}
use Rattle.add_files.specs.Arguments.{has_app, is_joined_well}
use Rattle.rights_rule.specs.Rights.{is_right_name, are_right_names}

and-false : (b : Bool) → (b && false) ≡ false
and-false true = refl
and-false false = refl

never-true : (b : Bool) → (b ≡ true → ⊥) → b ≡ false
never-true true h = absurd (h refl)
never-true false h = refl

too-long : (b : Bool) (n limit : ℕ) → limit < n → (b && nat_le n limit) ≡ false
too-long b n limit h = grind (arith, nat_tests)

broken : (has_form : List ℕ → Bool) (limit : ℕ) (t : List ℕ) (n : ℕ) → IsFirstBreak has_form limit t n → (has_form t && nat_le (length t) limit) ≡ false
broken has_form limit t n b = elim b.here [
  | inl ended ↦ ap (λ (x : Bool). x && nat_le (length t) limit) ended.1
  | inr inside ↦ elim inside.1 [
    | inl past ↦ too-long (has_form t) (length t) limit (omega arith)
    | inr none ↦
        let other : has_form t ≡ false = never-true (has_form t) (λ h. none (drop (n + 1) t, ap has_form (take-append-drop (n + 1) t) ∙ h)) in
        ap (λ (x : Bool). x && nat_le (length t) limit) other
  ]
]

pub broken-name : (t : List ℕ) (n : ℕ) → IsFirstBreak has_app_form app_limit t n → is_app_name t ≡ false
unfolding is_app_name
broken-name t n b = broken has_app_form app_limit t n b

pub broken-path : (t : List ℕ) (n : ℕ) → IsFirstBreak has_path_form path_limit t n → is_host_path t ≡ false
unfolding is_host_path
broken-path t n b = broken has_path_form path_limit t n b

-- one item that doesn't pass
pub unknown-name : (names : List (List ℕ)) (at : ℕ) (text : List ℕ) → slice_get names at ≡ Some text → is_right_name text ≡ false → are_right_names names ≡ false
unknown-name [] at text h k = cc
unknown-name (t ∷ ts) zero text h k = let e : t ≡ text = cc in ap (λ (x : List ℕ). is_right_name x && are_right_names ts) e ∙ ap (λ (x : Bool). x && are_right_names ts) k
unknown-name (t ∷ ts) (suc at) text h k = ap (λ (x : Bool). is_right_name t && x) (unknown-name ts at text h k) ∙ and-false (is_right_name t)

-- ---- the zero byte at the end

same-last : (xs : List ℕ) (x : ℕ) → is_same (xs ++ x ∷ []) (xs ++ 0 ∷ []) ≡ (x == 0)
same-last [] x = grind (arith, nat_tests)
same-last (y ∷ ys) x = grind (arith, nat_tests, same-last ys x)

pub last-is : (bytes : List ℕ) → 1 ≤ length bytes → (get_or bytes (length bytes - 1) 0 == 0) ≡ has_end bytes
last-is bytes h =
    let inside : length bytes - 1 < length bytes = omega arith in
    let whole : length bytes ≤ length bytes - 1 + 1 = omega arith in
    let parts : bytes ≡ take (length bytes - 1) bytes ++ get_or bytes (length bytes - 1) 0 ∷ [] = sym (take_all (length bytes - 1 + 1) bytes whole) ∙ take_more bytes (length bytes - 1) 0 inside in
    sym (ap (λ (b : List ℕ). is_same b (take (length bytes - 1) bytes ++ 0 ∷ [])) parts ∙ same-last (take (length bytes - 1) bytes) (get_or bytes (length bytes - 1) 0))

pub nobody-else : (r : Bool) (t : List ℕ) → r ≡ false → (IsTrue r ↔ (t ≡ [])) → is_same t [] ≡ false
nobody-else r [] e h = absurd (differ r e (h.1 refl))
  where
    differ : (b : Bool) → b ≡ false → b ≡ true → ⊥
    differ true h k = cc
    differ false h k = cc
nobody-else r (x ∷ xs) e h = refl

pub no-app : (r : Bool) (a : AddRequest) → r ≡ false → (IsTrue r ↔ (a.app ≡ [])) → (text : List ℕ) (n : ℕ) → text ≡ a.app → IsFirstBreak has_app_form app_limit text n → has_app a ≡ false
no-app r a e h text n s b =
    ap (λ (x : Bool). x || is_app_name a.app) (nobody-else r a.app e h)
    ∙ subst (λ (t : List ℕ). is_app_name t ≡ false) s (broken-name text n b)

pub not-joined : (a : AddRequest) (path text : List ℕ) (n : ℕ) → a.named ≡ true → text ≡ child_of path (ahead_of_end a.name) → IsFirstBreak has_path_form path_limit text n → is_joined_well a path ≡ false
not-joined a path text n e s b =
    ap (λ (x : Bool). not x || is_host_path (cond x (child_of path (ahead_of_end a.name)) path)) e
    ∙ subst (λ (t : List ℕ). is_host_path t ≡ false) s (broken-path text n b)
