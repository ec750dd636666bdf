-- Looks at folders and files in them, two by two; and the paths of a plan.
use Rattle.std.proofs.Common.{◌≡◌, ℕ, ◌+◌, ◌<◌, ◌≤◌, ◌==◌, List, [], ◌∷◌, drop, get_or, length, map, Bool, true, false, not, ◌&&◌, ◌||◌, refl, sym, ap, ◌∙◌, arith, zero, suc}
use Rattle.std.proofs.lemmas.Bool.Decides.{nat_tests}
use Rattle.std.specs.List.{list_any}
use Rattle.add_files.specs.declared.plan.PlanItem.{PlanItem}
use Rattle.portal_base.specs.declared.files.Look.{Look}
use Rattle.portal_model.specs.Add.{are_folders_and_files, is_folder_look}

-- the two that come next
pub two-more : (looks : List Look) (i : ℕ) (d e : Look) → i + 2 ≤ length looks →
    are_folders_and_files (drop i looks)
    ≡ (is_folder_look (get_or looks i d) && (not (is_folder_look (get_or looks (i + 1) e)) && are_folders_and_files (drop (i + 2) looks)))
two-more [] i d e h = let no : ⊥ = omega arith in absurd no
two-more (x ∷ []) zero d e h = let no : ⊥ = omega arith in absurd no
two-more (x ∷ y ∷ ys) zero d e h = refl
two-more (x ∷ xs) (suc i) d e h =
    let two : suc i + 2 ≡ suc (i + 2) = omega arith in
    let one : suc i + 1 ≡ suc (i + 1) = omega arith in
    rw (two, one) (two-more xs i d e (omega arith))

-- where fewer than two are left
pub at-end : (looks : List Look) (i : ℕ) → i ≤ length looks → length looks < i + 2 → are_folders_and_files (drop i looks) ≡ (i == length looks)
at-end [] zero h k = refl
at-end [] (suc i) h k = let no : ⊥ = omega arith in absurd no
at-end (x ∷ []) zero h k = refl
at-end (x ∷ y ∷ ys) zero h k = let no : ⊥ = omega arith in absurd no
at-end (x ∷ xs) (suc i) h k = at-end xs i (omega arith) (omega arith) ∙ same-test i (length xs)
  where
    same-test : (a b : ℕ) → (a == b) ≡ (suc a == suc b)
    same-test a b = grind (arith, nat_tests)

-- the two that come next are no folder and file in it; or they are, and the rest is left
pub stops : (looks : List Look) (i : ℕ) (d e : Look) (b : Bool) → i + 2 ≤ length looks → b ≡ (is_folder_look (get_or looks i d) && not (is_folder_look (get_or looks (i + 1) e))) → b ≡ false →
    are_folders_and_files (drop i looks) ≡ false
stops looks i d e b h k n = two-more looks i d e h ∙ joined (is_folder_look (get_or looks i d)) (not (is_folder_look (get_or looks (i + 1) e))) (are_folders_and_files (drop (i + 2) looks)) (sym k ∙ n)
  where
    joined : (x y z : Bool) → (x && y) ≡ false → (x && (y && z)) ≡ false
    joined true true z e = cc
    joined true false z e = refl
    joined false y z e = refl

pub goes-on : (looks : List Look) (i : ℕ) (d e : Look) (b : Bool) → i + 2 ≤ length looks → b ≡ (is_folder_look (get_or looks i d) && not (is_folder_look (get_or looks (i + 1) e))) → b ≡ true →
    are_folders_and_files (drop (i + 2) looks) ≡ are_folders_and_files (drop i looks)
goes-on looks i d e b h k n = sym (two-more looks i d e h ∙ joined (is_folder_look (get_or looks i d)) (not (is_folder_look (get_or looks (i + 1) e))) (are_folders_and_files (drop (i + 2) looks)) (sym k ∙ n))
  where
    joined : (x y z : Bool) → (x && y) ≡ true → (x && (y && z)) ≡ z
    joined true true z e = refl
    joined true false z e = cc
    joined false y z e = cc

-- a test of the paths of a plan is one of its files
pub any-path : (test : List ℕ → Bool) (items : List PlanItem) →
    list_any (λ (item : PlanItem). test item.path) items ≡ list_any test (map (λ (item : PlanItem). item.path) items)
any-path test [] = refl
any-path test (item ∷ items) = ap (λ (b : Bool). test item.path || b) (any-path test items)
