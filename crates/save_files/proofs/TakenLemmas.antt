-- The last generation of a path, set in its place or behind all.
use Rattle.std.proofs.Common.{◌≡◌, ℕ, ◌+◌, ◌<◌, ◌≤◌, suc, zero, List, [], ◌∷◌, ◌++◌, length, Bool, true, false, not, cond, ltb, Some, None, refl, sym, ap, ◌∙◌, arith}
use Rattle.std.proofs.lemmas.Bool.Decides.{nat_tests}
use Rattle.std.specs.List.{slice_index_or, slice_set, position, position_or_len}
use Rattle.portal_model.specs.declared.opening.TakenGeneration.{TakenGeneration}
use Rattle.save_files.specs.Taken.{is_of, taken_as, with_taken}

-- the generation stands in the place of the former
taken-set : (path : List ℕ) (last : ℕ) (ts : List TakenGeneration) (i : ℕ) (t : TakenGeneration) → i ≡ position_or_len (is_of path) ts → i < length ts → t ≡ slice_index_or ts i t → slice_set ts i (taken_as t.path last) ≡ with_taken path last ts
taken-set path last [] i t e l at = absurd (omega arith)
taken-set path last (u ∷ us) i t e l at = step (is_of path u) e (λ j k m h. taken-set path last us j t k m h)
  where
    step : (b : Bool) → i ≡ cond (not b) (1 + position_or_len (is_of path) us) 0
        → ((j : ℕ) → j ≡ position_or_len (is_of path) us → j < length us → t ≡ slice_index_or us j t → slice_set us j (taken_as t.path last) ≡ with_taken path last us)
        → slice_set (u ∷ us) i (taken_as t.path last) ≡ cond b (taken_as u.path last ∷ us) (u ∷ with_taken path last us)
    step true k more = first i k at
      where
        first : (j : ℕ) → j ≡ 0 → t ≡ slice_index_or (u ∷ us) j t → slice_set (u ∷ us) j (taken_as t.path last) ≡ taken_as u.path last ∷ us
        first zero f here = ap (λ (v : TakenGeneration). taken_as v.path last ∷ us) here
        first (suc j) f here = absurd (omega arith)
    step false k more = later i k l at
      where
        later : (j : ℕ) → j ≡ 1 + position_or_len (is_of path) us → j < length (u ∷ us) → t ≡ slice_index_or (u ∷ us) j t → slice_set (u ∷ us) j (taken_as t.path last) ≡ u ∷ with_taken path last us
        later zero f m here = absurd (omega arith)
        later (suc j) f m here = ap (λ (vs : List TakenGeneration). u ∷ vs) (more j (omega arith) (omega arith) here)

-- none of the path is there
taken-new : (path : List ℕ) (last : ℕ) (ts : List TakenGeneration) → length ts ≤ position_or_len (is_of path) ts → with_taken path last ts ≡ ts ++ taken_as path last ∷ []
taken-new path last [] l = refl
taken-new path last (u ∷ us) l = step (is_of path u) l (taken-new path last us)
  where
    step : (b : Bool) → length (u ∷ us) ≤ cond (not b) (1 + position_or_len (is_of path) us) 0
        → (length us ≤ position_or_len (is_of path) us → with_taken path last us ≡ us ++ taken_as path last ∷ []) → cond b (taken_as u.path last ∷ us) (u ∷ with_taken path last us) ≡ u ∷ (us ++ taken_as path last ∷ [])
    step true m more = absurd (omega arith)
    step false m more = ap (λ (vs : List TakenGeneration). u ∷ vs) (more (omega arith))

some-place : (n l i : ℕ) (b : Bool) → ltb n l ≡ b → Some i ≡ cond b (Some n) None → (i ≡ n) × (i < l)
some-place n l i true h e =
    let same : i ≡ n = cc in
    (same, grind (arith, nat_tests))
some-place n l i false h e = absurd (cc)

no-place : (n l : ℕ) (b : Bool) → ltb n l ≡ b → None ≡ cond b (Some n) None → l ≤ n
no-place n l true h e = absurd (cc)
no-place n l false h e = grind (arith, nat_tests)

-- what was found at a place is set there
pub taken-found : (path : List ℕ) (last : ℕ) (ts : List TakenGeneration) (i : ℕ) (t : TakenGeneration) → Some i ≡ position (is_of path) ts → t ≡ slice_index_or ts i t → slice_set ts i (taken_as t.path last) ≡ with_taken path last ts
taken-found path last ts i t e at =
    let n = position_or_len (is_of path) ts in
    let p = some-place n (length ts) i (ltb n (length ts)) refl e in
    taken-set path last ts i t p.0 p.1 at

-- what wasn't found stands last
pub taken-last : (path : List ℕ) (last : ℕ) (ts : List TakenGeneration) → None ≡ position (is_of path) ts → ts ++ taken_as path last ∷ [] ≡ with_taken path last ts
taken-last path last ts e =
    let n = position_or_len (is_of path) ts in
    sym (taken-new path last ts (no-place n (length ts) (ltb n (length ts)) refl e))
