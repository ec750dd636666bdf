-- The parent of a path is the root, or lies above it. So what stands in a tree stands in a folder.
use Rattle.std.proofs.Common.{◌≡◌, ℕ, ◌+◌, ◌-◌, suc, List, [], ◌∷◌, ◌++◌, length, take, reverse, Bool, true, false, not, ◌&&◌, ◌||◌, cond, Option, Some, None, refl, sym, ap, subst, ◌∙◌, ◌⊎◌, append_assoc, arith, inl, inr, length-append}
use Rattle.std.proofs.lemmas.List.{length-reverse, reverse-append, reverse-reverse}
use Rattle.std.proofs.Math.Seq.{take-append-add}
use Rattle.std.specs.List.{find, list_any, prefix_len, suffix_len}
use Rattle.portal_base.specs.Content.{content_at, content_of, file_at, has_room, is_above, is_folder, paths_of}
use Rattle.portal_base.specs.Names.{is_same, is_slash, parent_of, root}
use Rattle.portal_base.specs.declared.files.File.{File}
use Rattle.portal_base.proofs.PathsAbove.{above-more, any-paths, any-up, slash-is}
use Rattle.portal_model.proofs.ListLookups.{found_passes, is_same-eq, nat_is}
use Rattle.app_world.specs.Shown.{has_parent}
use Rattle.app_world.proofs.HeldFiles.{any-of}

abbrev in-part : ℕ → Bool
in-part b = not (is_slash b)

-- what stands ahead of the first slash, where there is one
abbrev Cut : List ℕ → ℕ → Type 0
Cut xs n = (n ≡ length xs) ⊎ ((front : List ℕ) × (rest : List ℕ) × (xs ≡ front ++ 47 ∷ rest) × (n ≡ length front))

cut-first : (xs : List ℕ) → Cut xs (prefix_len in-part xs)
cut-first [] = inl refl
cut-first (x ∷ xs) = step (is_slash x) refl (cut-first xs)
  where
    step : (b : Bool) → is_slash x ≡ b → Cut xs (prefix_len in-part xs) → Cut (x ∷ xs) (cond (not b) (1 + prefix_len in-part xs) 0)
    step true e h = inr ([], xs, ap (λ (y : ℕ). y ∷ xs) (nat_is x 47 e), refl)
    step false e (inl h) = inl (omega arith)
    step false e (inr r) =
        let n : prefix_len in-part xs ≡ length r.0 = r.3 in
        inr (x ∷ r.0, r.1, ap (λ (ys : List ℕ). x ∷ ys) r.2, omega arith)

above-rest : (front rest : List ℕ) → is_above front (front ++ 47 ∷ rest) ≡ true
above-rest [] rest = slash-is 47 rest refl
above-rest (a ∷ front) rest = above-more a a front (front ++ 47 ∷ rest) refl (above-rest front rest)

none-taken : (xs : List ℕ) → take 0 xs ≡ []
none-taken [] = refl
none-taken (x ∷ xs) = refl

no-more : (xs : List ℕ) → xs ++ [] ≡ xs
no-more [] = refl
no-more (x ∷ xs) = ap (λ (ys : List ℕ). x ∷ ys) (no-more xs)

whole-taken : (front rest : List ℕ) → take (length front) (front ++ 47 ∷ rest) ≡ front
whole-taken front rest =
    let e : length front ≡ length front + 0 = omega arith in
    ap (λ (n : ℕ). take n (front ++ 47 ∷ rest)) e ∙ (take-append-add front (47 ∷ rest) 0 ∙ no-more front)

-- what stands ahead of the last slash
first-part : (p : List ℕ) → Cut (reverse p) (suffix_len in-part p) → (take (length p - suffix_len in-part p - 1) p ≡ []) ⊎ (is_above (take (length p - suffix_len in-part p - 1) p) p ≡ true)
first-part p (inl e) =
    let l : length (reverse p) ≡ length p = length-reverse p in
    let none : length p - suffix_len in-part p - 1 ≡ 0 = omega arith in
    inl (ap (λ (n : ℕ). take n p) none ∙ none-taken p)
first-part p (inr r) =
    let f : List ℕ = reverse r.1 in
    let back : List ℕ = reverse r.0 in
    let whole : p ≡ f ++ 47 ∷ back =
    sym (reverse-reverse p) ∙ (ap reverse r.2 ∙ (reverse-append r.0 (47 ∷ r.1) ∙ (ap (λ (xs : List ℕ). xs ++ back) (reverse-append (47 ∷ []) r.1) ∙ append_assoc f (47 ∷ []) back))) in
    let n : suffix_len in-part p ≡ length r.0 = r.3 in
    let m : length back ≡ length r.0 = length-reverse r.0 in
    let l : length p ≡ length f + suc (length back) = ap length whole ∙ length-append f (47 ∷ back) in
    let k : length p - suffix_len in-part p - 1 ≡ length f = omega arith in
    let t : take (length p - suffix_len in-part p - 1) p ≡ f = (λ i. take (k i) (whole i)) ∙ whole-taken f back in
    inr ((λ i. is_above (t i) (whole i)) ∙ above-rest f back)

-- the root where that is nothing
or-root : (ahead p : List ℕ) → (ahead ≡ []) ⊎ (is_above ahead p ≡ true) → (cond (is_same ahead []) root ahead ≡ root) ⊎ (is_above (cond (is_same ahead []) root ahead) p ≡ true)
or-root [] p h = inl refl
or-root (a ∷ rest) p (inl e) = absurd (cc)
or-root (a ∷ rest) p (inr h) = inr h

pub parent-above : (p : List ℕ) → (parent_of p ≡ root) ⊎ (is_above (parent_of p) p ≡ true)
unfolding parent_of
parent-above p = or-root (take (length p - suffix_len in-part p - 1) p) p (first-part p (cut-first (reverse p)))

-- ---- in a tree

or-later : (a : Bool) {b : Bool} → b ≡ true → (a || b) ≡ true
or-later true e = refl
or-later false e = e

root-there : (files : List File) (q : List ℕ) → q ≡ root → is_folder files q ≡ true
root-there files q e = ap (is_folder files) e

-- a file stands in a folder
pub file-room : (files : List File) (path : List ℕ) (f : File) → file_at files path ≡ Some f → has_room files path ≡ true
file-room files path f e = step (parent-above path)
  where
    step : (parent_of path ≡ root) ⊎ (is_above (parent_of path) path ≡ true) → is_folder files (parent_of path) ≡ true
    step (inl h) = root-there files (parent_of path) h
    step (inr h) =
        let same : f.path ≡ path = is_same-eq f.path path (found_passes (λ (x : File). is_same x.path path) files f e) in
        or-later (is_same (parent_of path) root) (any-of (λ (x : File). is_above (parent_of path) x.path) (λ (x : File). is_same x.path path) files f e (ap (is_above (parent_of path)) same ∙ h))

parent-of-root : parent_of root ≡ root
unfolding parent_of
parent-of-root = refl

-- and so does a folder
pub folder-room : (files : List File) (path : List ℕ) → is_folder files path ≡ true → has_room files path ≡ true
folder-room files path h = by_root (is_same path root) refl h
  where
    below : list_any (λ (f : File). is_above path f.path) files ≡ true → (parent_of path ≡ root) ⊎ (is_above (parent_of path) path ≡ true) → is_folder files (parent_of path) ≡ true
    below k (inl e) = root-there files (parent_of path) e
    below k (inr e) =
        or-later (is_same (parent_of path) root)
        (any-paths (is_above (parent_of path)) files ∙ any-up (parent_of path) path (paths_of files) e (sym (any-paths (is_above path) files) ∙ k))

    by_root : (b : Bool) → is_same path root ≡ b → (b || list_any (λ (f : File). is_above path f.path) files) ≡ true → is_folder files (parent_of path) ≡ true
    by_root true e k = root-there files (parent_of path) (ap parent_of (is_same-eq path root e) ∙ parent-of-root)
    by_root false e k = below k (parent-above path)

-- what stands at a path, or may be made there, stands in a folder, and nothing else does
pub has_parent-is : (files : List File) (path : List ℕ) → has_parent (content_at files path) ≡ has_room files path
has_parent-is files path = step (file_at files path) refl (is_folder files path) refl
  where
    step : (o : Option File) → file_at files path ≡ o → (b : Bool) → is_folder files path ≡ b → has_parent (content_of o b (has_room files path)) ≡ has_room files path
    step (Some f) e b h = sym (file-room files path f e)
    step None e true h = sym (folder-room files path h)
    step None e false h = refl
