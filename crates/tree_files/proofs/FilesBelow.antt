-- Whether a file lies below a path is seen at the first file behind it; and the files at a path and below it.
use Rattle.std.proofs.Common.{◌≡◌, ℕ, List, [], ◌∷◌, ◌++◌, append_assoc, Bool, true, false, ◌&&◌, ◌||◌, cond, refl, sym, ap, ◌∙◌}
use Rattle.std.proofs.lemmas.List.{append-nil}
use mathlib.Core.Bool.{true≢false}
use Rattle.std.specs.BTreeMap.Range.{entries_between}
use Rattle.std.specs.List.{filter, list_any, AllByRecursion}
use Rattle.std.specs.List.Sorted.{IsStrictlySortedBy}
use Rattle.std.specs.Map.{keys_of}
use Rattle.std.specs.Ordering.{is_lt}
use Rattle.std.specs.declared.cmp.Ordering.{Ordering}
use Rattle.std.specs.declared.cmp.Ordering.TheVariants.{Less, Equal, Greater}
use Rattle.std.specs.declared.ops.Bound.TheVariants.{Excluded, Unbounded}
use Rattle.portal_base.specs.PathOrder.{path_order}
use Rattle.portal_base.specs.Content.{is_above, paths_of}
use Rattle.portal_base.specs.declared.files.File.{File}
use Rattle.host_tree.proofs.PathsBelow.{below-is-behind, between-is-below}
use Rattle.tree_files.specs.Kept.{file_of, files_of, stands_in}
use Rattle.tree_files.specs.declared.kept.KeptFile.{KeptFile}

abbrev pub below-first : List ℕ → List (List ℕ × KeptFile) → Bool
below-first p [] = false
below-first p (e ∷ es) = is_above p e.0

is-not-less : (o : Ordering) → is_lt o ≡ false → o ≡ Less → ⊥
is-not-less Less h e = absurd (cc)
is-not-less Equal h e = absurd (cc)
is-not-less Greater h e = absurd (cc)

none-below : (p k : List ℕ) (es : List (List ℕ × KeptFile)) → path_order p k ≡ Less →
    is_above p k ≡ false → AllByRecursion (λ q. path_order k q ≡ Less) (keys_of es) →
    list_any (λ (f : File). is_above p f.path) (files_of es) ≡ false
none-below p k [] l h s = refl
none-below p k (e ∷ es) l h s = step (is_above p e.0) refl (none-below p k es l h s.1)
  where
    step : (b : Bool) → is_above p e.0 ≡ b →
        list_any (λ (f : File). is_above p f.path) (files_of es) ≡ false →
        (b || list_any (λ (f : File). is_above p f.path) (files_of es)) ≡ false
    step true d more = absurd (true≢false (sym (between-is-below p k e.0 l s.0 d) ∙ h))
    step false d more = more

pub seen-at-first : (p : List ℕ) (es : List (List ℕ × KeptFile)) →
    IsStrictlySortedBy path_order (keys_of es) →
    below-first p (entries_between path_order (Excluded p) Unbounded es)
    ≡ list_any (λ (f : File). is_above p f.path) (files_of es)
unfolding IsStrictlySortedBy
seen-at-first p [] s = refl
seen-at-first p (e ∷ es) s =
    step (path_order p e.0) refl (is_above p e.0) refl (seen-at-first p es s.1)
  where
    step : (o : Ordering) → path_order p e.0 ≡ o → (b : Bool) → is_above p e.0 ≡ b →
        below-first p (entries_between path_order (Excluded p) Unbounded es)
        ≡ list_any (λ (f : File). is_above p f.path) (files_of es) →
        below-first p (cond (is_lt o && true)
        (e ∷ entries_between path_order (Excluded p) Unbounded es)
        (entries_between path_order (Excluded p) Unbounded es))
        ≡ (b || list_any (λ (f : File). is_above p f.path) (files_of es))
    step Less d true h more = h
    step Less d false h more = h ∙ sym (none-below p e.0 es d h s.0)
    step Equal d true h more = absurd (is-not-less Equal refl (sym d ∙ below-is-behind p e.0 h))
    step Equal d false h more = more
    step Greater d true h more =
        absurd (is-not-less Greater refl (sym d ∙ below-is-behind p e.0 h))
    step Greater d false h more = more

-- ---- one file after another

pub one-more-in : (folder : List ℕ) (e : List ℕ × KeptFile) (left rest : List (List ℕ × KeptFile)) (files more all : List File) → left ≡ e ∷ rest →
    more ≡ files ++ cond (stands_in folder (file_of e)) (file_of e ∷ []) [] → files ++ filter (stands_in folder) (files_of left) ≡ all → more ++ filter (stands_in folder) (files_of rest) ≡ all
one-more-in folder e left rest files more all steps m invariant =
    ap (λ (fs : List File). fs ++ filter (stands_in folder) (files_of rest)) m
    ∙ (by_place (stands_in folder (file_of e))
    ∙ (ap (λ (es : List (List ℕ × KeptFile)). files ++ filter (stands_in folder) (files_of es)) (sym steps) ∙ invariant))
  where
    by_place : (b : Bool) → (files ++ cond b (file_of e ∷ []) []) ++ filter (stands_in folder) (files_of rest) ≡ files ++ cond b (file_of e ∷ filter (stands_in folder) (files_of rest)) (filter (stands_in folder) (files_of rest))
    by_place true = append_assoc files (file_of e ∷ []) (filter (stands_in folder) (files_of rest))
    by_place false = append_assoc files [] (filter (stands_in folder) (files_of rest))

pub none-left : (folder : List ℕ) (left : List (List ℕ × KeptFile)) (files all : List File) → left ≡ [] → files ++ filter (stands_in folder) (files_of left) ≡ all → files ≡ all
none-left folder left files all e invariant =
    sym (append-nil files) ∙ (ap (λ (es : List (List ℕ × KeptFile)). files ++ filter (stands_in folder) (files_of es)) (sym e) ∙ invariant)

-- ---- they stand in their order

ahead-kept : (folder p : List ℕ) (es : List (List ℕ × KeptFile)) → AllByRecursion (λ q. path_order p q ≡ Less) (keys_of es) → AllByRecursion (λ q. path_order p q ≡ Less) (paths_of (filter (stands_in folder) (files_of es)))
ahead-kept folder p [] h = tt
ahead-kept folder p (e ∷ es) h = by_place (stands_in folder (file_of e)) (ahead-kept folder p es h.1)
  where
    by_place : (b : Bool) → AllByRecursion (λ q. path_order p q ≡ Less) (paths_of (filter (stands_in folder) (files_of es))) → AllByRecursion (λ q. path_order p q ≡ Less) (paths_of (cond b (file_of e ∷ filter (stands_in folder) (files_of es)) (filter (stands_in folder) (files_of es))))
    by_place true k = (h.0, k)
    by_place false k = k

pub sorted-in : (folder : List ℕ) (es : List (List ℕ × KeptFile)) → IsStrictlySortedBy path_order (keys_of es) → IsStrictlySortedBy path_order (paths_of (filter (stands_in folder) (files_of es)))
unfolding IsStrictlySortedBy
sorted-in folder [] h = tt
sorted-in folder (e ∷ es) h = by_place (stands_in folder (file_of e)) (sorted-in folder es h.1)
  where
    by_place : (b : Bool) → IsStrictlySortedBy path_order (paths_of (filter (stands_in folder) (files_of es))) → IsStrictlySortedBy path_order (paths_of (cond b (file_of e ∷ filter (stands_in folder) (files_of es)) (filter (stands_in folder) (files_of es))))
    by_place true s = (ahead-kept folder e.0 es h.0, s)
    by_place false s = s
