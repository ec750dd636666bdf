-- Paths that are sorted, each taken once, name the contents of a view.
use Rattle.std.proofs.Common.{◌≡◌, ◌<◌, ◌≤◌, ◌+◌, ℕ, zero, suc, length, get_or, drop, slice_get, List, [], ◌∷◌, ◌++◌, map, Bool, true, false, not, ◌||◌, cond, Option, Some, None, append_assoc, refl, sym, ap, ◌∙◌, arith}
use Rattle.std.specs.Cmp.Lexicographic.{slice_cmp}
use Rattle.std.specs.List.{list_all}
use Rattle.std.specs.List.Sorted.{IsPermutation, IsSortedBy}
use Rattle.std.specs.Ordering.{nat_cmp, is_lt}
use Rattle.std.proofs.lemmas.Bool.Decides.{nat_tests}
use Rattle.std.proofs.lemmas.Cmp.{nat_list_cmp_total, same_from_slice_cmp}
use Rattle.std.proofs.lemmas.List.Sorted.{list_any-IsPermutation, ranks_by, sorted_far}
use Rattle.portal_base.specs.Names.{is_same}
use Rattle.portal_base.specs.declared.files.File.{File}
use Rattle.portal_model.specs.Content.{content_at, content_of, file_at, has_room, is_folder}
use Rattle.portal_model.specs.Ordered.{bytes_less, is_rising}
use Rattle.portal_model.proofs.DocumentChanges.{both, first_of_both, second_of_both}
use Rattle.portal_model.proofs.RisingLists.{put_all-rising}
use Rattle.portal_model.proofs.TripleOrder.{bytes-through, bytes-total, is_same-eq, is_same-refl}
use Rattle.app_world.specs.View.{below_at, contents_at, folder_of, is_among, path_below, path_content, path_of}
use Rattle.app_world.proofs.ContentLaws.{before_by, items, items-found, items-rising}
use Rattle.app_world.proofs.Found.{told-apart}
use Rattle.app_world.proofs.Orders.{paths}
use Rattle.app_trace.specs.Contents.{comes_again, first_of, once_each, path_less}

-- ---- the order of paths by their bytes

pub compared : (a b : List ℕ) → path_less a b ≡ bytes_less a b
compared a b = same_from_slice_cmp nat_cmp is_lt bytes_less refl (λ _ _. refl) (λ _ _. refl) (λ x y xs ys o h. grind (arith, nat_tests)) a b (slice_cmp nat_cmp a b) refl

-- none of the paths stands ahead of this one
abbrev none_ahead : List ℕ → List (List ℕ) → Bool
none_ahead path ps = list_all (λ p. not (bytes_less p path)) ps

none_ahead-from : (path : List ℕ) (ps : List (List ℕ)) → ((k : ℕ) → k < length ps → path_less (get_or ps k path) path ≡ false) → none_ahead path ps ≡ true
none_ahead-from path [] h = refl
none_ahead-from path (p ∷ ps) h =
    let first : bytes_less p path ≡ false = sym (compared p path) ∙ h 0 (omega arith) in
    let rest : none_ahead path ps ≡ true = none_ahead-from path ps (λ k l. h (suc k) (omega arith)) in
    grind arith

abbrev are_sorted : List (List ℕ) → Bool
are_sorted [] = true
are_sorted (p ∷ ps) = cond (none_ahead p ps) (are_sorted ps) false

abbrev IsFar : List (List ℕ) → Type 0
IsFar ps = (i j : ℕ) (d : List ℕ) → i ≤ j → j < length ps → path_less (get_or ps j d) (get_or ps i d) ≡ false

sorted-from : (ps : List (List ℕ)) → IsFar ps → are_sorted ps ≡ true
sorted-from [] up = refl
sorted-from (p ∷ ps) up =
    let first : none_ahead p ps ≡ true = none_ahead-from p ps (λ k l. up 0 (suc k) p (omega arith) (omega arith)) in
    let rest : are_sorted ps ≡ true = sorted-from ps (λ i j d l m. up (suc i) (suc j) d (omega arith) (omega arith)) in
    grind arith

far : (ps : List (List ℕ)) → IsSortedBy path_less ps → IsFar ps
far ps up = sorted_far path_less (ranks_by nat_list_cmp_total (λ (p : List ℕ). p)) ps up

-- ---- each once

all-once : (t : List ℕ → Bool) (ps : List (List ℕ)) → list_all t ps ≡ true → list_all t (once_each ps) ≡ true
all-once t [] h = refl
all-once t (p ∷ ps) h = grind (arith, all-once t ps)

-- what is ahead of the first of sorted paths is ahead of all
ahead_of : (path first next : List ℕ) → bytes_less path first ≡ true → bytes_less next first ≡ false → bytes_less path next ≡ true
ahead_of path first next h n = grind (arith, bytes-total first next, bytes-through path first next)

ahead-all : (path first : List ℕ) (ps : List (List ℕ)) → bytes_less path first ≡ true → none_ahead first ps ≡ true → list_all (bytes_less path) ps ≡ true
ahead-all path first [] h n = refl
ahead-all path first (p ∷ ps) h n = grind (arith, ahead-all path first ps, ahead_of path first p)

same-true : (a b : List ℕ) → a ≡ b → is_same b a ≡ true
same-true a b e = ap (λ (x : List ℕ). is_same x a) (sym e) ∙ is_same-refl a

-- a path that doesn't come again is ahead of those behind it
alone : (path : List ℕ) (ps : List (List ℕ)) → none_ahead path ps ≡ true → are_sorted ps ≡ true → comes_again path (first_of ps) ≡ false → list_all (bytes_less path) ps ≡ true
alone path [] n s c = refl
alone path (p ∷ ps) n s c =
    let first : bytes_less path p ≡ true = grind (arith, bytes-total path p, same-true path p) in
    let behind : none_ahead p ps ≡ true = grind arith in
    let rest : list_all (bytes_less path) ps ≡ true = ahead-all path p ps first behind in
    grind arith

rising-once : (ps : List (List ℕ)) → are_sorted ps ≡ true → is_rising bytes_less (once_each ps) ≡ true
rising-once [] s = refl
rising-once (p ∷ ps) s =
    let none : none_ahead p ps ≡ true = grind arith in
    let sorted : are_sorted ps ≡ true = grind arith in
    by_next (comes_again p (first_of ps)) (rising-once ps sorted) (λ c. all-once (bytes_less p) ps (alone p ps none sorted c))
  where
    by_next : (b : Bool) → is_rising bytes_less (once_each ps) ≡ true → (b ≡ false → list_all (bytes_less p) (once_each ps) ≡ true) →
        is_rising bytes_less (cond b (once_each ps) (p ∷ once_each ps)) ≡ true
    by_next true rest first = rest
    by_next false rest first = let f = first refl in grind arith

again-among : (path p : List ℕ) (ps : List (List ℕ)) → comes_again p (first_of ps) ≡ true → (is_same p path || is_among ps path) ≡ is_among ps path
again-among path p [] c = cc
again-among path p (q ∷ qs) c = grind (arith, is_same-eq q p)

among-once : (path : List ℕ) (ps : List (List ℕ)) → is_among (once_each ps) path ≡ is_among ps path
among-once path [] = refl
among-once path (p ∷ ps) = by_next (comes_again p (first_of ps)) refl (among-once path ps)
  where
    by_next : (b : Bool) → comes_again p (first_of ps) ≡ b → is_among (once_each ps) path ≡ is_among ps path →
        is_among (cond b (once_each ps) (p ∷ once_each ps)) path ≡ (is_same p path || is_among ps path)
    by_next true c rest = rest ∙ sym (again-among path p ps c)
    by_next false c rest = ap (λ (b : Bool). is_same p path || b) rest

-- ---- what there is for each

module _ {X : Type 0} (key : X → List ℕ) (item : List ℕ → X) (of : (p : List ℕ) → key (item p) ≡ p) where
  all-item : (path : List ℕ) (ps : List (List ℕ)) → list_all (bytes_less path) ps ≡ true → list_all (before_by key item of (item path)) (map item ps) ≡ true
  all-item path [] h = refl
  all-item path (p ∷ ps) h =
      both (bytes_less (key (item path)) (key (item p))) (list_all (before_by key item of (item path)) (map item ps))
      ((λ i. bytes_less (of path i) (of p i)) ∙ first_of_both (bytes_less path p) (list_all (bytes_less path) ps) h)
      (all-item path ps (second_of_both (bytes_less path p) (list_all (bytes_less path) ps) h))

  rising-item : (ps : List (List ℕ)) → is_rising bytes_less ps ≡ true → is_rising (before_by key item of) (map item ps) ≡ true
  rising-item [] h = refl
  rising-item (p ∷ ps) h =
      both (list_all (before_by key item of (item p)) (map item ps)) (is_rising (before_by key item of) (map item ps))
      (all-item p ps (first_of_both (list_all (bytes_less p) ps) (is_rising bytes_less ps) h))
      (rising-item ps (second_of_both (list_all (bytes_less p) ps) (is_rising bytes_less ps) h))

  -- equal paths have equal items
  items-alike : (ps qs : List (List ℕ)) → ((path : List ℕ) → is_among ps path ≡ is_among qs path) → items key item of ps ≡ items key item of qs
  items-alike ps qs e =
      told-apart _ _ key paths (items key item of ps) (items key item of qs) (items-rising key item of ps) (items-rising key item of qs) (λ path.
      items-found key item of path ps ∙ (ap (λ (b : Bool). cond b (Some (item path)) None) (e path) ∙ sym (items-found key item of path qs)))

  items-once : (ps sorted : List (List ℕ)) → IsPermutation ps sorted → IsSortedBy path_less sorted → map item (once_each sorted) ≡ items key item of ps
  items-once ps sorted s up =
      let qs : List (List ℕ) = once_each sorted in
      let rising : is_rising (before_by key item of) (map item qs) ≡ true = rising-item qs (rising-once sorted (sorted-from sorted (far sorted up))) in
      sym (put_all-rising _ _ key paths (map item qs) rising)
      ∙ items-alike qs ps (λ path. among-once path sorted ∙ sym (list_any-IsPermutation (λ p. is_same p path) ps sorted s))

pub contents-once : (files : List File) (ps sorted : List (List ℕ)) → IsPermutation ps sorted → IsSortedBy path_less sorted → map (path_content files) (once_each sorted) ≡ contents_at files ps
contents-once files ps sorted s up = items-once path_of (path_content files) (λ p. refl) ps sorted s up

pub below-once : (files : List File) (ps sorted : List (List ℕ)) → IsPermutation ps sorted → IsSortedBy path_less sorted → map (path_below files) (once_each sorted) ≡ below_at files ps
below-once files ps sorted s up = items-once folder_of (path_below files) (λ p. refl) ps sorted s up

-- ---- one path after another

first-got : (ps : List (List ℕ)) → first_of ps ≡ slice_get ps 0
first-got [] = refl
first-got (p ∷ ps) = refl

once-from : (ps : List (List ℕ)) (i : ℕ) (p : List ℕ) → i < length ps → p ≡ get_or ps i p → once_each (drop i ps) ≡ cond (comes_again p (slice_get ps (suc i))) (once_each (drop (suc i) ps)) (p ∷ once_each (drop (suc i) ps))
once-from [] i p h e = absurd (omega arith)
once-from (q ∷ qs) zero p h e =
    ap (λ (r : List ℕ). cond (comes_again r (first_of qs)) (once_each qs) (r ∷ once_each qs)) (sym e)
    ∙ ap (λ (next : Option (List ℕ)). cond (comes_again p next) (once_each qs) (p ∷ once_each qs)) (first-got qs)
once-from (q ∷ qs) (suc i) p h e = once-from qs i p (omega arith) e

pub once-drop : (ps : List (List ℕ)) (i : ℕ) (p : List ℕ) → i < length ps → p ≡ get_or ps i p → once_each (drop i ps) ≡ cond (comes_again p (slice_get ps (i + 1))) (once_each (drop (i + 1) ps)) (p ∷ once_each (drop (i + 1) ps))
once-drop ps i p h e =
    let next : suc i ≡ i + 1 = omega arith in
    once-from ps i p h e ∙ ap (λ (n : ℕ). cond (comes_again p (slice_get ps n)) (once_each (drop n ps)) (p ∷ once_each (drop n ps))) next

pub once-more : {X : Type 0} (item : List ℕ → X) (found more : List X) (ps : List (List ℕ)) (i : ℕ) (p : List ℕ) → i < length ps → p ≡ get_or ps i p →
    more ≡ found ++ cond (comes_again p (slice_get ps (i + 1))) [] (item p ∷ []) →
    found ++ map item (once_each (drop i ps)) ≡ map item (once_each ps) →
    more ++ map item (once_each (drop (i + 1) ps)) ≡ map item (once_each ps)
once-more {X} item found more ps i p h e m invariant =
    let rest : List X = map item (once_each (drop (i + 1) ps)) in
    let b : Bool = comes_again p (slice_get ps (i + 1)) in
    ap (λ (l : List X). l ++ rest) m
    ∙ (by_next b (once_each (drop (i + 1) ps))
    ∙ (ap (λ (l : List (List ℕ)). found ++ map item l) (sym (once-drop ps i p h e)) ∙ invariant))
  where
    by_next : (b : Bool) (left : List (List ℕ)) → (found ++ cond b [] (item p ∷ [])) ++ map item left ≡ found ++ map item (cond b left (p ∷ left))
    by_next true left = append_assoc found [] (map item left)
    by_next false left = append_assoc found (item p ∷ []) (map item left)

-- ---- the file of a path

pub with-file : (files : List File) (path : List ℕ) (o : Option File) → file_at files path ≡ o →
    content_at files path ≡ content_of o (is_folder files path) (has_room files path)
with-file files path o e = ap (λ (f : Option File). content_of f (is_folder files path) (has_room files path)) e
