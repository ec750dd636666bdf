-- Facts on sets in an order, and on the paths of files.
use Rattle.std.proofs.Common.{◌≡◌, ℕ, List, [], ◌∷◌, ◌++◌, Bool, true, false, not, ◌&&◌, ◌||◌, cond, refl, sym, ap, ◌∙◌}
use Rattle.std.specs.BTreeMap.{is_at}
use Rattle.std.specs.BTreeMap.Range.{range_contains}
use Rattle.std.specs.BTreeSet.{insert_key}
use Rattle.std.specs.List.{list_any, filter, AllByRecursion}
use Rattle.std.specs.List.Sorted.{IsStrictlySortedBy}
use Rattle.std.specs.Ordering.{is_eq, is_lt, is_gt, is_le, match_ordering, ordering_reverse}
use Rattle.std.specs.declared.cmp.Ordering.{Ordering}
use Rattle.std.specs.declared.cmp.Ordering.TheVariants.{Less, Equal, Greater}
use Rattle.std.specs.declared.ops.Bound.TheVariants.{Excluded, Unbounded}
use Rattle.portal_base.specs.Names.{is_same}
use Rattle.portal_base.specs.PathOrder.{path_order}
use Rattle.portal_base.specs.PathOrders.{path_order_total, path_order_ties}
use Rattle.portal_model.specs.Content.{is_above}
use Rattle.host_tree.proofs.PathsBelow.{between-is-below, below-is-behind}
use Rattle.script_form.specs.Paths.{clash, AreApart}

or_swap : (a b c : Bool) → (a || (b || c)) ≡ (b || (a || c))
or_swap true true c = refl
or_swap true false c = refl
or_swap false b c = refl

-- one key more, where no equal one is there
module _ {K : Type 0} (cmp : K → K → Ordering) (k : K) where
  pub any_inserted : (test : K → Bool) (ks : List K) → list_any (is_at (cmp k)) ks ≡ false → list_any test (insert_key cmp ks k) ≡ (test k || list_any test ks)
  any_inserted test [] none = refl
  any_inserted test (x ∷ xs) none = step (cmp k x) none (any_inserted test xs)
    where
      step : (o : Ordering) → (is_eq o || list_any (is_at (cmp k)) xs) ≡ false
          → (list_any (is_at (cmp k)) xs ≡ false → list_any test (insert_key cmp xs k) ≡ (test k || list_any test xs))
          → list_any test (match_ordering o (k ∷ x ∷ xs) (x ∷ xs) (x ∷ insert_key cmp xs k)) ≡ (test k || (test x || list_any test xs))
      step Less none more = refl
      step Equal none more = absurd (cc none)
      step Greater none more = ap (λ (b : Bool). test x || b) (more none) ∙ or_swap (test x) (test k) (list_any test xs)

pub any_same : {K : Type 0} (p q : K → Bool) → ((x : K) → p x ≡ q x) → (xs : List K) → list_any p xs ≡ list_any q xs
any_same p q same [] = refl
any_same p q same (x ∷ xs) = let one = same x in let rest = any_same p q same xs in cc (one, rest)

or_three : (a b c x y z : Bool) → ((a || (b || c)) || (x || (y || z))) ≡ ((a || x) || ((b || y) || (c || z)))
or_three true b c x y z = refl
or_three false true c true y z = refl
or_three false true c false y z = refl
or_three false false true true y z = refl
or_three false false true false true z = refl
or_three false false true false false z = refl
or_three false false false x y z = refl

-- one of the paths clashes with this one where one is the same, or above it, or below it
pub clash_parts : (path : List ℕ) (ks : List (List ℕ))
    → list_any (clash path) ks ≡ (list_any (is_same path) ks || (list_any (λ other. is_above other path) ks || list_any (is_above path) ks))
clash_parts path [] = refl
clash_parts path (k ∷ ks) =
    ap (λ (b : Bool). clash path k || b) (clash_parts path ks)
    ∙ or_three (is_same path k) (is_above k path) (is_above path k) (list_any (is_same path) ks) (list_any (λ other. is_above other path) ks) (list_any (is_above path) ks)

-- a path is in the set where one has the same bytes
pub same_as_tied : (path : List ℕ) (ks : List (List ℕ)) → list_any (is_at (path_order path)) ks ≡ list_any (is_same path) ks
same_as_tied path [] = refl
same_as_tied path (k ∷ ks) = let one = path_order_ties path k in let rest = same_as_tied path ks in λ i. (sym one i) || rest i

first_none : (a b : Bool) → (a || b) ≡ false → a ≡ false
first_none false b h = refl
first_none true b h = cc h

pub none_tied : (path : List ℕ) (ks : List (List ℕ)) → list_any (clash path) ks ≡ false → list_any (is_at (path_order path)) ks ≡ false
none_tied path ks none = same_as_tied path ks ∙ first_none _ _ (sym (clash_parts path ks) ∙ none)

same_clash : (a b : Bool) → a ≡ true → (a || b) ≡ true
same_clash true b h = refl
same_clash false b h = absurd (cc h)

above_clash : (a b c : Bool) → b ≡ true → (a || (b || c)) ≡ true
above_clash true b c h = refl
above_clash false b c h = same_clash b c h

below_clash : (a b c r : Bool) → a ≡ false → b ≡ false → r ≡ c → r ≡ (a || (b || c))
below_clash a b c r na nb h = rw (na, nb) h

module _ (path : List ℕ) (ks : List (List ℕ)) where
  pub clash_same : list_any (is_at (path_order path)) ks ≡ true → list_any (clash path) ks ≡ true
  clash_same h = clash_parts path ks ∙ same_clash _ _ (sym (same_as_tied path ks) ∙ h)

  pub clash_above : list_any (λ other. is_above other path) ks ≡ true → list_any (clash path) ks ≡ true
  clash_above h = clash_parts path ks ∙ above_clash (list_any (is_same path) ks) _ _ h

  pub clash_below : (r : Bool) → list_any (is_at (path_order path)) ks ≡ false → list_any (λ other. is_above other path) ks ≡ false → r ≡ list_any (is_above path) ks
      → r ≡ list_any (clash path) ks
  clash_below r same above below = below_clash _ _ _ r (sym (same_as_tied path ks) ∙ same) above below ∙ sym (clash_parts path ks)

-- ---- what lies above a path, and what lies below it

not_less : (p q : List ℕ) → is_lt (path_order p q) ≡ false → is_above p q ≡ false
not_less p q h = by (is_above p q) refl
  where
    by : (b : Bool) → is_above p q ≡ b → b ≡ false
    by true above = let less = below-is-behind p q above in let yes : is_lt (path_order p q) ≡ true = ap is_lt less in absurd (cc (h, yes))
    by false above = refl

abbrev pub first_below : List ℕ → List (List ℕ) → Bool
first_below p [] = false
first_below p (k ∷ ks) = is_above p k

none_below : (p k : List ℕ) (ks : List (List ℕ)) → path_order p k ≡ Less → is_above p k ≡ false → AllByRecursion (λ q. path_order k q ≡ Less) ks → list_any (is_above p) ks ≡ false
none_below p k [] l h s = refl
none_below p k (q ∷ qs) l h s = step (is_above p q) refl (none_below p k qs l h s.1)
  where
    step : (b : Bool) → is_above p q ≡ b → list_any (is_above p) qs ≡ false → (b || list_any (is_above p) qs) ≡ false
    step true d more = let yes = between-is-below p k q l s.0 d in absurd (cc (yes, h))
    step false d more = more

-- the first path behind this one tells whether one lies below it
pub seen_behind : (p : List ℕ) (ks : List (List ℕ)) → IsStrictlySortedBy path_order ks
    → first_below p (filter (range_contains path_order (Excluded p) Unbounded) ks) ≡ list_any (is_above p) ks
unfolding IsStrictlySortedBy
seen_behind p [] s = refl
seen_behind p (k ∷ ks) s = step (path_order p k) refl (is_above p k) refl (seen_behind p ks s.1)
  where
    step : (o : Ordering) → path_order p k ≡ o → (b : Bool) → is_above p k ≡ b
        → first_below p (filter (range_contains path_order (Excluded p) Unbounded) ks) ≡ list_any (is_above p) ks
        → first_below p (cond (is_lt o && true) (k ∷ filter (range_contains path_order (Excluded p) Unbounded) ks) (filter (range_contains path_order (Excluded p) Unbounded) ks)) ≡ (b || list_any (is_above p) ks)
    step Less d true h more = h
    step Less d false h more = h ∙ sym (none_below p k ks d h s.0)
    step Equal d true h more = let no = not_less p k (ap is_lt d) in absurd (cc (no, h))
    step Equal d false h more = more
    step Greater d true h more = let no = not_less p k (ap is_lt d) in absurd (cc (no, h))
    step Greater d false h more = more

-- the last of the paths lies above this one
abbrev pub last_above : List ℕ → List (List ℕ) → Bool
last_above p [] = false
last_above p (k ∷ []) = is_above k p
last_above p (k ∷ j ∷ js) = last_above p (j ∷ js)

not_ahead : (p k : List ℕ) (o : Ordering) → path_order p k ≡ o → is_gt o ≡ false → is_above k p ≡ false
not_ahead p k o d h = by (is_above k p) refl
  where
    flipped : (o : Ordering) → is_gt o ≡ false → ordering_reverse o ≡ Less → ⊥
    flipped Less h e = cc e
    flipped Equal h e = cc e
    flipped Greater h e = cc h

    by : (b : Bool) → is_above k p ≡ b → b ≡ false
    by true above = absurd (flipped o h (ap ordering_reverse (sym d) ∙ sym (path_order_total.antisymm k p) ∙ below-is-behind k p above))
    by false above = refl

none_kept : (p k : List ℕ) (qs : List (List ℕ)) → is_above k p ≡ true → AllByRecursion (λ q. path_order k q ≡ Less) qs → AllByRecursion (λ q. is_above k q ≡ false) qs
    → filter (range_contains path_order Unbounded (Excluded p)) qs ≡ []
none_kept p k [] above later clear = refl
none_kept p k (q ∷ qs) above later clear = step (path_order p q) refl (none_kept p k qs above later.1 clear.1)
  where
    step : (o : Ordering) → path_order p q ≡ o → filter (range_contains path_order Unbounded (Excluded p)) qs ≡ []
        → cond (true && not (is_le o)) (q ∷ filter (range_contains path_order Unbounded (Excluded p)) qs) (filter (range_contains path_order Unbounded (Excluded p)) qs) ≡ []
    step Less d more = more
    step Equal d more = more
    step Greater d more =
        let ahead : path_order q p ≡ Less = path_order_total.antisymm q p ∙ ap ordering_reverse d in
        let yes = between-is-below k q p later.0 ahead above in
        let no = clear.0 in
        absurd (cc (yes, no))

skips : (p k : List ℕ) (qs : List (List ℕ)) → is_above k p ≡ false → last_above p (k ∷ qs) ≡ last_above p qs
skips p k [] h = h
skips p k (q ∷ qs) h = refl

-- the last path ahead of this one tells whether one lies above it, where none lies above another
pub seen_ahead : (p : List ℕ) (ks : List (List ℕ)) → IsStrictlySortedBy path_order ks → AreApart ks
    → last_above p (filter (range_contains path_order Unbounded (Excluded p)) ks) ≡ list_any (λ other. is_above other p) ks
unfolding IsStrictlySortedBy
seen_ahead p [] s clear = refl
seen_ahead p (k ∷ ks) s clear = step (path_order p k) refl (is_above k p) refl (seen_ahead p ks s.1 clear.1)
  where
    step : (o : Ordering) → path_order p k ≡ o → (b : Bool) → is_above k p ≡ b
        → last_above p (filter (range_contains path_order Unbounded (Excluded p)) ks) ≡ list_any (λ other. is_above other p) ks
        → last_above p (cond (true && not (is_le o)) (k ∷ filter (range_contains path_order Unbounded (Excluded p)) ks) (filter (range_contains path_order Unbounded (Excluded p)) ks)) ≡ (b || list_any (λ other. is_above other p) ks)
    step Less d true above more = let no = not_ahead p k Less d refl in absurd (cc (no, above))
    step Less d false above more = more
    step Equal d true above more = let no = not_ahead p k Equal d refl in absurd (cc (no, above))
    step Equal d false above more = more
    step Greater d true above more = ap (λ (qs : List (List ℕ)). last_above p (k ∷ qs)) (none_kept p k ks above s.0 clear.0) ∙ above
    step Greater d false above more = skips p k (filter (range_contains path_order Unbounded (Excluded p)) ks) above ∙ more

pub last_of : (p : List ℕ) (front : List (List ℕ)) (k : List ℕ) → last_above p (front ++ (k ∷ [])) ≡ is_above k p
last_of p [] k = refl
last_of p (j ∷ []) k = refl
last_of p (j ∷ i ∷ front) k = last_of p (i ∷ front) k

-- ---- one path more

or_false : (a b : Bool) → (a || b) ≡ false → (a ≡ false) × (b ≡ false)
or_false false false h = (refl, refl)
or_false true b h = cc h
or_false false true h = cc h

clear_of : (path : List ℕ) (ks : List (List ℕ)) → list_any (clash path) ks ≡ false → AllByRecursion (λ other. is_above path other ≡ false) ks
clear_of path [] none = tt
clear_of path (k ∷ ks) none =
    let parts = or_false (clash path k) (list_any (clash path) ks) none in
    ((or_false (is_above k path) (is_above path k) (or_false (is_same path k) _ parts.0).1).1, clear_of path ks parts.1)

all_inserted : (P : List ℕ → Type 0) (path : List ℕ) (ks : List (List ℕ)) → P path → AllByRecursion P ks → AllByRecursion P (insert_key path_order ks path)
all_inserted P path [] one all = (one, tt)
all_inserted P path (k ∷ ks) one all = step (path_order path k) (all_inserted P path ks one all.1)
  where
    step : (o : Ordering) → AllByRecursion P (insert_key path_order ks path) → AllByRecursion P (match_ordering o (path ∷ k ∷ ks) (k ∷ ks) (k ∷ insert_key path_order ks path))
    step Less more = (one, all)
    step Equal more = all
    step Greater more = (all.0, more)

pub apart_inserted : (path : List ℕ) (ks : List (List ℕ)) → AreApart ks → list_any (clash path) ks ≡ false → AreApart (insert_key path_order ks path)
apart_inserted path [] clear none = (tt, tt)
apart_inserted path (k ∷ ks) clear none =
    let parts = or_false (clash path k) (list_any (clash path) ks) none in
    let above = (or_false (is_above k path) (is_above path k) (or_false (is_same path k) _ parts.0).1).0 in
    step (path_order path k) above (apart_inserted path ks clear.1 parts.1)
  where
    step : (o : Ordering) → is_above k path ≡ false → AreApart (insert_key path_order ks path) → AreApart (match_ordering o (path ∷ k ∷ ks) (k ∷ ks) (k ∷ insert_key path_order ks path))
    step Less above more = (clear_of path (k ∷ ks) none, clear)
    step Equal above more = clear
    step Greater above more = (all_inserted (λ other. is_above k other ≡ false) path ks above clear.0, more)

pub above_by_last : (p : List ℕ) (range front : List (List ℕ)) (k : List ℕ) → range ≡ front ++ (k ∷ []) → is_above k p ≡ last_above p range
above_by_last p range front k is = sym (last_of p front k) ∙ ap (last_above p) (sym is)
