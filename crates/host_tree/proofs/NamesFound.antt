-- The names of a folder in a map by name.
use Rattle.std.proofs.Common.{◌≡◌, ℕ, ◌+◌, ◌≤◌, nat_lt, List, [], ◌∷◌, Bool, true, false, ◌||◌, cond, map, fold, take, drop, length, Some, None, is_some, Result, Ok, Err, OnOk, refl, sym, ap, subst, ◌∙◌, arith}
use Rattle.std.proofs.lemmas.Bool.Decides.{nat_tests}
use Rattle.std.proofs.lemmas.List.{take_all}
use Rattle.std.specs.List.{position, position_or_len}
use Rattle.portal_base.specs.Content.{is_above}
use Rattle.portal_base.specs.Names.{is_same, is_slash, root}
use Rattle.std.specs.BTreeMap.{insert_entry}
use Rattle.std.specs.List.Sorted.{IsStrictlySortedBy}
use Rattle.std.specs.Map.{keys_of}
use Rattle.std.specs.Ordering.{match_ordering}
use Rattle.std.specs.declared.cmp.Ordering.{Ordering}
use Rattle.std.specs.declared.cmp.Ordering.TheVariants.{Less, Equal, Greater}
use Rattle.portal_base.specs.NameOrder.{name_order}
use Rattle.portal_base.specs.FolderNames.{AreInOrder, first_part, is_below, length_above, name_below, put_name, put_path}
use Rattle.host_tree.specs.Children.{children_of, child_of_entry}
use Rattle.portal_base.specs.declared.files.ChildName.{ChildName}

pub put-child : (k : List ℕ) (v : Bool) (es : List (List ℕ × Bool)) → children_of (insert_entry name_order es k v) ≡ put_name (record { name = k; folder = v }) (children_of es)
put-child k v [] = refl
put-child k v (e ∷ es) = step (name_order k e.0) (put-child k v es)
  where
    step : (o : Ordering) → children_of (insert_entry name_order es k v) ≡ put_name (record { name = k; folder = v }) (children_of es)
        → children_of (match_ordering o ((k, v) ∷ e ∷ es) ((e.0, v) ∷ es) (e ∷ insert_entry name_order es k v))
        ≡ match_ordering o (child_of_entry (k, v) ∷ children_of (e ∷ es)) (record { name = e.0; folder = v } ∷ children_of es) (child_of_entry e ∷ put_name (record { name = k; folder = v }) (children_of es))
    step Less more = refl
    step Equal more = refl
    step Greater more = ap (λ (cs : List ChildName). child_of_entry e ∷ cs) more

names-are : (es : List (List ℕ × Bool)) → map (λ (c : ChildName). c.name) (children_of es) ≡ keys_of es
names-are [] = refl
names-are (e ∷ es) = ap (λ (ks : List (List ℕ)). e.0 ∷ ks) (names-are es)

pub children-in-order : (es : List (List ℕ × Bool)) → IsStrictlySortedBy name_order (keys_of es) → AreInOrder (children_of es)
children-in-order es s = subst (IsStrictlySortedBy name_order) (sym (names-are es)) s

-- ---- the first part of what stands behind a folder's path

some-place : (b : Bool) (n m : ℕ) → cond b (Some n) None ≡ Some m → m ≡ n
some-place true n m e = cc
some-place false n m e = absurd (cc)

no-place : (n m : ℕ) → cond (nat_lt n m) (Some n) None ≡ None → m ≤ n
no-place n m e = by (nat_lt n m) refl e
  where
    by : (b : Bool) → nat_lt n m ≡ b → cond b (Some n) None ≡ None → m ≤ n
    by true h e = absurd (cc)
    by false h e = grind (arith, nat_tests)

pub first-slash : (rest : List ℕ) (end : ℕ) → Some end ≡ position is_slash rest → record { name = take end rest; folder = true } ≡ first_part rest
first-slash rest end e =
    let place : end ≡ position_or_len is_slash rest = some-place (nat_lt (position_or_len is_slash rest) (length rest)) (position_or_len is_slash rest) end (sym e) in
    λ i. record { name = take (place i) rest; folder = is_some (e i) }

pub no-slash : (rest : List ℕ) → None ≡ position is_slash rest → record { name = rest; folder = false } ≡ first_part rest
no-slash rest e =
    let all : take (position_or_len is_slash rest) rest ≡ rest = take_all (position_or_len is_slash rest) rest (no-place (position_or_len is_slash rest) (length rest) (sym e)) in
    λ i. record { name = sym all i; folder = is_some (e i) }

-- ---- paths that put a name

pub below-root : (folder path : List ℕ) → is_same folder root ≡ true → is_below folder path ≡ true
below-root folder path e = ap (λ (b : Bool). b || is_above folder path) e

pub above-root : (folder : List ℕ) → is_same folder root ≡ true → length_above folder ≡ 1
above-root folder e = ap (λ (b : Bool). cond b 1 (length folder + 1)) e

pub below-other : (folder path : List ℕ) (b : Bool) → is_same folder root ≡ false → is_above folder path ≡ b → is_below folder path ≡ b
below-other folder path b e h = ap (λ (c : Bool). c || is_above folder path) e ∙ h

pub put-below : (folder path rest : List ℕ) (names : List ChildName) → is_below folder path ≡ true → rest ≡ drop (length_above folder) path → put_name (first_part rest) names ≡ put_path folder names path
put-below folder path rest names b e =
    ap (λ (r : List ℕ). put_name (first_part r) names) e
    ∙ ap (λ (c : Bool). cond c (put_name (name_below folder path) names) names) (sym b)

pub put-beside : (folder path : List ℕ) (names : List ChildName) → is_below folder path ≡ false → names ≡ put_path folder names path
put-beside folder path names b = ap (λ (c : Bool). cond c (put_name (name_below folder path) names) names) (sym b)

pub put-next : (folder p : List ℕ) (names next : List ChildName) (left more : List (List ℕ)) (all : List ChildName) → fold (put_path folder) names left ≡ all → left ≡ p ∷ more → next ≡ put_path folder names p → fold (put_path folder) next more ≡ all
put-next folder p names next left more all so steps put =
    ap (λ (ns : List ChildName). fold (put_path folder) ns more) put ∙ (ap (fold (put_path folder) names) (sym steps) ∙ so)

pub ok-then : {A E : Type 0} (r : Result A E) (P Q : Type 0) → (P → Q) → OnOk r P → OnOk r Q
ok-then (Ok u) P Q f p = f p
ok-then (Err e) P Q f p = tt
