-- Entries that are sorted by name, where their names differ, are in the one order of their names.
use Rattle.std.proofs.Common.{◌≡◌, ◌≤◌, ◌<◌, ◌+◌, ◌&&◌, ℕ, zero, suc, length, get_or, take, List, [], ◌∷◌, ◌++◌, map, Bool, true, false, cond, nat_eq, nat_lt, refl, sym, ap, subst, ◌∙◌, arith}
use Rattle.std.specs.Cmp.Lexicographic.{slice_cmp}
use Rattle.std.specs.List.{list_all, list_any, slice_get, IsDistinct, AllByRecursion}
use Rattle.std.specs.List.Sorted.{IsPermutation, IsSortedBy}
use Rattle.std.specs.Ordering.{nat_cmp, is_lt}
use Rattle.std.proofs.lemmas.Bool.Decides.{nat_tests}
use Rattle.std.proofs.lemmas.Cmp.{nat_list_cmp_total, same_from_slice_cmp}
use Rattle.std.proofs.lemmas.List.Sorted.{IsPermutation-map, list_any-IsPermutation, ranks_by, sorted_far}
use Rattle.std.proofs.lemmas.Map.Keys.{IsDistinct-IsPermutation}
use Rattle.portal_base.specs.Names.{is_same}
use Rattle.portal_model.specs.declared.reply.DirName.{DirName}
use Rattle.portal_model.specs.Applications.{name_of_number}
use Rattle.portal_model.specs.OpenDir.{folder_entry, name_less, names_of_views, views_from}
use Rattle.portal_model.specs.Ordered.{bytes_less, is_rising, put, put_all}
use Rattle.portal_model.specs.Place.{root_node}
use Rattle.portal_model.proofs.RisingLists.{Order, any-put_all, rising-put_all, same_items}
use Rattle.portal_model.proofs.TripleOrder.{bytes-irreflexive, bytes-through, bytes-total, is_same-eq, is_same-refl, is_same-sym, nat_is}
use Rattle.app_view.specs.Entries.{entry_less, view_of}

-- ---- the order by name, node and kind, in which no two differing entries stand at one place

abbrev flag_less : Bool → Bool → Bool
flag_less false b = b
flag_less true b = false

abbrev same_flag : Bool → Bool → Bool
same_flag false false = true
same_flag false true = false
same_flag true false = false
same_flag true true = true

abbrev tail_less : DirName → DirName → Bool
tail_less a b = cond (nat_eq a.node b.node) (flag_less a.folder b.folder) (nat_lt a.node b.node)

abbrev ahead : DirName → DirName → Bool
ahead a b = cond (is_same a.name b.name) (tail_less a b) (bytes_less a.name b.name)

abbrev same_entry : DirName → DirName → Bool
same_entry a b = is_same a.name b.name && (nat_eq a.node b.node && same_flag a.folder b.folder)

flag-is : (a b : Bool) → same_flag a b ≡ true → a ≡ b
flag-is false false h = refl
flag-is false true h = cc
flag-is true false h = cc
flag-is true true h = refl

flag-itself : (a : Bool) → same_flag a a ≡ true
flag-itself false = refl
flag-itself true = refl

flag-irreflexive : (a : Bool) → flag_less a a ≡ false
flag-irreflexive false = refl
flag-irreflexive true = refl

flag-total : (a b : Bool) → flag_less a b ≡ false → flag_less b a ≡ false → a ≡ b
flag-total false false h l = refl
flag-total false true h l = cc
flag-total true false h l = cc
flag-total true true h l = refl

flag-through : (a b c : Bool) → flag_less a b ≡ true → flag_less b c ≡ true → flag_less a c ≡ true
flag-through false false c h l = cc
flag-through false true c h l = cc
flag-through true b c h l = cc

entry-is : (a b : DirName) → same_entry a b ≡ true → a ≡ b
entry-is a b h =
    let n : is_same a.name b.name ≡ true = grind arith in
    let m : nat_eq a.node b.node ≡ true = grind arith in
    let f : same_flag a.folder b.folder ≡ true = grind arith in
    λ i. record { node = nat_is a.node b.node m i; name = is_same-eq a.name b.name n i; folder = flag-is a.folder b.folder f i }

entry-itself : (a : DirName) → same_entry a a ≡ true
entry-itself a = grind (arith, nat_tests, is_same-refl a.name, flag-itself a.folder)

entry-irreflexive : (a : DirName) → ahead a a ≡ false
entry-irreflexive a = grind (arith, nat_tests, is_same-refl a.name, flag-irreflexive a.folder)

entry-names : (a b : DirName) → ahead a b ≡ false → ahead b a ≡ false → a.name ≡ b.name
entry-names a b h l = grind (arith, is_same-eq a.name b.name, is_same-sym a.name b.name, bytes-total a.name b.name)

same-true : (a b : List ℕ) → a ≡ b → is_same a b ≡ true
same-true a b e = subst (λ (x : List ℕ). is_same a x ≡ true) e (is_same-refl a)

entry-total : (a b : DirName) → ahead a b ≡ false → ahead b a ≡ false → a ≡ b
entry-total a b h l =
    let n : a.name ≡ b.name = entry-names a b h l in
    let s : is_same a.name b.name ≡ true = same-true a.name b.name n in
    let t : is_same b.name a.name ≡ true = same-true b.name a.name (sym n) in
    let m : a.node ≡ b.node = grind (arith, nat_tests) in
    let f : a.folder ≡ b.folder = grind (arith, nat_tests, flag-total a.folder b.folder) in
    λ i. record { node = m i; name = n i; folder = f i }

entry-through : (a b c : DirName) → ahead a b ≡ true → ahead b c ≡ true → ahead a c ≡ true
entry-through a b c h l =
    grind (arith, nat_tests, is_same-eq a.name b.name, is_same-eq b.name c.name, is_same-eq a.name c.name, is_same-refl a.name, bytes-through a.name b.name c.name, bytes-irreflexive a.name, flag-through a.folder b.folder c.folder)

by_entry : Order ahead same_entry
by_entry = record { eq = entry-is; itself = entry-itself; irreflexive = entry-irreflexive; total = entry-total; through = entry-through }

-- ---- names that differ put entries in order as all of an entry does

abbrev names : List DirName → List (List ℕ)
names es = map (λ e. e.name) es

abbrev has_name : List ℕ → DirName → Bool
has_name name e = is_same name e.name

put-same : (e : DirName) (es : List DirName) → list_any (has_name e.name) es ≡ false → put name_less e es ≡ put ahead e es
put-same e [] h = refl
put-same e (f ∷ fs) h = grind (arith, is_same-sym e.name f.name, put-same e fs)

none-has : (name : List ℕ) (es : List DirName) → AllByRecursion (λ m. is_same name m ≡ false) (names es) → list_any (has_name name) es ≡ false
none-has name [] h = refl
none-has name (e ∷ es) h = let first = h.0 in let rest = none-has name es h.1 in grind arith

put_all-same : (es : List DirName) → IsDistinct is_same (names es) → put_all name_less es ≡ put_all ahead es
unfolding IsDistinct
put_all-same [] h = refl
put_all-same (e ∷ es) h =
    ap (put name_less e) (put_all-same es h.1)
    ∙ put-same e (put_all ahead es) (any-put_all ahead same_entry by_entry (has_name e.name) es ∙ none-has e.name es h.0)

-- ---- a sorted list rises

pub compared : (a b : List ℕ) → is_lt (slice_cmp nat_cmp a b) ≡ bytes_less a b
compared a b = same_from_slice_cmp nat_cmp is_lt bytes_less refl (λ _ _. refl) (λ _ _. refl) (λ x y xs ys o h. grind (arith, nat_tests)) a b (slice_cmp nat_cmp a b) refl

comes-first : (e f : DirName) → entry_less f e ≡ false → is_same e.name f.name ≡ false → ahead e f ≡ true
comes-first e f h a =
    let less : bytes_less f.name e.name ≡ false = sym (compared f.name e.name) ∙ h in
    grind (arith, bytes-total e.name f.name, is_same-refl e.name, same-true e.name f.name)

all-ahead : (e : DirName) (es : List DirName) → ((k : ℕ) → k < length es → entry_less (get_or es k e) e ≡ false) → AllByRecursion (λ m. is_same e.name m ≡ false) (names es) → list_all (ahead e) es ≡ true
all-ahead e [] h a = refl
all-ahead e (f ∷ fs) h a =
    let first : ahead e f ≡ true = comes-first e f (h 0 (omega arith)) a.0 in
    let rest : list_all (ahead e) fs ≡ true = all-ahead e fs (λ k l. h (suc k) (omega arith)) a.1 in
    grind arith

abbrev IsFar : List DirName → Type 0
IsFar es = (i j : ℕ) (d : DirName) → i ≤ j → j < length es → entry_less (get_or es j d) (get_or es i d) ≡ false

rises : (es : List DirName) → IsFar es → IsDistinct is_same (names es) → is_rising ahead es ≡ true
unfolding IsDistinct
rises [] up h = refl
rises (e ∷ es) up h =
    let first : list_all (ahead e) es ≡ true = all-ahead e es (λ k l. up 0 (suc k) e (omega arith) (omega arith)) h.0 in
    let rest : is_rising ahead es ≡ true = rises es (λ i j d l m. up (suc i) (suc j) d (omega arith) (omega arith)) h.1 in
    grind arith

far : (es : List DirName) → IsSortedBy entry_less es → IsFar es
far es up = sorted_far entry_less (ranks_by nat_list_cmp_total (λ (e : DirName). e.name)) es up

sorted-is : (xs ys : List DirName) → IsPermutation xs ys → IsSortedBy entry_less ys → IsDistinct is_same (names xs) → ys ≡ put_all name_less xs
sorted-is xs ys p up h =
    let there : IsDistinct is_same (names ys) = IsDistinct-IsPermutation is_same is_same-sym (names xs) (names ys) (IsPermutation-map (λ (e : DirName). e.name) xs ys p) h in
    same_items ahead same_entry by_entry ys (put_all ahead xs) (rises ys (far ys up) there) (rising-put_all ahead same_entry (λ (e : DirName). e) by_entry xs)
    (λ k. sym (list_any-IsPermutation (λ e. same_entry e k) xs ys p) ∙ sym (any-put_all ahead same_entry by_entry (λ e. same_entry e k) xs))
    ∙ sym (put_all-same xs h)

-- ---- the views of applications

names-from : (view : ℕ) (applications : List (List ℕ)) → names (views_from view applications) ≡ applications
names-from view [] = refl
names-from view (name ∷ rest) = ap (λ (ns : List (List ℕ)). name ∷ ns) (names-from (view + 1) rest)

pub sorted-views : (applications : List (List ℕ)) (views sorted : List DirName) → views ≡ views_from 1 applications → IsDistinct is_same applications →
    IsPermutation views sorted → IsSortedBy entry_less sorted → sorted ≡ names_of_views applications
sorted-views applications views sorted e d p up =
    let named : names views ≡ applications = ap names e ∙ names-from 1 applications in
    sorted-is views sorted p up (subst (λ (ns : List (List ℕ)). IsDistinct is_same ns) (sym named) d)
    ∙ ap (put_all name_less) e

views-step : (applications : List (List ℕ)) (view k : ℕ) → k < length applications →
    views_from view (take (suc k) applications) ≡ views_from view (take k applications) ++ view_of (view + k) (slice_get applications k)
views-step [] view k l = absurd (omega arith)
views-step (a ∷ rest) view zero l =
    let m : view ≡ view + 0 = omega arith in
    λ i. folder_entry (root_node (m i)) a ∷ []
views-step (a ∷ rest) view (suc k) l =
    let m : view + 1 + k ≡ view + suc k = omega arith in
    ap (λ (es : List DirName). folder_entry (root_node view) a ∷ es)
    (views-step rest (view + 1) k (omega arith) ∙ ap (λ (n : ℕ). views_from (view + 1) (take k rest) ++ view_of n (slice_get rest k)) m)

-- one more application has one more view
pub views-next : (applications : List (List ℕ)) (k : ℕ) → k < length applications →
    views_from 1 (take k applications) ++ view_of (k + 1) (name_of_number applications (k + 1)) ≡ views_from 1 (take (k + 1) applications)
views-next applications k l =
    let e : suc k ≡ k + 1 = omega arith in
    let m : 1 + k ≡ suc k = omega arith in
    subst (λ (n : ℕ). views_from 1 (take k applications) ++ view_of n (name_of_number applications n) ≡ views_from 1 (take n applications)) e
    (sym (views-step applications 1 k l ∙ ap (λ (n : ℕ). views_from 1 (take k applications) ++ view_of n (slice_get applications k)) m))
