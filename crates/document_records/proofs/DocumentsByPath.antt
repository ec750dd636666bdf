-- The numbers of the documents of each path.
use Rattle.std.proofs.Common.{◌≡◌, ℕ, ◌+◌, ◌==◌, nat_eq, List, [], ◌∷◌, ◌++◌, map, Bool, true, false, not, ◌&&◌, cond, Option, Some, None, refl, sym, ap, subst, ◌∙◌, arith, suc, nat_lt, length, Result, Ok, Err, OnOk, OnErr}
use Rattle.std.specs.BTreeMap.{BTreeMap, UpdatesBy, get}
use Rattle.std.specs.Ordering.{is_eq}
use Rattle.std.specs.List.{filter, find, remove, prefix_len, position, position_or_len, slice_get, IsDistinct, AllByRecursion}
use Rattle.std.specs.Map.{lookup}
use Rattle.std.specs.Option.{option_map}
use Rattle.std.proofs.lemmas.Bool.Decides.{nat_tests}
use Rattle.portal_base.specs.Names.{is_same}
use Rattle.portal_base.specs.PathOrder.{path_order}
use Rattle.portal_base.specs.PathOrders.{path_order_ties}
use Rattle.portal_base.specs.declared.names.doc_id.DocId.{DocId}
use Rattle.portal_model.specs.declared.state.Document.{Document}
use Rattle.portal_model.specs.Documents.{serves, reusable_of, first_of, id_of_document, same_flag}
use Rattle.portal_model.specs.State.{document_of}
use Rattle.document_records.specs.DocumentIndex.{AreByPath, ids_found, ids_or_none, ids_of_path, has_path, has_flags, number_serves, other_ids, live_numbers}
use Rattle.document_records.specs.Documents.{has_number}
use Rattle.document_records.proofs.DocumentLemmas.{none-same, none-left-out, place-is, no-place}
use Rattle.document_records.proofs.FreshItems.{differ-filter}
use Rattle.portal_model.proofs.TripleOrder.{nat_is, nat-itself, is_same-eq}

-- ---- what is found once the numbers of one path have changed

found-after : (path : List ℕ) (old new : BTreeMap (List ℕ) (List DocId))
    (w : Option (List DocId)) → UpdatesBy path_order (path_order path) old new w →
    (other : List ℕ) →
    ids_found new other ≡ cond (is_same path other) (ids_or_none w) (ids_found old other)
found-after path old new w u other =
    ap ids_or_none (u.0 other
    ∙ ap (λ (b : Bool). cond b w (get path_order old other))
    (sym (path_order_ties path other)))
    ∙ inside (is_same path other) (get path_order old other)
  where
    inside : (b : Bool) (x : Option (List DocId)) →
        ids_or_none (cond b w x) ≡ cond b (ids_or_none w) (ids_or_none x)
    inside true x = refl
    inside false x = refl

module _ (path : List ℕ) (old new : BTreeMap (List ℕ) (List DocId)) where
  -- the numbers of one path were written over
  pub changed : (f : List DocId → List DocId) (ids written : List DocId) →
      ids_found old path ≡ ids → written ≡ f ids →
      UpdatesBy path_order (path_order path) old new (Some written) → (other : List ℕ) →
      ids_found new other ≡ cond (is_same path other) (f (ids_found old other))
      (ids_found old other)
  changed f ids written is e u other = found-after path old new (Some written) u other
      ∙ step (is_same path other) refl
    where
      step : (b : Bool) → is_same path other ≡ b →
          cond b written (ids_found old other)
          ≡ cond b (f (ids_found old other)) (ids_found old other)
      step true k = e ∙ ap f (sym is ∙ ap (ids_found old) (is_same-eq path other k))
      step false k = refl

  -- the numbers of one path were written over by themselves
  pub kept : (ids written : List DocId) → ids_found old path ≡ ids → written ≡ ids →
      UpdatesBy path_order (path_order path) old new (Some written) → (other : List ℕ) →
      ids_found new other ≡ ids_found old other
  kept ids written is e u other = changed (λ xs. xs) ids written is e u other
      ∙ either (is_same path other) (ids_found old other)
    where
      either : (b : Bool) (xs : List DocId) → cond b xs xs ≡ xs
      either true xs = refl
      either false xs = refl

  -- a first number was written
  pub begun : (id : DocId) (looked : BTreeMap (List ℕ) (List DocId)) (written : List DocId) →
      looked ≡ old → ids_found old path ≡ [] → written ≡ id ∷ [] →
      UpdatesBy path_order (path_order path) looked new (Some written) → (other : List ℕ) →
      ids_found new other ≡ cond (is_same path other) (ids_found old other ++ id ∷ [])
      (ids_found old other)
  begun id looked written same is e u =
      changed (λ ids. ids ++ id ∷ []) [] written is e
      (subst (λ (m : BTreeMap (List ℕ) (List DocId)). UpdatesBy path_order (path_order path) m new
      (Some written)) same u)

-- a path that was found with no number was taken out
pub dropped : (path : List ℕ) (mid new : BTreeMap (List ℕ) (List DocId)) →
    ids_found mid path ≡ [] → UpdatesBy path_order (path_order path) mid new None →
    (other : List ℕ) → ids_found new other ≡ ids_found mid other
dropped path mid new none u other = found-after path mid new None u other
    ∙ step (is_same path other) refl
  where
    step : (b : Bool) → is_same path other ≡ b →
        cond b [] (ids_found mid other) ≡ ids_found mid other
    step true e = sym none ∙ ap (ids_found mid) (is_same-eq path other e)
    step false e = refl

-- of a path that isn't found no number can be taken
pub none-taken : (n : ℕ) (path : List ℕ) (old : BTreeMap (List ℕ) (List DocId)) →
    get path_order old path ≡ None → (other : List ℕ) →
    ids_found old other ≡ cond (is_same path other) (other_ids n (ids_found old other))
    (ids_found old other)
none-taken n path old none other = step (is_same path other) refl
  where
    step : (b : Bool) → is_same path other ≡ b →
        ids_found old other ≡ cond b (other_ids n (ids_found old other)) (ids_found old other)
    step true e =
        let empty : ids_found old other ≡ [] = ap (ids_found old) (sym (is_same-eq path other e))
        ∙ ap ids_or_none none in
        empty ∙ sym (ap (other_ids n) empty)
    step false e = refl

-- ---- a number taken out of numbers that differ

none-other : (n : ℕ) (ids : List DocId) →
    AllByRecursion (λ m. nat_eq n m ≡ false) (map (λ (x : DocId). x.number) ids) →
    other_ids n ids ≡ ids
none-other n [] h = refl
none-other n (x ∷ xs) h =
    let e : (x.number == n) ≡ false = grind (arith, nat_tests, h.0) in
    ap (λ (b : Bool). cond (not b) (x ∷ other_ids n xs) (other_ids n xs)) e
    ∙ ap (λ (ys : List DocId). x ∷ ys) (none-other n xs h.1)

remove-behind : (x : DocId) (xs : List DocId) (k : ℕ) → remove (x ∷ xs) (1 + k) ≡ x ∷ remove xs k
remove-behind x xs k = let e : 1 + k ≡ suc k = omega arith in ap (λ (n : ℕ). remove (x ∷ xs) n) e

taken : (n : ℕ) (ids : List DocId) → IsDistinct nat_eq (map (λ (x : DocId). x.number) ids) →
    remove ids (prefix_len (λ x. not (x.number == n)) ids) ≡ other_ids n ids
unfolding IsDistinct
taken n [] h = refl
taken n (x ∷ xs) h = step (x.number == n) refl (taken n xs h.1)
  where
    step : (b : Bool) → (x.number == n) ≡ b →
        remove xs (prefix_len (λ y. not (y.number == n)) xs) ≡ other_ids n xs →
        remove (x ∷ xs) (cond (not b) (1 + prefix_len (λ y. not (y.number == n)) xs) 0)
        ≡ cond (not b) (x ∷ other_ids n xs) (other_ids n xs)
    step true e more = sym (none-other n xs
        (subst (λ (m : ℕ). AllByRecursion (λ k. nat_eq m k ≡ false)
        (map (λ (y : DocId). y.number) xs)) (nat_is x.number n e) h.0))
    step false e more = remove-behind x xs (prefix_len (λ y. not (y.number == n)) xs)
        ∙ ap (λ (ys : List DocId). x ∷ ys) more

pub taken-at : (n : ℕ) (ids : List DocId) (at : ℕ) →
    IsDistinct nat_eq (map (λ (x : DocId). x.number) ids) →
    position (λ (x : DocId). x.number == n) ids ≡ Some at → remove ids at ≡ other_ids n ids
taken-at n ids at h e =
    ap (remove ids) (place-is
    (nat_lt (position_or_len (λ (x : DocId). x.number == n) ids) (length ids))
    (position_or_len (λ (x : DocId). x.number == n) ids) at e) ∙ taken n ids h

none-of : (n : ℕ) (ids : List DocId) →
    nat_lt (position_or_len (λ (x : DocId). x.number == n) ids) (length ids) ≡ false →
    ids ≡ other_ids n ids
none-of n [] h = refl
none-of n (x ∷ xs) h = grind (arith, nat_tests, none-of n xs)

pub taken-nowhere : (n : ℕ) (ids : List DocId) →
    position (λ (x : DocId). x.number == n) ids ≡ None → ids ≡ other_ids n ids
taken-nowhere n ids e = none-of n ids
    (no-place (nat_lt (position_or_len (λ (x : DocId). x.number == n) ids) (length ids))
    (position_or_len (λ (x : DocId). x.number == n) ids) e)

-- ---- the numbers of the documents of a path

ids-more : (live : List Document) (d : Document) (path : List ℕ) →
    ids_of_path (live ++ d ∷ []) path
    ≡ cond (is_same d.path path) (ids_of_path live path ++ d.id ∷ []) (ids_of_path live path)
ids-more [] d path = step (is_same d.path path)
  where
    step : (b : Bool) → map id_of_document (cond b (d ∷ []) []) ≡ cond b (d.id ∷ []) []
    step true = refl
    step false = refl
ids-more (x ∷ xs) d path = step (is_same x.path path) (is_same d.path path) (ids-more xs d path)
  where
    step : (a b : Bool) → ids_of_path (xs ++ d ∷ []) path
        ≡ cond b (ids_of_path xs path ++ d.id ∷ []) (ids_of_path xs path) →
        map id_of_document (cond a (x ∷ filter (has_path path) (xs ++ d ∷ []))
        (filter (has_path path) (xs ++ d ∷ [])))
        ≡ cond b (map id_of_document
        (cond a (x ∷ filter (has_path path) xs) (filter (has_path path) xs)) ++ d.id ∷ [])
        (map id_of_document (cond a (x ∷ filter (has_path path) xs)
        (filter (has_path path) xs)))
    step true true h = ap (λ (ids : List DocId). x.id ∷ ids) h
    step true false h = ap (λ (ids : List DocId). x.id ∷ ids) h
    step false true h = h
    step false false h = h

ids-fewer : (n : ℕ) (live : List Document) (path : List ℕ) →
    ids_of_path (filter (λ d. not (has_number n d)) live) path
    ≡ other_ids n (ids_of_path live path)
ids-fewer n [] path = refl
ids-fewer n (x ∷ xs) path =
    step (has_number n x) (is_same x.path path) refl refl (ids-fewer n xs path)
  where
    fewer : List Document
    fewer = filter (λ d. not (has_number n d)) xs

    step : (a b : Bool) → has_number n x ≡ a → is_same x.path path ≡ b →
        ids_of_path (filter (λ d. not (has_number n d)) xs) path
        ≡ other_ids n (ids_of_path xs path) →
        ids_of_path (cond (not a) (x ∷ filter (λ d. not (has_number n d)) xs)
        (filter (λ d. not (has_number n d)) xs)) path
        ≡ other_ids n (map id_of_document
        (cond b (x ∷ filter (has_path path) xs) (filter (has_path path) xs)))
    step true true e f h = h ∙ sym
        (ap (λ (c : Bool). cond (not c) (x.id ∷ other_ids n (ids_of_path xs path))
        (other_ids n (ids_of_path xs path))) e)
    step true false e f h = h
    step false true e f h =
        ap (λ (c : Bool). map id_of_document
        (cond c (x ∷ filter (has_path path) fewer) (filter (has_path path) fewer))) f
        ∙ (ap (λ (ids : List DocId). x.id ∷ ids) h
        ∙ sym (ap (λ (c : Bool). cond (not c) (x.id ∷ other_ids n (ids_of_path xs path))
        (other_ids n (ids_of_path xs path))) e))
    step false false e f h = ap
        (λ (c : Bool). map id_of_document
        (cond c (x ∷ filter (has_path path) fewer) (filter (has_path path) fewer))) f ∙ h

-- the document of a number is of another path
ids-apart : (n : ℕ) (live : List Document) (d : Document) (path : List ℕ) →
    IsDistinct nat_eq (live_numbers live) → find (has_number n) live ≡ Some d →
    is_same d.path path ≡ false →
    ids_of_path (filter (λ d. not (has_number n d)) live) path ≡ ids_of_path live path
unfolding IsDistinct
ids-apart n [] d path h e f = refl
ids-apart n (x ∷ xs) d path h e f =
    step (has_number n x) refl e (λ g. ids-apart n xs d path h.1 g f)
  where
    again : (c : Bool) → ids_of_path (filter (λ d. not (has_number n d)) xs) path
        ≡ ids_of_path xs path →
        map id_of_document (cond c
        (x ∷ filter (has_path path) (filter (λ d. not (has_number n d)) xs))
        (filter (has_path path) (filter (λ d. not (has_number n d)) xs)))
        ≡ map id_of_document (cond c (x ∷ filter (has_path path) xs)
        (filter (has_path path) xs))
    again true k = ap (λ (ids : List DocId). x.id ∷ ids) k
    again false k = k

    step : (b : Bool) → has_number n x ≡ b → cond b (Some x) (find (has_number n) xs) ≡ Some d →
        (find (has_number n) xs ≡ Some d →
        ids_of_path (filter (λ d. not (has_number n d)) xs) path ≡ ids_of_path xs path) →
        ids_of_path (cond (not b) (x ∷ filter (λ d. not (has_number n d)) xs)
        (filter (λ d. not (has_number n d)) xs)) path ≡ ids_of_path (x ∷ xs) path
    step true k g more =
        let same : x ≡ d = cc in
        let off : is_same x.path path ≡ false = ap (λ (y : Document). is_same y.path path) same
        ∙ f in
        ap (λ (ds : List Document). ids_of_path ds path)
        (none-same n xs (subst (λ (m : ℕ). AllByRecursion (λ j. nat_eq m j ≡ false)
        (live_numbers xs)) (nat_is x.id.number n k) h.0))
        ∙ sym (ap (λ (c : Bool). map id_of_document
        (cond c (x ∷ filter (has_path path) xs) (filter (has_path path) xs))) off)
    step false k g more = again (is_same x.path path) (more g)

numbers-of-ids : (ds : List Document) →
    live_numbers ds ≡ map (λ (x : DocId). x.number) (map id_of_document ds)
numbers-of-ids [] = refl
numbers-of-ids (d ∷ ds) = ap (λ (ns : List ℕ). d.id.number ∷ ns) (numbers-of-ids ds)

-- ---- the index

pub by-path-none : (by_path : BTreeMap (List ℕ) (List DocId)) → by_path.entries ≡ [] →
    AreByPath [] by_path
by-path-none by_path e = λ path. ap
    (λ (es : List (List ℕ × List DocId)). ids_or_none
    (lookup (λ k. is_eq (path_order path k)) es)) e

pub by-path-more : (live : List Document) (d : Document)
    (old new : BTreeMap (List ℕ) (List DocId)) → AreByPath live old →
    ((other : List ℕ) → ids_found new other
    ≡ cond (is_same d.path other) (ids_found old other ++ d.id ∷ []) (ids_found old other)) →
    AreByPath (live ++ d ∷ []) new
by-path-more live d old new was h = λ path. h path
    ∙ ((λ i. cond (is_same d.path path) (was path i ++ d.id ∷ []) (was path i))
    ∙ sym (ids-more live d path))

pub by-path-fewer : (live : List Document) (n : ℕ) (d : Document)
    (old new : BTreeMap (List ℕ) (List DocId)) → IsDistinct nat_eq (live_numbers live) →
    find (has_number n) live ≡ Some d → AreByPath live old →
    ((other : List ℕ) → ids_found new other
    ≡ cond (is_same d.path other) (other_ids n (ids_found old other)) (ids_found old other)) →
    AreByPath (filter (λ d. not (has_number n d)) live) new
by-path-fewer live n d old new differ is was h = λ path. h path
    ∙ step path (is_same d.path path) refl
  where
    step : (path : List ℕ) (b : Bool) → is_same d.path path ≡ b →
        cond (is_same d.path path) (other_ids n (ids_found old path)) (ids_found old path)
        ≡ ids_of_path (filter (λ d. not (has_number n d)) live) path
    step path true e = ap (λ (b : Bool). cond b (other_ids n (ids_found old path))
        (ids_found old path)) e ∙ (ap (other_ids n) (was path) ∙ sym (ids-fewer n live path))
    step path false e = ap (λ (b : Bool). cond b (other_ids n (ids_found old path))
        (ids_found old path)) e ∙ (was path ∙ sym (ids-apart n live d path differ is e))

-- no document has the number
pub by-path-same : (live : List Document) (n : ℕ) (by_path : BTreeMap (List ℕ) (List DocId)) →
    find (has_number n) live ≡ None → AreByPath live by_path →
    AreByPath (filter (λ d. not (has_number n d)) live) by_path
by-path-same live n by_path none was =
    subst (λ (ds : List Document). AreByPath ds by_path)
    (sym (none-left-out (has_number n) live none)) was

-- the numbers of a path differ
pub ids-differ : (live : List Document) (by_path : BTreeMap (List ℕ) (List DocId)) →
    IsDistinct nat_eq (live_numbers live) → AreByPath live by_path → (path : List ℕ) →
    IsDistinct nat_eq (map (λ (x : DocId). x.number) (ids_found by_path path))
ids-differ live by_path differ was path =
    subst (IsDistinct nat_eq)
    (numbers-of-ids (filter (has_path path) live)
    ∙ ap (map (λ (x : DocId). x.number)) (sym (was path)))
    (differ-filter (has_path path) live differ)

-- ---- the first document of a path

pub first-found : (live : List Document) (path : List ℕ) →
    slice_get (ids_of_path live path) 0 ≡ first_of live path
first-found [] path = refl
first-found (x ∷ xs) path = step (is_same x.path path) (first-found xs path)
  where
    step : (b : Bool) → slice_get (ids_of_path xs path) 0 ≡ first_of xs path →
        slice_get (map id_of_document
        (cond b (x ∷ filter (has_path path) xs) (filter (has_path path) xs))) 0
        ≡ option_map id_of_document (cond b (Some x) (find (λ d. is_same d.path path) xs))
    step true h = refl
    step false h = h

found-self : (ds : List Document) → IsDistinct nat_eq (live_numbers ds) →
    AllByRecursion (λ d. document_of ds d.id.number ≡ Some d) ds
unfolding IsDistinct
found-self [] h = tt
found-self (x ∷ xs) h = (
  ap (λ (b : Bool). cond b (Some x) (document_of xs x.id.number))
      (nat-itself x.id.number),
  behind xs h.0 (found-self xs h.1),
)
  where
    behind : (ds : List Document) →
        AllByRecursion (λ m. nat_eq x.id.number m ≡ false) (live_numbers ds) →
        AllByRecursion (λ d. document_of xs d.id.number ≡ Some d) ds →
        AllByRecursion (λ d. document_of (x ∷ xs) d.id.number ≡ Some d) ds
    behind [] k l = tt
    behind (d ∷ ds) k l =
        let e : (x.id.number == d.id.number) ≡ false = grind (arith, nat_tests, k.0) in
        (ap (λ (b : Bool). cond b (Some x) (document_of xs d.id.number)) e ∙ l.0, behind ds k.1 l.1)

found-serving : (documents : List Document) (path : List ℕ) (persistent strict folder : Bool)
    (ds : List Document) → AllByRecursion (λ d. document_of documents d.id.number ≡ Some d) ds →
    find (λ id. number_serves documents persistent strict folder id.number) (ids_of_path ds path)
    ≡ option_map id_of_document (find (serves path persistent strict folder) ds)
found-serving documents path persistent strict folder [] h = refl
found-serving documents path persistent strict folder (x ∷ xs) h =
    step (is_same x.path path) (found-serving documents path persistent strict folder xs h.1)
  where
    flags : Bool
    flags = same_flag x.persistent persistent && (same_flag x.strict strict && (same_flag x.folder folder && x.reusable))

    inside : (b : Bool) (o : Option Document) →
        cond b (Some x.id) (option_map id_of_document o)
        ≡ option_map id_of_document (cond b (Some x) o)
    inside true o = refl
    inside false o = refl

    step : (b : Bool) → find (λ id. number_serves documents persistent strict folder id.number)
        (ids_of_path xs path) ≡ option_map id_of_document
        (find (serves path persistent strict folder) xs) →
        find (λ id. number_serves documents persistent strict folder id.number)
        (map id_of_document (cond b (x ∷ filter (has_path path) xs)
        (filter (has_path path) xs)))
        ≡ option_map id_of_document
        (cond (b && (same_flag x.persistent persistent
        && (same_flag x.strict strict && (same_flag x.folder folder && x.reusable)))) (Some x)
        (find (serves path persistent strict folder) xs))
    step true k =
        (λ i. cond (has_flags persistent strict folder (h.0 i)) (Some x.id) (k i))
        ∙ inside (same_flag x.persistent persistent
        && (same_flag x.strict strict && (same_flag x.folder folder && x.reusable)))
        (find (serves path persistent strict folder) xs)
    step false k = k

pub serving-found : (live : List Document) (path : List ℕ) (persistent strict folder : Bool) →
    IsDistinct nat_eq (live_numbers live) →
    find (λ id. number_serves live persistent strict folder id.number) (ids_of_path live path)
    ≡ reusable_of live path persistent strict folder
serving-found live path persistent strict folder differ =
    found-serving live path persistent strict folder live (found-self live differ)

-- ---- what follows where a call didn't fail, or where it did

pub ok-then : {A E : Type 0} (r : Result A E) {P Q : Type 0} → (P → Q) → OnOk r P → OnOk r Q
ok-then (Ok x) f h = f h
ok-then (Err e) f h = tt

pub err-then : {A E : Type 0} (r : Result A E) {P Q : Type 0} → (P → Q) → OnErr r P → OnErr r Q
err-then (Ok x) f h = tt
err-then (Err e) f h = f h
