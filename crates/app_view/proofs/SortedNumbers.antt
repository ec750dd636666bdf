-- Numbers that are sorted, and differ, are those of the documents in order of their identifiers.
use Rattle.std.proofs.Common.{◌≡◌, ◌≤◌, ◌<◌, ◌==◌, ◌&&◌, ◌||◌, ℕ, length, get_or, map, List, [], ◌∷◌, Bool, true, false, cond, Option, Some, None, is_some, nat_eq, nat_lt, suc, refl, sym, ap, subst, ◌∙◌, arith}
use Rattle.std.specs.List.{filter, list_all, list_any, IsDistinct, AllByRecursion}
use Rattle.std.specs.List.Sorted.{IsNonDecreasingBy, IsPermutation}
use Rattle.std.proofs.lemmas.Bool.Decides.{nat_tests}
use Rattle.std.proofs.lemmas.List.Sorted.{list_any-IsPermutation}
use Rattle.std.proofs.lemmas.Map.Keys.{IsDistinct-IsPermutation}
use Rattle.portal_base.specs.declared.names.doc_id.DocId.{DocId}
use Rattle.portal_base.specs.declared.who.Who.{Who}
use Rattle.portal_model.specs.declared.rights.Right.TheVariants.{Read, Write, GrantPermissions, Delete}
use Rattle.portal_model.specs.declared.state.Document.{Document}
use Rattle.portal_model.specs.declared.state.Triple.{Triple}
use Rattle.portal_model.specs.ListDocuments.{lower}
use Rattle.portal_model.specs.Ordered.{is_rising, put, put_all}
use Rattle.portal_model.specs.Place.{may_read, numbers_seen}
use Rattle.portal_model.specs.State.{app_has, document_of}
use Rattle.portal_model.proofs.ListLookups.{found_passes, nat_is}
use Rattle.portal_model.proofs.RisingLists.{Order, any-put_all, rising-filter, rising-put_all, same_items}
use Rattle.document_records.specs.DocumentIndex.{live_numbers}
use Rattle.document_records.specs.GrantIndex.{documents_of, id_less}
use Rattle.document_records.proofs.DocumentsHeld.{any-documents, holds-any, ids, rising-documents, same_id}
use Rattle.app_view.specs.Books.{readable}
use Rattle.app_view.specs.Entries.{is_readable}

-- ---- the order of numbers

same-is : (a b : ℕ) → nat_eq a b ≡ true → a ≡ b
same-is a b h = grind (arith, nat_tests)

same-itself : (a : ℕ) → nat_eq a a ≡ true
same-itself a = grind (arith, nat_tests)

same-flip : (a b : ℕ) → nat_eq a b ≡ nat_eq b a
same-flip a b = grind (arith, nat_tests)

none-below : (a : ℕ) → nat_lt a a ≡ false
none-below a = grind (arith, nat_tests)

neither-below : (a b : ℕ) → nat_lt a b ≡ false → nat_lt b a ≡ false → a ≡ b
neither-below a b h l = grind (arith, nat_tests)

below-through : (a b c : ℕ) → nat_lt a b ≡ true → nat_lt b c ≡ true → nat_lt a c ≡ true
below-through a b c h l = grind (arith, nat_tests)

pub by_number : Order nat_lt nat_eq
by_number = record { eq = same-is; itself = same-itself; irreflexive = none-below; total = neither-below; through = below-through }

-- ---- a sorted list rises

all-above : (n : ℕ) (ns : List ℕ) → ((k : ℕ) → k < length ns → n ≤ get_or ns k n) → AllByRecursion (λ m. nat_eq n m ≡ false) ns → list_all (nat_lt n) ns ≡ true
all-above n [] h a = refl
all-above n (m ∷ ms) h a =
    let first : n ≤ m = h 0 (omega arith) in
    let apart : nat_eq n m ≡ false = a.0 in
    let rest : list_all (nat_lt n) ms ≡ true = all-above n ms (λ k l. h (suc k) (omega arith)) a.1 in
    grind (arith, nat_tests)

rises : (ns : List ℕ) → IsNonDecreasingBy (λ n. n) ns → IsDistinct nat_eq ns → is_rising nat_lt ns ≡ true
unfolding IsDistinct
rises [] up h = refl
rises (n ∷ ns) up h =
    let first : list_all (nat_lt n) ns ≡ true = all-above n ns (λ k l. up 0 (suc k) n (omega arith) (omega arith)) h.0 in
    let rest : is_rising nat_lt ns ≡ true = rises ns (λ i j e l m. up (suc i) (suc j) e (omega arith) (omega arith)) h.1 in
    grind arith

sorted-is : (xs ys : List ℕ) → IsPermutation xs ys → IsNonDecreasingBy (λ n. n) ys → IsDistinct nat_eq xs → ys ≡ put_all nat_lt xs
sorted-is xs ys p up h =
    same_items nat_lt nat_eq by_number ys (put_all nat_lt xs)
    (rises ys up (IsDistinct-IsPermutation nat_eq same-flip xs ys p h))
    (rising-put_all nat_lt nat_eq (λ (n : ℕ). n) by_number xs)
    (λ k. sym (list_any-IsPermutation (λ n. nat_eq n k) xs ys p) ∙ sym (any-put_all nat_lt nat_eq by_number (λ n. nat_eq n k) xs))

-- ---- the documents that are seen

put-number : (d : Document) (ds : List Document) → live_numbers (put lower d ds) ≡ put nat_lt d.id.number (live_numbers ds)
put-number d [] = refl
put-number d (e ∷ es) = step (lower d e) (lower e d) (put-number d es)
  where
    step : (b c : Bool) → live_numbers (put lower d es) ≡ put nat_lt d.id.number (live_numbers es) →
        live_numbers (cond b (d ∷ e ∷ es) (cond c (e ∷ put lower d es) (d ∷ es)))
        ≡ cond b (d.id.number ∷ e.id.number ∷ live_numbers es) (cond c (e.id.number ∷ put nat_lt d.id.number (live_numbers es)) (d.id.number ∷ live_numbers es))
    step true c more = refl
    step false true more = ap (λ (ns : List ℕ). e.id.number ∷ ns) more
    step false false more = refl

put_all-number : (ds : List Document) → live_numbers (put_all lower ds) ≡ put_all nat_lt (live_numbers ds)
put_all-number [] = refl
put_all-number (d ∷ ds) = put-number d (put_all lower ds) ∙ ap (put nat_lt d.id.number) (put_all-number ds)

filter-all : (ds : List Document) → filter (λ (d : Document). true) ds ≡ ds
filter-all [] = refl
filter-all (d ∷ ds) = ap (λ (es : List Document). d ∷ es) (filter-all ds)

-- the host sees them all
pub sorted-live : (rights : List Triple) (documents live : List Document) (numbers sorted : List ℕ) →
    live ≡ documents → IsDistinct nat_eq (live_numbers documents) → numbers ≡ live_numbers live →
    IsPermutation numbers sorted → IsNonDecreasingBy (λ n. n) sorted →
    sorted ≡ numbers_seen rights Who.Host documents
sorted-live rights documents live numbers sorted l h e p up =
    let all : numbers ≡ live_numbers documents = e ∙ ap live_numbers l in
    sorted-is numbers sorted p up (subst (λ (ns : List ℕ). IsDistinct nat_eq ns) (sym all) h)
    ∙ (ap (put_all nat_lt) all ∙ (sym (put_all-number documents)
    ∙ ap (λ (ds : List Document). live_numbers (put_all lower ds)) (sym (filter-all documents))))

-- ---- the documents that an application may read

abbrev numbers_of : List DocId → List ℕ
numbers_of xs = map (λ x. x.number) xs

rising-numbers : (xs : List DocId) → is_rising nat_lt (numbers_of xs) ≡ is_rising id_less xs
rising-numbers [] = refl
rising-numbers (x ∷ xs) = λ i. behind xs i && rising-numbers xs i
  where
    behind : (ys : List DocId) → list_all (nat_lt x.number) (numbers_of ys) ≡ list_all (id_less x) ys
    behind [] = refl
    behind (y ∷ ys) = ap (λ (b : Bool). id_less x y && b) (behind ys)

module _ (rights : List Triple) (app : List ℕ) (documents : List Document) where
  abbrev can_read : ℕ → Bool
  can_read n = app_has rights app n Read

  abbrev is_live : List Document → ℕ → Bool
  is_live ds n = is_some (document_of ds n)

  abbrev reads : DocId → Bool
  reads x = is_readable rights (Who.App app) documents x

  reads-is : (k : ℕ) → is_some (readable rights (Who.App app) (document_of documents k))
      ≡ (can_read k && is_live documents k)
  reads-is k = step (document_of documents k) refl
    where
      some : (b : Bool) (d : Document) → is_some (cond b (Some d) None) ≡ (b && true)
      some true d = refl
      some false d = refl

      none : (b : Bool) → false ≡ (b && false)
      none true = refl
      none false = refl

      step : (o : Option Document) → document_of documents k ≡ o →
          is_some (readable rights (Who.App app) o) ≡ (can_read k && is_some o)
      step None e = none (can_read k)
      step (Some d) e = some (can_read d.id.number) d ∙ ap (λ (n : ℕ). can_read n && true)
          (nat_is d.id.number k (found_passes (λ (x : Document). x.id.number == k) documents d e))

  abbrev has_read : ℕ → List DocId → Bool
  has_read k xs = list_any (λ n. nat_eq n k) (numbers_of (filter reads xs))

  abbrev has_seen : ℕ → List Document → Bool
  has_seen k ds =
      list_any (λ n. nat_eq n k) (live_numbers (filter (may_read rights (Who.App app)) ds))

  and-true : (b : Bool) → b ≡ (b && true)
  and-true true = refl
  and-true false = refl

  and-false : (b : Bool) → false ≡ (b && false)
  and-false true = refl
  and-false false = refl

  readable-there : (k : ℕ) (xs : List DocId) → has_read k xs
      ≡ ((can_read k && is_live documents k) && list_any (λ x. x.number == k) xs)
  readable-there k [] = and-false (can_read k && is_live documents k)
  readable-there k (x ∷ xs) = step (x.number == k) (reads x) refl refl (readable-there k xs)
    where
      here : (x.number == k) ≡ true → reads x ≡ (can_read k && is_live documents k)
      here e = ap (λ (n : ℕ). is_some (readable rights (Who.App app) (document_of documents n)))
          (nat_is x.number k e) ∙ reads-is k

      step : (b c : Bool) → (x.number == k) ≡ b → reads x ≡ c →
          has_read k xs
          ≡ ((can_read k && is_live documents k) && list_any (λ y. y.number == k) xs) →
          list_any (λ n. nat_eq n k) (numbers_of (cond c (x ∷ filter reads xs) (filter reads xs)))
          ≡ ((can_read k && is_live documents k) && (b || list_any (λ y. y.number == k) xs))
      step true true e f more = ap (λ (b : Bool). b || has_read k xs) e
          ∙ (sym f ∙ (here e ∙ and-true (can_read k && is_live documents k)))
      step true false e f more = more
          ∙ (ap (λ (b : Bool). b && list_any (λ y. y.number == k) xs) (sym (here e) ∙ f)
          ∙ ap (λ (b : Bool). b && true) (sym f ∙ here e))
      step false true e f more = ap (λ (b : Bool). b || has_read k xs) e ∙ more
      step false false e f more = more

  seen-there : (k : ℕ) (ds : List Document) → has_seen k ds ≡ (can_read k && is_live ds k)
  seen-there k [] = and-false (can_read k)
  seen-there k (d ∷ ds) =
      step (d.id.number == k) (can_read d.id.number) refl refl (seen-there k ds)
    where
      here : (d.id.number == k) ≡ true → can_read d.id.number ≡ can_read k
      here e = ap can_read (nat_is d.id.number k e)

      step : (b c : Bool) → (d.id.number == k) ≡ b → can_read d.id.number ≡ c →
          has_seen k ds ≡ (can_read k && is_live ds k) →
          list_any (λ n. nat_eq n k) (live_numbers
          (cond c (d ∷ filter (may_read rights (Who.App app)) ds)
          (filter (may_read rights (Who.App app)) ds)))
          ≡ (can_read k && is_some (cond b (Some d) (document_of ds k)))
      step true true e f more = ap (λ (b : Bool). b || has_seen k ds) e
          ∙ (sym f ∙ (here e ∙ and-true (can_read k)))
      step true false e f more = more
          ∙ (ap (λ (b : Bool). b && is_live ds k) (sym (here e) ∙ f)
          ∙ ap (λ (b : Bool). b && true) (sym f ∙ here e))
      step false true e f more = ap (λ (b : Bool). b || has_seen k ds) e ∙ more
      step false false e f more = more

  -- it has a right in what it may read
  both : (k : ℕ) → ((can_read k && is_live documents k)
      && list_any (λ x. x.number == k) (documents_of rights app)) ≡ (can_read k && is_live documents k)
  both k = ap (λ (b : Bool). (can_read k && is_live documents k) && b)
      (any-documents rights app k ∙ sym (holds-any rights app k))
      ∙ absorbed (can_read k) (is_live documents k)
      (app_has rights app k Write
      || (app_has rights app k GrantPermissions || app_has rights app k Delete))
    where
      absorbed : (a s r : Bool) → ((a && s) && (a || r)) ≡ (a && s)
      absorbed true true r = refl
      absorbed true false r = refl
      absorbed false s r = refl

  pub readable-seen : numbers_of (filter reads (documents_of rights app))
      ≡ numbers_seen rights (Who.App app) documents
  readable-seen =
      same_items nat_lt nat_eq by_number (numbers_of (filter reads (documents_of rights app)))
      (put_all nat_lt (live_numbers (filter (may_read rights (Who.App app)) documents)))
      (rising-numbers (filter reads (documents_of rights app))
      ∙ rising-filter id_less same_id (λ (x : DocId). x) ids reads (documents_of rights app)
      (rising-documents rights app))
      (rising-put_all nat_lt nat_eq (λ (n : ℕ). n) by_number
      (live_numbers (filter (may_read rights (Who.App app)) documents)))
      (λ k. readable-there k (documents_of rights app)
      ∙ (both k ∙ (sym (seen-there k documents)
      ∙ sym (any-put_all nat_lt nat_eq by_number (λ n. nat_eq n k)
      (live_numbers (filter (may_read rights (Who.App app)) documents))))))
      ∙ sym (put_all-number (filter (may_read rights (Who.App app)) documents))
