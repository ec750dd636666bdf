-- Documents that are sorted by their numbers, or found by numbers that rise, are in order of their
-- identifiers.
use Rattle.std.proofs.Common.{◌≡◌, ◌≤◌, ◌<◌, ◌==◌, ℕ, length, get_or, List, [], ◌∷◌, ◌++◌, map, Bool, true, false, ◌||◌, ◌&&◌, cond, Option, Some, None, nat_eq, suc, refl, sym, ap, subst, ◌∙◌, arith}
use Rattle.std.specs.List.{filter, flat_map, list_all, list_any, IsDistinct, AllByRecursion}
use Rattle.std.specs.List.Sorted.{IsNonDecreasingBy, IsPermutation}
use Rattle.std.proofs.lemmas.Bool.Decides.{nat_tests}
use Rattle.std.proofs.lemmas.List.Folds.{list_any-append}
use Rattle.std.proofs.lemmas.List.Sorted.{IsPermutation-map, list_any-IsPermutation}
use Rattle.std.proofs.lemmas.Map.Keys.{IsDistinct-IsPermutation}
use Rattle.portal_base.specs.Names.{is_app_name, is_same}
use Rattle.portal_base.specs.declared.names.doc_id.DocId.{DocId}
use Rattle.portal_base.specs.declared.who.Who.{Who}
use Rattle.rights_rule.specs.Rights.{holds_any}
use Rattle.portal_model.specs.declared.reply.Answer.{Answer}
use Rattle.portal_model.specs.declared.reply.Code.TheVariants as Code
use Rattle.portal_model.specs.declared.reply.ListedDocument.{ListedDocument}
use Rattle.portal_model.specs.declared.state.Document.{Document}
use Rattle.portal_model.specs.declared.state.Triple.{Triple}
use Rattle.portal_model.specs.ListDocuments.{is_listed_for, listed, lower}
use Rattle.portal_model.specs.Ordered.{is_rising, put, put_all}
use Rattle.portal_model.specs.State.{document_of, held_of}
use Rattle.portal_model.proofs.ListLookups.{found_passes}
use Rattle.portal_model.proofs.RisingLists.{Order, any-put_all, rising-put_all, same_items}
use Rattle.portal_model.proofs.TripleOrder.{Key, key_less, keys, nat_is, same_key}
use Rattle.document_records.specs.DocumentIndex.{live_numbers}
use Rattle.document_records.specs.GrantIndex.{documents_of, id_less}
use Rattle.document_records.proofs.DocumentsHeld.{any-documents, holds-any, rising-documents}
use Rattle.document_records.proofs.FreshItems.{differ-filter}
use Rattle.document_calls.specs.Answers.{all_listed, held_listed, listed_for, listed_found, listed_if, listing, lower_listed, number_listed}

-- ---- the order by number and path, in which no two differing documents stand at one place

abbrev key_of : ListedDocument → Key
key_of d = record { number = d.id.number; app = d.path }

abbrev of_key : Key → ListedDocument
of_key k = record { id = record { number = k.number }; path = k.app }

abbrev ahead : ListedDocument → ListedDocument → Bool
ahead d e = key_less (key_of d) (key_of e)

abbrev same_listed : ListedDocument → ListedDocument → Bool
same_listed d e = same_key (key_of d) (key_of e)

by_key : Order ahead same_listed
by_key = record {
  eq = λ d e h. ap of_key (keys.eq (key_of d) (key_of e) h);
  itself = λ d. keys.itself (key_of d);
  irreflexive = λ d. keys.irreflexive (key_of d);
  total = λ d e h l. ap of_key (keys.total (key_of d) (key_of e) h l);
  through = λ d e f h l. keys.through (key_of d) (key_of e) (key_of f) h l;
}

abbrev numbers : List ListedDocument → List ℕ
numbers ds = map number_listed ds

-- ---- numbers that differ put documents in order as numbers and paths do

abbrev has_number : ℕ → ListedDocument → Bool
has_number n d = nat_eq n (number_listed d)

put-same : (d : ListedDocument) (ds : List ListedDocument) → list_any (has_number (number_listed d)) ds ≡ false → put lower_listed d ds ≡ put ahead d ds
put-same d [] h = refl
put-same d (e ∷ es) h = grind (arith, nat_tests, put-same d es)

none-has : (n : ℕ) (ds : List ListedDocument) → AllByRecursion (λ m. nat_eq n m ≡ false) (numbers ds) → list_any (has_number n) ds ≡ false
none-has n [] h = refl
none-has n (d ∷ ds) h = let first = h.0 in let rest = none-has n ds h.1 in grind arith

put_all-same : (ds : List ListedDocument) → IsDistinct nat_eq (numbers ds) → put_all lower_listed ds ≡ put_all ahead ds
unfolding IsDistinct
put_all-same [] h = refl
put_all-same (d ∷ ds) h =
    ap (put lower_listed d) (put_all-same ds h.1)
    ∙ put-same d (put_all ahead ds) (any-put_all ahead same_listed by_key (has_number (number_listed d)) ds ∙ none-has (number_listed d) ds h.0)

-- ---- a sorted list rises

all-ahead : (d : ListedDocument) (ds : List ListedDocument) → ((k : ℕ) → k < length ds → number_listed d ≤ number_listed (get_or ds k d)) → AllByRecursion (λ m. nat_eq (number_listed d) m ≡ false) (numbers ds) → list_all (ahead d) ds ≡ true
all-ahead d [] h a = refl
all-ahead d (e ∷ es) h a =
    let first : number_listed d ≤ number_listed e = h 0 (omega arith) in
    let apart : nat_eq (number_listed d) (number_listed e) ≡ false = a.0 in
    let rest : list_all (ahead d) es ≡ true = all-ahead d es (λ k l. h (suc k) (omega arith)) a.1 in
    grind (arith, nat_tests)

rises : (ds : List ListedDocument) → IsNonDecreasingBy number_listed ds → IsDistinct nat_eq (numbers ds) → is_rising ahead ds ≡ true
unfolding IsDistinct
rises [] up h = refl
rises (d ∷ ds) up h =
    let first : list_all (ahead d) ds ≡ true = all-ahead d ds (λ k l. up 0 (suc k) d (omega arith) (omega arith)) h.0 in
    let rest : is_rising ahead ds ≡ true = rises ds (λ i j e l m. up (suc i) (suc j) e (omega arith) (omega arith)) h.1 in
    grind arith

flip : (a b : ℕ) → nat_eq a b ≡ nat_eq b a
flip a b = grind (arith, nat_tests)

sorted-is : (xs ys : List ListedDocument) → IsPermutation xs ys → IsNonDecreasingBy number_listed ys → IsDistinct nat_eq (numbers xs) → ys ≡ put_all lower_listed xs
sorted-is xs ys p up h =
    let there : IsDistinct nat_eq (numbers ys) = IsDistinct-IsPermutation nat_eq flip (numbers xs) (numbers ys) (IsPermutation-map number_listed xs ys p) h in
    same_items ahead same_listed by_key ys (put_all ahead xs) (rises ys up there) (rising-put_all ahead same_listed (λ (d : ListedDocument). d) by_key xs)
    (λ k. sym (list_any-IsPermutation (λ d. same_listed d k) xs ys p) ∙ sym (any-put_all ahead same_listed by_key (λ d. same_listed d k) xs))
    ∙ sym (put_all-same xs h)

-- ---- all documents

numbers-listed : (ds : List Document) → numbers (map listed ds) ≡ live_numbers ds
numbers-listed [] = refl
numbers-listed (d ∷ ds) = ap (λ (ns : List ℕ). d.id.number ∷ ns) (numbers-listed ds)

put-listed : (d : Document) (ds : List Document) → map listed (put lower d ds) ≡ put lower_listed (listed d) (map listed ds)
put-listed d [] = refl
put-listed d (e ∷ es) = step (lower d e) (lower e d) (put-listed d es)
  where
    step : (b c : Bool) → map listed (put lower d es) ≡ put lower_listed (listed d) (map listed es) →
        map listed (cond b (d ∷ e ∷ es) (cond c (e ∷ put lower d es) (d ∷ es)))
        ≡ cond b (listed d ∷ listed e ∷ map listed es) (cond c (listed e ∷ put lower_listed (listed d) (map listed es)) (listed d ∷ map listed es))
    step true c more = refl
    step false true more = ap (λ (xs : List ListedDocument). listed e ∷ xs) more
    step false false more = refl

put_all-listed : (ds : List Document) → map listed (put_all lower ds) ≡ put_all lower_listed (map listed ds)
put_all-listed [] = refl
put_all-listed (d ∷ ds) = put-listed d (put_all lower ds) ∙ ap (put lower_listed (listed d)) (put_all-listed ds)

pub sorted-all : (documents live : List Document) (list sorted : List ListedDocument) →
    live ≡ documents → IsDistinct nat_eq (live_numbers documents) → list ≡ map listed live →
    IsPermutation list sorted → IsNonDecreasingBy number_listed sorted →
    sorted ≡ all_listed documents
sorted-all documents live list sorted l h e p up =
    let all : list ≡ map listed documents = e ∙ ap (map listed) l in
    sorted-is list sorted p up (subst (λ (ns : List ℕ). IsDistinct nat_eq ns)
    (sym (ap numbers all ∙ numbers-listed documents)) h)
    ∙ (ap (put_all lower_listed) all ∙ sym (put_all-listed documents))

-- ---- those in which an application has a right, each found by its number

-- the document is shown at a place of the order
abbrev shows : ListedDocument → Option Document → Bool
shows k None = false
shows k (Some d) = same_listed (listed d) k

module _ (documents : List Document) where
  abbrev found : List DocId → List ListedDocument
  found xs = flat_map (listed_found documents) xs

  found-number : (x : DocId) (d : Document) → document_of documents x.number ≡ Some d →
      (d.id.number == x.number) ≡ true
  found-number x d e = found_passes (λ (y : Document). y.id.number == x.number) documents d e

  -- what is found stands at the number that it was found by
  shown-one : (k : ListedDocument) (x : DocId) →
      list_any (λ d. same_listed d k) (listed_found documents x)
      ≡ ((x.number == number_listed k) && shows k (document_of documents (number_listed k)))
  shown-one k x = step (x.number == number_listed k) refl
    where
      here : (o : Option Document) →
          list_any (λ d. same_listed d k) (listed_if o) ≡ shows k o
      here None = refl
      here (Some d) = or-false (same_listed (listed d) k)
        where
          or-false : (b : Bool) → (b || false) ≡ b
          or-false true = refl
          or-false false = refl

      away : (x.number == number_listed k) ≡ false → (o : Option Document) →
          document_of documents x.number ≡ o →
          list_any (λ d. same_listed d k) (listed_if o) ≡ false
      away e None h = refl
      away e (Some d) h = grind (arith, nat_tests, found-number x d h)

      step : (b : Bool) → (x.number == number_listed k) ≡ b →
          list_any (λ d. same_listed d k) (listed_found documents x)
          ≡ (b && shows k (document_of documents (number_listed k)))
      step true e = ap (λ (n : ℕ). list_any (λ d. same_listed d k) (listed_if (document_of documents n)))
          (nat_is x.number (number_listed k) e)
          ∙ here (document_of documents (number_listed k))
      step false e = away e (document_of documents x.number) refl

  shown-found : (k : ListedDocument) (xs : List DocId) →
      list_any (λ d. same_listed d k) (found xs)
      ≡ (list_any (λ x. x.number == number_listed k) xs
      && shows k (document_of documents (number_listed k)))
  shown-found k [] = refl
  shown-found k (x ∷ xs) =
      list_any-append (λ d. same_listed d k) (listed_found documents x) (found xs)
      ∙ ((λ i. shown-one k x i || shown-found k xs i)
      ∙ both (x.number == number_listed k) (list_any (λ y. y.number == number_listed k) xs)
      (shows k (document_of documents (number_listed k))))
    where
      both : (a b s : Bool) → ((a && s) || (b && s)) ≡ ((a || b) && s)
      both a b s = grind arith

  -- numbers that rise find documents that do
  behind : (x : DocId) (d : Document) (xs : List DocId) →
      document_of documents x.number ≡ Some d → list_all (id_less x) xs ≡ true →
      list_all (ahead (listed d)) (found xs) ≡ true
  behind x d [] e h = refl
  behind x d (y ∷ ys) e h =
      let first : id_less x y ≡ true = grind arith in
      let rest : list_all (id_less x) ys ≡ true = grind arith in
      step first (document_of documents y.number) refl (behind x d ys e rest)
    where
      step : id_less x y ≡ true → (o : Option Document) → document_of documents y.number ≡ o →
          list_all (ahead (listed d)) (found ys) ≡ true →
          list_all (ahead (listed d)) (listed_if o ++ found ys) ≡ true
      step l None f more = more
      step l (Some z) f more =
          let one : ahead (listed d) (listed z) ≡ true =
          grind (arith, nat_tests, found-number x d e, found-number y z f) in
          λ i. one i && more i

  rising-found : (xs : List DocId) → is_rising id_less xs ≡ true → is_rising ahead (found xs) ≡ true
  rising-found [] h = refl
  rising-found (x ∷ xs) h =
      let first : list_all (id_less x) xs ≡ true = grind arith in
      let rest : is_rising id_less xs ≡ true = grind arith in
      step first (document_of documents x.number) refl (rising-found xs rest)
    where
      step : list_all (id_less x) xs ≡ true → (o : Option Document) →
          document_of documents x.number ≡ o → is_rising ahead (found xs) ≡ true →
          is_rising ahead (listed_if o ++ found xs) ≡ true
      step l None f more = more
      step l (Some d) f more = λ i. behind x d xs f l i && more i

module _ (rights : List Triple) (app : List ℕ) where
  abbrev has : Document → Bool
  has d = holds_any (held_of rights app d.id.number)

  none-shown : (k : ListedDocument) (ds : List Document) →
      AllByRecursion (λ m. nat_eq (number_listed k) m ≡ false) (live_numbers ds) →
      list_any (λ d. same_listed d k) (map listed (filter has ds)) ≡ false
  none-shown k [] h = refl
  none-shown k (d ∷ ds) h = step (has d) (none-shown k ds h.1)
    where
      apart : same_listed (listed d) k ≡ false
      apart = grind (arith, nat_tests, h.0)

      step : (b : Bool) → list_any (λ d. same_listed d k) (map listed (filter has ds)) ≡ false →
          list_any (λ d. same_listed d k) (map listed (cond b (d ∷ filter has ds) (filter has ds)))
          ≡ false
      step true more = λ i. apart i || more i
      step false more = more

  shown-held : (k : ListedDocument) (ds : List Document) → IsDistinct nat_eq (live_numbers ds) →
      list_any (λ d. same_listed d k) (map listed (filter has ds))
      ≡ (holds_any (held_of rights app (number_listed k)) && shows k (document_of ds (number_listed k)))
  unfolding IsDistinct
  shown-held k [] h = and-false (holds_any (held_of rights app (number_listed k)))
    where
      and-false : (b : Bool) → false ≡ (b && false)
      and-false true = refl
      and-false false = refl
  shown-held k (d ∷ ds) h = step (d.id.number == number_listed k) refl (shown-held k ds h.1)
    where
      other : (d.id.number == number_listed k) ≡ false → same_listed (listed d) k ≡ false
      other e = grind (arith, nat_tests)

      skip : (b : Bool) → (d.id.number == number_listed k) ≡ false →
          list_any (λ d. same_listed d k) (map listed (cond b (d ∷ filter has ds) (filter has ds)))
          ≡ list_any (λ d. same_listed d k) (map listed (filter has ds))
      skip true e = ap (λ (c : Bool). c
          || list_any (λ d. same_listed d k) (map listed (filter has ds))) (other e)
      skip false e = refl

      take : (b : Bool) → list_any (λ d. same_listed d k) (map listed (filter has ds)) ≡ false →
          list_any (λ d. same_listed d k) (map listed (cond b (d ∷ filter has ds) (filter has ds)))
          ≡ (b && same_listed (listed d) k)
      take true none = ap (λ (c : Bool). same_listed (listed d) k || c) none
          ∙ or-false (same_listed (listed d) k)
        where
          or-false : (b : Bool) → (b || false) ≡ b
          or-false true = refl
          or-false false = refl
      take false none = none

      step : (b : Bool) → (d.id.number == number_listed k) ≡ b →
          list_any (λ d. same_listed d k) (map listed (filter has ds))
          ≡ (holds_any (held_of rights app (number_listed k)) && shows k (document_of ds (number_listed k))) →
          list_any (λ d. same_listed d k) (map listed (filter has (d ∷ ds)))
          ≡ (holds_any (held_of rights app (number_listed k)) && shows k (cond b (Some d) (document_of ds (number_listed k))))
      step true e more =
          let same : d.id.number ≡ number_listed k = nat_is d.id.number (number_listed k) e in
          take (has d) (none-shown k ds (subst (λ (n : ℕ). AllByRecursion (λ m. nat_eq n m ≡ false)
          (live_numbers ds)) same h.0))
          ∙ ap (λ (n : ℕ). holds_any (held_of rights app n) && same_listed (listed d) k) same
      step false e more = skip (has d) e ∙ more

  differ-held : (ds : List Document) → IsDistinct nat_eq (live_numbers ds) →
      IsDistinct nat_eq (numbers (map listed (filter has ds)))
  differ-held ds h = subst (λ (ns : List ℕ). IsDistinct nat_eq ns)
      (sym (numbers-listed (filter has ds))) (differ-filter has ds h)

  pub found-held : (ds : List Document) → IsDistinct nat_eq (live_numbers ds) →
      flat_map (listed_found ds) (documents_of rights app) ≡ held_listed ds rights app
  found-held ds h =
      same_items ahead same_listed by_key (found ds (documents_of rights app))
      (put_all ahead (map listed (filter has ds)))
      (rising-found ds (documents_of rights app) (rising-documents rights app))
      (rising-put_all ahead same_listed (λ (d : ListedDocument). d) by_key
      (map listed (filter has ds)))
      (λ k. shown-found ds k (documents_of rights app)
      ∙ (ap (λ (b : Bool). b && shows k (document_of ds (number_listed k)))
      (any-documents rights app (number_listed k) ∙ sym (holds-any rights app (number_listed k)))
      ∙ (sym (shown-held k ds h)
      ∙ sym (any-put_all ahead same_listed by_key (λ d. same_listed d k)
      (map listed (filter has ds))))))
      ∙ (sym (put_all-same (map listed (filter has ds)) (differ-held ds h))
      ∙ sym (put_all-listed (filter has ds)))

-- ---- answers to the host

filter-same : (p q : Document → Bool) → ((d : Document) → p d ≡ q d) → (ds : List Document) →
    filter p ds ≡ filter q ds
filter-same p q h [] = refl
filter-same p q h (d ∷ ds) =
    λ i. cond (h d i) (d ∷ filter-same p q h ds i) (filter-same p q h ds i)

filter-all : (ds : List Document) → filter (λ (d : Document). true) ds ≡ ds
filter-all [] = refl
filter-all (d ∷ ds) = ap (λ (es : List Document). d ∷ es) (filter-all ds)

pub lists-all : (documents : List Document) (rights : List Triple) →
    Answer.Listed (all_listed documents) ≡ listing documents rights Who.Host []
lists-all documents rights =
    ap (λ (ds : List Document). Answer.Listed (all_listed ds)) (sym (filter-all documents))

named-some : (app : List ℕ) → is_app_name app ≡ true → is_same app [] ≡ false
unfolding is_app_name
named-some [] h = cc
named-some (b ∷ bs) h = refl

lists-named : (documents : List Document) (rights : List Triple) (app : List ℕ) →
    is_app_name app ≡ true →
    Answer.Listed (held_listed documents rights app) ≡ listing documents rights Who.Host app
lists-named documents rights app h =
    let some : is_same app [] ≡ false = named-some app h in
    ap (λ (ds : List Document). Answer.Listed (all_listed ds))
    (filter-same (has rights app) (is_listed_for rights app)
    (λ d. ap (λ (b : Bool). b || holds_any (held_of rights app d.id.number)) (sym some)) documents)
    ∙ ap (λ (b : Bool). cond b (Answer.Listed (listed_for documents rights app))
    (Answer.Refused Code.InvalidArgument)) (sym (λ i. some i || h i))

pub lists-read : (documents : List Document) (rights : List Triple) (text app : List ℕ) →
    app ≡ text → is_app_name text ≡ true →
    Answer.Listed (held_listed documents rights app) ≡ listing documents rights Who.Host text
lists-read documents rights text app e h =
    ap (λ (x : List ℕ). Answer.Listed (held_listed documents rights x)) e
    ∙ lists-named documents rights text h

some-length : (n : ℕ) → (suc n == 0) ≡ false
some-length n = grind (arith, nat_tests)

pub empty-is : (r : Bool) (text : List ℕ) → r ≡ true → r ≡ (length text == 0) → text ≡ []
empty-is r [] e h = refl
empty-is r (b ∷ bs) e h = let no : true ≡ false = sym e ∙ (h ∙ some-length (length bs)) in cc

pub not-empty : (r : Bool) (text : List ℕ) → r ≡ false → r ≡ (length text == 0) → text ≡ [] → ⊥
not-empty r [] e h n = let no : true ≡ false = sym h ∙ e in cc
not-empty r (b ∷ bs) e h n = cc

pub lists-none : (documents : List Document) (rights : List Triple) (app : List ℕ) → (app ≡ [] → ⊥) → is_app_name app ≡ false → Answer.Refused Code.InvalidArgument ≡ listing documents rights Who.Host app
lists-none documents rights [] n h = absurd (n refl)
lists-none documents rights (b ∷ bs) n h = ap (λ (c : Bool). cond c (Answer.Listed (listed_for documents rights (b ∷ bs))) (Answer.Refused Code.InvalidArgument)) (sym h)
