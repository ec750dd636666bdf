-- The records of documents after one goes, or after rights in one change.
use Rattle.std.proofs.Common.{◌≡◌, ℕ, ◌==◌, nat_eq, List, [], ◌∷◌, ◌++◌, map, Bool, true, false, not, ◌&&◌, ◌||◌, cond, Some, refl, sym, ap, ◌∙◌, arith}
use Rattle.std.specs.List.{filter, list_all, list_any, IsDistinct, AllByRecursion}
use Rattle.std.proofs.lemmas.Bool.Decides.{nat_tests}
use Rattle.portal_base.specs.declared.names.doc_id.DocId.{DocId}
use Rattle.rights_rule.specs.Rights.{RightSet}
use Rattle.portal_model.specs.declared.records.DocRecord.{DocRecord}
use Rattle.portal_model.specs.declared.records.GrantRecord.{GrantRecord}
use Rattle.portal_model.specs.declared.rights.Right.{Right}
use Rattle.portal_model.specs.declared.rights.Right.TheVariants.{Read, Write, GrantPermissions, Delete}
use Rattle.portal_model.specs.declared.state.Document.{Document}
use Rattle.portal_model.specs.declared.state.Triple.{Triple}
use Rattle.portal_model.specs.Info.{holders}
use Rattle.portal_model.specs.Kept.{bits_of, document_record, grant_record}
use Rattle.portal_model.specs.Ordered.{bytes_less, put, put_all}
use Rattle.portal_model.specs.RecordChanges.{change_first, is_numbered, is_other_number}
use Rattle.portal_model.specs.Rights.{add_rights, are_in_order, forget_document, is_listed, take_rights, triple_less, triples_of}
use Rattle.portal_model.specs.State.{app_has, document_of, gives, held_of}
use Rattle.portal_model.proofs.FourTriples.{all-of}
use Rattle.portal_model.proofs.RisingLists.{put_all-rising}
use Rattle.portal_model.proofs.TripleOrder.{nat_is, triples}
use Rattle.portal_model.specs.Rights.{same_triple}
use Rattle.document_records.specs.Documents.{is_kept, is_persistent}
use Rattle.document_records.proofs.HeldInDocument.{records_in}

-- ---- the record of a document depends on the triples of its number alone

abbrev pub is_here : ℕ → Triple → Bool
is_here number t = t.id.number == number

any-within : (p q : Triple → Bool) → ((t : Triple) → p t ≡ true → q t ≡ true) → (ts : List Triple) → list_any p (filter q ts) ≡ list_any p ts
any-within p q h [] = refl
any-within p q h (t ∷ ts) = grind (arith, any-within p q h ts, h t)

pub filter-within : (p q : Triple → Bool) → ((t : Triple) → p t ≡ true → q t ≡ true) → (ts : List Triple) → filter p (filter q ts) ≡ filter p ts
filter-within p q h [] = refl
filter-within p q h (t ∷ ts) = grind (arith, filter-within p q h ts, h t)

module _ (number : ℕ) (rights : List Triple) where
  given-here : (app : List ℕ) (right : Right) (t : Triple) → gives app number right t ≡ true → is_here number t ≡ true
  given-here app right t h = grind arith

  pub has-here : (app : List ℕ) (right : Right) → app_has (filter (is_here number) rights) app number right ≡ app_has rights app number right
  has-here app right = any-within (gives app number right) (is_here number) (given-here app right) rights

  held-here : (app : List ℕ) → held_of (filter (is_here number) rights) app number ≡ held_of rights app number
  held-here app = λ i. record { read = has-here app Read i; write = has-here app Write i; grant_permissions = has-here app GrantPermissions i; delete = has-here app Delete i }

abbrev records_of_own : ℕ → List Triple → List GrantRecord
records_of_own number ts = map (grant_record ts number) (put_all bytes_less (map (λ (t : Triple). t.app) ts))

same-records : (number : ℕ) (rights : List Triple) (names : List (List ℕ)) → map (grant_record rights number) names ≡ map (grant_record (filter (is_here number) rights) number) names
same-records number rights [] = refl
same-records number rights (app ∷ names) = λ i. record { app = app; rights = bits_of (sym (held-here number rights app) i) } ∷ same-records number rights names i

by-own : (number : ℕ) (rights : List Triple) → records_in rights number ≡ records_of_own number (filter (is_here number) rights)
by-own number rights = same-records number rights (holders rights number)

pub same-grants : (number : ℕ) (rights others : List Triple) → filter (is_here number) rights ≡ filter (is_here number) others → records_in rights number ≡ records_in others number
same-grants number rights others e = by-own number rights ∙ (ap (records_of_own number) e ∙ sym (by-own number others))

pub same-record : (d : Document) (rights others : List Triple) → filter (is_here d.id.number) rights ≡ filter (is_here d.id.number) others → document_record rights d ≡ document_record others d
same-record d rights others e = λ i. record { number = d.id.number; path = d.path; reusable = d.reusable; strict = d.strict; grants = same-grants d.id.number rights others e i }

-- ---- rights that change in one document alone

-- the triples of every other document are the same
abbrev pub IsApart : ℕ → List Triple → List Triple → Type 0
IsApart number old new = (other : ℕ) → (other == number) ≡ false → filter (is_here other) new ≡ filter (is_here other) old

other-number : (number other n : ℕ) → (other == number) ≡ false → (n == other) ≡ true → (n == number) ≡ false
other-number number other n h k = grind (arith, nat_tests)

pub apart-forgotten : (number : ℕ) (rights : List Triple) → IsApart number rights (forget_document number rights)
apart-forgotten number rights other h =
    filter-within (is_here other) (λ t. not (t.id.number == number)) (λ t k. ap not (other-number number other t.id.number h k)) rights

not-listed : (app : List ℕ) (number : ℕ) (set : RightSet) (t : Triple) → (t.id.number == number) ≡ false → not (is_listed app number set t) ≡ true
not-listed app number set t h = grind arith

pub apart-taken : (app : List ℕ) (number : ℕ) (set : RightSet) (rights : List Triple) → IsApart number rights (take_rights app number set rights)
apart-taken app number set rights other h =
    filter-within (is_here other) (λ t. not (is_listed app number set t)) (λ t k. not-listed app number set t (other-number number other t.id.number h k)) rights

put-apart : (p : Triple → Bool) (t : Triple) (ts : List Triple) → p t ≡ false → filter p (put triple_less t ts) ≡ filter p ts
put-apart p t [] h = ap (λ (b : Bool). cond b (t ∷ []) []) h
put-apart p t (u ∷ us) h = grind (arith, put-apart p t us, triples.total t u)

puts-apart : (p : Triple → Bool) (ts us : List Triple) → list_all (λ t. not (p t)) ts ≡ true → filter p (put_all triple_less (ts ++ us)) ≡ filter p (put_all triple_less us)
puts-apart p [] us h = refl
puts-apart p (t ∷ ts) us h =
    let first : p t ≡ false = grind arith in
    let rest : list_all (λ (u : Triple). not (p u)) ts ≡ true = grind arith in
    put-apart p t (put_all triple_less (ts ++ us)) first ∙ puts-apart p ts us rest

not-there : (number other : ℕ) → (other == number) ≡ false → not (number == other) ≡ true
not-there number other h = grind (arith, nat_tests)

pub apart-added : (app : List ℕ) (id : DocId) (set : RightSet) (rights : List Triple) → are_in_order rights ≡ true → IsApart id.number rights (add_rights app id set rights)
apart-added app id set rights o other h =
    puts-apart (is_here other) (triples_of app id set) rights (all-of (λ (t : Triple). not (t.id.number == other)) app id set (λ r. not-there id.number other h))
    ∙ ap (filter (is_here other)) (put_all-rising triple_less same_triple (λ (t : Triple). t) triples rights o)

-- ---- the records of documents

abbrev pub kept_records : List Triple → List Document → List DocRecord
kept_records rights documents = map (document_record rights) (filter (λ d. d.persistent) documents)

abbrev pub numbers : List Document → List ℕ
numbers documents = map (λ (d : Document). d.id.number) documents

abbrev pub Others : ℕ → List Document → Type 0
Others number documents = AllByRecursion (λ n. nat_eq number n ≡ false) (numbers documents)

swap-false : (a b n : ℕ) → (a == n) ≡ true → nat_eq a b ≡ false → (b == n) ≡ false
swap-false a b n h k = grind (arith, nat_tests)

-- one behind another
one-record : (rights : List Triple) (d : Document) (p : Bool) (documents : List Document) → d.persistent ≡ p →
    kept_records rights (d ∷ documents) ≡ cond p (document_record rights d ∷ kept_records rights documents) (kept_records rights documents)
one-record rights d true documents k = ap (λ (b : Bool). map (document_record rights) (cond b (d ∷ filter (λ (e : Document). e.persistent) documents) (filter (λ (e : Document). e.persistent) documents))) k
one-record rights d false documents k = ap (λ (b : Bool). map (document_record rights) (cond b (d ∷ filter (λ (e : Document). e.persistent) documents) (filter (λ (e : Document). e.persistent) documents))) k

module _ (number : ℕ) (old new : List Triple) (apart : IsApart number old new) where
  same-others : (first : ℕ) (documents : List Document) → (first == number) ≡ true → Others first documents → kept_records new documents ≡ kept_records old documents
  same-others first [] k h = refl
  same-others first (d ∷ documents) k h = step d.persistent refl (swap-false first d.id.number number k h.0) (same-others first documents k h.1)
    where
      step : (p : Bool) → d.persistent ≡ p → (d.id.number == number) ≡ false → kept_records new documents ≡ kept_records old documents → kept_records new (d ∷ documents) ≡ kept_records old (d ∷ documents)
      step true e l more = one-record new d true documents e ∙ ((λ i. same-record d new old (apart d.id.number l) i ∷ more i) ∙ sym (one-record old d true documents e))
      step false e l more = one-record new d false documents e ∙ (more ∙ sym (one-record old d false documents e))

  abbrev regranted : DocRecord → DocRecord
  regranted r = record r { grants = records_in new number }

  -- the grants of the document become the new ones, in its place
  pub grants-set : (documents : List Document) → IsDistinct nat_eq (numbers documents) → change_first (is_numbered number) regranted (kept_records old documents) ≡ kept_records new documents
  unfolding IsDistinct
  grants-set [] h = refl
  grants-set (d ∷ documents) h = step d.persistent (d.id.number == number) refl refl h.0 (grants-set documents h.1)
    where
      step : (p b : Bool) → d.persistent ≡ p → (d.id.number == number) ≡ b → Others d.id.number documents → change_first (is_numbered number) regranted (kept_records old documents) ≡ kept_records new documents →
          change_first (is_numbered number) regranted (kept_records old (d ∷ documents)) ≡ kept_records new (d ∷ documents)
      step false b e k o more = ap (change_first (is_numbered number) regranted) (one-record old d false documents e) ∙ (more ∙ sym (one-record new d false documents e))
      step true true e k o more =
          let own : records_in new number ≡ records_in new d.id.number = ap (records_in new) (sym (nat_is d.id.number number k)) in
          ap (change_first (is_numbered number) regranted) (one-record old d true documents e)
          ∙ (ap (λ (c : Bool). cond c (regranted (document_record old d) ∷ kept_records old documents) (document_record old d ∷ change_first (is_numbered number) regranted (kept_records old documents))) k
          ∙ ((λ i. record { number = d.id.number; path = d.path; reusable = d.reusable; strict = d.strict; grants = own i } ∷ sym (same-others d.id.number documents k o) i)
          ∙ sym (one-record new d true documents e)))
      step true false e k o more =
          ap (change_first (is_numbered number) regranted) (one-record old d true documents e)
          ∙ (ap (λ (c : Bool). cond c (regranted (document_record old d) ∷ kept_records old documents) (document_record old d ∷ change_first (is_numbered number) regranted (kept_records old documents))) k
          ∙ ((λ i. sym (same-record d new old (apart d.id.number k)) i ∷ more i)
          ∙ sym (one-record new d true documents e)))

  abbrev others_of : List Document → List Document
  others_of documents = filter (λ (e : Document). not (e.id.number == number)) documents

  -- the document goes
  pub document-removed : (documents : List Document) → filter (is_other_number number) (kept_records old documents) ≡ kept_records new (filter (λ d. not (d.id.number == number)) documents)
  document-removed [] = refl
  document-removed (d ∷ documents) = step d.persistent (d.id.number == number) refl refl (document-removed documents)
    where
      step : (p b : Bool) → d.persistent ≡ p → (d.id.number == number) ≡ b → filter (is_other_number number) (kept_records old documents) ≡ kept_records new (others_of documents) →
          filter (is_other_number number) (kept_records old (d ∷ documents)) ≡ kept_records new (cond (not b) (d ∷ others_of documents) (others_of documents))
      step true true e k more =
          ap (filter (is_other_number number)) (one-record old d true documents e)
          ∙ (ap (λ (c : Bool). cond (not c) (document_record old d ∷ filter (is_other_number number) (kept_records old documents)) (filter (is_other_number number) (kept_records old documents))) k ∙ more)
      step true false e k more =
          ap (filter (is_other_number number)) (one-record old d true documents e)
          ∙ (ap (λ (c : Bool). cond (not c) (document_record old d ∷ filter (is_other_number number) (kept_records old documents)) (filter (is_other_number number) (kept_records old documents))) k
          ∙ ((λ i. sym (same-record d new old (apart d.id.number k)) i ∷ more i) ∙ sym (one-record new d true (others_of documents) e)))
      step false true e k more = ap (filter (is_other_number number)) (one-record old d false documents e) ∙ more
      step false false e k more = ap (filter (is_other_number number)) (one-record old d false documents e) ∙ (more ∙ sym (one-record new d false (others_of documents) e))

-- ---- a document that is in the records, or isn't

pub kept-there : (number : ℕ) (rights : List Triple) (documents : List Document) → is_kept documents number ≡ true → list_any (is_numbered number) (kept_records rights documents) ≡ true
kept-there number rights [] h = cc
kept-there number rights (d ∷ documents) h = step d.persistent (d.id.number == number) refl refl h (kept-there number rights documents)
  where
    step : (p b : Bool) → d.persistent ≡ p → (d.id.number == number) ≡ b → is_persistent (cond b (Some d) (document_of documents number)) ≡ true →
        (is_kept documents number ≡ true → list_any (is_numbered number) (kept_records rights documents) ≡ true) → list_any (is_numbered number) (kept_records rights (d ∷ documents)) ≡ true
    step true true e k f more =
        ap (list_any (is_numbered number)) (one-record rights d true documents e) ∙ ap (λ (c : Bool). c || list_any (is_numbered number) (kept_records rights documents)) k
    step true false e k f more =
        ap (list_any (is_numbered number)) (one-record rights d true documents e) ∙ (ap (λ (c : Bool). c || list_any (is_numbered number) (kept_records rights documents)) k ∙ more f)
    step false true e k f more = let no : true ≡ false = sym f ∙ e in cc
    step false false e k f more = ap (list_any (is_numbered number)) (one-record rights d false documents e) ∙ more f

others-apart : (first number : ℕ) (rights : List Triple) (documents : List Document) → (first == number) ≡ true → Others first documents → list_all (is_other_number number) (kept_records rights documents) ≡ true
others-apart first number rights [] k h = refl
others-apart first number rights (d ∷ documents) k h = step d.persistent refl (swap-false first d.id.number number k h.0) (others-apart first number rights documents k h.1)
  where
    step : (p : Bool) → d.persistent ≡ p → (d.id.number == number) ≡ false → list_all (is_other_number number) (kept_records rights documents) ≡ true → list_all (is_other_number number) (kept_records rights (d ∷ documents)) ≡ true
    step true e l more = ap (list_all (is_other_number number)) (one-record rights d true documents e) ∙ (ap (λ (c : Bool). not c && list_all (is_other_number number) (kept_records rights documents)) l ∙ more)
    step false e l more = ap (list_all (is_other_number number)) (one-record rights d false documents e) ∙ more

pub not-kept : (number : ℕ) (rights : List Triple) (documents : List Document) → IsDistinct nat_eq (numbers documents) → is_kept documents number ≡ false → list_all (is_other_number number) (kept_records rights documents) ≡ true
unfolding IsDistinct
not-kept number rights [] h f = refl
not-kept number rights (d ∷ documents) h f = step d.persistent (d.id.number == number) refl refl h.0 f (not-kept number rights documents h.1)
  where
    step : (p b : Bool) → d.persistent ≡ p → (d.id.number == number) ≡ b → Others d.id.number documents → is_persistent (cond b (Some d) (document_of documents number)) ≡ false →
        (is_kept documents number ≡ false → list_all (is_other_number number) (kept_records rights documents) ≡ true) → list_all (is_other_number number) (kept_records rights (d ∷ documents)) ≡ true
    step true true e k o f more = let no : true ≡ false = sym e ∙ f in cc
    step false true e k o f more = ap (list_all (is_other_number number)) (one-record rights d false documents e) ∙ others-apart d.id.number number rights documents k o
    step true false e k o f more =
        ap (list_all (is_other_number number)) (one-record rights d true documents e) ∙ (ap (λ (c : Bool). not c && list_all (is_other_number number) (kept_records rights documents)) k ∙ more f)
    step false false e k o f more = ap (list_all (is_other_number number)) (one-record rights d false documents e) ∙ more f

pub filter-stays : (p : DocRecord → Bool) (rs : List DocRecord) → list_all p rs ≡ true → filter p rs ≡ rs
filter-stays p [] h = refl
filter-stays p (r ∷ rs) h = grind (arith, filter-stays p rs)

pub none-numbered : (number : ℕ) (rs : List DocRecord) → list_any (is_numbered number) (filter (is_other_number number) rs) ≡ false
none-numbered number [] = refl
none-numbered number (r ∷ rs) = grind (arith, none-numbered number rs)

-- a document that isn't in the records: they stay, whatever is done to its rights
pub change-stays : (number : ℕ) (change : DocRecord → DocRecord) (rs : List DocRecord) → list_all (is_other_number number) rs ≡ true → change_first (is_numbered number) change rs ≡ rs
change-stays number change [] h = refl
change-stays number change (r ∷ rs) h = grind (arith, change-stays number change rs)
