-- The changes of the records make those of the documents and the rights after.
use Rattle.std.proofs.Common.{◌≡◌, ℕ, ◌==◌, nat_eq, length, List, [], ◌∷◌, ◌++◌, map, Bool, true, false, not, ◌&&◌, ◌||◌, cond, Option, Some, None, refl, sym, ap, ◌∙◌, arith}
use Rattle.std.specs.List.{filter, flat_map, list_all, list_any, IsDistinct}
use Rattle.std.proofs.lemmas.Bool.Decides.{nat_tests}
use Rattle.std.proofs.lemmas.List.{map-append}
use Rattle.std.proofs.Math.Seq.{drop-append_seam, take-append_seam}
use Rattle.portal_base.specs.declared.names.doc_id.DocId.{DocId}
use Rattle.portal_model.specs.declared.records.DocRecord.{DocRecord}
use Rattle.portal_model.specs.declared.records.EntryRecord.{EntryRecord}
use Rattle.portal_model.specs.declared.records.RecordChange.{RecordChange}
use Rattle.portal_model.specs.declared.records.Records.{Records}
use Rattle.portal_model.specs.declared.state.Document.{Document}
use Rattle.portal_model.specs.declared.state.Triple.{Triple}
use Rattle.portal_model.specs.Kept.{document_record}
use Rattle.portal_model.specs.RecordChanges.{change_first, changed, changed_by, is_numbered, records_version}
use Rattle.portal_model.proofs.TripleOrder.{nat_is}
use Rattle.document_records.proofs.HeldInDocument.{records_in}
use Rattle.document_records.proofs.KeptDocuments.{Others, is_here, kept_records, numbers, same-record}
use Rattle.add_serving.specs.Changes.{addition, changes_of, is_live, regrant}
use Rattle.add_serving.proofs.Given.{joined, names, right-nil}

-- ---- the persistent ones among documents

abbrev pub persistent_ones : List Document → List Document
persistent_ones documents = filter (λ d. d.persistent) documents

others-filter : (n : ℕ) (ds : List Document) → Others n ds → Others n (persistent_ones ds)
others-filter n [] h = tt
others-filter n (d ∷ ds) h = step d.persistent (others-filter n ds h.1)
  where
    step : (b : Bool) → Others n (persistent_ones ds) → Others n (cond b (d ∷ persistent_ones ds) (persistent_ones ds))
    step true more = (h.0, more)
    step false more = more

pub distinct-filter : (ds : List Document) → IsDistinct nat_eq (numbers ds) → IsDistinct nat_eq (numbers (persistent_ones ds))
unfolding IsDistinct
distinct-filter [] h = h
distinct-filter (d ∷ ds) h = step d.persistent (distinct-filter ds h.1)
  where
    step : (b : Bool) → IsDistinct nat_eq (numbers (persistent_ones ds)) → IsDistinct nat_eq (numbers (cond b (d ∷ persistent_ones ds) (persistent_ones ds)))
    step true more = (others-filter d.id.number ds h.0, more)
    step false more = more

-- no document has the number
abbrev pub is_elsewhere : ℕ → Document → Bool
is_elsewhere n d = not (d.id.number == n)

elsewhere-filter : (n : ℕ) (ds : List Document) → is_live ds n ≡ false → list_all (is_elsewhere n) (persistent_ones ds) ≡ true
elsewhere-filter n [] h = refl
elsewhere-filter n (d ∷ ds) h = grind (arith, elsewhere-filter n ds)

others-elsewhere : (first n : ℕ) (ds : List Document) → (first == n) ≡ true → Others first ds → list_all (is_elsewhere n) ds ≡ true
others-elsewhere first n [] e h = refl
others-elsewhere first n (d ∷ ds) e h =
    let away : (d.id.number == n) ≡ false = apart first d.id.number n e h.0 in
    ap (λ (b : Bool). not b && list_all (is_elsewhere n) ds) away ∙ others-elsewhere first n ds e h.1
  where
    apart : (x y z : ℕ) → (x == z) ≡ true → nat_eq x y ≡ false → (y == z) ≡ false
    apart x y z e h = grind (arith, nat_tests)

number-swap : (m n : ℕ) (b : Bool) → (m == n) ≡ b → (n == m) ≡ b
number-swap m n true h = grind (arith, nat_tests)
number-swap m n false h = grind (arith, nat_tests)

not-true : (b : Bool) → not b ≡ true → b ≡ false
not-true true h = cc
not-true false h = refl

abbrev pub with_records : List EntryRecord → List DocRecord → Records
with_records entries rs = record { version = records_version; documents = rs; entries = entries }

-- ---- records of which some have new rights

module _ (old new : List Triple) where
  abbrev pub mixed : (ℕ → Bool) → Document → DocRecord
  mixed p d = cond (p d.id.number) (document_record new d) (document_record old d)

  abbrev pub set_in : ℕ → DocRecord → DocRecord
  set_in n r = record r { grants = records_in new n }

  abbrev pub with_one : ℕ → (ℕ → Bool) → ℕ → Bool
  with_one n p m = (n == m) || p m

  mixed-number : (d : Document) (b : Bool) (n : ℕ) → is_numbered n (cond b (document_record new d) (document_record old d)) ≡ (d.id.number == n)
  mixed-number d true n = refl
  mixed-number d false n = refl

  mixed-set : (d : Document) (b : Bool) (n : ℕ) → d.id.number ≡ n → set_in n (cond b (document_record new d) (document_record old d)) ≡ document_record new d
  mixed-set d true n e = λ i. record { number = d.id.number; path = d.path; reusable = d.reusable; strict = d.strict; grants = records_in new (sym e i) }
  mixed-set d false n e = λ i. record { number = d.id.number; path = d.path; reusable = d.reusable; strict = d.strict; grants = records_in new (sym e i) }

  -- one more that none of these documents has
  other-mixed : (n : ℕ) (p : ℕ → Bool) (ds : List Document) → list_all (is_elsewhere n) ds ≡ true → map (mixed p) ds ≡ map (mixed (with_one n p)) ds
  other-mixed n p [] h = refl
  other-mixed n p (d ∷ ds) h =
      let here : not (d.id.number == n) ≡ true = grind arith in
      let rest : list_all (is_elsewhere n) ds ≡ true = grind arith in
      let away : (n == d.id.number) ≡ false = number-swap d.id.number n false (not-true (d.id.number == n) here) in
      λ i. cond (sym away i || p d.id.number) (document_record new d) (document_record old d) ∷ other-mixed n p ds rest i

  set-one : (n : ℕ) (p : ℕ → Bool) (ds : List Document) → IsDistinct nat_eq (numbers ds) → change_first (is_numbered n) (set_in n) (map (mixed p) ds) ≡ map (mixed (with_one n p)) ds
  unfolding IsDistinct
  set-one n p [] h = refl
  set-one n p (d ∷ ds) h = step (d.id.number == n) refl h.0 (set-one n p ds h.1)
    where
      first-is : (b : Bool) → (d.id.number == n) ≡ b →
          change_first (is_numbered n) (set_in n) (map (mixed p) (d ∷ ds)) ≡ cond b (set_in n (mixed p d) ∷ map (mixed p) ds) (mixed p d ∷ change_first (is_numbered n) (set_in n) (map (mixed p) ds))
      first-is b e = ap (λ (c : Bool). cond c (set_in n (mixed p d) ∷ map (mixed p) ds) (mixed p d ∷ change_first (is_numbered n) (set_in n) (map (mixed p) ds))) (mixed-number d (p d.id.number) n ∙ e)

      step : (b : Bool) → (d.id.number == n) ≡ b → Others d.id.number ds → change_first (is_numbered n) (set_in n) (map (mixed p) ds) ≡ map (mixed (with_one n p)) ds →
          change_first (is_numbered n) (set_in n) (map (mixed p) (d ∷ ds)) ≡ map (mixed (with_one n p)) (d ∷ ds)
      step true e o more =
          let same : (n == d.id.number) ≡ true = number-swap d.id.number n true e in
          first-is true e
          ∙ ((λ i. mixed-set d (p d.id.number) n (nat_is d.id.number n e) i ∷ other-mixed n p ds (others-elsewhere d.id.number n ds e o) i)
          ∙ (λ i. cond (sym same i || p d.id.number) (document_record new d) (document_record old d) ∷ map (mixed (with_one n p)) ds))
      step false e o more =
          let away : (n == d.id.number) ≡ false = number-swap d.id.number n false e in
          first-is false e ∙ (λ i. cond (sym away i || p d.id.number) (document_record new d) (document_record old d) ∷ more i)

  -- ---- all that are told

  abbrev pub after : List (Option DocId) → (ℕ → Bool) → ℕ → Bool
  after [] p = p
  after (None ∷ told) p = after told p
  after (Some id ∷ told) p = after told (with_one id.number p)

  after-is : (told : List (Option DocId)) (p : ℕ → Bool) (m : ℕ) → after told p m ≡ (list_any (names m) told || p m)
  after-is [] p m = refl
  after-is (None ∷ told) p m = after-is told p m
  after-is (Some id ∷ told) p m = after-is told (with_one id.number p) m ∙ swap (list_any (names m) told) (id.number == m) (p m)
    where
      swap : (x y z : Bool) → (x || (y || z)) ≡ ((y || x) || z)
      swap true true z = refl
      swap true false z = refl
      swap false true z = refl
      swap false false z = refl

  all-set : (q : ℕ → Bool) → ((m : ℕ) → q m ≡ false → filter (is_here m) new ≡ filter (is_here m) old) → (ds : List Document) → map (mixed q) ds ≡ map (document_record new) ds
  all-set q h [] = refl
  all-set q h (d ∷ ds) = λ i. step (q d.id.number) refl i ∷ all-set q h ds i
    where
      step : (b : Bool) → q d.id.number ≡ b → cond b (document_record new d) (document_record old d) ≡ document_record new d
      step true e = refl
      step false e = sym (same-record d new old (h d.id.number e))

  module _ (documents : List Document) (entries : List EntryRecord) (distinct : IsDistinct nat_eq (numbers documents)) where
    regrants-all : (told : List (Option DocId)) (p : ℕ → Bool) →
        changed_by (flat_map (regrant documents new) told) (with_records entries (map (mixed p) (persistent_ones documents))) ≡ with_records entries (map (mixed (after told p)) (persistent_ones documents))
    regrants-all [] p = refl
    regrants-all (None ∷ told) p = regrants-all told p
    regrants-all (Some id ∷ told) p = step (is_live documents id.number) refl (regrants-all told (with_one id.number p))
      where
        step : (b : Bool) → is_live documents id.number ≡ b →
            changed_by (flat_map (regrant documents new) told) (with_records entries (map (mixed (with_one id.number p)) (persistent_ones documents)))
            ≡ with_records entries (map (mixed (after told (with_one id.number p))) (persistent_ones documents)) →
            changed_by (cond b (RecordChange.SetGrants id.number (records_in new id.number) ∷ []) [] ++ flat_map (regrant documents new) told) (with_records entries (map (mixed p) (persistent_ones documents)))
            ≡ with_records entries (map (mixed (after told (with_one id.number p))) (persistent_ones documents))
        step true e more =
            ap (λ (rs : List DocRecord). changed_by (flat_map (regrant documents new) told) (with_records entries rs)) (set-one id.number p (persistent_ones documents) (distinct-filter documents distinct)) ∙ more
        step false e more =
            ap (λ (rs : List DocRecord). changed_by (flat_map (regrant documents new) told) (with_records entries rs)) (other-mixed id.number p (persistent_ones documents) (elsewhere-filter id.number documents e)) ∙ more

    additions-all : (news : List Document) (rs : List DocRecord) → changed_by (flat_map (addition new) news) (with_records entries rs) ≡ with_records entries (rs ++ map (document_record new) (persistent_ones news))
    additions-all [] rs = λ i. with_records entries (sym (right-nil rs) i)
    additions-all (d ∷ news) rs = step d.persistent (λ front. additions-all news front)
      where
        step : (b : Bool) → ((front : List DocRecord) → changed_by (flat_map (addition new) news) (with_records entries front) ≡ with_records entries (front ++ map (document_record new) (persistent_ones news))) →
            changed_by (cond b (RecordChange.AddDocument (document_record new d) ∷ []) [] ++ flat_map (addition new) news) (with_records entries rs)
            ≡ with_records entries (rs ++ map (document_record new) (cond b (d ∷ persistent_ones news) (persistent_ones news)))
        step true more = more (rs ++ document_record new d ∷ []) ∙ (λ i. with_records entries (joined rs (document_record new d ∷ []) (map (document_record new) (persistent_ones news)) i))
        step false more = more rs

changed-append : (xs ys : List RecordChange) (r : Records) → changed_by (xs ++ ys) r ≡ changed_by ys (changed_by xs r)
changed-append [] ys r = refl
changed-append (x ∷ xs) ys r = changed-append xs ys (changed x r)

persistent-append : (ds es : List Document) → persistent_ones (ds ++ es) ≡ persistent_ones ds ++ persistent_ones es
persistent-append [] es = refl
persistent-append (d ∷ ds) es = step d.persistent (persistent-append ds es)
  where
    step : (b : Bool) → persistent_ones (ds ++ es) ≡ persistent_ones ds ++ persistent_ones es →
        cond b (d ∷ persistent_ones (ds ++ es)) (persistent_ones (ds ++ es)) ≡ cond b (d ∷ persistent_ones ds) (persistent_ones ds) ++ persistent_ones es
    step true more = ap (λ (l : List Document). d ∷ l) more
    step false more = more

pub kept-append : (rights : List Triple) (ds es : List Document) → kept_records rights (ds ++ es) ≡ kept_records rights ds ++ kept_records rights es
kept-append rights ds es = ap (map (document_record rights)) (persistent-append ds es) ∙ map-append (document_record rights) (persistent_ones ds) (persistent_ones es)

-- where the rights differ in the told documents alone, and new documents stand behind the others
pub changes-make : (documents news : List Document) (old new : List Triple) (told : List (Option DocId)) (entries : List EntryRecord) → IsDistinct nat_eq (numbers documents) →
    ((m : ℕ) → list_any (names m) told ≡ false → filter (is_here m) new ≡ filter (is_here m) old) →
    changed_by (changes_of (length documents) (documents ++ news) new told) (with_records entries (kept_records old documents)) ≡ with_records entries (kept_records new (documents ++ news))
changes-make documents news old new told entries distinct apart =
    let none : ℕ → Bool = λ m. false in
    let set : (m : ℕ) → after old new told none m ≡ false → filter (is_here m) new ≡ filter (is_here m) old =
    λ m e. apart m (or-none (list_any (names m) told) (sym (after-is old new told none m) ∙ e)) in
    (λ i. changed_by (flat_map (regrant (take-append_seam documents news i) new) told ++ flat_map (addition new) (drop-append_seam documents news i)) (with_records entries (kept_records old documents)))
    ∙ (changed-append (flat_map (regrant documents new) told) (flat_map (addition new) news) (with_records entries (kept_records old documents))
    ∙ (ap (changed_by (flat_map (addition new) news)) (regrants-all old new documents entries distinct told none ∙ (λ i. with_records entries (all-set old new (after old new told none) set (persistent_ones documents) i)))
    ∙ (additions-all old new documents entries distinct news (kept_records new documents)
    ∙ (λ i. with_records entries (sym (kept-append new documents news) i)))))
  where
    or-none : (b : Bool) → (b || false) ≡ false → b ≡ false
    or-none true e = e
    or-none false e = refl
