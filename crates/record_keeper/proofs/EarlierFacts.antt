-- What the check of records keeps, behind one record more.
use Rattle.std.proofs.Common.{◌≡◌, ℕ, ◌+◌, ◌<◌, ◌≤◌, Bool, true, false, not, ◌||◌, ◌&&◌, List, [], ◌∷◌, ◌++◌, length, leb, refl, sym, ap, ◌∙◌, arith}
use Rattle.std.specs.Prelude.{◌==◌, fold}
use Rattle.std.specs.BTreeMap.{is_at}
use Rattle.std.specs.BTreeSet.{contains, insert_key}
use Rattle.std.specs.Cmp.{unsigned_ties}
use Rattle.std.specs.Cmp.Lexicographic.{nat_list_eq_equiv}
use Rattle.std.specs.List.{list_any}
use Rattle.std.specs.Ordering.{nat_cmp}
use Rattle.std.proofs.lemmas.Bool.{and_parts}
use Rattle.std.proofs.lemmas.Bool.Decides.{nat_tests}
use Rattle.std.proofs.lemmas.List.{length-append}
use Rattle.std.proofs.lemmas.List.Folds.{list_any-append}
use Rattle.portal_base.specs.Names.{is_same}
use Rattle.portal_base.specs.declared.limits.Limits.{Limits}
use Rattle.portal_model.specs.RecordChanges.{is_numbered, is_of_key}
use Rattle.portal_model.specs.Valid.{is_text}
use Rattle.portal_model.specs.declared.records.DocRecord.{DocRecord}
use Rattle.portal_model.specs.declared.records.EntryRecord.{EntryRecord}
use Rattle.record_keeper.specs.BadRecords.{first_version, names_granted, applications_of}
use Rattle.record_keeper.specs.Earlier.{KeepsDocuments, TakesDocument, TakesEntry, key_text}
use Rattle.record_keeper.specs.Naming.{also_named}
use Rattle.record_keeper.specs.SoundRecords.{IsSoundDocument, IsSoundEntry}
use Rattle.record_keeper.specs.declared.earlier.EarlierDocuments.{EarlierDocuments}
use Rattle.record_keeper.proofs.NameSets.{any_inserted}
use Rattle.record_keeper.proofs.NamingFacts.{named_with_document}

turned : (a b : Bool) → (a || b) ≡ (b || (a || false))
turned true true = refl
turned true false = refl
turned false true = refl
turned false false = refl

-- one more, of which the test says what was found
more : {X : Type 0} (test : X → Bool) (xs : List X) (x : X) (b found : Bool) → test x ≡ found → b ≡ (found || list_any test xs) → b ≡ list_any test (xs ++ (x ∷ []))
more test xs x b found is same = same ∙ turned found (list_any test xs) ∙ ap (λ (y : Bool). list_any test xs || (y || false)) (sym is) ∙ sym (list_any-append test xs (x ∷ []))

-- ---- documents

eqb_turned : (a b : ℕ) → (a == b) ≡ (b == a)
eqb_turned a b = grind (arith, nat_tests)

numbers_more : (old new : EarlierDocuments) (earlier : List DocRecord) (document : DocRecord) → KeepsDocuments old earlier
    → contains nat_cmp old.numbers document.number ≡ false → new.numbers.keys ≡ insert_key nat_cmp old.numbers.keys document.number
    → (n : ℕ) → contains nat_cmp new.numbers n ≡ list_any (is_numbered n) (earlier ++ (document ∷ []))
numbers_more old new earlier document kept fresh keys = λ n.
    let k = document.number in
    more (is_numbered n) earlier document _ (is_at (nat_cmp n) k) (eqb_turned k n ∙ unsigned_ties n k)
    (ap (list_any (is_at (nat_cmp n))) keys ∙ any_inserted nat_cmp k (is_at (nat_cmp n)) old.numbers.keys fresh ∙ ap (λ (b : Bool). is_at (nat_cmp n) k || b) (kept.numbers n))

pub taken : (version : ℕ) (limits : Limits) (old new : EarlierDocuments) (document : DocRecord) (n : ℕ) → old.count < limits.documents → old.count < limits.made
    → contains nat_cmp old.numbers document.number ≡ false → IsSoundDocument document → (version ≡ first_version → document.strict ≡ false) → new.count ≡ old.count + 1
    → new.numbers.keys ≡ insert_key nat_cmp old.numbers.keys document.number → new.applications ≡ fold also_named old.applications (names_granted document)
    → n ≡ length new.applications → (b : Bool) → leb n 16777216 ≡ b → TakesDocument version limits old document new b
taken version limits old new document n live made fresh sound plain count keys names many true within = λ earlier kept.
    let counted = kept.count in
    let applications : new.applications ≡ applications_of (earlier ++ (document ∷ [])) =
    names ∙ ap (λ (a : List (List ℕ)). fold also_named a (names_granted document)) kept.applications ∙ named_with_document earlier document in
    let few : n ≤ 16777216 = grind (arith, nat_tests) in
    let longer = length-append earlier (document ∷ []) in (
      record {
        itself = sound;
        plain = plain;
        new = sym (kept.numbers document.number) ∙ fresh;
        live = omega arith;
        made = omega arith;
        applications = rw (← applications, ← many) few;
      },
      record { count = omega arith; numbers = numbers_more old new earlier document kept fresh keys; applications = applications },
    )
taken version limits old new document n live made fresh sound plain count keys names many false past = λ earlier kept good.
    let applications : new.applications ≡ applications_of (earlier ++ (document ∷ [])) =
    names ∙ ap (λ (a : List (List ℕ)). fold also_named a (names_granted document)) kept.applications ∙ named_with_document earlier document in
    let same = many ∙ ap length applications in
    let within = good.applications in
    let few : n ≤ 16777216 = omega arith in
    let no : leb n 16777216 ≡ true = grind (arith, nat_tests) in
    cc (no, past)

-- ---- entries

pub zero_apart : (y : ℕ) (ys : List ℕ) → is_text (y ∷ ys) ≡ true → (0 == y) ≡ false
zero_apart y ys text = let here = (and_parts (not (y == 0)) (is_text ys) text).0 in grind (arith, nat_tests)

zero_behind : (y : ℕ) (ys : List ℕ) → is_text (y ∷ ys) ≡ true → (y == 0) ≡ false
zero_behind y ys text = let here = (and_parts (not (y == 0)) (is_text ys) text).0 in grind (arith, nat_tests)

and_three : (a b c : Bool) → (a && (b && c)) ≡ ((a && b) && c)
and_three true b c = refl
and_three false b c = refl

key_same : (a b c d : List ℕ) → is_text a ≡ true → is_text c ≡ true → is_same (key_text a b) (key_text c d) ≡ (is_same a c && is_same b d)
key_same [] b [] d text other = refl
key_same [] b (y ∷ ys) d text other = rw (zero_apart y ys other) refl
key_same (x ∷ xs) b [] d text other = rw (zero_behind x xs text) refl
key_same (x ∷ xs) b (y ∷ ys) d text other =
    ap (λ (e : Bool). (x == y) && e) (key_same xs b ys d (and_parts _ (is_text xs) text).1 (and_parts _ (is_text ys) other).1) ∙ and_three (x == y) (is_same xs ys) (is_same b d)

found_same : (table id : List ℕ) (entry : EntryRecord) → is_text table ≡ true → is_text entry.table ≡ true → is_of_key table id entry ≡ is_same (key_text table id) (key_text entry.table entry.id)
found_same table id entry text other =
    sym (key_same table id entry.table entry.id text other ∙ (λ i. (nat_list_eq_equiv.symm table entry.table i) && (nat_list_eq_equiv.symm id entry.id i)))

pub entry_taken : (old new : List (List ℕ)) (entry : EntryRecord) (key : List ℕ) → IsSoundEntry entry → key ≡ key_text entry.table entry.id
    → list_any (is_same key) old ≡ false → ((test : List ℕ → Bool) → list_any test new ≡ (test key || list_any test old)) → TakesEntry old entry new true
entry_taken old new entry key sound is fresh wider = λ earlier kept.
    let text = (and_parts (is_text entry.table) _ sound.valid.texts).0 in (
      record { itself = sound; new = sym (kept entry.table entry.id text) ∙ ap (λ (k : List ℕ). list_any (is_same k) old) (sym is) ∙ fresh },
      λ table id plain. more (is_of_key table id) earlier entry _ (is_same (key_text table id) key)
          (found_same table id entry plain text ∙ ap (is_same (key_text table id)) (sym is))
          (wider (is_same (key_text table id)) ∙ ap (λ (b : Bool). is_same (key_text table id) key || b) (kept table id plain)),
    )
