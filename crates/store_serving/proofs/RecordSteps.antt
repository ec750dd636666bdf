-- The records change as the entries do, where they change.
use Rattle.std.specs.Prelude.{IfSome}
use Rattle.std.proofs.Common.{◌≡◌, ℕ, List, [], ◌∷◌, ◌++◌, map, Bool, true, false, not, ◌&&◌, ◌||◌, cond, Option, Some, None, option_map, refl, sym, ap, subst, ◌∙◌, arith}
use Rattle.std.specs.List.{filter, find, list_any}
use Rattle.permission_table.specs.Tables.{former_of, with_content}
use Rattle.permission_table.proofs.HeldRecords.{gone-record, put-record}
use Rattle.portal_base.specs.Outside.{HasRisen}
use Rattle.portal_model.specs.declared.records.EntryRecord.{EntryRecord}
use Rattle.portal_model.specs.declared.records.RecordChange.{RecordChange}
use Rattle.portal_model.specs.declared.records.RecordChange.TheVariants.{RemoveEntry}
use Rattle.portal_model.specs.declared.records.Records.{Records}
use Rattle.portal_model.specs.declared.reply.Answer.{Answer}
use Rattle.portal_model.specs.declared.reply.Change.{Change}
use Rattle.portal_model.specs.declared.store.StoredEntry.{StoredEntry}
use Rattle.portal_model.specs.declared.store.TableEntry.{TableEntry}
use Rattle.portal_model.specs.Kept.{records_of}
use Rattle.portal_model.specs.RecordChanges.{change_first, changed, changed_by, is_of_key, is_other_key, set_entry}
use Rattle.portal_model.specs.State.{State}
use Rattle.portal_model.specs.Store.{Entries, entry_of, put_entry, record_of, without_entry}
use Rattle.portal_model.specs.StoreRequest.{tell_hosts}
use Rattle.portal_model.specs.Verdict.{does}
use Rattle.portal_model.proofs.ListLookups.{find-map, is_same-refl}
use Rattle.document_calls.specs.KeeperCalls.{AppliedIf, KeepsRecords}
use Rattle.document_calls.proofs.ServedSteps.{Matches}
use Rattle.record_keeper.specs.Keepers.{KeeperIs}
use Rattle.store_serving.specs.Records.{SetsRecord, former_record}
use Rattle.store_serving.specs.Serving.{entry_with}
use Rattle.store_serving.proofs.EntrySteps.{former-entry}

-- ---- one that is found

of-itself : (r : EntryRecord) → is_of_key r.table r.id r ≡ true
of-itself r = (λ i. is_same-refl r.table i && is_same-refl r.id i)

module _ (test : EntryRecord → Bool) (r : EntryRecord) (passes : test r ≡ true) where
  -- the first that passes is the one that is put
  found-changed : (rs : List EntryRecord) → list_any test rs ≡ true → find test (change_first test (λ _. r) rs) ≡ Some r
  found-changed [] h = cc
  found-changed (x ∷ xs) h = step (test x) refl h (λ k. found-changed xs k)
    where
      step : (b : Bool) → test x ≡ b → (b || list_any test xs) ≡ true → (list_any test xs ≡ true → find test (change_first test (λ _. r) xs) ≡ Some r) → find test (cond b (r ∷ xs) (x ∷ change_first test (λ _. r) xs)) ≡ Some r
      step true e h next = ap (λ (b : Bool). cond b (Some r) (find test xs)) passes
      step false e h next = ap (λ (b : Bool). cond b (Some x) (find test (change_first test (λ _. r) xs))) e ∙ next h

  found-last : (rs : List EntryRecord) → list_any test rs ≡ false → find test (rs ++ r ∷ []) ≡ Some r
  found-last [] h = ap (λ (b : Bool). cond b (Some r) None) passes
  found-last (x ∷ xs) h = step (test x) refl h (λ k. found-last xs k)
    where
      step : (b : Bool) → test x ≡ b → (b || list_any test xs) ≡ false → (list_any test xs ≡ false → find test (xs ++ r ∷ []) ≡ Some r) → cond (test x) (Some x) (find test (xs ++ r ∷ [])) ≡ Some r
      step true e h next = cc
      step false e h next = ap (λ (b : Bool). cond b (Some x) (find test (xs ++ r ∷ []))) e ∙ next h

  -- written again as it was
  same-changed : (rs : List EntryRecord) → find test rs ≡ Some r → change_first test (λ _. r) rs ≡ rs
  same-changed [] f = cc
  same-changed (x ∷ xs) f = step (test x) f (λ k. same-changed xs k)
    where
      first : (a b : EntryRecord) → Some a ≡ Some b → a ≡ b
      first a b e = cc

      step : (b : Bool) → cond b (Some x) (find test xs) ≡ Some r → (find test xs ≡ Some r → change_first test (λ _. r) xs ≡ xs) → cond b (r ∷ xs) (x ∷ change_first test (λ _. r) xs) ≡ x ∷ xs
      step true f next = ap (λ (y : EntryRecord). y ∷ xs) (sym (first x r f))
      step false f next = ap (λ (ys : List EntryRecord). x ∷ ys) (next f)

  found-any : (rs : List EntryRecord) → find test rs ≡ Some r → list_any test rs ≡ true
  found-any [] f = cc
  found-any (x ∷ xs) f = step (test x) f (λ k. found-any xs k)
    where
      step : (b : Bool) → cond b (Some x) (find test xs) ≡ Some r → (find test xs ≡ Some r → list_any test xs ≡ true) → (b || list_any test xs) ≡ true
      step true f next = refl
      step false f next = next f

found-set : (r : EntryRecord) (rs : List EntryRecord) → find (is_of_key r.table r.id) (set_entry r rs) ≡ Some r
found-set r rs = step (list_any (is_of_key r.table r.id) rs) refl
  where
    step : (b : Bool) → list_any (is_of_key r.table r.id) rs ≡ b → find (is_of_key r.table r.id) (cond b (change_first (is_of_key r.table r.id) (λ _. r) rs) (rs ++ r ∷ [])) ≡ Some r
    step true h = found-changed (is_of_key r.table r.id) r (of-itself r) rs h
    step false h = found-last (is_of_key r.table r.id) r (of-itself r) rs h

set-same : (r : EntryRecord) (rs : List EntryRecord) → find (is_of_key r.table r.id) rs ≡ Some r → set_entry r rs ≡ rs
set-same r rs f =
    ap (λ (b : Bool). cond b (change_first (is_of_key r.table r.id) (λ _. r) rs) (rs ++ r ∷ [])) (found-any (is_of_key r.table r.id) r (of-itself r) rs f)
    ∙ same-changed (is_of_key r.table r.id) r (of-itself r) rs f

none-left : (test : EntryRecord → Bool) (rs : List EntryRecord) → find test (filter (λ r. not (test r)) rs) ≡ None
none-left test [] = refl
none-left test (x ∷ xs) = step (test x) refl (none-left test xs)
  where
    step : (b : Bool) → test x ≡ b → find test (filter (λ r. not (test r)) xs) ≡ None → find test (cond (not b) (x ∷ filter (λ r. not (test r)) xs) (filter (λ r. not (test r)) xs)) ≡ None
    step true e next = next
    step false e next = ap (λ (b : Bool). cond b (Some x) (find test (filter (λ r. not (test r)) xs))) e ∙ next

-- the record of a table and an identifier is that of the entry
found-record : (table id : List ℕ) (entries : Entries) → find (is_of_key table id) (map record_of entries) ≡ option_map record_of (entry_of entries table id)
found-record table id entries = find-map (is_of_key table id) record_of entries

-- ---- the change that is made

-- there is none where the records stay, and it makes those of the state after
abbrev pub Changes : State → State → Option RecordChange → Type 0
Changes s after None = records_of after ≡ records_of s
Changes s after (Some change) = (records_of after ≡ records_of s → ⊥) × (changed change (records_of s) ≡ records_of after)

pub changes-match : (s after : State) (made : Option RecordChange) → Changes s after made → Matches s (does after Answer.Done) after made
changes-match s after None k = λ changes. changes.1 k
changes-match s after (Some change) k = ((refl, k.0), k.1)

still-kept : (told : Option Records) (s after : State) → records_of after ≡ records_of s → IfSome told (λ records. records ≡ records_of s) → IfSome told (λ records. records ≡ records_of after)
still-kept None s after e h = tt
still-kept (Some records) s after e h = h ∙ sym e

now-kept : (change : RecordChange) (told : Option Records) (s after : State) → changed change (records_of s) ≡ records_of after → IfSome told (λ records. records ≡ records_of s) →
    IfSome (option_map (changed_by (change ∷ [])) told) (λ records. records ≡ records_of after)
now-kept change None s after e h = tt
now-kept change (Some records) s after e h = ap (changed change) h ∙ e

-- the records of a keeper that tells them stand for the state after
pub change-kept : (s after : State) (old new : KeeperIs) (failed : Bool) (made : Option RecordChange) → Changes s after made → AppliedIf made old failed new → KeepsRecords s old → KeepsRecords (cond failed s after) new
change-kept s after old new true None k a h = let no : true ≡ false = a.0 in absurd (cc)
change-kept s after old new false None k a h = subst (KeepsRecords after) (sym a.1) (still-kept old.told s after k h)
change-kept s after old new true (Some change) k a h = subst (KeepsRecords s) (sym a.goes) h
change-kept s after old new false (Some change) k a h = subst (KeepsRecords after) (sym a.goes) (now-kept change old.told s after k.1 h)

-- and where it failed its count rose
pub change-risen : (old new : KeeperIs) (made : Option RecordChange) → AppliedIf made old true new → HasRisen old.faults new.faults
change-risen old new None a = let no : true ≡ false = a.0 in absurd (cc)
change-risen old new (Some change) a = rw a.goes (omega arith)

-- ---- an entry that is set

module _ (s : State) (before after : Entries) (e : StoredEntry) (stored : s.entries ≡ before) (put : after ≡ put_entry e before) where
  -- the records of entries
  abbrev kept : Entries → List EntryRecord
  kept entries = map record_of entries

  put-records : kept after ≡ set_entry (record_of e) (kept s.entries)
  put-records = ap kept put ∙ (put-record e before ∙ ap (λ (es : Entries). set_entry (record_of e) (kept es)) (sym stored))

  former-found : (former : Option TableEntry) → former ≡ former_of before e.table e.id → former_record e.table e.id former ≡ find (is_of_key e.table e.id) (kept s.entries)
  former-found former f =
      ap (former_record e.table e.id) f
      ∙ (by-entry (former_of before e.table e.id)
      ∙ (ap (option_map record_of) (former-entry e.table e.id before)
      ∙ (sym (found-record e.table e.id before) ∙ ap (λ (es : Entries). find (is_of_key e.table e.id) (kept es)) (sym stored))))
    where
      by-entry : (o : Option TableEntry) → option_map (λ f. record_of (with_content e.table e.id f)) o ≡ option_map record_of (entry_with e.table e.id o)
      by-entry None = refl
      by-entry (Some x) = refl

  pub set-changes : (change : Change) (former : Option TableEntry) (made : Option RecordChange) → former ≡ former_of before e.table e.id → SetsRecord (former_record e.table e.id former) (record_of e) made →
      Changes s (tell_hosts change (record s { entries = after })) made
  set-changes change former None f h =
      let stands : find (is_of_key e.table e.id) (kept s.entries) ≡ Some (record_of e) = sym (former-found former f) ∙ h in
      let same : kept after ≡ kept s.entries = put-records ∙ set-same (record_of e) (kept s.entries) stands in
      λ i. record (records_of s) { entries = same i }
  set-changes change former (Some made) f h = (
    λ same. h.1 (former-found former f ∙ (ap (λ (r : Records). find (is_of_key e.table e.id) r.entries) (sym same) ∙ (ap (find (is_of_key e.table e.id)) put-records ∙ found-set (record_of e) (kept s.entries)))),
    ap (λ (c : RecordChange). changed c (records_of s)) h.0 ∙ (λ i. record (records_of s) { entries = sym put-records i }),
  )

-- ---- an entry that goes

module _ (s : State) (before : Entries) (table id : List ℕ) (e : StoredEntry) (stored : s.entries ≡ before) (there : entry_of before table id ≡ Some e) where
  left-records : map record_of (without_entry table id before) ≡ filter (is_other_key table id) (map record_of s.entries)
  left-records = gone-record table id before ∙ ap (λ (es : Entries). filter (is_other_key table id) (map record_of es)) (sym stored)

  pub gone-changes : (change : Change) → Changes s (tell_hosts change (record s { entries = without_entry table id before })) (Some (RemoveEntry table id))
  gone-changes change = (
    λ same.
        let was : find (is_of_key table id) (map record_of s.entries) ≡ Some (record_of e) =
        ap (λ (es : Entries). find (is_of_key table id) (map record_of es)) stored ∙ (found-record table id before ∙ ap (option_map record_of) there) in
        let is : find (is_of_key table id) (map record_of s.entries) ≡ None =
        ap (λ (r : Records). find (is_of_key table id) r.entries) (sym same) ∙ (ap (find (is_of_key table id)) left-records ∙ none-left (is_of_key table id) (map record_of s.entries)) in
        let no : Some (record_of e) ≡ None = sym was ∙ is in
        cc,
    λ i. record (records_of s) { entries = sym left-records i },
  )
