-- What the tables make of a call: which entry is put, and that a call which reads answers what it read.
use Rattle.std.specs.Prelude.{is_some}
use Rattle.std.proofs.Common.{◌≡◌, ℕ, List, Bool, true, false, cond, Option, Some, None, option_map, Ok, Err, refl, sym, ap, subst, ◌∙◌}
use Rattle.permission_table.specs.Tables.{content_of, former_of, put_back, with_content}
use Rattle.permission_table.proofs.TakenBack.{taken-back}
use Rattle.portal_model.specs.declared.store.StoreAnswer.{StoreAnswer}
use Rattle.portal_model.specs.declared.store.StoreAnswer.TheVariants.{Done, Kept, Entry, Names}
use Rattle.portal_model.specs.declared.store.StoreCall.{StoreCall}
use Rattle.portal_model.specs.declared.store.StoreCall.TheVariants as Call
use Rattle.portal_model.specs.declared.store.StoredEntry.{StoredEntry}
use Rattle.portal_model.specs.declared.store.StoreError.TheVariants.{TooLong}
use Rattle.portal_model.specs.declared.store.TableEntry.{TableEntry}
use Rattle.portal_model.specs.Rows.{permissions_of, stored_rows}
use Rattle.portal_model.specs.Store.{Entries, Outcome, becomes, becomes_if_told, can_be_told, change_of, entry_of, entry_to_set, has_row, ids_of, new_entry, or_new, put_entry, store_call, with_entry, with_permissions, without_permissions}
use Rattle.portal_model.specs.StoreRequest.{identifier_of, table_of}
use Rattle.portal_model.specs.Valid.{entry_told}
use Rattle.portal_model.proofs.EntriesKept.{found-of}
use Rattle.store_serving.specs.Serving.{changes_an_entry, entry_with, may_change_entries}

made-is : (a b : Entries × StoreAnswer) (r : Outcome) → r ≡ Ok a → r ≡ Ok b → a ≡ b
made-is a b r e f = cc

-- ---- a call that sets an entry, or takes a row out of one

-- the entry of the call is put, or all stands
abbrev pub Puts : StoreCall → Entries → Entries → StoreAnswer → Type 0
Puts call before after (Done change) =
    (after ≡ put_entry (entry_told change) before) × (change.deleted ≡ false) × (change.table ≡ table_of call) × (change.id ≡ identifier_of call)
Puts call before after Kept = after ≡ before
Puts call before after (Entry rows datum) = ⊥
Puts call before after (Names names) = ⊥

module _ (call : StoreCall) (before after : Entries) (answer : StoreAnswer) where
  abbrev Makes : Outcome → Type 0
  Makes outcome = outcome ≡ Ok (after, answer)

  by-becomes : (e : StoredEntry) → e.table ≡ table_of call → e.id ≡ identifier_of call → Makes (becomes e before) → Puts call before after answer
  by-becomes e t i m =
      let made : Entries × StoreAnswer = (put_entry e before, Done (change_of false e)) in
      let same : made ≡ (after, answer) = made-is made (after, answer) (becomes e before) refl m in
      let answer_is : Done (change_of false e) ≡ answer = ap (λ (x : Entries × StoreAnswer). x.1) same in
      subst (Puts call before after) answer_is (sym (ap (λ (x : Entries × StoreAnswer). x.0) same), refl, t, i)

  by-told : (e : StoredEntry) (b : Bool) → e.table ≡ table_of call → e.id ≡ identifier_of call → Makes (cond b (becomes e before) (Err TooLong)) → Puts call before after answer
  by-told e true t i m = by-becomes e t i m
  by-told e false t i m = absurd (cc)

  abbrev KeepsKey : (StoredEntry → StoredEntry) → Type 0
  KeepsKey new = (e : StoredEntry) → ((new e).table ≡ e.table) × ((new e).id ≡ e.id)

  by-set : (create : Bool) (table id : List ℕ) (new : StoredEntry → StoredEntry) → KeepsKey new → table ≡ table_of call → id ≡ identifier_of call →
      Makes (with_entry (entry_to_set before create table id) (λ e. becomes_if_told (new e) before)) → Puts call before after answer
  by-set create table id new k t i m = step create (entry_of before table id) refl m
    where
      one : (e : StoredEntry) → e.table ≡ table → e.id ≡ id → Makes (becomes_if_told (new e) before) → Puts call before after answer
      one e et ei m = by-told (new e) (can_be_told (new e)) ((k e).0 ∙ (et ∙ t)) ((k e).1 ∙ (ei ∙ i)) m

      step : (c : Bool) (o : Option StoredEntry) → entry_of before table id ≡ o → Makes (with_entry (or_new c (new_entry table id) o) (λ e. becomes_if_told (new e) before)) → Puts call before after answer
      step c (Some e) f m = let key = found-of table id before e f in one e key.0 key.1 m
      step true None f m = one (new_entry table id) refl refl m
      step false None f m = absurd (cc)

  by-row : (table id app : List ℕ) (o : Option StoredEntry) → entry_of before table id ≡ o → table ≡ table_of call → id ≡ identifier_of call →
      Makes (with_entry o (λ e. cond (has_row app e) (becomes (without_permissions app e) before) (Ok (before, Kept)))) → Puts call before after answer
  by-row table id app None f t i m = absurd (cc)
  by-row table id app (Some e) f t i m = step (has_row app e) m
    where
      step : (b : Bool) → Makes (cond b (becomes (without_permissions app e) before) (Ok (before, Kept))) → Puts call before after answer
      step true m = let key = found-of table id before e f in by-becomes (without_permissions app e) (key.0 ∙ t) (key.1 ∙ i) m
      step false m =
          let made : Entries × StoreAnswer = (before, Kept) in
          let same : made ≡ (after, answer) = made-is made (after, answer) (Ok (before, Kept)) refl m in
          subst (Puts call before after) (ap (λ (x : Entries × StoreAnswer). x.1) same) (sym (ap (λ (x : Entries × StoreAnswer). x.0) same))

pub call-puts : (call : StoreCall) (before after : Entries) (answer : StoreAnswer) → changes_an_entry call ≡ true → store_call call before ≡ Ok (after, answer) → Puts call before after answer
call-puts (Call.Set table create id rows datum) before after answer k m =
    by-set (Call.Set table create id rows datum) before after answer create table id (λ e. record e { rows = stored_rows rows; datum = datum }) (λ e. (refl, refl)) refl refl m
call-puts (Call.SetValue table create id datum) before after answer k m =
    by-set (Call.SetValue table create id datum) before after answer create table id (λ e. record e { datum = datum }) (λ e. (refl, refl)) refl refl m
call-puts (Call.SetPermission table create id app names) before after answer k m =
    by-set (Call.SetPermission table create id app names) before after answer create table id (with_permissions app names) (λ e. (refl, refl)) refl refl m
call-puts (Call.DeletePermission table id app) before after answer k m =
    by-row (Call.DeletePermission table id app) before after answer table id app (entry_of before table id) refl refl refl m
call-puts (Call.Lookup table id) before after answer k m = absurd (cc)
call-puts (Call.Delete table id) before after answer k m = absurd (cc)
call-puts (Call.GetPermission table id app) before after answer k m = absurd (cc)
call-puts (Call.List table) before after answer k m = absurd (cc)

-- the entry that was put is taken back by what it had
pub put-back : (e : StoredEntry) (before after : Entries) (table id : List ℕ) (former : Option TableEntry) → e.table ≡ table → e.id ≡ id → former ≡ former_of before table id → after ≡ put_entry e before →
    put_back table id former after ≡ before
put-back e before after table id former t i f a =
    (λ j. put_back (sym t j) (sym i j) ((f ∙ (λ k. former_of before (sym t k) (sym i k))) j) (a j)) ∙ taken-back e before

-- the content that an entry had, as the entry
pub former-entry : (table id : List ℕ) (before : Entries) → entry_with table id (former_of before table id) ≡ entry_of before table id
former-entry table id before = step (entry_of before table id) refl
  where
    step : (o : Option StoredEntry) → entry_of before table id ≡ o → option_map (with_content table id) (option_map content_of o) ≡ o
    step None f = refl
    step (Some e) f = let key = found-of table id before e f in λ j. Some (record e { table = sym key.0 j; id = sym key.1 j })

-- ---- a call that reads

abbrev pub Tells : Entries → Entries → StoreAnswer → Type 0
Tells before after (Done change) = ⊥
Tells before after Kept = ⊥
Tells before after (Entry rows datum) = after ≡ before
Tells before after (Names names) = after ≡ before

module _ (before after : Entries) (answer : StoreAnswer) where
  abbrev IsMade : Outcome → Type 0
  IsMade outcome = outcome ≡ Ok (after, answer)

  tells-made : (told : StoreAnswer) → Tells before before told → IsMade (Ok (before, told)) → Tells before after answer
  tells-made told h m =
      let made : Entries × StoreAnswer = (before, told) in
      let same : made ≡ (after, answer) = made-is made (after, answer) (Ok made) refl m in
      subst (λ (x : Entries × StoreAnswer). Tells before x.0 x.1) same h

  looked-up : (o : Option StoredEntry) (tells : StoredEntry → StoreAnswer) → ((e : StoredEntry) → Tells before before (tells e)) → with_entry o (λ e. Ok (before, tells e)) ≡ Ok (after, answer) → Tells before after answer
  looked-up None tells h m = absurd (cc)
  looked-up (Some e) tells h m = tells-made (tells e) (h e) m

pub call-reads : (call : StoreCall) (before after : Entries) (answer : StoreAnswer) → may_change_entries call ≡ false → store_call call before ≡ Ok (after, answer) → Tells before after answer
call-reads (Call.Lookup table id) before after answer k m = looked-up before after answer (entry_of before table id) (λ e. Entry e.rows e.datum) (λ e. refl) m
call-reads (Call.GetPermission table id app) before after answer k m = looked-up before after answer (entry_of before table id) (λ e. Names (permissions_of e.rows app)) (λ e. refl) m
call-reads (Call.List table) before after answer k m = tells-made before after answer (Names (ids_of table before)) refl m
call-reads (Call.Set table create id rows datum) before after answer k m = absurd (cc)
call-reads (Call.SetValue table create id datum) before after answer k m = absurd (cc)
call-reads (Call.SetPermission table create id app names) before after answer k m = absurd (cc)
call-reads (Call.DeletePermission table id app) before after answer k m = absurd (cc)
call-reads (Call.Delete table id) before after answer k m = absurd (cc)

-- ---- an entry that is there

pub former-there : (former : TableEntry) (before : Entries) (table id : List ℕ) → Some former ≡ former_of before table id → is_some (entry_of before table id) ≡ true
former-there former before table id f = step (entry_of before table id) f
  where
    step : (o : Option StoredEntry) → Some former ≡ option_map content_of o → is_some o ≡ true
    step None f = cc
    step (Some e) f = refl
