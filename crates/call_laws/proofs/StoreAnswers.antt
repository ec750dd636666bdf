-- What the requests to the permission store come to can be told.
use Rattle.std.proofs.Common.{◌≡◌, ℕ, Bool, true, false, cond, not, List, [], ◌∷◌, map, Option, Some, None, Ok, Err, refl}
use Rattle.std.specs.Prelude.{All, ◌&&◌}
use Rattle.std.specs.List.{filter, list_all}
use Rattle.std.proofs.lemmas.Bool.{and_parts}
use Rattle.std.proofs.lemmas.List.Elements.{All-nil, All-cons, All-head, All-tail, All-filter, All-map}
use Rattle.portal_base.specs.Names.{is_same}
use Rattle.portal_base.specs.declared.who.Who.{Who}
use Rattle.portal_model.specs.declared.records.Row.{Row}
use Rattle.portal_model.specs.declared.reply.Code.TheVariants as Code
use Rattle.portal_model.specs.declared.store.StoreAnswer.{StoreAnswer}
use Rattle.portal_model.specs.declared.store.StoreAnswer.TheVariants.{Done, Entry, Kept, Names}
use Rattle.portal_model.specs.declared.store.StoreCall.{StoreCall}
use Rattle.portal_model.specs.declared.store.StoreCall.TheVariants as Call
use Rattle.portal_model.specs.declared.store.StoredEntry.{StoredEntry}
use Rattle.portal_model.specs.declared.store.StoreError.TheVariants.{TooLong}
use Rattle.portal_model.specs.Data.{is_data}
use Rattle.portal_model.specs.Ordered.{bytes_less}
use Rattle.portal_model.specs.Rows.{is_row_of, permissions_of, row_of, stored_rows}
use Rattle.portal_model.specs.State.{State}
use Rattle.portal_model.specs.Store.{Entries, Outcome, becomes, becomes_if_told, can_be_told, change_of, entry_of, entry_to_set, has_row, ids_of, is_entry_of, is_in_table, store_call, with_entry, with_permissions, without_entry, without_permissions}
use Rattle.portal_model.specs.StoreRequest.{are_store_arguments, own_table, store_allowed, store_answered, store_request, store_verdict, table_of}
use Rattle.portal_model.specs.Valid.{Valid, has_entry_texts, has_texts, is_text, is_valid_entry}
use Rattle.portal_model.proofs.ListLookups.{found_in_all}
use Rattle.dbus_calls.specs.declared.method.Method.{Method}
use Rattle.call_laws.proofs.Records.{all_put}
use Rattle.call_laws.proofs.Verdicts.{VerdictTold, unless_told}

-- ---- entries

abbrev IsPlain : List ℕ → Type 0
IsPlain text = is_text text ≡ true

-- the parts of a valid entry
entry_parts : (e : StoredEntry) → is_valid_entry e ≡ true → (is_text e.id ≡ true) × (list_all has_texts e.rows ≡ true) × (is_data e.datum ≡ true)
entry_parts e h =
    let whole = and_parts (has_entry_texts e) (is_data e.datum && can_be_told e) h in
    let texts = and_parts (is_text e.table) (is_text e.id && list_all has_texts e.rows) whole.0 in
    let others = and_parts (is_text e.id) (list_all has_texts e.rows) texts.1 in
    (others.0, others.1, (and_parts (is_data e.datum) (can_be_told e) whole.1).0)

all_texts : (ts : List (List ℕ)) → All IsPlain ts → list_all is_text ts ≡ true
all_texts [] h = refl
all_texts (t ∷ ts) h = rw (All-head IsPlain t ts h) (all_texts ts (All-tail IsPlain t ts h))

ids_texts : (es : List StoredEntry) → list_all is_valid_entry es ≡ true → All (λ (e : StoredEntry). IsPlain e.id) es
ids_texts [] h = All-nil (λ (e : StoredEntry). IsPlain e.id)
ids_texts (e ∷ es) h =
    let p = and_parts (is_valid_entry e) (list_all is_valid_entry es) h in
    All-cons (λ (x : StoredEntry). IsPlain x.id) e es (entry_parts e p.0).0 (ids_texts es p.1)

table_texts : (table : List ℕ) (es : List StoredEntry) → list_all is_valid_entry es ≡ true → list_all is_text (ids_of table es) ≡ true
table_texts table es h =
    let here : List StoredEntry = filter (is_in_table table) es in
    let ids : All IsPlain (map (λ (e : StoredEntry). e.id) here) = All-map IsPlain (λ (e : StoredEntry). e.id) here (All-filter (is_in_table table) (λ (e : StoredEntry). IsPlain e.id) es (ids_texts es h)) in
    all_texts (ids_of table es) (all_put bytes_less IsPlain (map (λ (e : StoredEntry). e.id) here) ids)

names_in : (o : Option Row) (rows : List Row) (app : List ℕ) → row_of rows app ≡ o → list_all has_texts rows ≡ true → list_all is_text (permissions_of rows app) ≡ true
names_in None rows app e h = rw e refl
names_in (Some row) rows app e h =
    let texts : has_texts row ≡ true = found_in_all (is_row_of app) has_texts rows row e h in
    rw e (and_parts (is_text row.app) (list_all is_text row.names) texts).1

-- ---- what the tables answer

abbrev AnswerTold : StoreAnswer → Type 0
AnswerTold (Done change) = Unit {0}
AnswerTold Kept = Unit {0}
AnswerTold (Entry rows datum) = (list_all has_texts rows ≡ true) × (is_data datum ≡ true)
AnswerTold (Names names) = list_all is_text names ≡ true

abbrev OutcomeTold : Outcome → Type 0
OutcomeTold (Err error) = Unit {0}
OutcomeTold (Ok done) = AnswerTold done.1

set_told : (b : Bool) (e : StoredEntry) (entries : Entries) (o : Outcome) → OutcomeTold o → OutcomeTold (cond b (becomes e entries) o)
set_told true e entries o h = tt
set_told false e entries o h = h

if_told : (e : StoredEntry) (entries : Entries) → OutcomeTold (becomes_if_told e entries)
if_told e entries = set_told (can_be_told e) e entries (Err TooLong) tt

with_told : (o : Option StoredEntry) (does : StoredEntry → Outcome) → ((e : StoredEntry) → o ≡ Some e → OutcomeTold (does e)) → OutcomeTold (with_entry o does)
with_told None does h = tt
with_told (Some e) does h = h e refl

module _ (entries : Entries) (valid : list_all is_valid_entry entries ≡ true) where
  found_valid : (table id : List ℕ) (e : StoredEntry) → entry_of entries table id ≡ Some e → is_valid_entry e ≡ true
  found_valid table id e is = found_in_all (is_entry_of table id) is_valid_entry entries e is valid

  call_told : (call : StoreCall) → OutcomeTold (store_call call entries)
  call_told (Call.Lookup table id) =
      with_told (entry_of entries table id) (λ e. Ok (entries, Entry e.rows e.datum)) (λ e is. let p = entry_parts e (found_valid table id e is) in (p.1, p.2))
  call_told (Call.Set table create id rows datum) =
      with_told (entry_to_set entries create table id) (λ e. becomes_if_told (record e { rows = stored_rows rows; datum = datum }) entries)
      (λ e is. if_told (record e { rows = stored_rows rows; datum = datum }) entries)
  call_told (Call.Delete table id) = with_told (entry_of entries table id) (λ e. Ok (without_entry table id entries, Done (change_of true e))) (λ e is. tt)
  call_told (Call.SetValue table create id datum) =
      with_told (entry_to_set entries create table id) (λ e. becomes_if_told (record e { datum = datum }) entries) (λ e is. if_told (record e { datum = datum }) entries)
  call_told (Call.SetPermission table create id app names) =
      with_told (entry_to_set entries create table id) (λ e. becomes_if_told (with_permissions app names e) entries) (λ e is. if_told (with_permissions app names e) entries)
  call_told (Call.DeletePermission table id app) =
      with_told (entry_of entries table id) (λ e. cond (has_row app e) (becomes (without_permissions app e) entries) (Ok (entries, Kept))) (λ e is. set_told (has_row app e) (without_permissions app e) entries (Ok (entries, Kept)) tt)
  call_told (Call.GetPermission table id app) =
      with_told (entry_of entries table id) (λ e. Ok (entries, Names (permissions_of e.rows app))) (λ e is. names_in (row_of e.rows app) e.rows app refl (entry_parts e (found_valid table id e is)).1)
  call_told (Call.List table) = table_texts table entries valid

-- ---- what the portal answers

answered_told : (m : Method) (s : State) (call : StoreCall) (told : StoreAnswer) → AnswerTold told → VerdictTold m (store_answered s call told)
answered_told m s call (Done change) h = tt
answered_told m s call Kept h = tt
answered_told m s call (Entry rows datum) h = h
answered_told m s call (Names names) h = h

outcome_told : (m : Method) (s : State) (call : StoreCall) (outcome : Outcome) → OutcomeTold outcome → VerdictTold m (store_verdict s call outcome)
outcome_told m s call (Err error) h = tt
outcome_told m s call (Ok done) h = answered_told m (record s { entries = done.0 }) call done.1 h

pub store_told : (m : Method) (s : State) (who : Who) (call : StoreCall) → Valid s → VerdictTold m (store_request s who call)
store_told m s (Who.App app) call valid = tt
store_told m s Who.Host call valid =
    unless_told m (not (are_store_arguments call)) Code.InvalidArgument (store_allowed s call)
    (λ e. unless_told m (is_same (table_of call) own_table) Code.NotAllowed (store_verdict s call (store_call call s.entries))
    (λ f. outcome_told m s call (store_call call s.entries) (call_told s.entries valid.entries_sound call)))
