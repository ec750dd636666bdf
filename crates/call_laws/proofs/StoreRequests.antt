-- Which answers the calls of the permission store come to.
use Rattle.std.proofs.Common.{ℕ, Bool, true, false, cond, not, List, [], ◌∷◌, Option, Some, None, Ok, Err}
use Rattle.std.specs.Option.{option_map}
use Rattle.portal_base.specs.Names.{is_same}
use Rattle.portal_base.specs.declared.who.Who.{Who}
use Rattle.dbus_types.specs.declared.types.Value.{Value, out-Value}
use Rattle.portal_model.specs.declared.records.Row.{Row}
use Rattle.portal_model.specs.declared.reply.Answer.{Answer}
use Rattle.portal_model.specs.declared.reply.Answer.TheVariants as A
use Rattle.portal_model.specs.declared.reply.Code.TheVariants as Code
use Rattle.portal_model.specs.declared.store.StoreAnswer.{StoreAnswer}
use Rattle.portal_model.specs.declared.store.StoreAnswer.TheVariants.{Done, Entry, Kept, Names}
use Rattle.portal_model.specs.declared.store.StoreCall.{StoreCall}
use Rattle.portal_model.specs.declared.store.StoreCall.TheVariants as Call
use Rattle.portal_model.specs.declared.store.StoreError.TheVariants.{TooLong}
use Rattle.portal_model.specs.declared.store.StoredEntry.{StoredEntry}
use Rattle.portal_model.specs.Rows.{permissions_of, stored_rows}
use Rattle.portal_model.specs.State.{State}
use Rattle.portal_model.specs.Store.{Entries, Outcome, becomes, becomes_if_told, can_be_told, change_of, entry_of, entry_to_set, has_row, ids_of, store_call, with_entry, with_permissions, without_entry, without_permissions}
use Rattle.portal_model.specs.StoreRequest.{are_store_arguments, own_table, store_allowed, store_answered, store_request, store_verdict, table_of}
use Rattle.dbus_requests.specs.Arguments.{delete_call, delete_of, delete_permission_call, delete_permission_of, flag_of, get_permission_call, get_permission_of, inside_of, items_of, list_call, lookup_call, lookup_of, rows_in, set_call, set_of, set_permission_call, set_permission_of, set_value_call, set_value_of, text_alone, text_of, texts_in}
use Rattle.call_laws.proofs.ReturnVerdicts.{OfVerdict, of_unless}

-- ---- what the tables answer

abbrev OfAnswer : (Answer → Type 0) → StoreAnswer → Type 0
OfAnswer P (Done change) = P A.Done
OfAnswer P Kept = P A.Done
OfAnswer P (Entry rows datum) = P (A.Entry rows datum)
OfAnswer P (Names names) = P (A.Names names)

abbrev OfOutcome : (Answer → Type 0) → Outcome → Type 0
OfOutcome P (Err error) = Unit {0}
OfOutcome P (Ok done) = OfAnswer P done.1

-- whatever the entries are
abbrev pub OfCall : (Answer → Type 0) → StoreCall → Type 0
OfCall P call = (entries : Entries) → OfOutcome P (store_call call entries)

-- the call that the arguments are, where they are one
abbrev pub OfArguments : (Answer → Type 0) → Option StoreCall → Type 0
OfArguments P None = Unit {0}
OfArguments P (Some call) = OfCall P call

-- ---- what the portal answers

of_answered : (P : Answer → Type 0) (s : State) (call : StoreCall) (answer : StoreAnswer) → OfAnswer P answer → OfVerdict P (store_answered s call answer)
of_answered P s call (Done change) h = h
of_answered P s call Kept h = h
of_answered P s call (Entry rows datum) h = h
of_answered P s call (Names names) h = h

of_outcome : (P : Answer → Type 0) (s : State) (call : StoreCall) (outcome : Outcome) → OfOutcome P outcome → OfVerdict P (store_verdict s call outcome)
of_outcome P s call (Err error) h = tt
of_outcome P s call (Ok done) h = of_answered P (record s { entries = done.0 }) call done.1 h

pub of_store : (P : Answer → Type 0) (s : State) (who : Who) (call : StoreCall) → OfCall P call → OfVerdict P (store_request s who call)
of_store P s (Who.App app) call h = tt
of_store P s Who.Host call h =
    of_unless P (not (are_store_arguments call)) Code.InvalidArgument (store_allowed s call)
    (of_unless P (is_same (table_of call) own_table) Code.NotAllowed (store_verdict s call (store_call call s.entries))
    (of_outcome P s call (store_call call s.entries) (h s.entries)))

-- ---- outcomes

of_entry : (P : Answer → Type 0) (o : Option StoredEntry) (does : StoredEntry → Outcome) → ((e : StoredEntry) → OfOutcome P (does e)) → OfOutcome P (with_entry o does)
of_entry P None does h = tt
of_entry P (Some e) does h = h e

of_change : (P : Answer → Type 0) (b : Bool) (e : StoredEntry) (entries : Entries) (o : Outcome) → P A.Done → OfOutcome P o → OfOutcome P (cond b (becomes e entries) o)
of_change P true e entries o h g = h
of_change P false e entries o h g = g

of_told : (P : Answer → Type 0) (e : StoredEntry) (entries : Entries) → P A.Done → OfOutcome P (becomes_if_told e entries)
of_told P e entries h = of_change P (can_be_told e) e entries (Err TooLong) h tt

-- ---- Lookup, GetPermission and List

module _ (P : Answer → Type 0) (entry : (rows : List Row) (datum : Value) → P (A.Entry rows datum)) where
  looked_up : (table id : Option (List ℕ)) → OfArguments P (lookup_of table id)
  looked_up (Some table) (Some id) = λ entries. of_entry P (entry_of entries table id) (λ e. Ok (entries, Entry e.rows e.datum)) (λ e. entry e.rows e.datum)
  looked_up (Some table) None = tt
  looked_up None id = tt

  pub of_lookup_call : (vs : List Value) → OfArguments P (lookup_call vs)
  of_lookup_call [] = tt
  of_lookup_call (a ∷ []) = tt
  of_lookup_call (a ∷ b ∷ []) = looked_up (text_of (out-Value a)) (text_of (out-Value b))
  of_lookup_call (a ∷ b ∷ c ∷ vs) = tt

module _ (P : Answer → Type 0) (named : (names : List (List ℕ)) → P (A.Names names)) where
  permission_got : (table id app : Option (List ℕ)) → OfArguments P (get_permission_of table id app)
  permission_got (Some table) (Some id) (Some app) = λ entries. of_entry P (entry_of entries table id) (λ e. Ok (entries, Names (permissions_of e.rows app))) (λ e. named (permissions_of e.rows app))
  permission_got (Some table) (Some id) None = tt
  permission_got (Some table) None app = tt
  permission_got None id app = tt

  pub of_get_permission_call : (vs : List Value) → OfArguments P (get_permission_call vs)
  of_get_permission_call [] = tt
  of_get_permission_call (a ∷ []) = tt
  of_get_permission_call (a ∷ b ∷ []) = tt
  of_get_permission_call (a ∷ b ∷ c ∷ []) = permission_got (text_of (out-Value a)) (text_of (out-Value b)) (text_of (out-Value c))
  of_get_permission_call (a ∷ b ∷ c ∷ d ∷ vs) = tt

  all_listed : (table : Option (List ℕ)) → OfArguments P (option_map Call.List table)
  all_listed (Some table) = λ entries. named (ids_of table entries)
  all_listed None = tt

  pub of_list_call : (vs : List Value) → OfArguments P (list_call vs)
  of_list_call vs = all_listed (text_alone vs)

-- ---- the calls that change an entry

module _ (P : Answer → Type 0) (done : P A.Done) where
  deletes : (table id : Option (List ℕ)) → OfArguments P (delete_of table id)
  deletes (Some table) (Some id) = λ entries. of_entry P (entry_of entries table id) (λ e. Ok (without_entry table id entries, Done (change_of true e))) (λ e. done)
  deletes (Some table) None = tt
  deletes None id = tt

  pub of_delete_call : (vs : List Value) → OfArguments P (delete_call vs)
  of_delete_call [] = tt
  of_delete_call (a ∷ []) = tt
  of_delete_call (a ∷ b ∷ []) = deletes (text_of (out-Value a)) (text_of (out-Value b))
  of_delete_call (a ∷ b ∷ c ∷ vs) = tt

  sets : (table : Option (List ℕ)) (create : Option Bool) (id : Option (List ℕ)) (rows : Option (List Value)) (datum : Option Value) → OfArguments P (set_of table create id rows datum)
  sets (Some table) (Some create) (Some id) (Some rows) (Some datum) =
      λ entries. of_entry P (entry_to_set entries create table id) (λ e. becomes_if_told (record e { rows = stored_rows (rows_in rows); datum = datum }) entries)
      (λ e. of_told P (record e { rows = stored_rows (rows_in rows); datum = datum }) entries done)
  sets (Some table) (Some create) (Some id) (Some rows) None = tt
  sets (Some table) (Some create) (Some id) None datum = tt
  sets (Some table) (Some create) None rows datum = tt
  sets (Some table) None id rows datum = tt
  sets None create id rows datum = tt

  pub of_set_call : (vs : List Value) → OfArguments P (set_call vs)
  of_set_call [] = tt
  of_set_call (a ∷ []) = tt
  of_set_call (a ∷ b ∷ []) = tt
  of_set_call (a ∷ b ∷ c ∷ []) = tt
  of_set_call (a ∷ b ∷ c ∷ d ∷ []) = tt
  of_set_call (a ∷ b ∷ c ∷ d ∷ e ∷ []) = sets (text_of (out-Value a)) (flag_of (out-Value b)) (text_of (out-Value c)) (items_of (out-Value d)) (inside_of (out-Value e))
  of_set_call (a ∷ b ∷ c ∷ d ∷ e ∷ f ∷ vs) = tt

  value_set : (table : Option (List ℕ)) (create : Option Bool) (id : Option (List ℕ)) (datum : Option Value) → OfArguments P (set_value_of table create id datum)
  value_set (Some table) (Some create) (Some id) (Some datum) =
      λ entries. of_entry P (entry_to_set entries create table id) (λ e. becomes_if_told (record e { datum = datum }) entries) (λ e. of_told P (record e { datum = datum }) entries done)
  value_set (Some table) (Some create) (Some id) None = tt
  value_set (Some table) (Some create) None datum = tt
  value_set (Some table) None id datum = tt
  value_set None create id datum = tt

  pub of_set_value_call : (vs : List Value) → OfArguments P (set_value_call vs)
  of_set_value_call [] = tt
  of_set_value_call (a ∷ []) = tt
  of_set_value_call (a ∷ b ∷ []) = tt
  of_set_value_call (a ∷ b ∷ c ∷ []) = tt
  of_set_value_call (a ∷ b ∷ c ∷ d ∷ []) = value_set (text_of (out-Value a)) (flag_of (out-Value b)) (text_of (out-Value c)) (inside_of (out-Value d))
  of_set_value_call (a ∷ b ∷ c ∷ d ∷ e ∷ vs) = tt

  permission_set : (table : Option (List ℕ)) (create : Option Bool) (id app : Option (List ℕ)) (names : Option (List Value)) → OfArguments P (set_permission_of table create id app names)
  permission_set (Some table) (Some create) (Some id) (Some app) (Some names) =
      λ entries. of_entry P (entry_to_set entries create table id) (λ e. becomes_if_told (with_permissions app (texts_in names) e) entries) (λ e. of_told P (with_permissions app (texts_in names) e) entries done)
  permission_set (Some table) (Some create) (Some id) (Some app) None = tt
  permission_set (Some table) (Some create) (Some id) None names = tt
  permission_set (Some table) (Some create) None app names = tt
  permission_set (Some table) None id app names = tt
  permission_set None create id app names = tt

  pub of_set_permission_call : (vs : List Value) → OfArguments P (set_permission_call vs)
  of_set_permission_call [] = tt
  of_set_permission_call (a ∷ []) = tt
  of_set_permission_call (a ∷ b ∷ []) = tt
  of_set_permission_call (a ∷ b ∷ c ∷ []) = tt
  of_set_permission_call (a ∷ b ∷ c ∷ d ∷ []) = tt
  of_set_permission_call (a ∷ b ∷ c ∷ d ∷ e ∷ []) = permission_set (text_of (out-Value a)) (flag_of (out-Value b)) (text_of (out-Value c)) (text_of (out-Value d)) (items_of (out-Value e))
  of_set_permission_call (a ∷ b ∷ c ∷ d ∷ e ∷ f ∷ vs) = tt

  permission_deleted : (table id app : Option (List ℕ)) → OfArguments P (delete_permission_of table id app)
  permission_deleted (Some table) (Some id) (Some app) =
      λ entries. of_entry P (entry_of entries table id) (λ e. cond (has_row app e) (becomes (without_permissions app e) entries) (Ok (entries, Kept)))
      (λ e. of_change P (has_row app e) (without_permissions app e) entries (Ok (entries, Kept)) done done)
  permission_deleted (Some table) (Some id) None = tt
  permission_deleted (Some table) None app = tt
  permission_deleted None id app = tt

  pub of_delete_permission_call : (vs : List Value) → OfArguments P (delete_permission_call vs)
  of_delete_permission_call [] = tt
  of_delete_permission_call (a ∷ []) = tt
  of_delete_permission_call (a ∷ b ∷ []) = tt
  of_delete_permission_call (a ∷ b ∷ c ∷ []) = permission_deleted (text_of (out-Value a)) (text_of (out-Value b)) (text_of (out-Value c))
  of_delete_permission_call (a ∷ b ∷ c ∷ d ∷ vs) = tt
