-- A call of the permission store, as the portal serves it: its refusals in their order, what the
-- tables then do with it, and whom the signal Changed is told. The calls and terms are those of the
-- documentation of org.freedesktop.impl.portal.PermissionStore. That the host alone may call, that
-- the table `documents` is the portal's own, and which texts and data are taken, are this project's
-- own.
use Rattle.std.specs.Prelude.{ℕ, List, [], ◌∷◌, ◌++◌, map, Bool, true, false, not, ◌&&◌, Option, Some, None, is_some, Ok, Err, cond, codes}
use Rattle.std.specs.List.{flat_map, list_all}
use Rattle.dbus_types.specs.declared.types.Value.{Value}
use Rattle.portal_base.specs.Names.{is_same}
use Rattle.portal_base.specs.declared.who.Who.{Who}
use Rattle.portal_model.specs.declared.records.Row.{Row}
use Rattle.portal_model.specs.declared.reply.Answer.{Answer}
use Rattle.portal_model.specs.declared.reply.Change.{Change}
use Rattle.portal_model.specs.declared.reply.Code.{Code}
use Rattle.portal_model.specs.declared.state.Connection.{Connection}
use Rattle.portal_model.specs.declared.store.StoreAnswer.{StoreAnswer}
use Rattle.portal_model.specs.declared.store.StoreAnswer.TheVariants.{Done, Kept, Entry, Names}
use Rattle.portal_model.specs.declared.store.StoreCall.{StoreCall}
use Rattle.portal_model.specs.declared.store.StoreCall.TheVariants as Call
use Rattle.portal_model.specs.declared.store.StoredEntry.{StoredEntry}
use Rattle.portal_model.specs.declared.store.StoreError.{StoreError}
use Rattle.portal_model.specs.declared.store.StoreError.TheVariants.{NotFound, TooLong, Memory}
use Rattle.portal_model.specs.Data.{is_data}
use Rattle.portal_model.specs.State.{State}
use Rattle.portal_model.specs.Store.{Entries, Outcome, change_of, entry_of, entry_to_set, store_call}
use Rattle.portal_model.specs.Valid.{is_host_bus, is_text}
use Rattle.portal_model.specs.Verdict.{Verdict, Refuses, does, unless}

-- ---- arguments

abbrev pub texts_of_row : Row → List (List ℕ)
texts_of_row row = row.app ∷ row.names

-- the texts of a call, but for those inside its data
abbrev pub texts_of : StoreCall → List (List ℕ)
texts_of (Call.Lookup table id) = table ∷ id ∷ []
texts_of (Call.Set table create id rows datum) = table ∷ id ∷ flat_map texts_of_row rows
texts_of (Call.Delete table id) = table ∷ id ∷ []
texts_of (Call.SetValue table create id datum) = table ∷ id ∷ []
texts_of (Call.SetPermission table create id app names) = table ∷ id ∷ app ∷ names
texts_of (Call.DeletePermission table id app) = table ∷ id ∷ app ∷ []
texts_of (Call.GetPermission table id app) = table ∷ id ∷ app ∷ []
texts_of (Call.List table) = table ∷ []

abbrev pub table_of : StoreCall → List ℕ
table_of (Call.Lookup table id) = table
table_of (Call.Set table create id rows datum) = table
table_of (Call.Delete table id) = table
table_of (Call.SetValue table create id datum) = table
table_of (Call.SetPermission table create id app names) = table
table_of (Call.DeletePermission table id app) = table
table_of (Call.GetPermission table id app) = table
table_of (Call.List table) = table

abbrev pub data_of : StoreCall → Option Value
data_of (Call.Set table create id rows datum) = Some datum
data_of (Call.SetValue table create id datum) = Some datum
data_of (Call.Lookup table id) = None
data_of (Call.Delete table id) = None
data_of (Call.SetPermission table create id app names) = None
data_of (Call.DeletePermission table id app) = None
data_of (Call.GetPermission table id app) = None
data_of (Call.List table) = None

abbrev pub are_data : Option Value → Bool
are_data None = true
are_data (Some datum) = is_data datum

-- no text has a zero byte, and what is to become data may be data
abbrev pub are_store_arguments : StoreCall → Bool
are_store_arguments call = list_all is_text (texts_of call) && are_data (data_of call)

-- the table that is the portal's own
abbrev pub own_table : List ℕ
own_table = codes "documents"

-- ---- signals

-- the change stands last among what the connection waits for, where it is the host's to the bus
abbrev pub told_change : Change → Connection → Connection
told_change change c =
    cond (is_host_bus c.who c.kind) (record c { unsent = c.unsent ++ change ∷ [] }) c

-- each open connection of the host to the bus waits for it, the caller's own included
abbrev pub tell_hosts : Change → State → State
tell_hosts change s = record s { connections = map (told_change change) s.connections }

-- the entry as it stands, where it does
abbrev pub tell_kept : Option StoredEntry → State → State
tell_kept None s = s
tell_kept (Some e) s = tell_hosts (change_of false e) s

-- ---- the call

abbrev pub identifier_of : StoreCall → List ℕ
identifier_of (Call.Lookup table id) = id
identifier_of (Call.Set table create id rows datum) = id
identifier_of (Call.Delete table id) = id
identifier_of (Call.SetValue table create id datum) = id
identifier_of (Call.SetPermission table create id app names) = id
identifier_of (Call.DeletePermission table id app) = id
identifier_of (Call.GetPermission table id app) = id
identifier_of (Call.List table) = []

abbrev pub code_of : StoreError → Code
code_of NotFound = Code.NotFound
code_of TooLong = Code.LimitsExceeded
code_of Memory = Code.Failed

-- what the tables answered; a row that isn't there is no fault, and the signal tells the entry as
-- it stands
abbrev pub store_answered : State → StoreCall → StoreAnswer → Verdict
store_answered s call (Done change) = does (tell_hosts change s) Answer.Done
store_answered s call Kept =
    does (tell_kept (entry_of s.entries (table_of call) (identifier_of call)) s) Answer.Done
store_answered s call (Entry rows datum) = does s (Answer.Entry rows datum)
store_answered s call (Names names) = does s (Answer.Names names)

abbrev pub store_verdict : State → StoreCall → Outcome → Verdict
store_verdict s call (Err error) = Refuses (code_of error)
store_verdict s call (Ok (entries, answer)) =
    store_answered (record s { entries = entries }) call answer

abbrev pub store_allowed : State → StoreCall → Verdict
store_allowed s call =
    unless (is_same (table_of call) own_table) Code.NotAllowed
    (store_verdict s call (store_call call s.entries))

-- the kind of caller, then texts and data, then the table, then what the tables refuse
abbrev pub store_request : State → Who → StoreCall → Verdict
store_request s (Who.App app) call = Refuses Code.AccessDenied
store_request s Who.Host call =
    unless (not (are_store_arguments call)) Code.InvalidArgument (store_allowed s call)

-- ---- what is allowed

-- the entry that the call needs is there, or is made
abbrev pub has_entry_for : Entries → StoreCall → Bool
has_entry_for entries (Call.Lookup table id) = is_some (entry_of entries table id)
has_entry_for entries (Call.Set table create id rows datum) =
    is_some (entry_to_set entries create table id)
has_entry_for entries (Call.Delete table id) = is_some (entry_of entries table id)
has_entry_for entries (Call.SetValue table create id datum) =
    is_some (entry_to_set entries create table id)
has_entry_for entries (Call.SetPermission table create id app names) =
    is_some (entry_to_set entries create table id)
has_entry_for entries (Call.DeletePermission table id app) = is_some (entry_of entries table id)
has_entry_for entries (Call.GetPermission table id app) = is_some (entry_of entries table id)
has_entry_for entries (Call.List table) = true

abbrev pub store_too_long : Outcome → Bool
store_too_long (Err TooLong) = true
store_too_long (Err NotFound) = false
store_too_long (Err Memory) = false
store_too_long (Ok done) = false

-- of the host
abbrev pub may_call : State → StoreCall → Bool
may_call s call =
    are_store_arguments call
    && (not (is_same (table_of call) own_table) && has_entry_for s.entries call)
