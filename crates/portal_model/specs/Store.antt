-- The tables of the permission store: what they do with a call that the portal lets pass, so one of
-- the host, whose texts and data keep the rules, and whose table isn't the portal's own. The calls
-- and terms are those of the documentation of org.freedesktop.impl.portal.PermissionStore, where an
-- entry is of a table and an identifier. The data of a new entry, that a missing row is no fault,
-- and the limit are this project's own.
use Rattle.std.specs.Prelude.{ℕ, nat_le, List, [], ◌∷◌, ◌++◌, map, Bool, true, false, not, ◌&&◌, cond, Option, Some, None, is_some, Result, Ok, Err}
use Rattle.std.specs.List.{filter, find, list_any}
use Rattle.dbus_types.specs.declared.types.Endian.TheVariants.{Little}
use Rattle.dbus_types.specs.declared.types.Value.{Value}
use Rattle.dbus_types.specs.declared.types.Value.TheVariants as V
use Rattle.dbus_values.specs.Spelling.{spelling}
use Rattle.portal_base.specs.Names.{is_same}
use Rattle.portal_model.specs.declared.records.EntryRecord.{EntryRecord}
use Rattle.portal_model.specs.declared.records.Row.{Row}
use Rattle.portal_model.specs.declared.reply.Change.{Change}
use Rattle.portal_model.specs.declared.store.StoreAnswer.{StoreAnswer}
use Rattle.portal_model.specs.declared.store.StoreAnswer.TheVariants.{Done, Kept, Entry, Names}
use Rattle.portal_model.specs.declared.store.StoreCall.{StoreCall}
use Rattle.portal_model.specs.declared.store.StoreCall.TheVariants as Call
use Rattle.portal_model.specs.declared.store.StoredEntry.{StoredEntry}
use Rattle.portal_model.specs.declared.store.StoreError.{StoreError}
use Rattle.portal_model.specs.declared.store.StoreError.TheVariants.{NotFound, TooLong}
use Rattle.portal_model.specs.Changed.{changed_length, message_limit}
use Rattle.portal_model.specs.Ordered.{bytes_less, put_all}
use Rattle.portal_model.specs.RecordChanges.{change_first}
use Rattle.portal_model.specs.Rows.{stored_rows, with_row, without_row, row_of, permissions_of}

-- all entries of all tables, in order of creation
abbrev pub Entries : Type 0
Entries = List StoredEntry

-- the entries after a call, and its answer; or why it is refused, which leaves the entries as they
-- were
abbrev pub Outcome : Type 0
Outcome = Result (Entries × StoreAnswer) StoreError

-- ---- one entry

abbrev pub is_entry_of : List ℕ → List ℕ → StoredEntry → Bool
is_entry_of table id e = is_same e.table table && is_same e.id id

abbrev pub entry_of : Entries → List ℕ → List ℕ → Option StoredEntry
entry_of entries table id = find (is_entry_of table id) entries

-- a new one has the byte 0 as data, and no row
abbrev pub new_entry : List ℕ → List ℕ → StoredEntry
new_entry table id = record { table = table; id = id; datum = V.Byte 0; rows = [] }

abbrev pub has_row : List ℕ → StoredEntry → Bool
has_row app e = is_some (row_of e.rows app)

abbrev pub with_permissions : List ℕ → List (List ℕ) → StoredEntry → StoredEntry
with_permissions app names e =
    record e { rows = with_row (record { app = app; names = names }) e.rows }

abbrev pub without_permissions : List ℕ → StoredEntry → StoredEntry
without_permissions app e = record e { rows = without_row app e.rows }

-- the record that is kept of an entry, with its data spelled as a variant
abbrev pub record_of : StoredEntry → EntryRecord
record_of e = record {
  table = e.table;
  id = e.id;
  datum = spelling Little 0 (V.Variant e.datum);
  rows = e.rows;
}

-- the signal Changed that tells of the entry is no longer than a message may be
abbrev pub can_be_told : StoredEntry → Bool
can_be_told e = nat_le (changed_length (record_of e) (V.Variant e.datum)) message_limit

abbrev pub change_of : Bool → StoredEntry → Change
change_of deleted e =
    record { table = e.table; id = e.id; deleted = deleted; datum = e.datum; rows = e.rows }

-- ---- what becomes of the entries

-- the entry in place of the one of its table and identifier, or else behind the others
abbrev pub put_entry : StoredEntry → Entries → Entries
put_entry e entries =
    cond (list_any (is_entry_of e.table e.id) entries)
    (change_first (is_entry_of e.table e.id) (λ _. e) entries)
    (entries ++ e ∷ [])

abbrev pub without_entry : List ℕ → List ℕ → Entries → Entries
without_entry table id entries = filter (λ e. not (is_entry_of table id e)) entries

-- the entry has this content from now on, and the signal tells it
abbrev pub becomes : StoredEntry → Entries → Outcome
becomes e entries = Ok (put_entry e entries, Done (change_of false e))

-- the same, where it can be told, and else it is too long
abbrev pub becomes_if_told : StoredEntry → Entries → Outcome
becomes_if_told e entries = cond (can_be_told e) (becomes e entries) (Err TooLong)

-- what a call does with its entry, which has to be there
abbrev pub with_entry : Option StoredEntry → (StoredEntry → Outcome) → Outcome
with_entry None does = Err NotFound
with_entry (Some e) does = does e

-- the entry of a call that sets something: with `create` a new one where there is none
abbrev pub or_new : Bool → StoredEntry → Option StoredEntry → Option StoredEntry
or_new create new (Some e) = Some e
or_new create new None = cond create (Some new) None

abbrev pub entry_to_set : Entries → Bool → List ℕ → List ℕ → Option StoredEntry
entry_to_set entries create table id =
    or_new create (new_entry table id) (entry_of entries table id)

-- ---- the calls

-- rows and data
abbrev pub lookup : Entries → List ℕ → List ℕ → Outcome
lookup entries table id =
    with_entry (entry_of entries table id) (λ e. Ok (entries, Entry e.rows e.datum))

-- replaces rows and data
abbrev pub set : Entries → List ℕ → Bool → List ℕ → List Row → Value → Outcome
set entries table create id rows datum =
    with_entry (entry_to_set entries create table id)
    (λ e. becomes_if_told (record e { rows = stored_rows rows; datum = datum }) entries)

-- a deletion tells the rows and the data that go
abbrev pub delete : Entries → List ℕ → List ℕ → Outcome
delete entries table id =
    with_entry (entry_of entries table id)
    (λ e. Ok (without_entry table id entries, Done (change_of true e)))

-- replaces the data, keeps the rows
abbrev pub set_value : Entries → List ℕ → Bool → List ℕ → Value → Outcome
set_value entries table create id datum =
    with_entry (entry_to_set entries create table id)
    (λ e. becomes_if_told (record e { datum = datum }) entries)

-- replaces the row of one application, keeps the data
abbrev pub set_permission : Entries → List ℕ → Bool → List ℕ → List ℕ → List (List ℕ) → Outcome
set_permission entries table create id app names =
    with_entry (entry_to_set entries create table id)
    (λ e. becomes_if_told (with_permissions app names e) entries)

-- The row of one application goes; a missing one is no fault. An entry that could be told can still
-- be told: it has a row less.
abbrev pub delete_permission : Entries → List ℕ → List ℕ → List ℕ → Outcome
delete_permission entries table id app =
    with_entry (entry_of entries table id)
    (λ e. cond (has_row app e) (becomes (without_permissions app e) entries) (Ok (entries, Kept)))

-- no permissions where the application has no row
abbrev pub get_permission : Entries → List ℕ → List ℕ → List ℕ → Outcome
get_permission entries table id app =
    with_entry (entry_of entries table id)
    (λ e. Ok (entries, Names (permissions_of e.rows app)))

abbrev pub is_in_table : List ℕ → StoredEntry → Bool
is_in_table table e = is_same e.table table

-- the identifiers of a table, in byte order: none of a table without entries
abbrev pub ids_of : List ℕ → Entries → List (List ℕ)
ids_of table entries = put_all bytes_less (map (λ e. e.id) (filter (is_in_table table) entries))

abbrev pub list : Entries → List ℕ → Outcome
list entries table = Ok (entries, Names (ids_of table entries))

-- each call with its arguments
abbrev pub store_call : StoreCall → Entries → Outcome
store_call (Call.Lookup table id) entries = lookup entries table id
store_call (Call.Set table create id rows datum) entries = set entries table create id rows datum
store_call (Call.Delete table id) entries = delete entries table id
store_call (Call.SetValue table create id datum) entries = set_value entries table create id datum
store_call (Call.SetPermission table create id app names) entries =
    set_permission entries table create id app names
store_call (Call.DeletePermission table id app) entries = delete_permission entries table id app
store_call (Call.GetPermission table id app) entries = get_permission entries table id app
store_call (Call.List table) entries = list entries table
