-- What tables keep, and what a call of theirs gives. The terms are those of the documentation of
-- org.freedesktop.impl.portal.PermissionStore.
use Rattle.std.specs.Prelude.{◌≡◌, ℕ, List, map, Bool, true, Option, Some, None, option_map, Result, Ok, Err}
use Rattle.std.specs.List.{All, filter, list_all, IsDistinct}
use Rattle.dbus_types.specs.declared.types.Value.{Value}
use Rattle.portal_model.specs.declared.records.Row.{Row}
use Rattle.portal_model.specs.declared.store.StoreAnswer.{StoreAnswer}
use Rattle.portal_model.specs.declared.store.StoreError.{StoreError}
use Rattle.portal_model.specs.declared.store.StoreError.TheVariants.{Memory}
use Rattle.portal_model.specs.declared.store.StoredEntry.{StoredEntry}
use Rattle.portal_model.specs.declared.store.TableEntry.{TableEntry}
use Rattle.portal_model.specs.Data.{is_data}
use Rattle.portal_model.specs.RecordChanges.{change_first}
use Rattle.portal_model.specs.Rows.{are_rows}
use Rattle.portal_model.specs.Store.{Entries, Outcome, can_be_told, is_entry_of, is_in_table, entry_of}
use Rattle.portal_model.specs.Store.{without_entry}
use Rattle.portal_model.specs.Valid.{has_entry_texts, has_texts, same_entry}

-- the data as a variant keep the rules of types and values, and hold no handle
abbrev pub IsSoundDatum : Value → Type 0
IsSoundDatum datum = is_data datum ≡ true

-- no text of the rows has a zero byte
abbrev pub have_texts : List Row → Bool
have_texts rows = list_all has_texts rows

-- what an entry keeps, however long it is
pub record IsSound (e : StoredEntry) : Type 0 where
  -- rows stand in byte order, one for each application, and none is empty
  pub rows : are_rows e.rows ≡ true
  -- no text has a zero byte
  pub texts : has_entry_texts e ≡ true
  pub datum : IsSoundDatum e.datum

-- what an entry of the tables keeps
pub record IsHeld (e : StoredEntry) : Type 0 where
  pub sound : IsSound e
  -- the signal that tells of it is no longer than a message may be
  pub told : can_be_told e ≡ true

pub record AreEntries (entries : Entries) : Type 0 where
  -- entries differ in table or identifier
  pub differ : IsDistinct same_entry entries
  pub held : All IsHeld entries

-- the identifiers of a table, in order of creation
abbrev pub ids_in_table : List ℕ → Entries → List (List ℕ)
ids_in_table table entries = map (λ e. e.id) (filter (is_in_table table) entries)

-- what its definition says, or want of memory; a refusal changes nothing
abbrev pub Gives : Outcome → Entries → Entries → Result StoreAnswer StoreError → Type 0
Gives outcome old new (Ok answer) = outcome ≡ Ok (new, answer)
Gives outcome old new (Err Memory) = new ≡ old
Gives outcome old new (Err error) = (outcome ≡ Err error) × (new ≡ old)

abbrev pub content_of : StoredEntry → TableEntry
content_of e = record { rows = e.rows; datum = e.datum }

-- what an entry has: nothing where it isn't there
abbrev pub former_of : Entries → List ℕ → List ℕ → Option TableEntry
former_of entries table id = option_map content_of (entry_of entries table id)

-- the entry of a table and an identifier with this content
abbrev pub with_content : List ℕ → List ℕ → TableEntry → StoredEntry
with_content table id former =
    record { table = table; id = id; datum = former.datum; rows = former.rows }

-- the content is one that tables hold, as what an entry had is
abbrev pub IsFormer : List ℕ → List ℕ → TableEntry → Type 0
IsFormer table id former = IsHeld (with_content table id former)

-- the entry has its former rows and data, in its place
abbrev pub restored : List ℕ → List ℕ → TableEntry → Entries → Entries
restored table id former entries =
    change_first (is_entry_of table id)
    (λ e. record e { rows = former.rows; datum = former.datum }) entries

-- it goes where it had none
abbrev pub put_back : List ℕ → List ℕ → Option TableEntry → Entries → Entries
put_back table id None entries = without_entry table id entries
put_back table id (Some former) entries = restored table id former entries
