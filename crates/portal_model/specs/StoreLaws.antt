-- Laws of the data and the entries of the permission store, which the public functions of
-- src/store_laws.rt state.
use Rattle.std.specs.Prelude.{◌≡◌, ℕ, List, length, true}
use Rattle.dbus_types.specs.declared.types.Endian.TheVariants.{Little}
use Rattle.dbus_types.specs.declared.types.Value.{Value}
use Rattle.dbus_types.specs.declared.types.Value.TheVariants as V
use Rattle.dbus_types.specs.declared.types.WireType.TheVariants as W
use Rattle.dbus_values.specs.Spelling.{spelling}
use Rattle.dbus_values.specs.Spells.{Spells}
use Rattle.portal_model.specs.declared.records.EntryRecord.{EntryRecord}
use Rattle.portal_model.specs.declared.store.StoredEntry.{StoredEntry}
use Rattle.portal_model.specs.Changed.{HasDatum, IsDatum}
use Rattle.portal_model.specs.Data.{data_bytes, is_data}
use Rattle.portal_model.specs.Store.{record_of}
use Rattle.portal_model.specs.Valid.{has_entry_texts, is_valid_entry}

-- The test that a call's data has to pass is the rule itself: what passes is spelled as a variant,
-- with the lowest byte of each number first, and holds no handle; and what is so spelled passes.
-- Data counts as many bytes as spell it, and none where no bytes do.
pub record DataAreSpelled : Type 0 where
  pub spelled : (datum : Value) → is_data datum ≡ true →
      IsDatum (V.Variant datum) (spelling Little 0 (V.Variant datum))
  pub passes : (datum : Value) (bytes : List ℕ) → IsDatum (V.Variant datum) bytes →
      is_data datum ≡ true
  pub counted :
      (datum : Value) (bytes : List ℕ) → Spells Little 0 W.Variant (V.Variant datum) bytes →
      data_bytes datum ≡ length bytes
  pub free :
      (datum : Value) →
      ((bytes : List ℕ) → Spells Little 0 W.Variant (V.Variant datum) bytes → ⊥) →
      data_bytes datum ≡ 0

-- the entry that a record keeps, where this is its data
abbrev pub entry_of_record : EntryRecord → Value → StoredEntry
entry_of_record r datum = record { table = r.table; id = r.id; datum = datum; rows = r.rows }

-- The record of a valid entry has the entry's data, and can be told in a message; and an entry
-- whose record has it so is valid, where its texts have no zero byte. The record of what a record
-- keeps is that record.
pub record EntriesHaveRecords : Type 0 where
  pub has : (e : StoredEntry) → is_valid_entry e ≡ true →
      HasDatum (record_of e) (V.Variant e.datum)
  pub valid :
      (e : StoredEntry) → has_entry_texts e ≡ true → HasDatum (record_of e) (V.Variant e.datum) →
      is_valid_entry e ≡ true
  pub kept : (r : EntryRecord) (datum : Value) → HasDatum r (V.Variant datum) →
      record_of (entry_of_record r datum) ≡ r
