-- The signal Changed(ssbva{sas}), which tells of an entry: its values, and how long its message is.
-- The terms are those of the documentation of org.freedesktop.impl.portal.PermissionStore, where an
-- entry is of a table and an identifier.
use Rattle.std.specs.Prelude.{◌≡◌, ℕ, ◌+◌, ◌≤◌, false, true, Bool, List, [], ◌∷◌, map, codes}
use Rattle.std.specs.List.{list_any}
use Rattle.dbus_types.specs.declared.types.Endian.TheVariants.{Little}
use Rattle.dbus_types.specs.declared.types.WireType.TheVariants as W
use Rattle.dbus_types.specs.declared.types.Value.{Value, fold-Value}
use Rattle.dbus_types.specs.declared.types.Value.TheVariants as V
use Rattle.dbus_types.specs.declared.types.Value.TheOpen.{Value-F}
use Rattle.dbus_values.specs.Spells.{Spells, gap}
use Rattle.dbus_values.specs.Spelling.{spelled_length}
use Rattle.portal_model.specs.declared.records.EntryRecord.{EntryRecord}
use Rattle.portal_model.specs.declared.records.Row.{Row}

-- ---- data

abbrev pub handle_step : Value-F Bool → Bool
handle_step (Value-F.Handle n) = true
handle_step (Value-F.Variant inside) = inside
handle_step (Value-F.Array t inside) = list_any (λ b. b) inside
handle_step (Value-F.Struct inside) = list_any (λ b. b) inside
handle_step (Value-F.DictEntry key inside) = list_any (λ b. b) (key ∷ inside ∷ [])
handle_step _ = false

-- a value of type h stands in the value, or it is one
abbrev pub holds_handle : Value → Bool
holds_handle = fold-Value Bool handle_step

-- the bytes are the whole spelling of a variant, with the lowest byte of each number first, and no
-- handle is in it
pub record IsDatum (datum : Value) (bytes : List ℕ) : Type 0 where
  pub spelled : Spells Little 0 W.Variant datum bytes
  pub no_handle : holds_handle datum ≡ false

-- ---- the message

abbrev pub texts_value : List (List ℕ) → Value
texts_value texts = V.Array W.Str (map (λ t. V.Str t) texts)

abbrev pub row_value : Row → Value
row_value row = V.DictEntry (V.Str row.app) (texts_value row.names)

-- rows as a{sas}
abbrev pub rows_value : List Row → Value
rows_value rows = V.Array (W.DictEntry W.Str (W.Array W.Str)) (map row_value rows)

-- the values of the signal Changed(ssbva{sas}) of an entry with this data, which has not been
-- deleted
abbrev pub changed_value : EntryRecord → Value → Value
changed_value entry datum = V.Struct (V.Str entry.table ∷ V.Str entry.id ∷ V.Bool false ∷ datum
    ∷ rows_value entry.rows ∷ [])

-- a field of a message's header with its code: D-Bus Specification, "Header Fields"
abbrev pub header_field : ℕ → Value → Value
header_field code value = V.Struct (V.Byte code ∷ V.Variant value ∷ [])

-- the header fields of this signal: PATH, INTERFACE, MEMBER and SIGNATURE
abbrev pub changed_fields : Value
changed_fields = V.Array (W.Struct (W.Byte ∷ W.Variant ∷ []))
    (header_field 1 (V.ObjectPath (codes "/org/freedesktop/impl/portal/PermissionStore"))
    ∷ header_field 2 (V.Str (codes "org.freedesktop.impl.portal.PermissionStore"))
    ∷ header_field 3 (V.Str (codes "Changed"))
    ∷ header_field 8 (V.Signature (codes "ssbva{sas}")) ∷ [])

-- How many bytes stand ahead of its body: 12 of the fixed fields, the array of the header fields
-- behind them, and zero bytes up to a multiple of 8. D-Bus Specification, "Message Format".
abbrev pub changed_header : ℕ
changed_header = let fields = 12 + spelled_length 12 changed_fields in fields + gap 8 fields

-- how many bytes the message of this signal has
abbrev pub changed_length : EntryRecord → Value → ℕ
changed_length entry datum = changed_header + spelled_length 0 (changed_value entry datum)

-- the longest message of a connection, in bytes
abbrev pub message_limit : ℕ
message_limit = 16777216

-- the data of an entry, with which the signal that tells of the entry is no longer than a message
-- may be
pub record HasDatum (entry : EntryRecord) (datum : Value) : Type 0 where
  pub is : IsDatum datum entry.datum
  pub told : changed_length entry datum ≤ message_limit
