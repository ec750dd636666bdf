-- What is told of a change can be written, where the entry that it tells of is as entries are.
use Rattle.std.proofs.Common.{◌≡◌, ℕ, suc, ◌+◌, Bool, true, false, List, [], ◌∷◌, ◌++◌, length, map, Result, Ok, Err, refl, sym, ap, subst, ◌∙◌, arith}
use Rattle.std.specs.Prelude.{IfOk, ◌&&◌, codes}
use Rattle.std.specs.Int.{w32}
use Rattle.std.specs.List.{list_all}
use Rattle.std.proofs.lemmas.Bool.{and_parts, leb-true}
use Rattle.std.proofs.lemmas.List.Elements.{All-nil, All-cons}
use Rattle.dbus_types.specs.declared.roles.Role.TheVariants.{Basic}
use Rattle.dbus_types.specs.declared.types.Endian.TheVariants.{Little}
use Rattle.dbus_types.specs.declared.types.WireType.{WireType, the_lemmas as type_lemmas}
use Rattle.dbus_types.specs.declared.types.WireType.TheVariants as W
use Rattle.dbus_types.specs.declared.types.Value.{Value, out-Value, the_lemmas}
use Rattle.dbus_types.specs.declared.types.Value.TheOpen.{Value-F}
use Rattle.dbus_types.specs.declared.types.Value.TheVariants as V
use Rattle.dbus_types.specs.declared.message.OutMessage.{OutMessage}
use Rattle.dbus_types.specs.Types.{role, arrays_deep, brackets_deep, type_text, types_text}
use Rattle.dbus_values.specs.Values.{type_of, IsText, ValueKeeps, KeepsWithin, KeepsRules}
use Rattle.dbus_values.specs.Spells.{bit, gap, number}
use Rattle.dbus_values.specs.Spelling.{Spelled, spelling, spellings, spelled_length, spelled_lengths}
use Rattle.dbus_values.proofs.OneSpelling.{roll_bool}
use Rattle.dbus_types.proofs.TypeLayers.{text_array, text_entry}
use Rattle.dbus_message.specs.Fields.{field_type, signal_kind}
use Rattle.dbus_message.specs.Written.{IsGoodBody, field, fields_out, message_bytes}
use Rattle.dbus_message.proofs.WriteMessage.{whole_len}
use Rattle.portal_model.specs.declared.reply.Change.{Change}
use Rattle.portal_model.specs.declared.store.StoredEntry.{StoredEntry}
use Rattle.portal_model.specs.Changed.{changed_fields, changed_header, changed_length, changed_value, message_limit, row_value, rows_value}
use Rattle.portal_model.specs.Data.{is_data}
use Rattle.portal_model.specs.Store.{can_be_told, record_of}
use Rattle.portal_model.specs.Valid.{entry_told, has_entry_texts, has_texts, is_sound_change, is_text}
use Rattle.portal_model.proofs.SpelledEnds.{behind, number_32, on, struct-end, values-more}
use Rattle.dbus_dispatch.specs.Signals.{changed_body, signal_of}
use Rattle.dbus_calls.specs.Tables.{changed}
use Rattle.dbus_dispatch.specs.Writable.{IsChangeInUtf8, IsWritable}
use Rattle.dbus_dispatch.proofs.Bodies.{text_str, text_variant, type_array, type_str, type_variant}
use Rattle.dbus_dispatch.proofs.StoredTexts.{stored_rows_texts, stored_text}
use Rattle.dbus_dispatch.proofs.Told.{Good, good, good_rows, good_str, good_variant}

-- ---- the signature of what it carries

type_bool : (b : Bool) → type_of (V.Bool b) ≡ W.Bool
type_bool b = search the_lemmas

text_bool : type_text W.Bool ≡ 98 ∷ []
text_bool = search type_lemmas

role_bool : role W.Bool ≡ Basic
role_bool = search type_lemmas

arrays_bool : arrays_deep W.Bool ≡ 0
arrays_bool = search type_lemmas

brackets_bool : brackets_deep W.Bool ≡ 0
brackets_bool = search type_lemmas

abbrev strings : WireType
strings = W.Array W.Str

abbrev row_type : WireType
row_type = W.DictEntry W.Str strings

strings_text : type_text strings ≡ 97 ∷ 115 ∷ []
strings_text = text_array W.Str ∙ (λ i. 97 ∷ text_str i)

row_text : type_text row_type ≡ 123 ∷ 115 ∷ 97 ∷ 115 ∷ 125 ∷ []
row_text = text_entry W.Str strings ∙ (λ i. 123 ∷ (text_str i ++ (strings_text i ++ 125 ∷ [])))

rows_text : type_text (W.Array row_type) ≡ 97 ∷ 123 ∷ 115 ∷ 97 ∷ 115 ∷ 125 ∷ []
rows_text = text_array row_type ∙ (λ i. 97 ∷ row_text i)

types_are : (change : Change) → map type_of (changed_body change) ≡ W.Str ∷ W.Str ∷ W.Bool ∷ W.Variant ∷ W.Array row_type ∷ []
types_are change = λ i. type_str change.table i ∷ type_str change.id i ∷ type_bool change.deleted i ∷ type_variant change.datum i ∷ type_array row_type (map row_value change.rows) i ∷ []

texts_are : types_text (W.Str ∷ W.Str ∷ W.Bool ∷ W.Variant ∷ W.Array row_type ∷ []) ≡ changed.carries
texts_are = λ i. text_str i ++ (text_str i ++ (text_bool i ++ (text_variant i ++ (rows_text i ++ []))))

-- what the signal carries has the signature of the table
pub carries_its_signature : (change : Change) → types_text (map type_of (changed_body change)) ≡ changed.carries
carries_its_signature change = ap types_text (types_are change) ∙ texts_are

-- ---- the values keep the rules

out_bool : (b : Bool) → out-Value (V.Bool b) ≡ Value-F.Bool b
out_bool b = search the_lemmas

bool_keeps : (d : ℕ) (b : Bool) → KeepsWithin (suc d) (V.Bool b)
unfolding KeepsWithin
bool_keeps d b = subst (ValueKeeps (KeepsWithin d)) (sym (out_bool b)) tt

good_bool : (b : Bool) → Good (V.Bool b) 1
good_bool b = good (V.Bool b) W.Bool Basic 0 0 1 (type_bool b) (role_bool, arrays_bool, brackets_bool, ap length text_bool) refl (omega arith) (omega arith) (bool_keeps 63 b)

-- the parts of what a sound change tells
pub record Parts (change : Change) : Type 0 where
  pub table : IsText change.table
  pub id : IsText change.id
  pub datum : is_data change.datum ≡ true
  pub rows : list_all has_texts change.rows ≡ true
  pub told : can_be_told (entry_told change) ≡ true

parts : (change : Change) → is_sound_change change ≡ true → IsChangeInUtf8 change → Parts change
parts change h utf8 =
    let e : StoredEntry = entry_told change in
    let whole = and_parts (has_entry_texts e) (is_data e.datum && can_be_told e) h in
    let texts = and_parts (is_text e.table) (is_text e.id && list_all has_texts e.rows) whole.0 in
    let others = and_parts (is_text e.id) (list_all has_texts e.rows) texts.1 in
    let last = and_parts (is_data e.datum) (can_be_told e) whole.1 in
    record {
      table = stored_text change.table texts.0 utf8.table;
      id = stored_text change.id others.0 utf8.id;
      datum = last.0;
      rows = others.1;
      told = last.1;
    }

body_good : (change : Change) → Parts change → IsChangeInUtf8 change → IsGoodBody (changed_body change)
body_good change p utf8 =
    let rows : Value = rows_value change.rows in
    let ten : length (types_text (map type_of (changed_body change))) ≡ 10 = ap length (carries_its_signature change) in
    let after_bool : List Value = V.Variant change.datum ∷ rows ∷ [] in
    let after_id : List Value = V.Bool change.deleted ∷ after_bool in
    let after_table : List Value = V.Str change.id ∷ after_id in (
      All-cons KeepsRules (V.Str change.table) after_table (good_str change.table p.table).0
          (All-cons KeepsRules (V.Str change.id) after_id (good_str change.id p.id).0
          (All-cons KeepsRules (V.Bool change.deleted) after_bool (good_bool change.deleted).0
          (All-cons KeepsRules (V.Variant change.datum) (rows ∷ []) (good_variant change.datum p.datum).0
          (All-cons KeepsRules rows [] (good_rows change.rows (stored_rows_texts change.rows p.rows utf8.rows)).0 (All-nil KeepsRules))))),
      omega (arith, ten),
    )

-- ---- its length

bool_length : (at : ℕ) (b : Bool) → at + (gap 4 at + 4) ≡ at + spelled_length at (V.Bool b)
bool_length at b =
    let whole : at + spelled_length at (V.Bool b) ≡ (at + gap 4 at) + length (number Little w32 (bit b)) = ap (λ (s : Spelled). at + length (s.1 at)) (roll_bool Little b) ∙ behind 4 (λ start. number Little w32 (bit b)) at in
    omega (arith, whole, number_32 (bit b))

-- Whether an entry is gone makes no difference to the length.
bool_same : (at : ℕ) (b : Bool) (rest : List Value) → spelled_lengths at (V.Bool b ∷ rest) ≡ spelled_lengths at (V.Bool false ∷ rest)
bool_same at b rest =
    let next : ℕ = at + (gap 4 at + 4) in
    omega (arith, on at next (V.Bool b) rest (bool_length at b), on at next (V.Bool false) rest (bool_length at false))

behind_one : (at : ℕ) (v : Value) (xs ys : List Value) → ((next : ℕ) → spelled_lengths next xs ≡ spelled_lengths next ys) → spelled_lengths at (v ∷ xs) ≡ spelled_lengths at (v ∷ ys)
behind_one at v xs ys h = omega (arith, values-more at v xs, values-more at v ys, h (at + spelled_length at v))

told_value : Change → Value
told_value change = changed_value (record_of (entry_told change)) (V.Variant change.datum)

body_length : (change : Change) → spelled_lengths 0 (changed_body change) ≡ spelled_length 0 (told_value change)
unfolding told_value
body_length change =
    let rest : List Value = V.Variant change.datum ∷ rows_value change.rows ∷ [] in
    let gone : List Value = V.Bool change.deleted ∷ rest in
    let kept : List Value = V.Bool false ∷ rest in
    let both : List Value = V.Str change.table ∷ V.Str change.id ∷ kept in
    let same : spelled_lengths 0 (changed_body change) ≡ spelled_lengths 0 both = behind_one 0 (V.Str change.table) (V.Str change.id ∷ gone) (V.Str change.id ∷ kept) (λ at. behind_one at (V.Str change.id) gone kept (λ next. bool_same next change.deleted rest)) in
    let whole : 0 + spelled_lengths 0 both ≡ 0 + spelled_length 0 (V.Struct both) = struct-end 0 both in
    omega (arith, same, whole)

fields_are : (change : Change) → V.Array field_type (fields_out (signal_of change)) ≡ changed_fields
fields_are change =
    ap (λ (text : List ℕ). V.Array field_type (field 1 (V.ObjectPath (codes "/org/freedesktop/impl/portal/PermissionStore")) ∷ field 2 (V.Str (codes "org.freedesktop.impl.portal.PermissionStore")) ∷ field 3 (V.Str (codes "Changed")) ∷ field 8 (V.Signature text) ∷ [])) (carries_its_signature change)

signal_length : (change : Change) (serial : ℕ) → length (message_bytes (signal_of change) serial) ≡ changed_length (record_of (entry_told change)) (V.Variant change.datum)
unfolding told_value
signal_length change serial =
    let F : List ℕ = spelling Little 12 (V.Array field_type (fields_out (signal_of change))) in
    let B : List ℕ = spellings Little 0 (changed_body change) in
    let fields : length F ≡ spelled_length 12 changed_fields = ap (λ (v : Value). spelled_length 12 v) (fields_are change) in
    let whole : length (message_bytes (signal_of change) serial) ≡ 12 + length F + gap 8 (12 + length F) + length B = whole_len signal_kind serial F B in
    let moved : length (message_bytes (signal_of change) serial) ≡ changed_header + length B = subst (λ (n : ℕ). length (message_bytes (signal_of change) serial) ≡ 12 + n + gap 8 (12 + n) + length B) fields whole in
    moved ∙ ap (λ (n : ℕ). changed_header + n) (body_length change)

-- ---- the signal

signal_can : (change : Change) → is_sound_change change ≡ true → IsChangeInUtf8 change → IsWritable (signal_of change)
signal_can change h utf8 serial some small =
    let p : Parts change = parts change h utf8 in (
      some,
      (refl, refl, refl, body_good change p utf8),
      omega (arith, signal_length change serial, leb-true (changed_length (record_of (entry_told change)) (V.Variant change.datum)) message_limit p.told),
    )

pub signal_writes : {E : Type 0} (r : Result OutMessage E) (change : Change) → IfOk r (λ signal. signal ≡ signal_of change) → is_sound_change change ≡ true → IfOk r (λ signal. IsChangeInUtf8 change) → IfOk r IsWritable
signal_writes (Ok signal) change is h utf8 = subst IsWritable (sym is) (signal_can change h utf8)
signal_writes (Err e) change is h utf8 = tt
