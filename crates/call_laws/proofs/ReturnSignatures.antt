-- The signatures of the bodies that are returned.
use Rattle.std.proofs.Common.{◌≡◌, ℕ, List, [], ◌∷◌, ◌++◌, map, length, ap, ◌∙◌, arith}
use Rattle.std.specs.Prelude.{codes}
use Rattle.dbus_types.specs.Types.{type_text, types_text}
use Rattle.dbus_values.specs.Values.{type_of}
use Rattle.dbus_types.specs.declared.types.Value.{Value}
use Rattle.dbus_types.specs.declared.types.Value.TheVariants as V
use Rattle.dbus_types.specs.declared.types.WireType.{WireType}
use Rattle.dbus_types.specs.declared.types.WireType.TheVariants as W
use Rattle.dbus_types.proofs.TypeLayers.{text_array, text_entry}
use Rattle.portal_model.specs.declared.records.Row.{Row}
use Rattle.portal_model.specs.declared.reply.ListedDocument.{ListedDocument}
use Rattle.portal_model.specs.Changed.{row_value, rows_value, texts_value}
use Rattle.dbus_dispatch.specs.Asks.{closed_bytes}
use Rattle.dbus_dispatch.specs.Properties.{dictionary, variant_of}
use Rattle.dbus_dispatch.specs.Replies.{documents_value, each_text, extra, listed_value}
use Rattle.dbus_calls.specs.Tables.{Property}
use Rattle.dbus_dispatch.proofs.Bodies.{text_byte, text_str, text_u32, text_variant, type_array, type_bytes, type_str, type_u32, type_variant}

abbrev pub signature : List Value → List ℕ
signature body = types_text (map type_of body)

-- ---- the texts of types

abbrev bytes : WireType
bytes = W.Array W.Byte

abbrev strings : WireType
strings = W.Array W.Str

abbrev row_type : WireType
row_type = W.DictEntry W.Str strings

abbrev listed_type : WireType
listed_type = W.DictEntry W.Str bytes

abbrev entry_type : WireType
entry_type = W.DictEntry W.Str W.Variant

bytes_text : type_text bytes ≡ codes "ay"
bytes_text = text_array W.Byte ∙ (λ i. 97 ∷ text_byte i)

strings_text : type_text strings ≡ codes "as"
strings_text = text_array W.Str ∙ (λ i. 97 ∷ text_str i)

-- an array of entries whose keys are texts
entries_text : (u : WireType) (text : List ℕ) → type_text u ≡ text → type_text (W.Array (W.DictEntry W.Str u)) ≡ 97 ∷ 123 ∷ 115 ∷ (text ++ 125 ∷ [])
entries_text u text e = text_array (W.DictEntry W.Str u) ∙ (λ i. 97 ∷ text_entry W.Str u i) ∙ (λ i. 97 ∷ 123 ∷ (text_str i ++ (e i ++ 125 ∷ [])))

rows_text : type_text (W.Array row_type) ≡ codes "a{sas}"
rows_text = entries_text strings (codes "as") strings_text

listed_text : type_text (W.Array listed_type) ≡ codes "a{say}"
listed_text = entries_text bytes (codes "ay") bytes_text

dictionary_text : type_text (W.Array entry_type) ≡ codes "a{sv}"
dictionary_text = entries_text W.Variant (codes "v") text_variant

-- ---- one value, and two

one : (v : Value) (t : WireType) (text : List ℕ) → type_of v ≡ t → type_text t ≡ text → signature (v ∷ []) ≡ text ++ []
one v t text e f = ap (λ (u : WireType). type_text u ++ []) e ∙ ap (λ (x : List ℕ). x ++ []) f

two : (v w : Value) (t u : WireType) (text more : List ℕ) → type_of v ≡ t → type_of w ≡ u → type_text t ≡ text → type_text u ≡ more → signature (v ∷ w ∷ []) ≡ text ++ (more ++ [])
two v w t u text more e f g h = (λ i. type_text (e i) ++ (type_text (f i) ++ [])) ∙ (λ i. g i ++ (h i ++ []))

-- ---- the types of values

type_closed : (path : List ℕ) → type_of (closed_bytes path) ≡ bytes
type_closed path = type_bytes (path ++ 0 ∷ [])

type_texts : (texts : List (List ℕ)) → type_of (texts_value texts) ≡ strings
type_texts texts = type_array W.Str (map (λ t. V.Str t) texts)

type_rows : (rows : List Row) → type_of (rows_value rows) ≡ W.Array row_type
type_rows rows = type_array row_type (map row_value rows)

type_extra : (mountpoint : List ℕ) → type_of (extra mountpoint) ≡ W.Array entry_type
type_extra mountpoint = type_array entry_type (V.DictEntry (V.Str (codes "mountpoint")) (V.Variant (closed_bytes mountpoint)) ∷ [])

-- ---- bodies

pub number_signature : (n : ℕ) → signature (V.U32 n ∷ []) ≡ codes "u"
number_signature n = one (V.U32 n) W.U32 (codes "u") (type_u32 n) text_u32

pub variant_signature : (v : Value) → signature (V.Variant v ∷ []) ≡ codes "v"
variant_signature v = one (V.Variant v) W.Variant (codes "v") (type_variant v) text_variant

pub path_signature : (path : List ℕ) → signature (closed_bytes path ∷ []) ≡ codes "ay"
path_signature path = one (closed_bytes path) bytes (codes "ay") (type_closed path) bytes_text

pub texts_signature : (texts : List (List ℕ)) → signature (texts_value texts ∷ []) ≡ codes "as"
texts_signature texts = one (texts_value texts) strings (codes "as") (type_texts texts) strings_text

pub info_signature : (path : List ℕ) (rows : List Row) → signature (closed_bytes path ∷ rows_value rows ∷ []) ≡ codes "aya{sas}"
info_signature path rows = two (closed_bytes path) (rows_value rows) bytes (W.Array row_type) (codes "ay") (codes "a{sas}") (type_closed path) (type_rows rows) bytes_text rows_text

pub entry_signature : (rows : List Row) (datum : Value) → signature (rows_value rows ∷ V.Variant datum ∷ []) ≡ codes "a{sas}v"
entry_signature rows datum = two (rows_value rows) (V.Variant datum) (W.Array row_type) W.Variant (codes "a{sas}") (codes "v") (type_rows rows) (type_variant datum) rows_text text_variant

pub documents_signature : (documents : List ListedDocument) → signature (documents_value documents ∷ []) ≡ codes "a{say}"
documents_signature documents = one (documents_value documents) (W.Array listed_type) (codes "a{say}") (type_array listed_type (map listed_value documents)) listed_text

pub properties_signature : (properties : List Property) → signature (dictionary properties ∷ []) ≡ codes "a{sv}"
properties_signature properties =
    one (dictionary properties) (W.Array entry_type) (codes "a{sv}") (type_array entry_type (map (λ (property : Property). V.DictEntry (V.Str property.name) (variant_of property.value)) properties)) dictionary_text

-- ---- identifiers

pub texts_and_extra : (ids : List (List ℕ)) (mountpoint : List ℕ) → signature (texts_value ids ∷ extra mountpoint ∷ []) ≡ codes "asa{sv}"
texts_and_extra ids mountpoint = two (texts_value ids) (extra mountpoint) strings (W.Array entry_type) (codes "as") (codes "a{sv}") (type_texts ids) (type_extra mountpoint) strings_text dictionary_text

pub one_text : (ids : List (List ℕ)) → length ids ≡ 1 → signature (each_text ids) ≡ codes "s"
one_text [] e = absurd cc
one_text (id ∷ []) e = one (V.Str id) W.Str (codes "s") (type_str id) text_str
one_text (id ∷ more ∷ ids) e = absurd (omega (arith, e))

pub one_text_and_extra : (ids : List (List ℕ)) (mountpoint : List ℕ) → length ids ≡ 1 → signature (each_text ids ++ extra mountpoint ∷ []) ≡ codes "sa{sv}"
one_text_and_extra [] mountpoint e = absurd cc
one_text_and_extra (id ∷ []) mountpoint e = two (V.Str id) (extra mountpoint) W.Str (W.Array entry_type) (codes "s") (codes "a{sv}") (type_str id) (type_extra mountpoint) text_str dictionary_text
one_text_and_extra (id ∷ more ∷ ids) mountpoint e = absurd (omega (arith, e))
