-- The fields in a message's header: D-Bus Specification, "Message Format", "Header Fields".
use Rattle.std.specs.Prelude.{ℕ, Bool, true, false, ◌&&◌, ◌==◌, nat_le, List, [], ◌∷◌, length, find, filter, Option, Some, None, option_and_then, if◌then◌else◌, is_some}
use Rattle.std.specs.List.{list_all}
use Rattle.dbus_types.specs.declared.types.WireType.TheVariants as W
use Rattle.dbus_types.specs.declared.types.Value.{Value, out-Value}
use Rattle.dbus_types.specs.declared.types.Value.TheVariants as V
use Rattle.dbus_types.specs.declared.types.Value.TheOpen.{Value-F}
use Rattle.dbus_types.specs.Names.{is_interface_name, is_member_name}
use Rattle.dbus_values.specs.Spells.{Spells}
use Rattle.dbus_message.specs.Header.{endian_of, field_bytes}
use Rattle.dbus_marshal.specs.Reads.{members_of, has_code_to}
-- a field is `(yv)`: a byte that is its code, and its value in a variant
pub use Rattle.dbus_marshal.specs.Reads.{field_type, field_code}

-- ---- the codes of the table

abbrev pub path_code : ℕ
path_code = 1

abbrev pub interface_code : ℕ
interface_code = 2

abbrev pub member_code : ℕ
member_code = 3

abbrev pub error_name_code : ℕ
error_name_code = 4

abbrev pub reply_serial_code : ℕ
reply_serial_code = 5

abbrev pub destination_code : ℕ
destination_code = 6

abbrev pub sender_code : ℕ
sender_code = 7

abbrev pub signature_code : ℕ
signature_code = 8

abbrev pub unix_fds_code : ℕ
unix_fds_code = 9

-- The message's fields are these: from byte 12 on stands their array, an `a(yv)`.
abbrev pub AreFieldsOf : List ℕ → List Value → Type 0
AreFieldsOf bytes fields = Spells (endian_of bytes) 12 (W.Array field_type)
    (V.Array field_type fields) (field_bytes bytes)

abbrev pub inner_of : Value-F Value → Option Value
inner_of (Value-F.Variant v) = Some v
inner_of _ = None

abbrev pub second_of : List Value → Option Value
second_of (v ∷ w ∷ []) = inner_of (out-Value w)
second_of _ = None

-- the value of a field
abbrev pub field_value : Value → Option Value
field_value f = second_of (members_of (out-Value f))

-- ---- the kinds of values

abbrev pub is_path_value : Value-F Value → Bool
is_path_value (Value-F.ObjectPath text) = true
is_path_value _ = false

abbrev pub is_text_value : (List ℕ → Bool) → Value-F Value → Bool
is_text_value good (Value-F.Str text) = good text
is_text_value good _ = false

abbrev pub is_number_value : Value-F Value → Bool
is_number_value (Value-F.U32 n) = true
is_number_value _ = false

abbrev pub is_signature_value : Value-F Value → Bool
is_signature_value (Value-F.Signature text) = true
is_signature_value _ = false

abbrev pub any_text : List ℕ → Bool
any_text text = true

-- The table of the header fields: which value may stand under which code. Of DESTINATION and SENDER
-- the text is not looked at, and a code that isn't in the table may have any value; 0 is no code.
abbrev pub is_in_table : ℕ → Value → Bool
is_in_table code v =
    if code == 0 then false
    else if code == path_code then is_path_value (out-Value v)
    else if code == interface_code then is_text_value is_interface_name (out-Value v)
    else if code == member_code then is_text_value is_member_name (out-Value v)
    else if code == error_name_code then is_text_value is_interface_name (out-Value v)
    else if code == reply_serial_code then is_number_value (out-Value v)
    else if code == destination_code then is_text_value any_text (out-Value v)
    else if code == sender_code then is_text_value any_text (out-Value v)
    else if code == signature_code then is_signature_value (out-Value v)
    else if code == unix_fds_code then is_number_value (out-Value v)
    else true

abbrev pub is_good : ℕ → Option Value → Bool
is_good code None = false
is_good code (Some v) = is_in_table code v

-- a field that the table allows
abbrev pub is_field : Value → Bool
is_field f = is_good (field_code f) (field_value f)

-- no two fields have the code
abbrev pub is_once : List Value → ℕ → Bool
is_once fields code = nat_le (length (filter (λ f. field_code f == code) fields)) 1

-- the codes of the table
abbrev pub known_codes : List ℕ
known_codes = path_code ∷ interface_code ∷ member_code ∷ error_name_code ∷ reply_serial_code
    ∷ destination_code ∷ sender_code ∷ signature_code ∷ unix_fds_code ∷ []

-- the fields whose codes aren't above those of the table
abbrev pub known : List Value → List Value
known fields = filter (has_code_to unix_fds_code) fields

-- fields that the table allows, with no known code twice
abbrev pub are_good : List Value → Bool
are_good fields = list_all is_field fields && list_all (is_once fields) known_codes

-- ---- what the fields say

-- the value under a code
abbrev pub value_of : ℕ → List Value → Option Value
value_of code fields = option_and_then field_value (find (λ f. field_code f == code) fields)

abbrev pub text_in : Value-F Value → Option (List ℕ)
text_in (Value-F.Str text) = Some text
text_in (Value-F.ObjectPath text) = Some text
text_in (Value-F.Signature text) = Some text
text_in _ = None

abbrev pub number_in : Value-F Value → Option ℕ
number_in (Value-F.U32 n) = Some n
number_in _ = None

-- the text under a code
abbrev pub text_of : ℕ → List Value → Option (List ℕ)
text_of code fields = option_and_then (λ v. text_in (out-Value v)) (value_of code fields)

-- the number under a code
abbrev pub number_of : ℕ → List Value → Option ℕ
number_of code fields = option_and_then (λ v. number_in (out-Value v)) (value_of code fields)

abbrev pub has : ℕ → List Value → Bool
has code fields = is_some (value_of code fields)

-- ---- the types of messages

abbrev pub call_kind : ℕ
call_kind = 1

abbrev pub return_kind : ℕ
return_kind = 2

abbrev pub error_kind : ℕ
error_kind = 3

abbrev pub signal_kind : ℕ
signal_kind = 4

-- A call has PATH and MEMBER, a return REPLY_SERIAL, an error ERROR_NAME and REPLY_SERIAL, and a
-- signal PATH, INTERFACE and MEMBER.
abbrev pub has_needed : ℕ → List Value → Bool
has_needed kind fields =
    if kind == call_kind then has path_code fields && has member_code fields
    else if kind == return_kind then has reply_serial_code fields
    else if kind == error_kind then has error_name_code fields && has reply_serial_code fields
    else if kind == signal_kind
    then has path_code fields && (has interface_code fields && has member_code fields)
    else true
