-- Messages as they are written: D-Bus Specification, "Message Format" and "Header Fields".
use Rattle.std.specs.Prelude.{◌≡◌, ◌≢◌, ℕ, ◌+◌, ◌^◌, ◌<◌, ◌≤◌, ◌==◌, List, [], ◌∷◌, ◌++◌, length, map, replicate, Option, Some, None, IsTrue, All}
use Rattle.std.specs.List.{after_last}
use Rattle.std.specs.Int.{w32}
use Rattle.dbus_types.specs.declared.types.Endian.TheVariants.{Little}
use Rattle.dbus_types.specs.declared.types.WireType.TheVariants as W
use Rattle.dbus_types.specs.declared.types.Value.{Value}
use Rattle.dbus_types.specs.declared.types.Value.TheVariants as V
use Rattle.dbus_types.specs.Names.{is_path, is_interface_name, is_member_name}
use Rattle.dbus_types.specs.Types.{types_text}
use Rattle.dbus_values.specs.Values.{type_of, KeepsRules}
use Rattle.dbus_values.specs.Spells.{Spells, number, gap}
use Rattle.dbus_values.specs.Spelling.{spelling, spellings}
use Rattle.dbus_types.specs.declared.message.Message.{Message}
use Rattle.dbus_types.specs.declared.message.OutMessage.{OutMessage}
use Rattle.dbus_types.specs.declared.message.OutMessage.TheVariants.{Return, Error, Signal}
use Rattle.dbus_message.specs.Fields.{field_type, path_code, interface_code, member_code, error_name_code, reply_serial_code, signature_code, return_kind, error_kind, signal_kind}
use Rattle.dbus_message.specs.Content.{IsBody}

-- a field with its code
abbrev pub field : ℕ → Value → Value
field code v = V.Struct (V.Byte code ∷ V.Variant v ∷ [])

-- the field SIGNATURE of a body
abbrev pub signature_field : List Value → Value
signature_field body = field signature_code (V.Signature (types_text (map type_of body)))

-- the part of a name after its last `.`, or the whole name where there is none
abbrev pub last_part : List ℕ → List ℕ
last_part name = after_last (λ b. b == 46) name

abbrev pub kind_out : OutMessage → ℕ
kind_out (Return to body) = return_kind
kind_out (Error to name) = error_kind
kind_out (Signal path interface member body) = signal_kind

-- the values of the body; an error says the last part of its name
abbrev pub body_out : OutMessage → List Value
body_out (Return to body) = body
body_out (Error to name) = V.Str (last_part name) ∷ []
body_out (Signal path interface member body) = body

-- a return without a body has no signature
abbrev pub return_fields : ℕ → List Value → List Value
return_fields to [] = field reply_serial_code (V.U32 to) ∷ []
return_fields to (v ∷ vs) = field reply_serial_code (V.U32 to) ∷ signature_field (v ∷ vs) ∷ []

-- the fields, in rising order of their codes
abbrev pub fields_out : OutMessage → List Value
fields_out (Return to body) = return_fields to body
fields_out (Error to name) = field error_name_code (V.Str name) ∷ field reply_serial_code (V.U32 to)
    ∷ signature_field (V.Str (last_part name) ∷ []) ∷ []
fields_out (Signal path interface member body) = field path_code (V.ObjectPath path)
    ∷ field interface_code (V.Str interface) ∷ field member_code (V.Str member)
    ∷ signature_field body ∷ []

-- a little-endian message of version 1, with the flag that no reply is expected: its type, its
-- serial, the bytes of its fields, and those of its body
abbrev pub laid : ℕ → ℕ → List ℕ → List ℕ → List ℕ
laid kind serial fields body = 108 ∷ kind ∷ 1 ∷ 1
    ∷ (number Little w32 (length body)
    ++ (number Little w32 serial ++ (fields ++ (replicate (gap 8 (12 + length fields)) 0 ++ body))))

-- The bytes are the one spelling of the message with a serial.
abbrev pub IsWritten : OutMessage → ℕ → List ℕ → Type 0
IsWritten out serial bytes = (fields body : List ℕ)
    × Spells Little 12 (W.Array field_type) (V.Array field_type (fields_out out)) fields
    × IsBody Little (map type_of (body_out out)) (body_out out) body
    × (bytes ≡ laid (kind_out out) serial fields body)

-- The bytes of the message with a serial: those of the array of its fields, from byte 12 on, and
-- those of its body's values, one after another.
abbrev pub message_bytes : OutMessage → ℕ → List ℕ
message_bytes out serial = laid (kind_out out) serial
    (spelling Little 12 (V.Array field_type (fields_out out))) (spellings Little 0 (body_out out))

-- the same up to the body, whose length is still to be put in
abbrev pub front_bytes : OutMessage → ℕ → List ℕ
front_bytes out serial =
    laid (kind_out out) serial (spelling Little 12 (V.Array field_type (fields_out out))) []

-- The values of a body keep the rules, and their types have a signature.
abbrev pub IsGoodBody : List Value → Type 0
IsGoodBody body = All KeepsRules body × (length (types_text (map type_of body)) ≤ 255)

-- the parts of the message are of their kinds
abbrev pub KeepsKinds : OutMessage → Type 0
KeepsKinds (Return to body) = (to < 2 ^ 32) × IsGoodBody body
KeepsKinds (Error to name) = (to < 2 ^ 32) × IsTrue (is_interface_name name)
KeepsKinds (Signal path interface member body) = IsTrue (is_path path)
    × IsTrue (is_interface_name interface) × IsTrue (is_member_name member) × IsGoodBody body

-- The message may be written with the serial: its parts are of their kinds, and it is no longer
-- than a message may be.
abbrev pub CanWrite : OutMessage → ℕ → Type 0
CanWrite out serial = (serial ≢ 0) × KeepsKinds out
    × (length (message_bytes out serial) ≤ 16_777_216)

abbrev pub path_out : OutMessage → Option (List ℕ)
path_out (Signal path interface member body) = Some path
path_out _ = None

abbrev pub interface_out : OutMessage → Option (List ℕ)
interface_out (Signal path interface member body) = Some interface
interface_out _ = None

abbrev pub member_out : OutMessage → Option (List ℕ)
member_out (Signal path interface member body) = Some member
member_out _ = None

abbrev pub error_out : OutMessage → Option (List ℕ)
error_out (Error to name) = Some name
error_out _ = None

abbrev pub reply_out : OutMessage → Option ℕ
reply_out (Return to body) = Some to
reply_out (Error to name) = Some to
reply_out (Signal path interface member body) = None

-- the message that is read where this one was written with the serial
abbrev pub stands_for : OutMessage → ℕ → Message
stands_for out serial = record {
  endian = Little;
  kind = kind_out out;
  flags = 1;
  serial = serial;
  path = path_out out;
  interface = interface_out out;
  member = member_out out;
  error = error_out out;
  reply_serial = reply_out out;
  signature = map type_of (body_out out);
  fds = 0;
  body = body_out out;
}
