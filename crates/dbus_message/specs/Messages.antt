-- What a message says, and what is answered of bytes: D-Bus Specification, "Message Format".
use Rattle.std.specs.Prelude.{◌≡◌, ◌⊎◌, ℕ, ◌≤◌, ◌<◌, ◌==◌, List, length, IsTrue, Result, Ok, Err, unwrap_or}
use Rattle.std.specs.List.{list_all}
use Rattle.portal_base.specs.declared.split.Split.{Split}
use Rattle.portal_base.specs.declared.split.Split.TheVariants as S
use Rattle.dbus_types.specs.declared.types.Value.{Value}
use Rattle.dbus_types.specs.declared.message.Message.{Message}
use Rattle.dbus_message.specs.declared.error.MessageError.{MessageError}
use Rattle.dbus_message.specs.declared.error.MessageError.TheVariants.{Bad, Memory}
use Rattle.dbus_message.specs.Header.{endian_of, kind_of, flags_of, serial_of, stated_len, padding_bytes, body_bytes}
use Rattle.dbus_message.specs.Fields.{AreFieldsOf, path_code, interface_code, member_code, error_name_code, reply_serial_code, signature_code, unix_fds_code, are_good, has_needed, text_of, number_of}
use Rattle.dbus_message.specs.Content.{IsContent}
use Rattle.dbus_message.specs.Rules.{IsWhole, KeepsHeader, IsFirstBroken}

-- what the fixed part says
abbrev pub SaysHeader : List ℕ → Message → Type 0
SaysHeader bytes m = (m.endian ≡ endian_of bytes) × (m.kind ≡ kind_of bytes)
    × (m.flags ≡ flags_of bytes) × (m.serial ≡ serial_of bytes)

-- what the fields say
abbrev pub SaysFields : List Value → Message → Type 0
SaysFields fields m = (m.path ≡ text_of path_code fields)
    × (m.interface ≡ text_of interface_code fields) × (m.member ≡ text_of member_code fields)
    × (m.error ≡ text_of error_name_code fields)
    × (m.reply_serial ≡ number_of reply_serial_code fields)
    × (m.fds ≡ unwrap_or (number_of unix_fds_code fields) 0)

-- The bytes are the message: its header, the fields as a spelling of `a(yv)`, zero bytes up to a
-- multiple of 8, and the body as the spellings of its values; and the rules hold.
abbrev pub IsMessage : List ℕ → Message → Type 0
IsMessage bytes m = (fields : List Value) × IsWhole bytes × AreFieldsOf bytes fields
    × IsTrue (are_good fields) × IsTrue (has_needed (kind_of bytes) fields)
    × IsTrue (list_all (λ b. b == 0) (padding_bytes bytes)) × SaysHeader bytes m
    × SaysFields fields m
    × IsContent (endian_of bytes) (text_of signature_code fields) m.signature m.body
    (body_bytes bytes)

-- It is this message that is read, unless memory ran out.
abbrev pub IsReadAs : Message → Result Message MessageError → Type 0
IsReadAs m (Ok n) = n ≡ m
IsReadAs m (Err (Bad rule)) = ⊥
IsReadAs m (Err Memory) = Unit {0}

-- The rule is named, unless memory ran out.
abbrev pub IsRefusedFor : ℕ → Result Message MessageError → Type 0
IsRefusedFor rule (Ok n) = ⊥
IsRefusedFor rule (Err (Bad found)) = found ≡ rule
IsRefusedFor rule (Err Memory) = Unit {0}

-- what the reader of a message answers
abbrev pub IsReading : List ℕ → Result Message MessageError → Type 0
IsReading bytes (Ok m) = IsMessage bytes m
IsReading bytes (Err (Bad rule)) = IsFirstBroken bytes rule
IsReading bytes (Err Memory) = Unit {0}

-- What stands at the front of a stream: too few bytes for the fixed part or for what it states, a
-- message as long as it states, or bytes that break one of the first five rules.
abbrev pub IsSplit : List ℕ → Split → Type 0
IsSplit bytes S.More = (length bytes < 16)
    ⊎ ((16 ≤ length bytes) × KeepsHeader bytes × (length bytes < stated_len bytes))
IsSplit bytes (S.Whole len) = (16 ≤ length bytes) × KeepsHeader bytes × (len ≡ stated_len bytes)
    × (len ≤ length bytes)
IsSplit bytes (S.Bad rule) = (16 ≤ length bytes) × (rule ≤ 5) × IsFirstBroken bytes rule
