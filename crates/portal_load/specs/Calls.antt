-- The calls of the load: D-Bus Specification, "Message Format" and "Header Fields", and XDG Desktop
-- Portal, "org.freedesktop.portal.Documents".
use Rattle.std.specs.Prelude.{ℕ, ◌+◌, ◌%◌, ◌==◌, List, [], ◌∷◌, ◌++◌, length, replicate, codes, if◌then◌else◌}
use Rattle.std.specs.Int.{w32}
use Rattle.dbus_types.specs.declared.types.Endian.TheVariants.{Little}
use Rattle.dbus_types.specs.declared.types.WireType.TheVariants as W
use Rattle.dbus_types.specs.declared.types.Value.{Value}
use Rattle.dbus_types.specs.declared.types.Value.TheVariants as V
use Rattle.dbus_values.specs.Spells.{number, gap}
use Rattle.dbus_values.specs.Spelling.{spelling, spellings}
use Rattle.dbus_message.specs.Fields.{field_type, path_code, interface_code, member_code}
use Rattle.dbus_message.specs.Written.{field, signature_field}
use Rattle.portal_base.specs.Names.{doc_text}
use Rattle.portal_load.specs.declared.draw.Draw.{Draw}

-- ---- calls

abbrev pub documents_path : List ℕ
documents_path = codes "/org/freedesktop/portal/documents"

abbrev pub documents_interface : List ℕ
documents_interface = codes "org.freedesktop.portal.Documents"

-- PATH, INTERFACE, MEMBER and SIGNATURE, in rising order of their codes
abbrev pub call_fields : List ℕ → List Value → List Value
call_fields member body = field path_code (V.ObjectPath documents_path)
    ∷ field interface_code (V.Str documents_interface) ∷ field member_code (V.Str member)
    ∷ signature_field body ∷ []

-- a little-endian METHOD_CALL of version 1 without flags: its serial, the bytes of its fields, and
-- those of its body
abbrev pub laid : ℕ → List ℕ → List ℕ → List ℕ
laid serial fields body = 108 ∷ 1 ∷ 0 ∷ 1
    ∷ (number Little w32 (length body)
    ++ (number Little w32 serial ++ (fields ++ (replicate (gap 8 (12 + length fields)) 0 ++ body))))

-- a call of a member with these values
unfoldable pub call_of : ℕ → List ℕ → List Value → List ℕ
call_of serial member body = laid serial
    (spelling Little 12 (V.Array field_type (call_fields member body))) (spellings Little 0 body)

-- ---- rights

-- the four applications
abbrev pub app_name : ℕ → List ℕ
app_name app =
    if app == 0 then codes "app.a"
    else if app == 1 then codes "app.b"
    else if app == 2 then codes "app.c"
    else codes "app.d"

-- rights are granted at an even place, and revoked at an odd one
abbrev pub member_at : ℕ → List ℕ
member_at place =
    if place % 2 == 0 then codes "GrantPermissions" else codes "RevokePermissions"

abbrev pub read_and_write : Value
read_and_write = V.Array W.Str (V.Str (codes "read") ∷ V.Str (codes "write") ∷ [])

-- the document, the application and the rights
abbrev pub rights_body : Draw → List Value
rights_body draw = V.Str (doc_text draw.document) ∷ V.Str (app_name draw.app) ∷ read_and_write ∷ []

-- the call of a request, whose number is its serial
abbrev pub call_asked : ℕ → Draw → List ℕ
call_asked request draw = call_of request (member_at draw.place) (rights_body draw)
