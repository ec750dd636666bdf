-- What the first 16 bytes of a message say: D-Bus Specification, "Message Format".
use Rattle.std.specs.Prelude.{ℕ, ◌+◌, ◌==◌, List, take, drop, slice_index, if◌then◌else◌}
use Rattle.std.specs.Int.{w32}
use Rattle.dbus_types.specs.declared.types.Endian.{Endian}
use Rattle.dbus_types.specs.declared.types.Endian.TheVariants.{Little, Big}
use Rattle.dbus_basic.specs.Fields.{from_number}
use Rattle.dbus_values.specs.Spells.{gap}

-- the number of 32 bits at an offset
abbrev pub number_at : Endian → List ℕ → ℕ → ℕ
number_at e bytes at = from_number e w32 (take 4 (drop at bytes))

-- byte 0 is `B` where the highest byte of a number is first
abbrev pub endian_of : List ℕ → Endian
endian_of bytes = if slice_index bytes 0 == 66 then Big else Little

-- byte 1 is the type of the message
abbrev pub kind_of : List ℕ → ℕ
kind_of bytes = slice_index bytes 1

-- byte 2 holds the flags
abbrev pub flags_of : List ℕ → ℕ
flags_of bytes = slice_index bytes 2

-- byte 3 is the version of the protocol
abbrev pub version_of : List ℕ → ℕ
version_of bytes = slice_index bytes 3

-- from byte 4 on stands the length of the body
abbrev pub body_len : List ℕ → ℕ
body_len bytes = number_at (endian_of bytes) bytes 4

-- from byte 8 on stands the serial
abbrev pub serial_of : List ℕ → ℕ
serial_of bytes = number_at (endian_of bytes) bytes 8

-- from byte 12 on stands the array of the fields: its length, and then as many bytes
abbrev pub fields_end : List ℕ → ℕ
fields_end bytes = 16 + number_at (endian_of bytes) bytes 12

-- the body begins at the next multiple of 8
abbrev pub body_start : List ℕ → ℕ
body_start bytes = fields_end bytes + gap 8 (fields_end bytes)

-- the length of the whole message
abbrev pub stated_len : List ℕ → ℕ
stated_len bytes = body_start bytes + body_len bytes

-- the bytes of the array of the fields
abbrev pub field_bytes : List ℕ → List ℕ
field_bytes bytes = drop 12 (take (fields_end bytes) bytes)

-- the bytes between the fields and the body
abbrev pub padding_bytes : List ℕ → List ℕ
padding_bytes bytes = drop (fields_end bytes) (take (body_start bytes) bytes)

-- the bytes of the body
abbrev pub body_bytes : List ℕ → List ℕ
body_bytes bytes = drop (body_start bytes) bytes
