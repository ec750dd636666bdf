-- The pieces that values are spelled with, each read from an offset, with the first break that is
-- met: D-Bus Specification, "Marshaling (Wire Format)". What is read from is the offset and the
-- list of the bytes from there on.
use Rattle.std.specs.Prelude.{ℕ, zero, suc, ◌+◌, List, [], ◌∷◌, length, take, drop, Result, Ok, Err, nat_lt, if◌then◌else◌, Bool, true, false}
use Rattle.std.specs.Int.{Width, byte_len, from_le_bytes, from_be_bytes}
use Rattle.dbus_types.specs.declared.types.Endian.{Endian}
use Rattle.dbus_types.specs.declared.types.Endian.TheVariants.{Little, Big}
use Rattle.dbus_values.specs.Spells.{gap}
use Rattle.dbus_basic.specs.declared.error.ReadError.{ReadError}
use Rattle.dbus_basic.specs.declared.error.ReadError.TheVariants.{Short, Padding, BadBool}
use Rattle.dbus_basic.specs.Reading.{◌>>=◌, Read}

-- so many zero bytes
unfoldable pub zeros : ℕ → ℕ → List ℕ → Result (ℕ × List ℕ) ReadError
zeros zero at bytes = Ok (at, bytes)
zeros (suc n) at [] = Err (Short at)
zeros (suc n) at (zero ∷ bytes) = zeros n (at + 1) bytes
zeros (suc n) at (suc b ∷ bytes) = Err (Padding at)

abbrev pub padded : ℕ → ℕ → List ℕ → Result (ℕ × List ℕ) ReadError
padded to at bytes = zeros (gap to at) at bytes

-- so many bytes
unfoldable pub taken : ℕ → ℕ → List ℕ → Read (List ℕ)
taken n at bytes = if nat_lt (length bytes) n then Err (Short at)
    else Ok (take n bytes, at + n, drop n bytes)

abbrev pub from_number : Endian → Width → List ℕ → ℕ
from_number Little w bytes = from_le_bytes w bytes
from_number Big w bytes = from_be_bytes w bytes

unfoldable pub number_at : Endian → Width → ℕ → List ℕ → Read ℕ
number_at e w at bytes = do
  x ← taken (byte_len w) at bytes
  Ok (from_number e w x.0, x.1, x.2)

unfoldable pub byte_at : ℕ → List ℕ → Read ℕ
byte_at at [] = Err (Short at)
byte_at at (b ∷ bytes) = Ok (b, at + 1, bytes)

-- the zero byte behind a text
unfoldable pub ended : ReadError → ℕ → List ℕ → Result (ℕ × List ℕ) ReadError
ended e at [] = Err (Short at)
ended e at (zero ∷ bytes) = Ok (at + 1, bytes)
ended e at (suc b ∷ bytes) = Err e

unfoldable pub truth : ℕ → ℕ → Result Bool ReadError
truth at zero = Ok false
truth at (suc zero) = Ok true
truth at _ = Err (BadBool at)
