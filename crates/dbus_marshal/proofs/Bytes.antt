-- An array of bytes, read at once.
use Rattle.std.proofs.Common.{◌≡◌, ℕ, zero, suc, ◌+◌, ◌-◌, ◌≤◌, List, [], ◌∷◌, length, map, Result, Ok, Err, refl, sym, ap, subst, ◌∙◌, arith}
use Rattle.dbus_types.specs.declared.types.Endian.{Endian}
use Rattle.dbus_types.specs.declared.types.WireType.{WireType, out-WireType}
use Rattle.dbus_types.specs.declared.types.WireType.TheOpen.{WireType-F}
use Rattle.dbus_types.specs.declared.types.WireType.TheVariants as W
use Rattle.dbus_types.specs.declared.types.Value.{Value}
use Rattle.dbus_types.specs.declared.types.Value.TheVariants as V
use Rattle.dbus_values.specs.Values.{array_of}
use Rattle.dbus_values.proofs.PackedBytes.{of_bytes, of_others}
use Rattle.dbus_basic.specs.declared.error.ReadError.{ReadError}
use Rattle.dbus_basic.specs.declared.error.ReadError.TheVariants.{TooDeep}
use Rattle.dbus_basic.specs.Reading.{Fails, Read}
use Rattle.dbus_basic.specs.Fields.{byte_at}
use Rattle.dbus_marshal.specs.Reads.{arrayed, flat, layer, elements, reads}
use Rattle.dbus_marshal.proofs.Depths.{reads_more, out_byte}
use Rattle.dbus_marshal.proofs.Loops.{fails_as}

byte_layer : (r : WireType → ℕ → List ℕ → Read Value) (e : Endian) (at b : ℕ) (rest : List ℕ) → layer r e WireType-F.Byte at (b ∷ rest) ≡ Ok (V.Byte b, at + 1, rest)
unfolding layer flat byte_at
byte_layer r e at b rest = refl

byte_read : (d : ℕ) (e : Endian) (t : WireType) (at b : ℕ) (rest : List ℕ) → (d ≡ 0 → ⊥) → t ≡ W.Byte → reads d e t at (b ∷ rest) ≡ Ok (V.Byte b, at + 1, rest)
byte_read d e t at b rest some is =
    reads_more d e t at (b ∷ rest) some
    ∙ (ap (λ (x : WireType-F WireType). layer (reads (d - 1) e) e x at (b ∷ rest)) (ap out-WireType is ∙ out_byte)
    ∙ byte_layer (reads (d - 1) e) e at b rest)

-- the elements are the bytes
pub bytes_read : (n d : ℕ) (e : Endian) (t : WireType) (at : ℕ) (bytes : List ℕ) → (d ≡ 0 → ⊥) → t ≡ W.Byte → length bytes ≤ n → elements n (reads d e t) at bytes ≡ Ok (map (λ b. V.Byte b) bytes)
unfolding elements
bytes_read zero d e t at [] some is le = refl
bytes_read (suc n) d e t at [] some is le = refl
bytes_read zero d e t at (b ∷ bytes) some is le = absurd (omega (arith, le))
bytes_read (suc n) d e t at (b ∷ bytes) some is le = rw (byte_read d e t at b bytes some is, bytes_read n d e t (at + 1) bytes some is (omega (arith, le))) refl

-- no byte is read where nothing may be inside
byte_deep : (n d : ℕ) (e : Endian) (t : WireType) (at b : ℕ) (bytes : List ℕ) → d ≡ 0 → length (b ∷ bytes) ≡ n → elements n (reads d e t) at (b ∷ bytes) ≡ Err (TooDeep at)
unfolding elements reads
byte_deep zero d e t at b bytes is len = absurd (omega (arith, len))
byte_deep (suc n) zero e t at b bytes is len = refl
byte_deep (suc n) (suc d) e t at b bytes is len = absurd (omega (arith, is))

pub some_deep : (d : ℕ) (e : Endian) (t : WireType) (at : ℕ) (bytes : List ℕ) → d ≡ 0 → (bytes ≡ [] → ⊥) → elements (length bytes) (reads d e t) at bytes ≡ Err (TooDeep at)
some_deep d e t at [] is some = absurd (some refl)
some_deep d e t at (b ∷ bytes) is some = byte_deep (length (b ∷ bytes)) d e t at b bytes is refl

pub no_bytes : (n : ℕ) (r : ℕ → List ℕ → Read Value) (at : ℕ) → elements n r at [] ≡ Ok []
unfolding elements
no_bytes zero r at = refl
no_bytes (suc n) r at = refl

-- packed bytes are the array of the bytes that were read
module _ (d : ℕ) (e : Endian) (t : WireType) (at : ℕ) (slice body : List ℕ) (is : t ≡ W.Byte) (same : slice ≡ body) where
  moved : elements (length body) (reads d e t) at body ≡ elements (length slice) (reads d e W.Byte) at slice
  moved = (λ i. elements (length (sym same i)) (reads d e t) at (sym same i)) ∙ ap (λ (u : WireType). elements (length slice) (reads d e u) at slice) is

  pub packed_read : (items : List ℕ) → elements (length slice) (reads d e W.Byte) at slice ≡ Ok (map (λ b. V.Byte b) items) → arrayed t (elements (length body) (reads d e t) at body) ≡ Ok (V.Bytes items)
  packed_read items read =
      ap (arrayed t) (moved ∙ read)
      ∙ (ap (λ (u : WireType). Ok (array_of u (map (λ b. V.Byte b) items))) is ∙ ap (λ (v : Value). Ok v) (of_bytes items))

  pub packed_fails : (error : ReadError) → Fails error (elements (length slice) (reads d e W.Byte) at slice) → Fails error (arrayed t (elements (length body) (reads d e t) at body))
  packed_fails error h = fails_as error (elements (length body) (reads d e t) at body) (arrayed t) (λ k. refl) (subst (Fails error) (sym moved) h)

-- the items that were read are an array of others
pub items_arrayed : (t : WireType) (x : Result (List Value) ReadError) (vs : List Value) → (t ≡ W.Byte → ⊥) → x ≡ Ok vs → arrayed t x ≡ Ok (V.Array t vs)
items_arrayed t x vs none read = ap (arrayed t) read ∙ ap (λ (v : Value). Ok v) (of_others t vs none)
