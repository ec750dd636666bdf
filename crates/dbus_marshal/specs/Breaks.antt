-- Where bytes that spell no value of a type from an offset go wrong, and how: D-Bus Specification,
-- "Marshaling (Wire Format)". The fields are looked at from the left: those ahead of the break are
-- spelled, and here one isn't.
use Rattle.std.specs.Prelude.{◌≡◌, ℕ, zero, suc, ◌+◌, ◌^◌, ◌<◌, ◌≤◌, ◌⊎◌, List, [], ◌∷◌, ◌++◌, length, replicate}
use Rattle.std.specs.Int.{Width, w32, byte_len}
use mir.Val.{bits}
use Rattle.dbus_types.specs.declared.types.Endian.{Endian}
use Rattle.dbus_types.specs.declared.types.WireType.{WireType, out-WireType}
use Rattle.dbus_types.specs.declared.types.WireType.TheOpen.{WireType-F}
use Rattle.dbus_types.specs.declared.types.Value.{Value}
use Rattle.dbus_types.specs.Breaks.{IsBadAt, IsTooDeepAt, IsNoTypeAt, IsTypeTooDeepAt}
use Rattle.dbus_types.specs.Types.{alignment, type_text, IsVariantType}
use Rattle.dbus_values.specs.Values.{IsText, IsSignatureText}
use Rattle.dbus_basic.specs.declared.error.ReadError.{ReadError}
use Rattle.dbus_basic.specs.declared.error.ReadError.TheVariants.{Short, Padding, BadBool, BadText, TooLong, BadSignature, TooDeep, BadArray}
use Rattle.dbus_values.specs.Spells.{number, gap, IsPath, Elements, NoneInside, SpellsWithin}

-- from this offset these bytes go wrong so
abbrev pub Break : Type 1
Break = ℕ → List ℕ → ReadError → Type 0

-- nothing goes wrong
abbrev pub Never : Break
Never at bytes error = ⊥

-- a field of so many bytes: they end inside it
abbrev pub Ends : ℕ → Break
Ends n at bytes error = (length bytes < n) × (error ≡ Short at)

-- behind a front, of which Front holds, the rest goes wrong
abbrev pub Behind : (List ℕ → Type 0) → Break → Break
Behind Front Rest at bytes error = (front rest : List ℕ) × (bytes ≡ front ++ rest) × Front front
    × Rest (at + length front) rest error

-- so many zero bytes: the bytes end among them, or one of them isn't zero
abbrev pub ZerosBreak : ℕ → Break
ZerosBreak n at bytes error = (k : ℕ) × (k < n)
    × (((bytes ≡ replicate k 0) × (error ≡ Short (at + k)))
    ⊎ ((b : ℕ) × (rest : List ℕ) × (bytes ≡ replicate k 0 ++ suc b ∷ rest)
    × (error ≡ Padding (at + k))))

-- zero bytes from the offset to the alignment, and then a body
abbrev pub AlignedBreaks : ℕ → Break → Break
AlignedBreaks to Body at bytes error = ZerosBreak (gap to at) at bytes error
    ⊎ Behind (λ front. front ≡ replicate (gap to at) 0) Body at bytes error

-- one byte, and then what Rest says of it
abbrev pub ByteBreaks : (ℕ → Break) → Break
ByteBreaks Rest at bytes error = Ends 1 at bytes error
    ⊎ ((b : ℕ) × (rest : List ℕ) × (bytes ≡ b ∷ rest) × Rest b (at + 1) rest error)

-- a number of a width, and then what Rest says of it
abbrev pub NumberBreaks : Endian → Width → (ℕ → Break) → Break
NumberBreaks e w Rest at bytes error = Ends (byte_len w) at bytes error
    ⊎ ((n : ℕ) × (n < 2 ^ bits w) × Behind (λ front. front ≡ number e w n) (Rest n) at bytes error)

-- so many bytes, and what Rest says of them from where they begin, with those behind them
abbrev pub BytesBreak : ℕ → (List ℕ → Break) → Break
BytesBreak n Rest at bytes error = Ends n at bytes error
    ⊎ ((text rest : List ℕ) × (bytes ≡ text ++ rest) × (length text ≡ n) × Rest text at rest error)

-- the zero byte behind a text, and then the rest
abbrev pub ZeroBreaks : ReadError → Break → Break
ZeroBreaks other Rest at bytes error = Ends 1 at bytes error
    ⊎ (((b : ℕ) × (rest : List ℕ) × (bytes ≡ suc b ∷ rest) × (error ≡ other))
    ⊎ ((rest : List ℕ) × (bytes ≡ 0 ∷ rest) × Rest (at + 1) rest error))

-- a number of 32 bits that is 0 or 1
abbrev pub BoolBreaks : Endian → Break
BoolBreaks e start bytes error =
    NumberBreaks e w32 (λ n at rest error. (1 < n) × (error ≡ BadBool start)) start bytes error

-- the number of a text's bytes, the text, and a zero byte
abbrev pub TextBreaks : Endian → (List ℕ → Type 0) → Break
TextBreaks e Good = NumberBreaks e w32 (λ n. BytesBreak n (λ text at rest error.
    ((Good text → ⊥) × (error ≡ BadText at))
    ⊎ (Good text × ZeroBreaks (BadText (at + length text)) Never (at + length text) rest error)))

-- a text that is no signature, where it goes wrong
abbrev pub IsNoSignature : List ℕ → ℕ → ReadError → Type 0
IsNoSignature text at error = ((k : ℕ) × IsBadAt text k × (error ≡ BadSignature (at + k)))
    ⊎ ((k : ℕ) × IsTooDeepAt text k × (error ≡ TooDeep (at + k)))

-- a text that isn't that of one type, where it goes wrong
abbrev pub IsNoType : List ℕ → ℕ → ReadError → Type 0
IsNoType text at error = ((k : ℕ) × IsNoTypeAt text k × (error ≡ BadSignature (at + k)))
    ⊎ ((k : ℕ) × IsTypeTooDeepAt text k × (error ≡ TooDeep (at + k)))

-- the number of a signature's bytes in one byte, the signature, and a zero byte
abbrev pub SignatureBreaks : Break
SignatureBreaks = ByteBreaks (λ n. BytesBreak n (λ text at rest error. IsNoSignature text at error
    ⊎ (IsSignatureText text × ZeroBreaks (BadSignature (at + length text)) Never
    (at + length text) rest error)))

-- the signature of one type, as a signature is spelled, and then a value of that type
abbrev pub VariantBreaks : (WireType → Break) → Break
VariantBreaks B = ByteBreaks (λ n. BytesBreak n (λ text at rest error. IsNoType text at error
    ⊎ ((t : WireType) × IsVariantType t × (text ≡ type_text t)
    × ZeroBreaks (BadSignature (at + length text)) (B t) (at + length text) rest error)))

-- one after another: the first goes wrong, or it is spelled and the others go wrong
abbrev pub MembersBreak : (WireType → ℕ → Value → List ℕ → Type 0) → (WireType → Break)
    → List WireType → Break
MembersBreak S B [] at bytes error = ⊥
MembersBreak S B (t ∷ ts) at bytes error = B t at bytes error
    ⊎ ((v : Value) × Behind (S t at v) (MembersBreak S B ts) at bytes error)

-- a field that the bytes of an array end in doesn't fit the array
abbrev pub array_error : ReadError → ReadError
array_error (Short at) = BadArray at
array_error e = e

-- the bytes of an array's elements: some are spelled, and the next goes wrong
abbrev pub ElementsBreak : (WireType → ℕ → Value → List ℕ → Type 0) → (WireType → Break) → WireType
    → Break
ElementsBreak S B t at bytes error = (vs : List Value)
    × Behind (Elements S t vs at) (λ next rest error.
    (inner : ReadError) × (0 < length rest) × B t next rest inner × (error ≡ array_error inner))
    at bytes error

-- the number of the elements' bytes, at most 64 MiB; the padding ahead of the first; as many bytes;
-- and then the elements in them
abbrev pub ArrayBreaks : (WireType → ℕ → Value → List ℕ → Type 0) → (WireType → Break) → Endian
    → WireType → Break
ArrayBreaks S B e t start bytes error = NumberBreaks e w32 (λ n at rest error.
    ((67_108_864 < n) × (error ≡ TooLong start))
    ⊎ ((n ≤ 67_108_864) × AlignedBreaks (alignment t) (BytesBreak n (λ body at rest error.
    ElementsBreak S B t at body error)) at rest error)) start bytes error

-- the rows of Spells, where S says what spells the values inside, and B where those go wrong; no
-- struct is without members
abbrev pub RowBreaks : (WireType → ℕ → Value → List ℕ → Type 0) → (WireType → Break) → Endian
    → WireType-F WireType → Break
RowBreaks S B e WireType-F.Byte = Ends 1
RowBreaks S B e WireType-F.Bool = AlignedBreaks 4 (BoolBreaks e)
RowBreaks S B e WireType-F.I16 = AlignedBreaks 2 (Ends 2)
RowBreaks S B e WireType-F.U16 = AlignedBreaks 2 (Ends 2)
RowBreaks S B e WireType-F.I32 = AlignedBreaks 4 (Ends 4)
RowBreaks S B e WireType-F.U32 = AlignedBreaks 4 (Ends 4)
RowBreaks S B e WireType-F.I64 = AlignedBreaks 8 (Ends 8)
RowBreaks S B e WireType-F.U64 = AlignedBreaks 8 (Ends 8)
RowBreaks S B e WireType-F.Double = AlignedBreaks 8 (Ends 8)
RowBreaks S B e WireType-F.Handle = AlignedBreaks 4 (Ends 4)
RowBreaks S B e WireType-F.Str = AlignedBreaks 4 (TextBreaks e IsText)
RowBreaks S B e WireType-F.ObjectPath = AlignedBreaks 4 (TextBreaks e IsPath)
RowBreaks S B e WireType-F.Signature = SignatureBreaks
RowBreaks S B e WireType-F.Variant = VariantBreaks B
RowBreaks S B e (WireType-F.Array t) = AlignedBreaks 4 (ArrayBreaks S B e t)
RowBreaks S B e (WireType-F.Struct []) = λ at bytes error. error ≡ BadSignature at
RowBreaks S B e (WireType-F.Struct (t ∷ ts)) = AlignedBreaks 8 (MembersBreak S B (t ∷ ts))
RowBreaks S B e (WireType-F.DictEntry t u) = AlignedBreaks 8 (MembersBreak S B (t ∷ u ∷ []))

-- a value that would stand in too many others goes wrong where it would begin
abbrev pub TooDeepInside : WireType → Break
TooDeepInside t at bytes error = error ≡ TooDeep at

-- where bytes go wrong in which each value stands in at most so many arrays, structs, dict entries
-- and variants
unfoldable pub BreaksWithin : ℕ → Endian → WireType → Break
BreaksWithin zero e t = RowBreaks NoneInside TooDeepInside e (out-WireType t)
BreaksWithin (suc n) e t = RowBreaks (SpellsWithin n e) (BreaksWithin n e) e (out-WireType t)

-- From the offset the bytes spell no value of the type: they go wrong first with this error.
abbrev pub Breaks : Endian → ℕ → WireType → List ℕ → ReadError → Type 0
Breaks e at t bytes error = BreaksWithin 64 e t at bytes error
