-- What bytes spell which value of which type, from which offset: D-Bus Specification, "Marshaling
-- (Wire Format)".
use Rattle.std.specs.Prelude.{◌≡◌, ℕ, zero, suc, ◌+◌, ◌-◌, ◌%◌, ◌^◌, ◌<◌, ◌≤◌, List, [], ◌∷◌, ◌++◌, length, replicate, Bool, true, false, IsTrue}
use Rattle.std.specs.Int.{Width, to_le_bytes, to_be_bytes, w16, w32, w64, cast_signed}
use mir.Val.{bits}
use Rattle.dbus_types.specs.declared.types.Endian.{Endian}
use Rattle.dbus_types.specs.declared.types.Endian.TheVariants.{Little, Big}
use Rattle.dbus_types.specs.declared.types.WireType.{WireType, out-WireType}
use Rattle.dbus_types.specs.declared.types.WireType.TheOpen.{WireType-F}
use Rattle.dbus_types.specs.declared.types.Value.{Value}
use Rattle.dbus_types.specs.declared.types.Value.TheVariants as V
use Rattle.dbus_types.specs.Names.{is_path}
use Rattle.dbus_types.specs.Types.{alignment, type_text, IsVariantType}
use Rattle.dbus_values.specs.Values.{IsText, IsSignatureText, array_of}

-- the bytes of a number of a width
abbrev pub number : Endian → Width → ℕ → List ℕ
number Little w n = to_le_bytes w n
number Big w n = to_be_bytes w n

-- how far an offset is from a multiple of the alignment
abbrev pub gap : ℕ → ℕ → ℕ
gap to at = (to - at % to) % to

-- zero bytes from the offset to the alignment, and then what Body says of the offset where it
-- begins
abbrev pub Aligned : ℕ → ℕ → (ℕ → List ℕ → Type 0) → List ℕ → Type 0
Aligned to at Body bytes = (rest : List ℕ) × (bytes ≡ replicate (gap to at) 0 ++ rest)
    × Body (at + gap to at) rest

-- a boolean as a number
abbrev pub bit : Bool → ℕ
bit false = 0
bit true = 1

-- a byte
abbrev pub ByteRow : Value → List ℕ → Type 0
ByteRow v bytes = (n : ℕ) × (v ≡ V.Byte n) × (n < 256) × (bytes ≡ n ∷ [])

-- a number of 32 bits that is 0 or 1
abbrev pub BoolRow : Endian → Value → ℕ → List ℕ → Type 0
BoolRow e v start bytes = (b : Bool) × (v ≡ V.Bool b) × (bytes ≡ number e w32 (bit b))

-- a number below the width's end, which the value is made of
abbrev pub NumberRow : Endian → Width → (ℕ → Value) → Value → ℕ → List ℕ → Type 0
NumberRow e w make v start bytes = (n : ℕ) × (v ≡ make n) × (n < 2 ^ bits w)
    × (bytes ≡ number e w n)

-- the number of a text's bytes, the text, and a zero byte
abbrev pub TextRow : Endian → (List ℕ → Type 0) → (List ℕ → Value) → Value → ℕ → List ℕ → Type 0
TextRow e Good make v start bytes = (text : List ℕ) × (v ≡ make text) × Good text
    × (length text < 2 ^ 32) × (bytes ≡ number e w32 (length text) ++ (text ++ 0 ∷ []))

-- a text that is the path of an object
abbrev pub IsPath : List ℕ → Type 0
IsPath text = IsText text × IsTrue (is_path text)

-- the number of a signature's bytes in one byte, the signature, and a zero byte
abbrev pub SignatureRow : Value → List ℕ → Type 0
SignatureRow v bytes = (text : List ℕ) × (v ≡ V.Signature text) × IsText text × IsSignatureText text
    × (bytes ≡ length text ∷ (text ++ 0 ∷ []))

-- one after another: the first has the first type and stands at the offset, and the others follow
-- where it ends
abbrev pub Members : (WireType → ℕ → Value → List ℕ → Type 0) → List WireType → List Value → ℕ
    → List ℕ → Type 0
Members S [] [] at bytes = bytes ≡ []
Members S (t ∷ ts) (v ∷ vs) at bytes = (first rest : List ℕ) × (bytes ≡ first ++ rest)
    × S t at v first × Members S ts vs (at + length first) rest
Members S _ _ at bytes = ⊥

-- the same with one type for all
abbrev pub Elements : (WireType → ℕ → Value → List ℕ → Type 0) → WireType → List Value → ℕ → List ℕ
    → Type 0
Elements S t [] at bytes = bytes ≡ []
Elements S t (v ∷ vs) at bytes = (first rest : List ℕ) × (bytes ≡ first ++ rest) × S t at v first
    × Elements S t vs (at + length first) rest

-- the number of the elements' bytes, at most 64 MiB and without the padding ahead of the first;
-- that padding, which stands also where there is none; and the elements
abbrev pub ArrayRow : (WireType → ℕ → Value → List ℕ → Type 0) → Endian → WireType → Value → ℕ
    → List ℕ → Type 0
ArrayRow S e t v start bytes = (vs : List Value) × (body : List ℕ) × (v ≡ array_of t vs)
    × (length body ≤ 67_108_864)
    × (bytes ≡ number e w32 (length body) ++ (replicate (gap (alignment t) (start + 4)) 0 ++ body))
    × Elements S t vs (start + 4 + gap (alignment t) (start + 4)) body

-- one or more members
abbrev pub StructRow : (WireType → ℕ → Value → List ℕ → Type 0) → List WireType → Value → ℕ → List ℕ
    → Type 0
StructRow S ts v start bytes = (vs : List Value) × (v ≡ V.Struct vs) × (0 < length ts)
    × Members S ts vs start bytes

-- as a struct of a key and a value
abbrev pub EntryRow : (WireType → ℕ → Value → List ℕ → Type 0) → WireType → WireType → Value → ℕ
    → List ℕ → Type 0
EntryRow S t u v start bytes = (k x : Value) × (v ≡ V.DictEntry k x)
    × Members S (t ∷ u ∷ []) (k ∷ x ∷ []) start bytes

-- the signature of one type, as a signature is spelled, and then a value of that type from the
-- offset that follows
abbrev pub VariantRow : (WireType → ℕ → Value → List ℕ → Type 0) → ℕ → Value → List ℕ → Type 0
VariantRow S at v bytes = (t : WireType) × (x : Value) × (rest : List ℕ) × (v ≡ V.Variant x)
    × IsVariantType t
    × (bytes ≡ length (type_text t) ∷ (type_text t ++ 0 ∷ rest))
    × S t (at + (1 + length (type_text t) + 1)) x rest

-- the rows of types with no value inside
abbrev pub Flat : Endian → WireType-F WireType → ℕ → Value → List ℕ → Type 0
Flat e WireType-F.Byte at v bytes = ByteRow v bytes
Flat e WireType-F.Bool at v bytes = Aligned 4 at (BoolRow e v) bytes
Flat e WireType-F.I16 at v bytes =
    Aligned 2 at (NumberRow e w16 (λ n. V.I16 (cast_signed w16 n)) v) bytes
Flat e WireType-F.U16 at v bytes = Aligned 2 at (NumberRow e w16 (λ n. V.U16 n) v) bytes
Flat e WireType-F.I32 at v bytes =
    Aligned 4 at (NumberRow e w32 (λ n. V.I32 (cast_signed w32 n)) v) bytes
Flat e WireType-F.U32 at v bytes = Aligned 4 at (NumberRow e w32 (λ n. V.U32 n) v) bytes
Flat e WireType-F.I64 at v bytes =
    Aligned 8 at (NumberRow e w64 (λ n. V.I64 (cast_signed w64 n)) v) bytes
Flat e WireType-F.U64 at v bytes = Aligned 8 at (NumberRow e w64 (λ n. V.U64 n) v) bytes
Flat e WireType-F.Double at v bytes = Aligned 8 at (NumberRow e w64 (λ n. V.Double n) v) bytes
Flat e WireType-F.Handle at v bytes = Aligned 4 at (NumberRow e w32 (λ n. V.Handle n) v) bytes
Flat e WireType-F.Str at v bytes = Aligned 4 at (TextRow e IsText (λ text. V.Str text) v) bytes
Flat e WireType-F.ObjectPath at v bytes =
    Aligned 4 at (TextRow e IsPath (λ text. V.ObjectPath text) v) bytes
Flat e WireType-F.Signature at v bytes = SignatureRow v bytes
Flat e _ at v bytes = ⊥

-- the rows, where S says what spells the values inside
abbrev pub Row : (WireType → ℕ → Value → List ℕ → Type 0) → Endian → WireType-F WireType → ℕ → Value
    → List ℕ → Type 0
Row S e (WireType-F.Array t) at v bytes = Aligned 4 at (ArrayRow S e t v) bytes
Row S e (WireType-F.Struct ts) at v bytes = Aligned 8 at (StructRow S ts v) bytes
Row S e (WireType-F.DictEntry t u) at v bytes = Aligned 8 at (EntryRow S t u v) bytes
Row S e WireType-F.Variant at v bytes = VariantRow S at v bytes
Row S e t at v bytes = Flat e t at v bytes

-- nothing spells a value inside
abbrev pub NoneInside : WireType → ℕ → Value → List ℕ → Type 0
NoneInside t at v bytes = ⊥

-- a spelling in which each value stands in at most so many arrays, structs, dict entries and
-- variants: in none where nothing is inside, as in an empty array
unfoldable pub SpellsWithin : ℕ → Endian → WireType → ℕ → Value → List ℕ → Type 0
SpellsWithin zero e t at v bytes = Row NoneInside e (out-WireType t) at v bytes
SpellsWithin (suc n) e t at v bytes = Row (SpellsWithin n e) e (out-WireType t) at v bytes

-- From the offset the bytes spell the value of the type: it, and each value inside, stands in at
-- most 64 arrays, structs, dict entries and variants, itself not counted.
abbrev pub Spells : Endian → ℕ → WireType → Value → List ℕ → Type 0
Spells e at t v bytes = SpellsWithin 64 e t at v bytes
