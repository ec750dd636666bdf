-- Arrays of bytes, which are packed: they have the type, the spelling and the rules that arrays of
-- their bytes have.
use Rattle.std.proofs.Common.{◌≡◌, ℕ, ◌+◌, ◌↔◌, List, [], ◌∷◌, ◌++◌, length, map, replicate, Bool, true, false, refl, sym, ap, subst, ◌∙◌, ◌⊎◌, inl, inr, arith}
use Rattle.std.specs.Prelude.{All, IsTrue, ◌==◌}
use Rattle.std.specs.Int.{w32}
use Rattle.std.proofs.lemmas.Bool.{ne_eqb, true≢false}
use Rattle.std.proofs.lemmas.List.Elements.{All-head, All-tail, All-cons, All-nil}
use Rattle.dbus_types.specs.declared.types.Endian.{Endian}
use Rattle.dbus_types.specs.declared.types.WireType.{WireType, out-WireType, roll-WireType, the_lemmas as type_lemmas}
use Rattle.dbus_types.specs.declared.types.WireType.TheOpen.{WireType-F}
use Rattle.dbus_types.specs.declared.types.WireType.TheVariants as W
use Rattle.dbus_types.specs.declared.types.Value.{Value, out-Value, roll-Value, the_lemmas}
use Rattle.dbus_types.specs.declared.types.Value.TheFolds.{map-Value, fold-roll-Value}
use Rattle.dbus_types.specs.declared.types.Value.TheOpen.{Value-F}
use Rattle.dbus_types.specs.declared.types.Value.TheVariants as V
use Rattle.dbus_types.specs.Types.{alignment, alignment_of}
use Rattle.dbus_values.specs.Values.{type_of, type_step, byte_in, byte_of, array_layer, array_of, nesting, nesting_step, ValueKeeps}
use Rattle.dbus_values.specs.Spells.{number, gap}
use Rattle.dbus_values.specs.Spelling.{aligned, in_row, array_body, bytes_body, Spelled, spell_step, spelled}

-- ---- which values are bytes

pub out_byte : out-WireType W.Byte ≡ WireType-F.Byte
out_byte = search type_lemmas

abbrev shape_of : Value-F Value → WireType-F WireType
shape_of (Value-F.Byte n) = WireType-F.Byte
shape_of (Value-F.Bool b) = WireType-F.Bool
shape_of (Value-F.I16 z) = WireType-F.I16
shape_of (Value-F.U16 n) = WireType-F.U16
shape_of (Value-F.I32 z) = WireType-F.I32
shape_of (Value-F.U32 n) = WireType-F.U32
shape_of (Value-F.I64 z) = WireType-F.I64
shape_of (Value-F.U64 n) = WireType-F.U64
shape_of (Value-F.Double n) = WireType-F.Double
shape_of (Value-F.Str text) = WireType-F.Str
shape_of (Value-F.ObjectPath text) = WireType-F.ObjectPath
shape_of (Value-F.Signature text) = WireType-F.Signature
shape_of (Value-F.Handle n) = WireType-F.Handle
shape_of (Value-F.Variant x) = WireType-F.Variant
shape_of (Value-F.Bytes bytes) = WireType-F.Array W.Byte
shape_of (Value-F.Array t vs) = WireType-F.Array t
shape_of (Value-F.Struct vs) = WireType-F.Struct (map type_of vs)
shape_of (Value-F.DictEntry k x) = WireType-F.DictEntry (type_of k) (type_of x)

out_layer : (f : Value-F Value) → out-WireType (type_step (map-Value Value WireType type_of f)) ≡ shape_of f
out_layer (Value-F.Bytes bytes) = search type_lemmas
out_layer (Value-F.Array t vs) = search type_lemmas
out_layer (Value-F.Struct vs) = search type_lemmas
out_layer (Value-F.DictEntry k x) = search type_lemmas
out_layer f = search type_lemmas

abbrev is_byte : WireType-F WireType → Bool
is_byte WireType-F.Byte = true
is_byte _ = false

layer_is_byte : (f : Value-F Value) → is_byte (shape_of f) ≡ true → roll-Value f ≡ V.Byte (byte_in f)
layer_is_byte (Value-F.Byte n) h = search the_lemmas
layer_is_byte f h = absurd (true≢false (sym h))

rolls : (v : Value) → roll-Value (out-Value v) ≡ v
rolls v = search the_lemmas

-- a value of the type of bytes is a byte
pub value_is_byte : (v : Value) → type_of v ≡ W.Byte → v ≡ V.Byte (byte_of v)
value_is_byte v h =
    let f : Value-F Value = out-Value v in
    let kind : type_step (map-Value Value WireType type_of f) ≡ W.Byte = sym (fold-roll-Value WireType type_step f) ∙ (ap type_of (rolls v) ∙ h) in
    sym (rolls v) ∙ layer_is_byte f (ap is_byte (sym (out_layer f) ∙ (ap out-WireType kind ∙ out_byte)))

pub byte_is : (n : ℕ) → byte_of (V.Byte n) ≡ n
byte_is n = let e : out-Value (V.Byte n) ≡ Value-F.Byte n = search the_lemmas in ap byte_in e

pub bytes_are : (vs : List Value) → All (λ v. type_of v ≡ W.Byte) vs → map (λ n. V.Byte n) (map byte_of vs) ≡ vs
bytes_are [] h = refl
bytes_are (v ∷ vs) h = λ i. sym (value_is_byte v (All-head (λ v. type_of v ≡ W.Byte) v vs h)) i ∷ bytes_are vs (All-tail (λ v. type_of v ≡ W.Byte) v vs h) i

pub numbers_are : (bytes : List ℕ) → map byte_of (map (λ n. V.Byte n) bytes) ≡ bytes
numbers_are [] = refl
numbers_are (n ∷ ns) = λ i. byte_is n i ∷ numbers_are ns i

-- ---- types that aren't that of bytes

other_type : (t : WireType) (f : WireType-F WireType) → out-WireType t ≡ f → is_byte f ≡ false → t ≡ W.Byte → ⊥
other_type t f out other is = true≢false (sym (ap is_byte (sym out ∙ (ap out-WireType is ∙ out_byte))) ∙ other)

out_text : out-WireType W.Str ≡ WireType-F.Str
out_text = search type_lemmas

out_struct : (ts : List WireType) → out-WireType (W.Struct ts) ≡ WireType-F.Struct ts
out_struct ts = search type_lemmas

out_entry : (k v : WireType) → out-WireType (W.DictEntry k v) ≡ WireType-F.DictEntry k v
out_entry k v = search type_lemmas

pub text_no_byte : W.Str ≡ W.Byte → ⊥
text_no_byte = other_type W.Str WireType-F.Str out_text refl

pub struct_no_byte : (ts : List WireType) → W.Struct ts ≡ W.Byte → ⊥
struct_no_byte ts = other_type (W.Struct ts) (WireType-F.Struct ts) (out_struct ts) refl

pub entry_no_byte : (k v : WireType) → W.DictEntry k v ≡ W.Byte → ⊥
entry_no_byte k v = other_type (W.DictEntry k v) (WireType-F.DictEntry k v) (out_entry k v) refl

-- whether there is any
pub none_there : (r : Bool) (bytes : List ℕ) → r ≡ (length bytes == 0) → IsTrue r ↔ (bytes ≡ [])
none_there r [] h = ((λ k. refl), (λ k. h))
none_there r (b ∷ bs) h =
    let some : r ≡ false = h ∙ ne_eqb (length (b ∷ bs)) 0 (λ e. omega (arith, e)) in
    ((λ k. absurd (true≢false (sym k ∙ some))), (λ k. absurd (omega (arith, ap length k))))

-- ---- the one form of an array

back : (t : WireType) → roll-WireType (out-WireType t) ≡ t
back t = search type_lemmas

roll_byte : roll-WireType WireType-F.Byte ≡ W.Byte
roll_byte = search type_lemmas

decided : (t : WireType) (f : WireType-F WireType) → out-WireType t ≡ f → (t ≡ W.Byte) ⊎ (is_byte f ≡ false)
decided t WireType-F.Byte e = inl (sym (back t) ∙ (ap roll-WireType e ∙ roll_byte))
decided t f e = inr refl

pub bytes_of : (vs : List Value) → array_of W.Byte vs ≡ V.Bytes (map byte_of vs)
bytes_of vs = ap (λ (f : WireType-F WireType). array_layer f W.Byte vs) out_byte

pub of_bytes : (bytes : List ℕ) → array_of W.Byte (map (λ n. V.Byte n) bytes) ≡ V.Bytes bytes
of_bytes bytes = bytes_of (map (λ n. V.Byte n) bytes) ∙ ap (λ (ns : List ℕ). V.Bytes ns) (numbers_are bytes)

other_layer : (f : WireType-F WireType) (t : WireType) (vs : List Value) → is_byte f ≡ false → array_layer f t vs ≡ V.Array t vs
other_layer WireType-F.Byte t vs h = absurd (true≢false h)
other_layer f t vs h = refl

pub no_byte : (t : WireType) → (t ≡ W.Byte → ⊥) → is_byte (out-WireType t) ≡ false
no_byte t none = elim (decided t (out-WireType t) refl) [ inl is ↦ absurd (none is) | inr other ↦ other ]

pub of_others : (t : WireType) (vs : List Value) → (t ≡ W.Byte → ⊥) → array_of t vs ≡ V.Array t vs
of_others t vs none = other_layer (out-WireType t) t vs (no_byte t none)

pub byte_or_not : (t : WireType) → (t ≡ W.Byte) ⊎ (t ≡ W.Byte → ⊥)
byte_or_not t = elim (decided t (out-WireType t) refl) [ inl is ↦ inl is | inr other ↦ inr (other_type t (out-WireType t) refl other) ]

-- what holds of packed bytes, and of each other array, holds of an array
pub each_array : (P : WireType → List Value → Value → Type 0) (t : WireType) (vs : List Value) → All (λ v. type_of v ≡ t) vs
    → ((bytes : List ℕ) → P W.Byte (map (λ n. V.Byte n) bytes) (V.Bytes bytes)) → ((t ≡ W.Byte → ⊥) → P t vs (V.Array t vs)) → P t vs (array_of t vs)
each_array P t vs kinds packed others = by_type (byte_or_not t)
  where
    by_type : (t ≡ W.Byte) ⊎ (t ≡ W.Byte → ⊥) → P t vs (array_of t vs)
    by_type (inl is) =
        let bytes : List ℕ = map byte_of vs in
        let whole : map (λ n. V.Byte n) bytes ≡ vs = bytes_are vs (subst (λ (u : WireType). All (λ v. type_of v ≡ u) vs) is kinds) in
        let here : P W.Byte (map (λ n. V.Byte n) bytes) (array_of W.Byte (map (λ n. V.Byte n) bytes)) = subst (P W.Byte (map (λ n. V.Byte n) bytes)) (sym (of_bytes bytes)) (packed bytes) in
        subst (λ (u : WireType). P u vs (array_of u vs)) (sym is) (subst (λ (ws : List Value). P W.Byte ws (array_of W.Byte ws)) whole here)
    by_type (inr none) = subst (P t vs) (sym (of_others t vs none)) (others none)

-- ---- its type, its spelling and its rules

type_bytes : (bytes : List ℕ) → type_of (V.Bytes bytes) ≡ W.Array W.Byte
type_bytes bytes = search the_lemmas

type_other : (t : WireType) (vs : List Value) → type_of (V.Array t vs) ≡ W.Array t
type_other t vs = search the_lemmas

pub type_array : (t : WireType) (vs : List Value) → type_of (array_of t vs) ≡ W.Array t
type_array t vs = by_type (byte_or_not t)
  where
    by_type : (t ≡ W.Byte) ⊎ (t ≡ W.Byte → ⊥) → type_of (array_of t vs) ≡ W.Array t
    by_type (inl is) = subst (λ (u : WireType). type_of (array_of u vs) ≡ W.Array u) (sym is) (ap type_of (bytes_of vs) ∙ type_bytes (map byte_of vs))
    by_type (inr none) = ap type_of (of_others t vs none) ∙ type_other t vs

rolls_byte : (e : Endian) (n : ℕ) → spelled e (V.Byte n) ≡ spell_step e (Value-F.Byte n)
rolls_byte e n = search the_lemmas

rolls_bytes : (e : Endian) (bytes : List ℕ) → spelled e (V.Bytes bytes) ≡ spell_step e (Value-F.Bytes bytes)
rolls_bytes e bytes = search the_lemmas

rolls_array : (e : Endian) (t : WireType) (vs : List Value) → spelled e (V.Array t vs) ≡ spell_step e (Value-F.Array t (map (spelled e) vs))
rolls_array e t vs = search the_lemmas

-- bytes stand side by side
pub bytes_in_row : (e : Endian) (bytes : List ℕ) (at : ℕ) → in_row (map (spelled e) (map (λ n. V.Byte n) bytes)) at ≡ bytes
bytes_in_row e [] at = refl
bytes_in_row e (n ∷ ns) at =
    ap (λ (s : Spelled). s.1 at ++ in_row (map (spelled e) (map (λ m. V.Byte m) ns)) (at + length (s.1 at))) (rolls_byte e n)
    ∙ ap (λ (w : List ℕ). n ∷ w) (bytes_in_row e ns (at + 1))

pub byte_alignment : alignment W.Byte ≡ 1
byte_alignment = ap alignment_of out_byte

pub no_gap : (at : ℕ) → gap 1 at ≡ 0
no_gap at = omega arith

bytes_row : (e : Endian) (bytes : List ℕ) (start : ℕ) → bytes_body e bytes ≡ array_body e 1 (map (spelled e) (map (λ n. V.Byte n) bytes)) start
bytes_row e bytes start =
    let pad : ℕ = gap 1 (start + 4) in
    sym (ap (λ (w : List ℕ). number e w32 (length w) ++ (replicate pad 0 ++ w)) (bytes_in_row e bytes (start + 4 + pad))
    ∙ ap (λ (n : ℕ). number e w32 (length bytes) ++ (replicate n 0 ++ bytes)) (no_gap (start + 4)))

pub bytes_spelled : (e : Endian) (bytes : List ℕ) → spelled e (V.Bytes bytes) ≡ spell_step e (Value-F.Array W.Byte (map (spelled e) (map (λ n. V.Byte n) bytes)))
bytes_spelled e bytes =
    let ss : List Spelled = map (spelled e) (map (λ n. V.Byte n) bytes) in
    let one : (λ (start : ℕ). bytes_body e bytes) ≡ array_body e 1 ss = λ i start. bytes_row e bytes start i in
    let body : (λ (start : ℕ). bytes_body e bytes) ≡ array_body e (alignment W.Byte) ss = one ∙ ap (λ (to : ℕ). array_body e to ss) (sym byte_alignment) in
    rolls_bytes e bytes ∙ ap (λ (f : ℕ → List ℕ). let s : Spelled = (W.Array W.Byte, aligned 4 f) in s) body

pub array_spelled : (e : Endian) (t : WireType) (vs : List Value) → All (λ v. type_of v ≡ t) vs → spelled e (array_of t vs) ≡ spell_step e (Value-F.Array t (map (spelled e) vs))
array_spelled e t vs kinds = each_array (λ t vs v. spelled e v ≡ spell_step e (Value-F.Array t (map (spelled e) vs))) t vs kinds (bytes_spelled e) (λ none. rolls_array e t vs)

out_bytes : (bytes : List ℕ) → out-Value (V.Bytes bytes) ≡ Value-F.Bytes bytes
out_bytes bytes = search the_lemmas

out_array : (t : WireType) (vs : List Value) → out-Value (V.Array t vs) ≡ Value-F.Array t vs
out_array t vs = search the_lemmas

each_number : (P : Value → Type 0) (bytes : List ℕ) → All P (map (λ n. V.Byte n) bytes) → All (λ n. P (V.Byte n)) bytes
each_number P [] h = All-nil (λ n. P (V.Byte n))
each_number P (n ∷ ns) h = All-cons (λ n. P (V.Byte n)) n ns (All-head P (V.Byte n) (map (λ n. V.Byte n) ns) h) (each_number P ns (All-tail P (V.Byte n) (map (λ n. V.Byte n) ns) h))

kinds_of : (Inside : Value → Type 0) (t : WireType) (vs : List Value) → All (λ v. (type_of v ≡ t) × Inside v) vs → All (λ v. type_of v ≡ t) vs
kinds_of Inside t [] h = All-nil (λ v. type_of v ≡ t)
kinds_of Inside t (v ∷ vs) h = All-cons (λ v. type_of v ≡ t) v vs (All-head (λ v. (type_of v ≡ t) × Inside v) v vs h).0 (kinds_of Inside t vs (All-tail (λ v. (type_of v ≡ t) × Inside v) v vs h))

insides_of : (Inside : Value → Type 0) (t : WireType) (vs : List Value) → All (λ v. (type_of v ≡ t) × Inside v) vs → All Inside vs
insides_of Inside t [] h = All-nil Inside
insides_of Inside t (v ∷ vs) h = All-cons Inside v vs (All-head (λ v. (type_of v ≡ t) × Inside v) v vs h).1 (insides_of Inside t vs (All-tail (λ v. (type_of v ≡ t) × Inside v) v vs h))

-- an array keeps the rules where its items do
pub array_keeps : (Inside : Value → Type 0) (t : WireType) (vs : List Value) → All (λ v. (type_of v ≡ t) × Inside v) vs → ValueKeeps Inside (out-Value (array_of t vs))
array_keeps Inside t vs kept = each_array (λ t vs v. All (λ v. (type_of v ≡ t) × Inside v) vs → ValueKeeps Inside (out-Value v)) t vs (kinds_of Inside t vs kept)
    (λ bytes h. subst (ValueKeeps Inside) (sym (out_bytes bytes)) (each_number Inside bytes (insides_of Inside W.Byte (map (λ n. V.Byte n) bytes) h)))
    (λ none h. subst (ValueKeeps Inside) (sym (out_array t vs)) (none, h))
    kept

-- ---- how deep it goes

nesting_bytes : (bytes : List ℕ) → nesting (V.Bytes bytes) ≡ nesting_step (Value-F.Bytes bytes)
nesting_bytes bytes = search the_lemmas

some_deep : (bytes : List ℕ) → (bytes ≡ [] → ⊥) → 1 ≡ nesting_step (Value-F.Bytes bytes)
some_deep [] some = absurd (some refl)
some_deep (b ∷ bs) some = refl

pub flat_bytes : (bytes : List ℕ) → bytes ≡ [] → 0 ≡ nesting (V.Bytes bytes)
flat_bytes bytes none = sym (nesting_bytes bytes ∙ ap (λ (ns : List ℕ). nesting_step (Value-F.Bytes ns)) none)

pub deep_bytes : (bytes : List ℕ) → (bytes ≡ [] → ⊥) → 1 ≡ nesting (V.Bytes bytes)
deep_bytes bytes some = some_deep bytes some ∙ sym (nesting_bytes bytes)
