-- The texts of types are ASCII.
use Rattle.std.proofs.Common.{ℕ, ◌<◌, List, [], ◌∷◌, ◌++◌, map, sym, subst, lit<}
use Rattle.std.specs.Prelude.{All, IsUtf8}
use Rattle.std.proofs.lemmas.List.Elements.{All-nil, All-cons, All-append}
use Rattle.std.proofs.lemmas.Str.{IsUtf8-from_ascii}
use Rattle.std.proofs.lemmas.Str.Ascii.{IsAscii-from_all}
use Rattle.dbus_types.specs.declared.types.WireType.{WireType}
use Rattle.dbus_types.specs.declared.types.WireType.TheOpen.{WireType-F}
use Rattle.dbus_types.specs.declared.types.WireType.TheFolds.{ind-WireType, map-WireType, fold-roll-WireType}
use Rattle.dbus_types.specs.Types.{joined, text_step, type_text, types_text}

abbrev Ascii : List ℕ → Type 0
Ascii text = All (λ b. b < 128) text

abbrev HasAscii : WireType → Type 0
HasAscii t = Ascii (type_text t)

one : (b : ℕ) → b < 128 → Ascii (b ∷ [])
one b lt = All-cons (λ b. b < 128) b [] lt (All-nil (λ b. b < 128))

more : (b : ℕ) (text : List ℕ) → b < 128 → Ascii text → Ascii (b ∷ text)
more b text lt h = All-cons (λ b. b < 128) b text lt h

both : (a b : List ℕ) → Ascii a → Ascii b → Ascii (a ++ b)
both a b h k = All-append (λ b. b < 128) a b h k

abbrev Such : Type 0
Such = (t : WireType) × HasAscii t

members : (es : List Such) → Ascii (joined (map type_text (map (λ e. e.0) es)))
members [] = All-nil (λ b. b < 128)
members (e ∷ es) = both (type_text e.0) (joined (map type_text (map (λ e. e.0) es))) e.1 (members es)

-- a type whose parts have such texts has such a text
layer : (y : WireType-F Such) → Ascii (text_step (map-WireType WireType (List ℕ) type_text (map-WireType Such WireType (λ e. e.0) y)))
layer WireType-F.Byte = one 121 (lit< tt)
layer WireType-F.Bool = one 98 (lit< tt)
layer WireType-F.I16 = one 110 (lit< tt)
layer WireType-F.U16 = one 113 (lit< tt)
layer WireType-F.I32 = one 105 (lit< tt)
layer WireType-F.U32 = one 117 (lit< tt)
layer WireType-F.I64 = one 120 (lit< tt)
layer WireType-F.U64 = one 116 (lit< tt)
layer WireType-F.Double = one 100 (lit< tt)
layer WireType-F.Str = one 115 (lit< tt)
layer WireType-F.ObjectPath = one 111 (lit< tt)
layer WireType-F.Signature = one 103 (lit< tt)
layer WireType-F.Handle = one 104 (lit< tt)
layer WireType-F.Variant = one 118 (lit< tt)
layer (WireType-F.Array e) = more 97 (type_text e.0) (lit< tt) e.1
layer (WireType-F.Struct es) =
    let inner : List ℕ = joined (map type_text (map (λ e. e.0) es)) in
    more 40 (inner ++ 41 ∷ []) (lit< tt) (both inner (41 ∷ []) (members es) (one 41 (lit< tt)))
layer (WireType-F.DictEntry k v) =
    let last : List ℕ = type_text v.0 ++ 125 ∷ [] in
    more 123 (type_text k.0 ++ last) (lit< tt) (both (type_text k.0) last k.1 (both (type_text v.0) (125 ∷ []) v.1 (one 125 (lit< tt))))

ascii_type : (t : WireType) → HasAscii t
ascii_type = ind-WireType HasAscii (λ x y is.
    let whole = subst (λ (z : WireType-F WireType). Ascii (text_step (map-WireType WireType (List ℕ) type_text z))) is (layer y) in
    subst Ascii (sym (fold-roll-WireType (List ℕ) text_step x)) whole)

ascii_types : (ts : List WireType) → Ascii (types_text ts)
ascii_types [] = All-nil (λ b. b < 128)
ascii_types (t ∷ ts) = both (type_text t) (types_text ts) (ascii_type t) (ascii_types ts)

pub utf8_types : (ts : List WireType) → IsUtf8 (types_text ts)
utf8_types ts = IsUtf8-from_ascii (types_text ts) (IsAscii-from_all (types_text ts) (ascii_types ts))
