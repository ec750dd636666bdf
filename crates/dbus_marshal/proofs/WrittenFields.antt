-- A header field that is put piece by piece is spelled.
use Rattle.std.proofs.Common.{◌≡◌, ℕ, ◌+◌, List, [], ◌∷◌, ◌++◌, length, replicate, refl, sym, ap, ◌∙◌, append_assoc, append-nil, arith}
use Rattle.std.proofs.lemmas.List.{length-append}
use Rattle.std.specs.Int.{w8, w32, to_le_bytes}
use Rattle.dbus_types.specs.declared.types.Endian.{Endian}
use Rattle.dbus_types.specs.declared.types.WireType.{the_lemmas as type_lemmas}
use Rattle.dbus_types.specs.declared.types.WireType.TheVariants as W
use Rattle.dbus_types.specs.declared.types.Value.{Value}
use Rattle.dbus_types.specs.declared.types.Value.TheVariants as V
use Rattle.dbus_types.specs.Types.{type_text}
use Rattle.dbus_values.specs.Spells.{gap, number}
use Rattle.dbus_values.specs.Spelling.{Spelled, aligned, spelled, spelling, spellings, signature_body, text_body}
use Rattle.dbus_values.proofs.OneSpelling.{roll_byte, roll_variant, roll_u32, roll_str, roll_path, roll_signature}
use Rattle.dbus_marshal.proofs.PiecesJoined.{struct_whole}

text_u32 : type_text W.U32 ≡ 117 ∷ []
text_u32 = search type_lemmas

text_str : type_text W.Str ≡ 115 ∷ []
text_str = search type_lemmas

text_path : type_text W.ObjectPath ≡ 111 ∷ []
text_path = search type_lemmas

text_signature : type_text W.Signature ≡ 103 ∷ []
text_signature = search type_lemmas

-- the code, the signature of one letter, and the value behind them
pub field_whole : (e : Endian) (out head two : List ℕ) (code letter : ℕ) (x : Value) → type_text (spelled e x).0 ≡ letter ∷ [] → head ≡ (out ++ replicate (gap 8 (length out)) 0) ++ (code ∷ 1 ∷ letter ∷ 0 ∷ [])
    → two ≡ head ++ spelling e (length head) x → two ≡ out ++ spelling e (length out) (V.Struct (V.Byte code ∷ V.Variant x ∷ []))
field_whole e out head two code letter x text a b =
    let one : List ℕ = out ++ replicate (gap 8 (length out)) 0 in
    let start : ℕ = length one in
    let place : length head ≡ start + 4 = omega (arith, ap length a, length-append one (code ∷ 1 ∷ letter ∷ 0 ∷ [])) in
    let inside : List ℕ = spelling e (start + 4) x in
    let found : two ≡ one ++ (code ∷ 1 ∷ letter ∷ 0 ∷ inside) = b ∙ (ap (λ (k : ℕ). head ++ spelling e k x) place ∙ (ap (λ (w : List ℕ). w ++ inside) a ∙ append_assoc one (code ∷ 1 ∷ letter ∷ 0 ∷ []) inside)) in
    let variant : spelling e (start + 1) (V.Variant x) ≡ 1 ∷ letter ∷ 0 ∷ inside =
    ap (λ (s : Spelled). s.1 (start + 1)) (roll_variant e x) ∙ (ap (λ (t : List ℕ). to_le_bytes w8 (length t) ++ (t ++ 0 ∷ (spelled e x).1 (start + 1 + (1 + length t + 1)))) text
    ∙ ap (λ (k : ℕ). 1 ∷ letter ∷ 0 ∷ spelling e k x) (omega arith)) in
    let members : spellings e start (V.Byte code ∷ V.Variant x ∷ []) ≡ code ∷ 1 ∷ letter ∷ 0 ∷ inside =
    ap (λ (s : Spelled). s.1 start ++ spellings e (start + length (s.1 start)) (V.Variant x ∷ [])) (roll_byte e code) ∙ (ap (λ (w : List ℕ). code ∷ w) (append-nil (spelling e (start + 1) (V.Variant x)) ∙ variant)) in
    struct_whole e out one two (V.Struct (V.Byte code ∷ V.Variant x ∷ [])) (V.Byte code ∷ V.Variant x ∷ []) refl refl (found ∙ ap (λ (w : List ℕ). one ++ w) (sym members))

abbrev Field : ℕ → Value → Value
Field code x = V.Struct (V.Byte code ∷ V.Variant x ∷ [])

pub number_whole : (e : Endian) (out head two : List ℕ) (code n : ℕ) → head ≡ (out ++ replicate (gap 8 (length out)) 0) ++ (code ∷ 1 ∷ 117 ∷ 0 ∷ []) → two ≡ head ++ aligned 4 (λ start. number e w32 n) (length head)
    → two ≡ out ++ spelling e (length out) (Field code (V.U32 n))
number_whole e out head two code n a b = field_whole e out head two code 117 (V.U32 n) (ap (λ (s : Spelled). type_text s.0) (roll_u32 e n) ∙ text_u32) a (b ∙ ap (λ (s : Spelled). head ++ s.1 (length head)) (sym (roll_u32 e n)))

pub text_whole : (e : Endian) (out head two : List ℕ) (code : ℕ) (text : List ℕ) → head ≡ (out ++ replicate (gap 8 (length out)) 0) ++ (code ∷ 1 ∷ 115 ∷ 0 ∷ []) → two ≡ head ++ aligned 4 (λ start. text_body e text) (length head)
    → two ≡ out ++ spelling e (length out) (Field code (V.Str text))
text_whole e out head two code text a b = field_whole e out head two code 115 (V.Str text) (ap (λ (s : Spelled). type_text s.0) (roll_str e text) ∙ text_str) a (b ∙ ap (λ (s : Spelled). head ++ s.1 (length head)) (sym (roll_str e text)))

pub path_whole : (e : Endian) (out head two : List ℕ) (code : ℕ) (path : List ℕ) → head ≡ (out ++ replicate (gap 8 (length out)) 0) ++ (code ∷ 1 ∷ 111 ∷ 0 ∷ []) → two ≡ head ++ aligned 4 (λ start. text_body e path) (length head)
    → two ≡ out ++ spelling e (length out) (Field code (V.ObjectPath path))
path_whole e out head two code path a b = field_whole e out head two code 111 (V.ObjectPath path) (ap (λ (s : Spelled). type_text s.0) (roll_path e path) ∙ text_path) a (b ∙ ap (λ (s : Spelled). head ++ s.1 (length head)) (sym (roll_path e path)))

pub signature_whole : (e : Endian) (out head two : List ℕ) (code : ℕ) (text : List ℕ) → head ≡ (out ++ replicate (gap 8 (length out)) 0) ++ (code ∷ 1 ∷ 103 ∷ 0 ∷ []) → two ≡ head ++ signature_body text
    → two ≡ out ++ spelling e (length out) (Field code (V.Signature text))
signature_whole e out head two code text a b = field_whole e out head two code 103 (V.Signature text) (ap (λ (s : Spelled). type_text s.0) (roll_signature e text) ∙ text_signature) a (b ∙ ap (λ (s : Spelled). head ++ s.1 (length head)) (sym (roll_signature e text)))
