-- Bytes are one message, and a message is written in one way.
use Rattle.std.proofs.Common.{◌≡◌, ℕ, ◌+◌, List, [], ◌∷◌, ◌++◌, length, map, Option, Some, None, Result, Ok, Err, refl, sym, ap, ◌∙◌, subst}
use Rattle.dbus_types.specs.declared.types.Endian.{Endian}
use Rattle.dbus_types.specs.declared.types.Endian.TheVariants.{Little}
use Rattle.dbus_types.specs.declared.errors.SignatureError.{SignatureError}
use Rattle.dbus_types.specs.declared.types.WireType.{WireType}
use Rattle.dbus_types.specs.declared.types.WireType.TheVariants as W
use Rattle.dbus_types.specs.declared.types.Value.{Value}
use Rattle.dbus_types.specs.declared.types.Value.TheVariants as V
use Rattle.dbus_types.specs.declared.message.Message.{Message}
use Rattle.dbus_types.specs.declared.message.OutMessage.{OutMessage}
use Rattle.dbus_types.specs.Types.{IsSignature}
use Rattle.dbus_values.specs.Values.{type_of}
use Rattle.dbus_values.specs.Spells.{Members}
use Rattle.dbus_values.proofs.OneSpelling.{spells_same}
use Rattle.dbus_types.proofs.WholeSignatures.{whole_again}
use Rattle.dbus_marshal.proofs.SpelledIsRead.{one_spelling}
use Rattle.dbus_message.specs.declared.content.Content.{Content}
use Rattle.dbus_message.specs.Header.{body_bytes, endian_of}
use Rattle.dbus_message.specs.Fields.{field_type, text_of}
use Rattle.dbus_message.specs.Content.{IsBody, IsContent}
use Rattle.dbus_message.specs.Messages.{IsMessage, SaysFields}
use Rattle.dbus_message.specs.Written.{body_out, fields_out, IsWritten, kind_out, laid}
use Rattle.dbus_message.proofs.Arrays.{one_list}
use Rattle.dbus_message.proofs.Bodies.{Spelled}
use Rattle.dbus_message.proofs.Contents.{same_content}
use Rattle.dbus_message.proofs.ReadMessage.{same_message}

-- ---- what bytes say

-- a text spells one list of values of these types, one after another
pub one_row : (e : Endian) (ts : List WireType) (vs ws : List Value) (at : ℕ) (text : List ℕ) → Members (Spelled e) ts vs at text → Members (Spelled e) ts ws at text → vs ≡ ws
one_row e [] [] [] at text h k = refl
one_row e [] [] (w ∷ ws) at text h k = absurd k
one_row e [] (v ∷ vs) ws at text h k = absurd h
one_row e (t ∷ ts) [] ws at text h k = absurd h
one_row e (t ∷ ts) (v ∷ vs) [] at text h k = absurd k
one_row e (t ∷ ts) (v ∷ vs) (w ∷ ws) at text h k =
    let o = one_spelling 64 e t at v w h.0 k.0 h.1 k.1 h.3 k.3 (sym h.2 ∙ k.2) in
    let place : at + length k.0 ≡ at + length h.0 = ap (λ (x : List ℕ). at + length x) (sym o.1) in
    let behind = subst (λ (x : List ℕ). Members (Spelled e) ts ws (at + length h.0) x) (sym o.2) (subst (λ (n : ℕ). Members (Spelled e) ts ws n k.1) place k.4) in
    ap (λ (x : Value). x ∷ vs) o.0 ∙ ap (λ (xs : List Value). w ∷ xs) (one_row e ts vs ws (at + length h.0) h.1 h.4 behind)

abbrev found : List WireType → Result (List WireType) SignatureError → List WireType
found otherwise (Ok ts) = ts
found otherwise (Err e) = otherwise

-- a signature is of one list of types
pub one_signature : (text : List ℕ) (ts us : List WireType) → IsSignature ts text → IsSignature us text → ts ≡ us
one_signature text ts us h k = ap (found ts) (sym (whole_again ts text h.1 h.0) ∙ whole_again us text k.1 k.0)

one_content : (e : Endian) (signature : Option (List ℕ)) (bytes : List ℕ) (c d : Content) → IsContent e signature c.types c.values bytes → IsContent e signature d.types d.values bytes → c ≡ d
one_content e None bytes c d h k = same_content c d (h.0 ∙ sym k.0) (h.1 ∙ sym k.1)
one_content e (Some text) bytes c d h k =
    let types = one_signature text c.types d.types h.0 k.0 in
    same_content c d types (one_row e c.types c.values d.values 0 bytes h.1 (subst (λ (ts : List WireType). IsBody e ts d.values bytes) (sym types) k.1))

pub one_message : (bytes : List ℕ) (m n : Message) → IsMessage bytes m → IsMessage bytes n → m ≡ n
one_message bytes m n h k =
    let same : k.0 ≡ h.0 = one_list bytes k.0 h.0 k.2 h.2 in
    let fields = subst (λ (fs : List Value). SaysFields fs n) same k.7 in
    let said = subst (λ (fs : List Value). IsContent (endian_of bytes) (text_of 8 fs) n.signature n.body (body_bytes bytes)) same k.8 in
    let c = one_content (endian_of bytes) (text_of 8 h.0) (body_bytes bytes) (record { types = m.signature; values = m.body }) (record { types = n.signature; values = n.body }) h.8 said in
    same_message m n (h.6.0 ∙ sym k.6.0) (h.6.1 ∙ sym k.6.1) (h.6.2 ∙ sym k.6.2) (h.6.3 ∙ sym k.6.3) (h.7.0 ∙ sym fields.0) (h.7.1 ∙ sym fields.1) (h.7.2 ∙ sym fields.2) (h.7.3 ∙ sym fields.3) (h.7.4 ∙ sym fields.4)
    (ap (λ (x : Content). x.types) c) (h.7.5 ∙ sym fields.5) (ap (λ (x : Content). x.values) c)

-- ---- what is written

one_text : (e : Endian) (t : WireType) (at : ℕ) (v : Value) (xs ys : List ℕ) → Spelled e t at v xs → Spelled e t at v ys → xs ≡ ys
one_text e t at v xs ys h k = (spells_same 64 e t at v xs h).0 ∙ sym (spells_same 64 e t at v ys k).0

-- values of these types are spelled in one way, one after another
row_text : (e : Endian) (ts : List WireType) (vs : List Value) (at : ℕ) (xs ys : List ℕ) → Members (Spelled e) ts vs at xs → Members (Spelled e) ts vs at ys → xs ≡ ys
row_text e [] [] at xs ys h k = h ∙ sym k
row_text e [] (v ∷ vs) at xs ys h k = absurd h
row_text e (t ∷ ts) [] at xs ys h k = absurd h
row_text e (t ∷ ts) (v ∷ vs) at xs ys h k =
    let first = one_text e t at v h.0 k.0 h.3 k.3 in
    let behind = subst (λ (x : List ℕ). Members (Spelled e) ts vs (at + length x) k.1) (sym first) k.4 in
    h.2 ∙ (ap (λ (x : List ℕ). x ++ h.1) first ∙ (ap (λ (x : List ℕ). k.0 ++ x) (row_text e ts vs (at + length h.0) h.1 k.1 h.4 behind) ∙ sym k.2))

pub one_written : (out : OutMessage) (serial : ℕ) (xs ys : List ℕ) → IsWritten out serial xs → IsWritten out serial ys → xs ≡ ys
one_written out serial xs ys h k =
    let fields : h.0 ≡ k.0 = one_text Little (W.Array field_type) 12 (V.Array field_type (fields_out out)) h.0 k.0 h.2 k.2 in
    let body : h.1 ≡ k.1 = row_text Little (map type_of (body_out out)) (body_out out) 0 h.1 k.1 h.3 k.3 in
    h.4 ∙ (ap (λ (x : List ℕ). laid (kind_out out) serial x h.1) fields ∙ (ap (λ (x : List ℕ). laid (kind_out out) serial k.0 x) body ∙ sym k.4))
