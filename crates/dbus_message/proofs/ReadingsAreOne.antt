-- Bytes of a message's length are a message, or one rule is the first that they break.
use Rattle.std.proofs.Common.{◌≡◌, ℕ, ◌+◌, ◌≤◌, ◌<◌, Bool, true, false, List, [], ◌∷◌, ◌++◌, length, take, drop, Option, Some, None, Result, Ok, Err, refl, sym, ap, subst, ◌∙◌, append-nil, inl, inr, arith}
use Rattle.std.proofs.lemmas.Bool.{cases_lt}
use Rattle.std.proofs.lemmas.List.{get_or_past, take-append-drop}
use Rattle.std.proofs.lemmas.Result.{IfOk-at_ok}
use Rattle.std.specs.List.{All, list_all}
use Rattle.std.specs.Prelude.{◌⊎◌, ◌==◌, IsTrue}
use Rattle.dbus_types.specs.declared.types.Endian.{Endian}
use Rattle.dbus_types.specs.declared.types.WireType.{WireType}
use Rattle.dbus_types.specs.declared.types.WireType.TheVariants as W
use Rattle.dbus_types.specs.declared.types.Value.{Value}
use Rattle.dbus_types.specs.declared.types.Value.TheVariants as V
use Rattle.dbus_types.specs.declared.message.Message.{Message}
use Rattle.dbus_types.specs.Types.{IsSignature}
use Rattle.dbus_types.specs.declared.errors.SignatureError.{SignatureError}
use Rattle.dbus_types.specs.Reading.{whole_at}
use Rattle.dbus_types.proofs.WholeSignatures.{short_reading, whole_again}
use Rattle.dbus_basic.specs.Reading.{Read}
use Rattle.dbus_marshal.specs.Reads.{reads}
use Rattle.dbus_values.specs.Spells.{Members, Spells}
use Rattle.dbus_marshal.proofs.ReadIsSpelled.{reads_took}
use Rattle.dbus_marshal.proofs.TakenFronts.{IsBytes, Took, bytes_after, bytes_before}
use Rattle.dbus_marshal.proofs.SpelledIsRead.{one_spelling, reads_again}
use Rattle.dbus_message.specs.declared.content.Content.{Content}
use Rattle.dbus_message.specs.declared.error.MessageError.TheVariants.{Bad}
use Rattle.dbus_message.specs.Answers.{IsReadBody, IsReadContent, IsReadTypes}
use Rattle.dbus_message.specs.Fields.{AreFieldsOf, are_good, field_type, has_needed, number_of, text_of}
use Rattle.dbus_message.specs.Header.{body_bytes, body_start, endian_of, field_bytes, fields_end, flags_of, kind_of, padding_bytes, serial_of}
use Rattle.dbus_message.specs.Messages.{IsMessage}
use Rattle.dbus_message.specs.Rules.{IsFirstBroken, IsWhole}
use Rattle.std.specs.Prelude.{unwrap_or}
use Rattle.dbus_message.proofs.Arrays.{is_array, no_byte}
use Rattle.dbus_message.proofs.Bodies.{Spelled}
use Rattle.dbus_message.proofs.Contents.{body_bad, body_good, nothing_bad, nothing_good, types_bad}
use Rattle.dbus_message.proofs.OneMessage.{one_row, one_signature}
use Rattle.dbus_message.proofs.ReadMessage.{bad_fields, bad_needed, bad_padding, body_failed, fields_failed, message_read}

-- ---- bytes

bytes_all : (b : List ℕ) → All (λ x. x < 256) b → IsBytes b
bytes_all b h i =
    elim (cases_lt i (length b)) [
      | inl lt ↦ h i 0 lt
      | inr le ↦ rw (get_or_past b i 0 (omega arith)) (omega arith)
    ]

bytes_dropped : (n : ℕ) (b : List ℕ) → IsBytes b → IsBytes (drop n b)
bytes_dropped n b h = bytes_after (take n b) (drop n b) (subst IsBytes (sym (take-append-drop n b)) h)

bytes_taken : (n : ℕ) (b : List ℕ) → IsBytes b → IsBytes (take n b)
bytes_taken n b h = bytes_before (take n b) (drop n b) (subst IsBytes (sym (take-append-drop n b)) h)

-- ---- a value at the front

-- the bytes begin with the spelling of a value of the type
abbrev Begins : Endian → WireType → ℕ → List ℕ → Type 0
Begins e t at bytes = (v : Value) × (text : List ℕ) × (rest : List ℕ) × Spells e at t v text × (bytes ≡ text ++ rest) × IsBytes rest

abbrev BeginsNot : Endian → WireType → ℕ → List ℕ → Type 0
BeginsNot e t at bytes = (v : Value) (text rest : List ℕ) → Spells e at t v text → bytes ≡ text ++ rest → ⊥

not_ok : {A B : Type 0} (d : B) (x : A) → Err d ≡ Ok x → ⊥
not_ok d x e = absurd (cc)

begins_read : (e : Endian) (t : WireType) (at : ℕ) (bytes : List ℕ) (r : Read Value) → IsBytes bytes → reads 65 e t at bytes ≡ r → Begins e t at bytes ⊎ BeginsNot e t at bytes
begins_read e t at bytes (Ok x) fits is =
    let k : Took (Spells e at t x.0) at bytes x.1 x.2 = IfOk-at_ok (λ y. Took (Spells e at t y.0) at bytes y.1 y.2) is (reads_took 64 e t at bytes fits) in
    inl (x.0, k.text, x.2, k.holds, k.parts, k.fits)
begins_read e t at bytes (Err d) fits is =
    inr (λ v text rest h parts. not_ok d (v, at + length text, rest) (sym is ∙ (ap (reads 65 e t at) parts ∙ reads_again 64 e t at v text rest h)))

begins : (e : Endian) (t : WireType) (at : ℕ) (bytes : List ℕ) → IsBytes bytes → Begins e t at bytes ⊎ BeginsNot e t at bytes
begins e t at bytes fits = begins_read e t at bytes (reads 65 e t at bytes) fits refl

same_start : (e : Endian) (t : WireType) (at : ℕ) (v w : Value) (text a rest x : List ℕ) → Spells e at t v text → Spells e at t w a → text ++ rest ≡ a ++ x → (v ≡ w) × (text ≡ a) × (rest ≡ x)
same_start e t at v w text a rest x h k parts = one_spelling 64 e t at v w text a rest x h k parts

-- ---- values one after another

abbrev Row : Endian → List WireType → ℕ → List ℕ → Type 0
Row e ts at bytes = (vs : List Value) × Members (Spelled e) ts vs at bytes

abbrev NoRow : Endian → List WireType → ℕ → List ℕ → Type 0
NoRow e ts at bytes = (vs : List Value) → Members (Spelled e) ts vs at bytes → ⊥

left_over : (e : Endian) (at b : ℕ) (bs : List ℕ) → NoRow e [] at (b ∷ bs)
left_over e at b bs [] h = absurd (cc)
left_over e at b bs (w ∷ ws) h = h

no_first : (e : Endian) (t : WireType) (ts : List WireType) (at : ℕ) (bytes : List ℕ) → BeginsNot e t at bytes → NoRow e (t ∷ ts) at bytes
no_first e t ts at bytes none [] h = h
no_first e t ts at bytes none (w ∷ ws) h = none w h.0 h.1 h.3 h.2

no_others : (e : Endian) (t : WireType) (ts : List WireType) (at : ℕ) (bytes : List ℕ) (found : Begins e t at bytes) → NoRow e ts (at + length found.1) found.2 → NoRow e (t ∷ ts) at bytes
no_others e t ts at bytes found none [] h = h
no_others e t ts at bytes (v, text, rest, spelled, parts, fits) none (w ∷ ws) h =
    let same = same_start e t at v w text h.0 rest h.1 spelled h.3 (sym parts ∙ h.2) in
    let place = subst (λ (n : List ℕ). Members (Spelled e) ts ws (at + length n) h.1) (sym same.1) h.4 in
    none ws (subst (λ (n : List ℕ). Members (Spelled e) ts ws (at + length text) n) (sym same.2) place)

row_on : (e : Endian) (t : WireType) (ts : List WireType) (at : ℕ) (bytes : List ℕ) (found : Begins e t at bytes) → Row e ts (at + length found.1) found.2 ⊎ NoRow e ts (at + length found.1) found.2
    → Row e (t ∷ ts) at bytes ⊎ NoRow e (t ∷ ts) at bytes
row_on e t ts at bytes found (inl more) = inl (found.0 ∷ more.0, (found.1, found.2, found.4, found.3, more.1))
row_on e t ts at bytes found (inr none) = inr (no_others e t ts at bytes found none)

row : (e : Endian) (ts : List WireType) (at : ℕ) (bytes : List ℕ) → IsBytes bytes → Row e ts at bytes ⊎ NoRow e ts at bytes
row e [] at [] fits = inl ([], refl)
row e [] at (b ∷ bs) fits = inr (left_over e at b bs)
row e (t ∷ ts) at bytes fits =
    elim (begins e t at bytes fits) as (λ _. Row e (t ∷ ts) at bytes ⊎ NoRow e (t ∷ ts) at bytes) [
      | inl found ↦ row_on e t ts at bytes found (row e ts (at + length found.1) found.2 found.5)
      | inr none ↦ inr (no_first e t ts at bytes none)
    ]

-- ---- the body

types_read : (text : List ℕ) (r : Result (List WireType) SignatureError) → length text ≤ 255 → whole_at 32 32 text ≡ r → ((ts : List WireType) × IsReadTypes text (Ok ts)) ⊎ IsReadTypes text (Err (Bad 10))
types_read text (Ok ts) short is =
    let found : IsSignature ts text = short_reading text (Ok ts) short is in
    inl (ts, (found, λ us h. one_signature text us ts h found))
types_read text (Err d) short is = inr (λ ts h. not_ok d ts (sym is ∙ whole_again ts text h.1 h.0), refl)

types : (text : List ℕ) → ((ts : List WireType) × IsReadTypes text (Ok ts)) ⊎ IsReadTypes text (Err (Bad 10))
types text =
    elim (cases_lt 255 (length text)) as (λ _. ((ts : List WireType) × IsReadTypes text (Ok ts)) ⊎ IsReadTypes text (Err (Bad 10))) [
      | inl long ↦ inr (λ ts h. let short = h.2 in absurd (omega arith), refl)
      | inr short ↦ types_read text (whole_at 32 32 text) short refl
    ]

body : (e : Endian) (bytes : List ℕ) (ts : List WireType) → IsBytes bytes → ((vs : List Value) × IsReadBody e bytes ts (Ok vs)) ⊎ IsReadBody e bytes ts (Err (Bad 10))
body e bytes ts fits =
    elim (row e ts 0 bytes fits) as (λ _. ((vs : List Value) × IsReadBody e bytes ts (Ok vs)) ⊎ IsReadBody e bytes ts (Err (Bad 10))) [
      | inl found ↦ inl (found.0, (found.1, λ vs h. one_row e ts vs found.0 0 bytes h found.1))
      | inr none ↦ inr (none, refl)
    ]

abbrev Content_of : Endian → Option (List ℕ) → List ℕ → Type 0
Content_of e signature bytes = ((c : Content) × IsReadContent e signature bytes (Ok c)) ⊎ ((rule : ℕ) × IsReadContent e signature bytes (Err (Bad rule)))

content_typed : (e : Endian) (text bytes : List ℕ) (ts : List WireType) → IsReadTypes text (Ok ts) → ((vs : List Value) × IsReadBody e bytes ts (Ok vs)) ⊎ IsReadBody e bytes ts (Err (Bad 10)) → Content_of e (Some text) bytes
content_typed e text bytes ts t (inl found) = inl (record { types = ts; values = found.0 }, body_good e text bytes ts found.0 t found.1)
content_typed e text bytes ts t (inr none) = inr (10, body_bad e text bytes ts (Bad 10) t none)

content_signed : (e : Endian) (text bytes : List ℕ) → IsBytes bytes → ((ts : List WireType) × IsReadTypes text (Ok ts)) ⊎ IsReadTypes text (Err (Bad 10)) → Content_of e (Some text) bytes
content_signed e text bytes fits (inl found) = content_typed e text bytes found.0 found.1 (body e bytes found.0 fits)
content_signed e text bytes fits (inr none) = inr (10, types_bad e text bytes (Bad 10) none)

content : (e : Endian) (signature : Option (List ℕ)) (bytes : List ℕ) → IsBytes bytes → Content_of e signature bytes
content e None [] fits = inl (record { types = []; values = [] }, nothing_good e [] refl)
content e None (b ∷ bs) fits = inr (11, nothing_bad e (b ∷ bs) (λ h. absurd (cc)))
content e (Some text) bytes fits = content_signed e text bytes fits (types text)

-- ---- the fields

abbrev HasNone : List ℕ → Type 0
HasNone bytes = (fs : List Value) → AreFieldsOf bytes fs → ⊥

fields_whole : (bytes : List ℕ) (v : Value) (text rest : List ℕ) → Spells (endian_of bytes) 12 (W.Array field_type) v text → field_bytes bytes ≡ text ++ rest → ((fs : List Value) × AreFieldsOf bytes fs) ⊎ HasNone bytes
fields_whole bytes v text [] h parts =
    let whole : text ≡ field_bytes bytes = sym (append-nil text) ∙ sym parts in
    let a = is_array (endian_of bytes) field_type 12 v text no_byte h in
    let spelled = subst (λ (x : Value). Spells (endian_of bytes) 12 (W.Array field_type) x text) a.1 h in
    inl (a.0, subst (λ (x : List ℕ). Spells (endian_of bytes) 12 (W.Array field_type) (V.Array field_type a.0) x) whole spelled)
fields_whole bytes v text (b ∷ bs) h parts =
    inr (λ fs k. let same = (same_start (endian_of bytes) (W.Array field_type) 12 v (V.Array field_type fs) text (field_bytes bytes) (b ∷ bs) [] h k (sym parts ∙ sym (append-nil (field_bytes bytes)))).2 in absurd (cc))

fields : (bytes : List ℕ) → IsBytes bytes → ((fs : List Value) × AreFieldsOf bytes fs) ⊎ HasNone bytes
fields bytes fits =
    elim (begins (endian_of bytes) (W.Array field_type) 12 (field_bytes bytes) (bytes_dropped 12 (take (fields_end bytes) bytes) (bytes_taken (fields_end bytes) bytes fits))) as (λ _. ((fs : List Value) × AreFieldsOf bytes fs) ⊎ HasNone bytes) [
      | inl found ↦ fields_whole bytes found.0 found.1 found.2 found.3 found.4
      | inr none ↦ inr (λ fs h. none (V.Array field_type fs) (field_bytes bytes) [] h (sym (append-nil (field_bytes bytes))))
    ]

-- ---- a message

abbrev Reading_of : List ℕ → Type 0
Reading_of bytes = ((m : Message) × IsMessage bytes m) ⊎ ((rule : ℕ) × IsFirstBroken bytes rule)

-- what the header, the fields and the body say
says : List ℕ → List Value → Content → Message
says bytes fs c = record {
  endian = endian_of bytes;
  kind = kind_of bytes;
  flags = flags_of bytes;
  serial = serial_of bytes;
  path = text_of 1 fs;
  interface = text_of 2 fs;
  member = text_of 3 fs;
  error = text_of 4 fs;
  reply_serial = number_of 5 fs;
  signature = c.types;
  fds = unwrap_or (number_of 9 fs) 0;
  body = c.values;
}

false_not : (b : Bool) → b ≡ false → IsTrue b → ⊥
false_not b e h = let p : true ≡ false = sym h ∙ e in absurd (cc)

module _ (bytes : List ℕ) (fits : IsBytes bytes) (whole : IsWhole bytes) where
  on_body : (fs : List Value) → AreFieldsOf bytes fs → IsTrue (are_good fs) → IsTrue (has_needed (kind_of bytes) fs) → IsTrue (list_all (λ b. b == 0) (padding_bytes bytes)) → Content_of (endian_of bytes) (text_of 8 fs) (body_bytes bytes) → Reading_of bytes
  unfolding says
  on_body fs is keeps all zeros (inl c) =
      inl (says bytes fs c.0, (message_read bytes whole fs is keeps all zeros c.0 (says bytes fs c.0) c.1 (refl, refl, refl, refl) (refl, refl, refl, refl, refl, refl) refl refl).reading)
  on_body fs is keeps all zeros (inr none) = inr (none.0, (body_failed bytes whole fs is keeps all zeros (Bad none.0) none.1).reading)

  on_padding : (fs : List Value) → AreFieldsOf bytes fs → IsTrue (are_good fs) → IsTrue (has_needed (kind_of bytes) fs) → (b : Bool) → list_all (λ b. b == 0) (padding_bytes bytes) ≡ b → Reading_of bytes
  on_padding fs is keeps all true e = on_body fs is keeps all e (content (endian_of bytes) (text_of 8 fs) (body_bytes bytes) (bytes_dropped (body_start bytes) bytes fits))
  on_padding fs is keeps all false e = inr (9, (bad_padding bytes whole fs is keeps all (false_not _ e)).reading)

  on_needed : (fs : List Value) → AreFieldsOf bytes fs → IsTrue (are_good fs) → (b : Bool) → has_needed (kind_of bytes) fs ≡ b → Reading_of bytes
  on_needed fs is keeps true e = on_padding fs is keeps e (list_all (λ b. b == 0) (padding_bytes bytes)) refl
  on_needed fs is keeps false e = inr (8, (bad_needed bytes whole fs is keeps (false_not _ e)).reading)

  on_good : (fs : List Value) → AreFieldsOf bytes fs → (b : Bool) → are_good fs ≡ b → Reading_of bytes
  on_good fs is true e = on_needed fs is e (has_needed (kind_of bytes) fs) refl
  on_good fs is false e = inr (7, (bad_fields bytes whole fs is (false_not _ e)).reading)

  on_fields : ((fs : List Value) × AreFieldsOf bytes fs) ⊎ HasNone bytes → Reading_of bytes
  on_fields (inl found) = on_good found.0 found.1 (are_good found.0) refl
  on_fields (inr none) = inr (6, (fields_failed bytes whole (Bad 6) (λ gs h. none h.0 h.2, refl)).reading)

pub found : (bytes : List ℕ) → All (λ b. b < 256) bytes → IsWhole bytes → ((m : Message) × IsMessage bytes m) ⊎ ((rule : ℕ) × IsFirstBroken bytes rule)
found bytes all whole = let fits = bytes_all bytes all in on_fields bytes fits whole (fields bytes fits)
