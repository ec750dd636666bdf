-- Header fields, read as structs of a byte and a variant.
use Rattle.std.proofs.Common.{◌≡◌, ℕ, ◌-◌, List, [], ◌∷◌, Result, Ok, Err, refl, sym, ap, subst, ◌∙◌, arith}
use Rattle.std.specs.Prelude.{Bool, true, false, zero, suc, length, filter, nat_lt, if◌then◌else◌}
use Rattle.std.specs.Int.{w32}
use Rattle.dbus_types.specs.declared.types.Endian.{Endian}
use Rattle.dbus_types.specs.declared.types.WireType.{WireType, out-WireType, the_lemmas}
use Rattle.dbus_types.specs.declared.types.WireType.TheOpen.{WireType-F}
use Rattle.dbus_types.specs.declared.types.WireType.TheVariants as W
use Rattle.dbus_types.specs.declared.types.Value.{Value, out-Value, the_lemmas as value_lemmas}
use Rattle.dbus_types.specs.declared.types.Value.TheOpen.{Value-F}
use Rattle.dbus_types.specs.declared.types.Value.TheVariants as V
use Rattle.dbus_basic.specs.declared.error.ReadError.{ReadError}
use Rattle.dbus_basic.specs.declared.error.ReadError.TheVariants.{Short, Padding, BadBool, BadText, TooLong, BadSignature, TooDeep, BadArray, Memory}
use Rattle.dbus_basic.specs.Reading.{◌>>=◌, Fails, Read}
use Rattle.dbus_basic.specs.Fields.{padded, byte_at, taken, ended, number_at}
use Rattle.dbus_marshal.specs.Reads.{type_in, flat, layer, members, joined, reads, listed, elements, within_array, inside_at, field_at, fields_at, field_type, fields_type, has_code_to, sifted}
use Rattle.dbus_marshal.proofs.Depths.{reads_more, reads_array, reads_struct, out_byte, out_struct}
use Rattle.dbus_marshal.proofs.Loops.{fails_as}
use Rattle.dbus_marshal.proofs.SpelledIsRead.{ok_is}
use Rattle.dbus_marshal.proofs.StepBreaks.{err_is}

-- what follows a reading goes into its last step
into : {A B C : Type 0} (r : Result A ReadError) (f : A → Result B ReadError) (g : B → Result C ReadError) (h : A → Result C ReadError) → ((x : A) → (f x >>= g) ≡ h x) → ((r >>= f) >>= g) ≡ (r >>= h)
into (Ok x) f g h same = same x
into (Err e) f g h same = refl

alike : {A B : Type 0} (r : Result A ReadError) (f g : A → Result B ReadError) → ((x : A) → f x ≡ g x) → (r >>= f) ≡ (r >>= g)
alike (Ok x) f g same = same x
alike (Err e) f g same = refl

abbrev held : Value × ℕ × List ℕ → Read Value
held x = Ok (V.Variant x.0, x.1, x.2)

abbrev a_byte : ℕ × ℕ × List ℕ → Read Value
a_byte b = Ok (V.Byte b.0, b.1, b.2)

abbrev behind : Value → Value × ℕ × List ℕ → Read (List Value)
behind v x = Ok (v ∷ x.0 ∷ [], x.1, x.2)

abbrev a_struct : List Value × ℕ × List ℕ → Read Value
a_struct vs = Ok (V.Struct vs.0, vs.1, vs.2)

abbrev a_field : ℕ → Value × ℕ × List ℕ → Read Value
a_field code x = Ok (V.Struct (V.Byte code ∷ V.Variant x.0 ∷ []), x.1, x.2)

variant_is : (r : WireType → ℕ → List ℕ → Read Value) (e : Endian) (at : ℕ) (bytes : List ℕ) → (inside_at r at bytes >>= held) ≡ layer r e WireType-F.Variant at bytes
unfolding inside_at layer
variant_is r e at bytes = into (byte_at at bytes) _ held _ (λ n. into (taken n.0 n.1 n.2) _ held _ (λ text. into (type_in n.1 text.0) _ held _ (λ t. into (ended (BadSignature text.1) text.1 text.2) _ held _ (λ last. refl))))

pub variant_gives : (r : WireType → ℕ → List ℕ → Read Value) (e : Endian) (at : ℕ) (bytes : List ℕ) (x : Value × ℕ × List ℕ) → inside_at r at bytes ≡ Ok x → layer r e WireType-F.Variant at bytes ≡ Ok (V.Variant x.0, x.1, x.2)
variant_gives r e at bytes x is = sym (variant_is r e at bytes) ∙ rw is refl

pub variant_fails : (r : WireType → ℕ → List ℕ → Read Value) (e : Endian) (at : ℕ) (bytes : List ℕ) (d : ReadError) → Fails d (inside_at r at bytes) → Fails d (layer r e WireType-F.Variant at bytes)
variant_fails r e at bytes d h = rw (← variant_is r e at bytes) (fails_as d (inside_at r at bytes) (λ x. x >>= held) (λ k. refl) h)

members_two : (r : WireType → ℕ → List ℕ → Read Value) (t u : WireType) (at : ℕ) (bytes : List ℕ) → members r (t ∷ u ∷ []) at bytes ≡ (r t at bytes >>= λ a. r u a.1 a.2 >>= behind a.0)
unfolding members
members_two r t u at bytes = alike (r t at bytes) _ _ (λ a. last a.0 (r u a.1 a.2))
  where
    last : (v : Value) (q : Read Value) → joined (v ∷ []) (q >>= λ b. joined (b.0 ∷ []) (Ok ([], b.1, b.2))) ≡ (q >>= behind v)
    last v (Ok b) = refl
    last v (Err e) = refl

layer_byte : (r : WireType → ℕ → List ℕ → Read Value) (e : Endian) (at : ℕ) (bytes : List ℕ) → layer r e WireType-F.Byte at bytes ≡ (byte_at at bytes >>= a_byte)
unfolding layer flat
layer_byte r e at bytes = refl

byte_is : (n : ℕ) (e : Endian) (at : ℕ) (bytes : List ℕ) → (n ≡ 0 → ⊥) → reads n e W.Byte at bytes ≡ (byte_at at bytes >>= a_byte)
byte_is n e at bytes some = reads_more n e W.Byte at bytes some ∙ (ap (λ (x : WireType-F WireType). layer (reads (n - 1) e) e x at bytes) out_byte ∙ layer_byte (reads (n - 1) e) e at bytes)

out_variant : out-WireType W.Variant ≡ WireType-F.Variant
out_variant = search the_lemmas

pub variant_read : (n : ℕ) (e : Endian) (at : ℕ) (bytes : List ℕ) → (n ≡ 0 → ⊥) → reads n e W.Variant at bytes ≡ (inside_at (reads (n - 1) e) at bytes >>= held)
variant_read n e at bytes some = reads_more n e W.Variant at bytes some ∙ (ap (λ (x : WireType-F WireType). layer (reads (n - 1) e) e x at bytes) out_variant ∙ sym (variant_is (reads (n - 1) e) e at bytes))

-- a code and what a variant holds, as the members of a struct
pair_is : (p : Read ℕ) (r inside : ℕ → List ℕ → Read Value) → ((at : ℕ) (bytes : List ℕ) → r at bytes ≡ (inside at bytes >>= held))
    → (((p >>= a_byte) >>= λ a. r a.1 a.2 >>= behind a.0) >>= a_struct) ≡ (p >>= λ code. inside code.1 code.2 >>= a_field code.0)
pair_is (Err e) r inside is = refl
pair_is (Ok b) r inside is = rw (is b.1 b.2) (last (inside b.1 b.2))
  where
    last : (q : Read Value) → (((q >>= held) >>= behind (V.Byte b.0)) >>= a_struct) ≡ (q >>= a_field b.0)
    last (Ok x) = refl
    last (Err e) = refl

struct_is : (e : Endian) (at : ℕ) (bytes : List ℕ) → layer (reads 63 e) e (WireType-F.Struct (W.Byte ∷ W.Variant ∷ [])) at bytes ≡ field_at e at bytes
unfolding layer field_at
struct_is e at bytes = alike (padded 8 at bytes) _ _ (λ start. rw (members_two (reads 63 e) W.Byte W.Variant start.0 start.1, byte_is 63 e start.0 start.1 (λ z. omega (arith, z)))
    (pair_is (byte_at start.0 start.1) (reads 63 e W.Variant) (inside_at (reads 62 e)) (λ k rest. variant_read 63 e k rest (λ z. omega (arith, z)))))

-- a header field is read as the struct that it is
pub field_is : (e : Endian) (at : ℕ) (bytes : List ℕ) → reads 64 e (W.Struct (W.Byte ∷ W.Variant ∷ [])) at bytes ≡ field_at e at bytes
field_is e at bytes = reads_struct 64 e (W.Struct (W.Byte ∷ W.Variant ∷ [])) (W.Byte ∷ W.Variant ∷ []) at bytes (λ z. omega (arith, z)) refl ∙ struct_is e at bytes

elements_alike : (n : ℕ) (f g : ℕ → List ℕ → Read Value) → ((at : ℕ) (bytes : List ℕ) → f at bytes ≡ g at bytes) → (at : ℕ) (bytes : List ℕ) → elements n f at bytes ≡ elements n g at bytes
unfolding elements
elements_alike zero f g same at [] = refl
elements_alike (suc n) f g same at [] = refl
elements_alike zero f g same at (b ∷ bytes) = refl
elements_alike (suc n) f g same at (b ∷ bytes) = rw (same at (b ∷ bytes)) (alike (g at (b ∷ bytes)) _ _ (λ first. ap (listed (first.0 ∷ [])) (elements_alike n f g same first.1 first.2)))

choice : {A B : Type 0} (c : Bool) (d : ReadError) (r : Result A ReadError) (g : A → Result B ReadError) (h : Result B ReadError) → (r >>= g) ≡ h → ((if c then Err d else r) >>= g) ≡ (if c then Err d else h)
choice true d r g h same = refl
choice false d r g h same = same

abbrev listing : ℕ → List ℕ → List Value → Read (List Value)
listing next rest vs = Ok (vs, next, rest)

abbrev an_array : List Value × ℕ × List ℕ → Read Value
an_array vs = Ok (V.Array field_type vs.0, vs.1, vs.2)

abbrev arrayed : ℕ → List ℕ → List Value → Read Value
arrayed next rest vs = Ok (V.Array field_type vs, next, rest)

listed_array : (q : Result (List Value) ReadError) (next : ℕ) (rest : List ℕ) → ((q >>= listing next rest) >>= an_array) ≡ (q >>= arrayed next rest)
listed_array (Ok vs) next rest = refl
listed_array (Err d) next rest = refl

-- the array of the header fields, of which all are kept
abbrev all_at : Endian → ℕ → List ℕ → Read (List Value)
all_at e at bytes = do
  start ← padded 4 at bytes
  n ← number_at e w32 start.0 start.1
  if nat_lt 67_108_864 n.0 then Err (TooLong start.0) else do
    from ← padded 8 n.1 n.2
    body ← taken n.0 from.0 from.1
    vs ← within_array (elements (length body.0) (field_at e) from.0 body.0)
    Ok (vs, body.1, body.2)

array_is : (e : Endian) (at : ℕ) (bytes : List ℕ) → (all_at e at bytes >>= an_array) ≡ layer (reads 64 e) e (WireType-F.Array field_type) at bytes
unfolding layer
array_is e at bytes = into (padded 4 at bytes) _ an_array _ (λ start. into (number_at e w32 start.0 start.1) _ an_array _ (λ n. choice (nat_lt 67_108_864 n.0) (TooLong start.0) _ an_array _
    (rw (out_struct (W.Byte ∷ W.Variant ∷ [])) (into (padded 8 n.1 n.2) _ an_array _ (λ from. into (taken n.0 from.0 from.1) _ an_array _ (λ body.
    rw (elements_alike (length body.0) (reads 64 e field_type) (field_at e) (field_is e) from.0 body.0) (listed_array (within_array (elements (length body.0) (field_at e) from.0 body.0)) body.1 body.2)))))))

all_are : (e : Endian) (at : ℕ) (bytes : List ℕ) → (all_at e at bytes >>= an_array) ≡ reads 65 e fields_type at bytes
all_are e at bytes = array_is e at bytes ∙ sym (reads_array 65 e fields_type field_type at bytes (λ z. omega (arith, z)) refl)

-- and then those whose codes are at most so high
abbrev a_sieve : ℕ → List Value × ℕ × List ℕ → Read (List Value)
a_sieve highest vs = Ok (filter (has_code_to highest) vs.0, vs.1, vs.2)

listed_sieve : (highest : ℕ) (q : Result (List Value) ReadError) (next : ℕ) (rest : List ℕ) → ((within_array q >>= listing next rest) >>= a_sieve highest) ≡ (within_array (sifted highest q) >>= listing next rest)
listed_sieve highest (Ok vs) next rest = refl
listed_sieve highest (Err d) next rest = refl

fields_are : (highest : ℕ) (e : Endian) (at : ℕ) (bytes : List ℕ) → (all_at e at bytes >>= a_sieve highest) ≡ fields_at highest e at bytes
unfolding fields_at
fields_are highest e at bytes = into (padded 4 at bytes) _ (a_sieve highest) _ (λ start. into (number_at e w32 start.0 start.1) _ (a_sieve highest) _ (λ n. choice (nat_lt 67_108_864 n.0) (TooLong start.0) _ (a_sieve highest) _
    (into (padded 8 n.1 n.2) _ (a_sieve highest) _ (λ from. into (taken n.0 from.0 from.1) _ (a_sieve highest) _ (λ body.
    listed_sieve highest (elements (length body.0) (field_at e) from.0 body.0) body.1 body.2)))))

-- what was sifted, and what from
sieved : (highest : ℕ) (q : Read (List Value)) (x : List Value × ℕ × List ℕ) → (q >>= a_sieve highest) ≡ Ok x → (all : List Value) × (x.0 ≡ filter (has_code_to highest) all) × (q ≡ Ok (all, x.1, x.2))
sieved highest (Ok vs) x is =
    let same = ok_is (filter (has_code_to highest) vs.0, vs.1, vs.2) x is in
    (vs.0, sym (ap (λ (p : List Value × ℕ × List ℕ). p.0) same), ap (λ (p : List Value × ℕ × List ℕ). Ok (vs.0, p.1, p.2)) same)
sieved highest (Err d) x is = absurd cc

pub fields_give : (highest : ℕ) (e : Endian) (at : ℕ) (bytes : List ℕ) (x : List Value × ℕ × List ℕ) → fields_at highest e at bytes ≡ Ok x
    → (all : List Value) × (x.0 ≡ filter (has_code_to highest) all) × (reads 65 e fields_type at bytes ≡ Ok (V.Array field_type all, x.1, x.2))
fields_give highest e at bytes x is =
    let s = sieved highest (all_at e at bytes) x (fields_are highest e at bytes ∙ is) in
    (s.0, s.1, sym (all_are e at bytes) ∙ ap (λ (q : Read (List Value)). q >>= an_array) s.2)

sieve_err : (highest : ℕ) (q : Read (List Value)) (d : ReadError) → (q >>= a_sieve highest) ≡ Err d → q ≡ Err d
sieve_err highest (Ok vs) d is = absurd cc
sieve_err highest (Err k) d is = ap (λ (e : ReadError). Err e) (err_is {A = List Value × ℕ × List ℕ} k d is)

fails_sieve : (highest : ℕ) (d : ReadError) (q : Read (List Value)) → Fails d (q >>= a_sieve highest) → Fails d q
fails_sieve highest Memory q h = tt
fails_sieve highest (Short at) q h = sieve_err highest q (Short at) h
fails_sieve highest (Padding at) q h = sieve_err highest q (Padding at) h
fails_sieve highest (BadBool at) q h = sieve_err highest q (BadBool at) h
fails_sieve highest (BadText at) q h = sieve_err highest q (BadText at) h
fails_sieve highest (TooLong at) q h = sieve_err highest q (TooLong at) h
fails_sieve highest (BadSignature at) q h = sieve_err highest q (BadSignature at) h
fails_sieve highest (TooDeep at) q h = sieve_err highest q (TooDeep at) h
fails_sieve highest (BadArray at) q h = sieve_err highest q (BadArray at) h

pub fields_fail : (highest : ℕ) (e : Endian) (at : ℕ) (bytes : List ℕ) (d : ReadError) → Fails d (fields_at highest e at bytes) → Fails d (reads 65 e fields_type at bytes)
fields_fail highest e at bytes d h =
    let all = fails_sieve highest d (all_at e at bytes) (subst (Fails d) (sym (fields_are highest e at bytes)) h) in
    subst (Fails d) (all_are e at bytes) (fails_as d (all_at e at bytes) (λ x. x >>= an_array) (λ k. refl) all)

out_fields : (t : WireType) (vs : List Value) → out-Value (V.Array t vs) ≡ Value-F.Array t vs
out_fields t vs = search value_lemmas

pub same_fields : (vs ws : List Value) → V.Array field_type vs ≡ V.Array field_type ws → vs ≡ ws
same_fields vs ws e = let p : Value-F.Array field_type vs ≡ Value-F.Array field_type ws = sym (out_fields field_type vs) ∙ (ap out-Value e ∙ out_fields field_type ws) in cc
