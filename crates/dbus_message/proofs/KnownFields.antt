-- What the fields of known codes say is what all fields say.
use Rattle.std.proofs.Common.{◌≡◌, ℕ, ◌+◌, ◌<◌, ◌≤◌, Bool, true, false, List, [], ◌∷◌, length, Option, Some, refl, sym, ap, subst, ◌∙◌, arith}
use Rattle.std.specs.Prelude.{◌==◌, ◌&&◌, nat_le, filter, find, option_and_then, is_some, unwrap_or}
use Rattle.std.specs.List.{list_all}
use Rattle.std.proofs.lemmas.Bool.{leb-false, ne_eqb}
use Rattle.dbus_types.specs.declared.types.Endian.{Endian}
use Rattle.dbus_types.specs.declared.types.WireType.{WireType, out-WireType, the_lemmas as type_lemmas}
use Rattle.dbus_types.specs.declared.types.WireType.TheOpen.{WireType-F}
use Rattle.dbus_types.specs.declared.types.WireType.TheVariants as W
use Rattle.dbus_types.specs.declared.types.Value.{Value, out-Value}
use Rattle.dbus_types.specs.declared.types.Value.TheVariants as V
use Rattle.dbus_types.specs.declared.message.Message.{Message}
use Rattle.dbus_values.specs.Spells.{Spells, SpellsWithin, Row, Members, Elements}
use Rattle.dbus_marshal.specs.Reads.{has_code_to}
use Rattle.dbus_message.specs.Fields.{AreFieldsOf, field_type, field_code, field_value, known, is_in_table, is_field, is_once, known_codes, are_good, value_of, text_in, number_in, text_of, number_of, has, has_needed}
use Rattle.dbus_message.specs.Header.{endian_of, field_bytes}
use Rattle.dbus_message.specs.Messages.{SaysFields}
use Rattle.dbus_values.proofs.PackedBytes.{of_others}
use Rattle.dbus_message.proofs.Arrays.{no_byte, same_items}
use Rattle.dbus_message.proofs.Tables.{out_struct, out_variant}

-- ---- looking for a known code

abbrev of_code : ℕ → Value → Bool
of_code c f = field_code f == c

apart : (c : ℕ) (f : Value) → c ≤ 9 → has_code_to 9 f ≡ false → of_code c f ≡ false
apart c f le h = let high : 9 < field_code f = leb-false (field_code f) 9 h in ne_eqb (field_code f) c (λ e. omega (arith, high, e, le))

step_filter : (c : ℕ) (f : Value) (fs : List Value) → c ≤ 9 → filter (of_code c) (known fs) ≡ filter (of_code c) fs → (b : Bool) → has_code_to 9 f ≡ b → filter (of_code c) (known (f ∷ fs)) ≡ filter (of_code c) (f ∷ fs)
step_filter c f fs le rest true is = rw (is, rest) refl
step_filter c f fs le rest false is = rw (is, apart c f le is) rest

known_filter : (c : ℕ) → c ≤ 9 → (fs : List Value) → filter (of_code c) (known fs) ≡ filter (of_code c) fs
known_filter c le [] = refl
known_filter c le (f ∷ fs) = step_filter c f fs le (known_filter c le fs) (has_code_to 9 f) refl

step_find : (c : ℕ) (f : Value) (fs : List Value) → c ≤ 9 → find (of_code c) (known fs) ≡ find (of_code c) fs → (b : Bool) → has_code_to 9 f ≡ b → find (of_code c) (known (f ∷ fs)) ≡ find (of_code c) (f ∷ fs)
step_find c f fs le rest true is = rw (is, rest) refl
step_find c f fs le rest false is = rw (is, apart c f le is) rest

known_find : (c : ℕ) → c ≤ 9 → (fs : List Value) → find (of_code c) (known fs) ≡ find (of_code c) fs
known_find c le [] = refl
known_find c le (f ∷ fs) = step_find c f fs le (known_find c le fs) (has_code_to 9 f) refl

value_known : (c : ℕ) → c ≤ 9 → (fs : List Value) → value_of c (known fs) ≡ value_of c fs
value_known c le fs = ap (λ (o : Option Value). option_and_then field_value o) (known_find c le fs)

text_known : (c : ℕ) → c ≤ 9 → (fs : List Value) → text_of c (known fs) ≡ text_of c fs
text_known c le fs = ap (λ (o : Option Value). option_and_then (λ v. text_in (out-Value v)) o) (value_known c le fs)

number_known : (c : ℕ) → c ≤ 9 → (fs : List Value) → number_of c (known fs) ≡ number_of c fs
number_known c le fs = ap (λ (o : Option Value). option_and_then (λ v. number_in (out-Value v)) o) (value_known c le fs)

has_known : (c : ℕ) → c ≤ 9 → (fs : List Value) → has c (known fs) ≡ has c fs
has_known c le fs = ap (λ (o : Option Value). is_some o) (value_known c le fs)

needed_known : (kind : ℕ) (fs : List Value) → has_needed kind (known fs) ≡ has_needed kind fs
needed_known kind fs = rw (has_known 1 (omega arith) fs, has_known 2 (omega arith) fs, has_known 3 (omega arith) fs, has_known 4 (omega arith) fs, has_known 5 (omega arith) fs) refl

says_known : (fs : List Value) (m : Message) → SaysFields (known fs) m → SaysFields fs m
says_known fs m h = (
  h.0 ∙ text_known 1 (omega arith) fs,
  h.1 ∙ text_known 2 (omega arith) fs,
  h.2 ∙ text_known 3 (omega arith) fs,
  h.3 ∙ text_known 4 (omega arith) fs,
  h.4 ∙ number_known 5 (omega arith) fs,
  h.5 ∙ ap (λ (o : Option ℕ). unwrap_or o 0) (number_known 9 (omega arith) fs),
)

-- ---- fields that are spelled have values

abbrev HasValue : Value → Type 0
HasValue f = (v : Value) × (field_value f ≡ Some v)

abbrev HaveValues : List Value → Type 0
HaveValues [] = Unit {0}
HaveValues (f ∷ fs) = HasValue f × HaveValues fs

type_array : (t : WireType) → out-WireType (W.Array t) ≡ WireType-F.Array t
type_array t = search type_lemmas

type_struct : (ts : List WireType) → out-WireType (W.Struct ts) ≡ WireType-F.Struct ts
type_struct ts = search type_lemmas

type_variant : out-WireType W.Variant ≡ WireType-F.Variant
type_variant = search type_lemmas

is_variant : (e : Endian) (at : ℕ) (v : Value) (text : List ℕ) → SpellsWithin 62 e W.Variant at v text → (x : Value) × (v ≡ V.Variant x)
unfolding SpellsWithin
is_variant e at v text h = let row : Row (SpellsWithin 61 e) e WireType-F.Variant at v text = subst (λ (f : WireType-F WireType). Row (SpellsWithin 61 e) e f at v text) type_variant h in (row.1, row.3)

value_in : (a x : Value) → field_value (V.Struct (a ∷ V.Variant x ∷ [])) ≡ Some x
value_in a x = simp (out_struct, out_variant)

two_members : (e : Endian) (vs : List Value) (at : ℕ) (text : List ℕ) → Members (SpellsWithin 62 e) (W.Byte ∷ W.Variant ∷ []) vs at text → (a x : Value) × (vs ≡ a ∷ V.Variant x ∷ [])
two_members e [] at text h = absurd h
two_members e (a ∷ []) at text h = absurd h.4
two_members e (a ∷ b ∷ []) at text h =
    let v = is_variant e (at + length h.0) b h.4.0 h.4.3 in
    (a, v.0, ap (λ (w : Value). a ∷ w ∷ []) v.1)
two_members e (a ∷ b ∷ c ∷ ds) at text h = absurd h.4.4

has_value : (e : Endian) (at : ℕ) (f : Value) (text : List ℕ) → SpellsWithin 63 e field_type at f text → HasValue f
unfolding SpellsWithin
has_value e at f text h =
    let row : Row (SpellsWithin 62 e) e (WireType-F.Struct (W.Byte ∷ W.Variant ∷ [])) at f text = subst (λ (k : WireType-F WireType). Row (SpellsWithin 62 e) e k at f text) (type_struct (W.Byte ∷ W.Variant ∷ [])) h in
    let two = two_members e row.2.0 _ _ row.2.3 in
    (two.1, ap field_value (row.2.1 ∙ ap (λ (vs : List Value). V.Struct vs) two.2) ∙ value_in two.0 two.1)

all_have : (e : Endian) (fs : List Value) (at : ℕ) (text : List ℕ) → Elements (SpellsWithin 63 e) field_type fs at text → HaveValues fs
all_have e [] at text h = tt
all_have e (f ∷ fs) at text h = (has_value e at f h.0 h.3, all_have e fs (at + length h.0) h.1 h.4)

have_values : (e : Endian) (at : ℕ) (fs : List Value) (text : List ℕ) → Spells e at (W.Array field_type) (V.Array field_type fs) text → HaveValues fs
unfolding SpellsWithin
have_values e at fs text h =
    let row : Row (SpellsWithin 63 e) e (WireType-F.Array field_type) at (V.Array field_type fs) text = subst (λ (f : WireType-F WireType). Row (SpellsWithin 63 e) e f at (V.Array field_type fs) text) (type_array field_type) h in
    subst HaveValues (sym (same_items field_type field_type fs row.2.0 (row.2.2 ∙ of_others field_type row.2.0 no_byte))) (all_have e row.2.0 _ _ row.2.5)

-- ---- the table

other_code : (n k : ℕ) → 9 < n → k ≤ 9 → (n == k) ≡ false
other_code n k high low = ne_eqb n k (λ e. omega (arith, high, low, e))

any_value : (n : ℕ) (v : Value) → 9 < n → is_in_table n v ≡ true
any_value n v high = rw (
  other_code n 0 high (omega arith),
  other_code n 1 high (omega arith),
  other_code n 2 high (omega arith),
  other_code n 3 high (omega arith),
  other_code n 4 high (omega arith),
  other_code n 5 high (omega arith),
  other_code n 6 high (omega arith),
  other_code n 7 high (omega arith),
  other_code n 8 high (omega arith),
  other_code n 9 high (omega arith),
) refl

any_field : (f : Value) → HasValue f → has_code_to 9 f ≡ false → is_field f ≡ true
any_field f h high = rw h.1 (any_value (field_code f) h.0 (leb-false (field_code f) 9 high))

step_good : (f : Value) (fs : List Value) → HasValue f → list_all is_field (known fs) ≡ list_all is_field fs → (b : Bool) → has_code_to 9 f ≡ b → list_all is_field (known (f ∷ fs)) ≡ list_all is_field (f ∷ fs)
step_good f fs h rest true is = rw is (ap (λ (b : Bool). is_field f && b) rest)
step_good f fs h rest false is = rw is (rest ∙ ap (λ (b : Bool). b && list_all is_field fs) (sym (any_field f h is)))

fields_known : (fs : List Value) → HaveValues fs → list_all is_field (known fs) ≡ list_all is_field fs
fields_known [] h = refl
fields_known (f ∷ fs) h = step_good f fs h.0 (fields_known fs h.1) (has_code_to 9 f) refl

once_known : (c : ℕ) → c ≤ 9 → (fs : List Value) → is_once (known fs) c ≡ is_once fs c
once_known c le fs = ap (λ (l : List Value). nat_le (length l) 1) (known_filter c le fs)

-- codes of the table
abbrev AreLow : List ℕ → Type 0
AreLow [] = Unit {0}
AreLow (c ∷ cs) = (c ≤ 9) × AreLow cs

all_once : (cs : List ℕ) → AreLow cs → (fs : List Value) → list_all (is_once (known fs)) cs ≡ list_all (is_once fs) cs
all_once [] low fs = refl
all_once (c ∷ cs) low fs = rw (once_known c low.0 fs, all_once cs low.1 fs) refl

good_known : (e : Endian) (at : ℕ) (fs : List Value) (text : List ℕ) → Spells e at (W.Array field_type) (V.Array field_type fs) text → are_good (known fs) ≡ are_good fs
good_known e at fs text h =
    let low : AreLow known_codes = (omega arith, (omega arith, (omega arith, (omega arith, (omega arith, (omega arith, (omega arith, (omega arith, (omega arith, tt))))))))) in
    rw (fields_known fs (have_values e at fs text h), all_once known_codes low fs) refl

-- ---- where the known fields are those of the fields that bytes spell

module _ (bytes : List ℕ) (some : List Value) (is : (fields : List Value) × (some ≡ known fields) × AreFieldsOf bytes fields) where
  pub good_from : are_good some ≡ are_good is.0
  good_from = ap are_good is.1 ∙ good_known (endian_of bytes) 12 is.0 (field_bytes bytes) is.2

  pub needed_from : (kind : ℕ) → has_needed kind some ≡ has_needed kind is.0
  needed_from kind = ap (has_needed kind) is.1 ∙ needed_known kind is.0

  pub text_from : text_of 8 some ≡ text_of 8 is.0
  text_from = ap (text_of 8) is.1 ∙ text_known 8 (omega arith) is.0

  pub says_from : (m : Message) → SaysFields some m → SaysFields is.0 m
  says_from m h = says_known is.0 m (subst (λ (l : List Value). SaysFields l m) is.1 h)
