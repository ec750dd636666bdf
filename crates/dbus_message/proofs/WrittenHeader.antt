-- The header of a message that is written.
use Rattle.std.proofs.Common.{◌≡◌, ℕ, ◌+◌, ◌-◌, List, [], ◌∷◌, ◌++◌, length, take, drop, replicate, sym, ap, ◌∙◌, append_assoc, append-nil, arith}
use Rattle.std.proofs.lemmas.List.{take_at, drop_at, length-append}
use Rattle.std.specs.Int.{w32}
use Rattle.dbus_types.specs.declared.types.Endian.TheVariants.{Little}
use Rattle.dbus_types.specs.declared.types.Value.{Value}
use Rattle.dbus_types.specs.declared.types.Value.TheVariants as V
use Rattle.dbus_values.specs.Spells.{number, gap}
use Rattle.dbus_values.specs.Spelling.{Spelled, spelling, spellings}
use Rattle.dbus_values.proofs.OneSpelling.{roll_array}
use Rattle.dbus_marshal.proofs.TakenFronts.{four, number_len}
use Rattle.dbus_message.specs.Fields.{field_type}
use Rattle.dbus_message.proofs.WrittenAreMessages.{field_alignment}

-- one value behind others, and the rest of a row behind it
pub row_more : (out one whole : List ℕ) (v : Value) (vs : List Value) → one ≡ out ++ spelling Little (length out) v → whole ≡ one ++ spellings Little (length one) vs → whole ≡ out ++ spellings Little (length out) (v ∷ vs)
row_more out one whole v vs a b =
    let text : List ℕ = spelling Little (length out) v in
    let place : length one ≡ length out + length text = omega (arith, ap length a, length-append out text) in
    b ∙ (ap (λ (k : ℕ). one ++ spellings Little k vs) place ∙ (ap (λ (w : List ℕ). w ++ spellings Little (length out + length text) vs) a ∙ append_assoc out text (spellings Little (length out + length text) vs)))

pub row_last : (out one : List ℕ) (v : Value) → one ≡ out ++ spelling Little (length out) v → one ≡ out ++ spellings Little (length out) (v ∷ [])
row_last out one v a = row_more out one one v [] a (sym (append-nil one))

-- the array of the fields at its place: the number of its bytes, and these
array_at : (fs : List Value) → spelling Little 12 (V.Array field_type fs) ≡ number Little w32 (length (spellings Little 16 fs)) ++ spellings Little 16 fs
array_at fs = ap (λ (s : Spelled). s.1 12) (roll_array Little field_type fs)
    ∙ ap (λ (n : ℕ). number Little w32 (length (spellings Little (16 + gap n 16) fs)) ++ (replicate (gap n 16) 0 ++ spellings Little (16 + gap n 16) fs)) field_alignment

-- the number of bytes of the fields is put ahead of them, behind the first twelve bytes
pub fields_laid : (first x y z : List ℕ) (fs : List Value) (n : ℕ) → length first ≡ 12 → x ≡ first ++ (0 ∷ 0 ∷ 0 ∷ 0 ∷ []) → y ≡ x ++ spellings Little (length x) fs → n ≡ length y - 16
    → z ≡ take 12 y ++ (number Little w32 n ++ drop 16 y) → z ≡ first ++ spelling Little 12 (V.Array field_type fs)
fields_laid first x y z fs n twelve a b size put =
    let E : List ℕ = spellings Little 16 fs in
    let place : length x ≡ 16 = omega (arith, ap length a, length-append first (0 ∷ 0 ∷ 0 ∷ 0 ∷ []), twelve) in
    let behind : y ≡ x ++ E = b ∙ ap (λ (k : ℕ). x ++ spellings Little k fs) place in
    let whole : y ≡ first ++ (0 ∷ 0 ∷ 0 ∷ 0 ∷ E) = behind ∙ (ap (λ (w : List ℕ). w ++ E) a ∙ append_assoc first (0 ∷ 0 ∷ 0 ∷ 0 ∷ []) E) in
    let count : n ≡ length E = omega (arith, size, ap length behind, length-append x E, place) in
    let front : take 12 y ≡ first = ap (take 12) whole ∙ take_at first (0 ∷ 0 ∷ 0 ∷ 0 ∷ E) 12 twelve in
    let rest : drop 16 y ≡ E = ap (drop 16) behind ∙ drop_at x E 16 place in
    put ∙ ((λ i. front i ++ (number Little w32 (count i) ++ rest i)) ∙ ap (λ (w : List ℕ). first ++ w) (sym (array_at fs)))

pub head_laid : (k serial : ℕ) (a b d : List ℕ) → a ≡ 108 ∷ k ∷ 1 ∷ 1 ∷ [] → b ≡ a ++ (0 ∷ 0 ∷ 0 ∷ 0 ∷ []) → d ≡ b ++ number Little w32 serial → d ≡ 108 ∷ k ∷ 1 ∷ 1 ∷ 0 ∷ 0 ∷ 0 ∷ 0 ∷ number Little w32 serial
head_laid k serial a b d p q r = r ∙ ap (λ (w : List ℕ). w ++ number Little w32 serial) (q ∙ ap (λ (w : List ℕ). w ++ (0 ∷ 0 ∷ 0 ∷ 0 ∷ [])) p)

pub head_len : (k serial : ℕ) (d : List ℕ) → d ≡ 108 ∷ k ∷ 1 ∷ 1 ∷ 0 ∷ 0 ∷ 0 ∷ 0 ∷ number Little w32 serial → length d ≡ 12
head_len k serial d e = omega (arith, ap length e, number_len Little four serial)
