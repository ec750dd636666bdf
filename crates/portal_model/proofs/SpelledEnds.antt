-- Where values that are spelled one behind the other end.
use Rattle.std.proofs.Common.{◌≡◌, ℕ, ◌+◌, List, [], ◌∷◌, ◌++◌, length, map, replicate, refl, sym, ap, ◌∙◌, arith}
use Rattle.std.specs.Int.{w32}
use Rattle.std.proofs.lemmas.List.{length-append, length-replicate}
use Rattle.dbus_types.specs.declared.types.Endian.TheVariants.{Little}
use Rattle.dbus_types.specs.declared.types.WireType.{WireType, the_lemmas as type_lemmas}
use Rattle.dbus_types.specs.declared.types.WireType.TheVariants as W
use Rattle.dbus_types.specs.declared.types.Value.{Value}
use Rattle.dbus_types.specs.declared.types.Value.TheVariants as V
use Rattle.dbus_types.specs.Types.{alignment}
use Rattle.dbus_values.specs.Spells.{gap, number}
use Rattle.dbus_values.specs.Spelling.{Spelled, aligned, in_row, array_body, spelled, spelling, spelled_length, spelled_lengths}
use Rattle.dbus_values.proofs.OneSpelling.{roll_struct, roll_entry, roll_array}
use Rattle.portal_model.specs.Changed.{row_value, rows_value, texts_value}
use Rattle.portal_model.specs.declared.records.Row.{Row}

-- where the first element of an array stands, behind the array's length and the padding
abbrev pub elements_at : ℕ → ℕ → ℕ
elements_at to at = let start = at + gap 4 at in start + 4 + gap to (start + 4)

-- ---- pieces

pub behind : (to : ℕ) (f : ℕ → List ℕ) (at : ℕ) → at + length (aligned to f at) ≡ (at + gap to at) + length (f (at + gap to at))
behind to f at =
    let zeros : List ℕ = replicate (gap to at) 0 in
    omega (arith, length-append zeros (f (at + gap to at)), length-replicate {A = ℕ} (gap to at) 0)

pub number_32 : (n : ℕ) → length (number Little w32 n) ≡ 4
number_32 n = refl

-- ---- values

pub values-more : (at : ℕ) (v : Value) (vs : List Value) → spelled_lengths at (v ∷ vs) ≡ spelled_length at v + spelled_lengths (at + spelled_length at v) vs
values-more at v vs = length-append (spelling Little at v) (in_row (map (spelled Little) vs) (at + spelled_length at v))

abbrev length_of : ℕ → Spelled → ℕ
length_of at s = length (s.1 at)

pub struct-end : (at : ℕ) (vs : List Value) → (at + gap 8 at) + spelled_lengths (at + gap 8 at) vs ≡ at + spelled_length at (V.Struct vs)
struct-end at vs = sym (ap (λ (s : Spelled). at + length_of at s) (roll_struct Little vs) ∙ behind 8 (in_row (map (spelled Little) vs)) at)

pub entry-end : (at : ℕ) (k x : Value) → ((at + gap 8 at) + spelled_length (at + gap 8 at) k) + spelled_length ((at + gap 8 at) + spelled_length (at + gap 8 at) k) x ≡ at + spelled_length at (V.DictEntry k x)
entry-end at k x =
    let start : ℕ = at + gap 8 at in
    let whole : at + spelled_length at (V.DictEntry k x) ≡ start + spelled_lengths start (k ∷ x ∷ []) = ap (λ (s : Spelled). at + length_of at s) (roll_entry Little k x) ∙ behind 8 (in_row (map (spelled Little) (k ∷ x ∷ []))) at in
    omega (arith, values-more start k (x ∷ []), values-more (start + spelled_length start k) x [])

pub array-end : (at : ℕ) (t : WireType) (vs : List Value) → elements_at (alignment t) at + spelled_lengths (elements_at (alignment t) at) vs ≡ at + spelled_length at (V.Array t vs)
array-end at t vs =
    let to : ℕ = alignment t in
    let start : ℕ = at + gap 4 at in
    let body : List ℕ = in_row (map (spelled Little) vs) (start + 4 + gap to (start + 4)) in
    let zeros : List ℕ = replicate (gap to (start + 4)) 0 in
    let whole : at + spelled_length at (V.Array t vs) ≡ start + length (array_body Little to (map (spelled Little) vs) start) = ap (λ (s : Spelled). at + length_of at s) (roll_array Little t vs) ∙ behind 4 (array_body Little to (map (spelled Little) vs)) at in
    omega (arith, length-append (number Little w32 (length body)) (zeros ++ body), number_32 (length body), length-append zeros body, length-replicate {A = ℕ} (gap to (start + 4)) 0)

align-str : alignment W.Str ≡ 4
align-str = search type_lemmas

align-entry : (k v : WireType) → alignment (W.DictEntry k v) ≡ 8
align-entry k v = search type_lemmas

pub texts-end : (at : ℕ) (texts : List (List ℕ)) → elements_at 4 at + spelled_lengths (elements_at 4 at) (map (λ t. V.Str t) texts) ≡ at + spelled_length at (texts_value texts)
texts-end at texts =
    let vs : List Value = map (λ t. V.Str t) texts in
    ap (λ (to : ℕ). elements_at to at + spelled_lengths (elements_at to at) vs) (sym align-str) ∙ array-end at W.Str vs

pub rows-end : (at : ℕ) (rows : List Row) → elements_at 8 at + spelled_lengths (elements_at 8 at) (map row_value rows) ≡ at + spelled_length at (rows_value rows)
rows-end at rows =
    let vs : List Value = map row_value rows in
    let kind : WireType = W.DictEntry W.Str (W.Array W.Str) in
    ap (λ (to : ℕ). elements_at to at + spelled_lengths (elements_at to at) vs) (sym (align-entry W.Str (W.Array W.Str))) ∙ array-end at kind vs

-- the first of several is passed
pub on : (at next : ℕ) (v : Value) (vs : List Value) → next ≡ at + spelled_length at v → next + spelled_lengths next vs ≡ at + spelled_lengths at (v ∷ vs)
on at next v vs e =
    let moved : next + spelled_lengths next vs ≡ (at + spelled_length at v) + spelled_lengths (at + spelled_length at v) vs = ap (λ (n : ℕ). n + spelled_lengths n vs) e in
    omega (arith, values-more at v vs)
