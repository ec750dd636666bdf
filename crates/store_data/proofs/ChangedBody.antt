-- Where the body of the signal Changed ends: behind what stands ahead of the data come the data and
-- the rows.
use Rattle.std.proofs.Common.{◌≡◌, ℕ, ◌+◌, ◌≤◌, List, [], ◌∷◌, false, refl, ap, ◌∙◌, arith}
use Rattle.dbus_types.specs.declared.types.Value.{Value}
use Rattle.dbus_types.specs.declared.types.Value.TheVariants as V
use Rattle.dbus_values.specs.Spelling.{spelled_length, spelled_lengths}
use Rattle.portal_model.specs.Changed.{changed_value, rows_value}
use Rattle.portal_model.specs.declared.records.EntryRecord.{EntryRecord}
use Rattle.portal_model.proofs.SpelledEnds.{on, struct-end, values-more}

-- three values are passed
three : (x y z : Value) (vs : List Value) → let n = spelled_lengths 0 (x ∷ y ∷ z ∷ []) in n + spelled_lengths n vs ≡ spelled_lengths 0 (x ∷ y ∷ z ∷ vs)
three x y z vs =
    let a : ℕ = 0 + spelled_length 0 x in
    let b : ℕ = a + spelled_length a y in
    let c : ℕ = b + spelled_length b z in
    let whole : c + spelled_lengths c vs ≡ 0 + spelled_lengths 0 (x ∷ y ∷ z ∷ vs) = on b c z vs refl ∙ (on a b y (z ∷ vs) refl ∙ on 0 a x (y ∷ z ∷ vs) refl) in
    let first : c + 0 ≡ 0 + spelled_lengths 0 (x ∷ y ∷ z ∷ []) = on b c z [] refl ∙ (on a b y (z ∷ []) refl ∙ on 0 a x (y ∷ z ∷ []) refl) in
    let same : spelled_lengths 0 (x ∷ y ∷ z ∷ []) ≡ c = omega (arith, first) in
    ap (λ (n : ℕ). n + spelled_lengths n vs) same ∙ (whole ∙ unit-left)
  where
    unit-left : {n : ℕ} → 0 + n ≡ n
    unit-left {n} = omega arith

pub body-end : (entry : EntryRecord) (datum : Value) (at rows : ℕ) → at ≡ spelled_lengths 0 (V.Str entry.table ∷ V.Str entry.id ∷ V.Bool false ∷ []) → rows ≡ at + spelled_length at datum → rows + spelled_length rows (rows_value entry.rows) ≡ spelled_length 0 (changed_value entry datum)
body-end entry datum at rows e h =
    let last : Value = rows_value entry.rows in
    let values : List Value = V.Str entry.table ∷ V.Str entry.id ∷ V.Bool false ∷ datum ∷ last ∷ [] in
    let whole : 0 + spelled_lengths 0 values ≡ 0 + spelled_length 0 (V.Struct values) = struct-end 0 values in
    let front : at + spelled_lengths at (datum ∷ last ∷ []) ≡ spelled_lengths 0 values = ap (λ (n : ℕ). n + spelled_lengths n (datum ∷ last ∷ [])) e ∙ three (V.Str entry.table) (V.Str entry.id) (V.Bool false) (datum ∷ last ∷ []) in
    omega (arith, whole, front, on at rows datum (last ∷ []) h, values-more rows last [])

-- the data ends no later than the body
pub datum-within : (entry : EntryRecord) (datum : Value) (at : ℕ) → at ≡ spelled_lengths 0 (V.Str entry.table ∷ V.Str entry.id ∷ V.Bool false ∷ []) → at + spelled_length at datum ≤ spelled_length 0 (changed_value entry datum)
datum-within entry datum at e = omega (arith, body-end entry datum at (at + spelled_length at datum) e refl)
