-- An entry with fewer rows is told in no more bytes.
use Rattle.std.proofs.Common.{◌≡◌, ℕ, ◌+◌, ◌≤◌, nat_le, List, [], ◌∷◌, length, map, Bool, true, false, not, cond, refl, ap, ◌∙◌, arith}
use Rattle.std.specs.List.{filter}
use Rattle.std.proofs.lemmas.Bool.Decides.{nat_tests}
use Rattle.dbus_types.specs.declared.types.Endian.TheVariants.{Little}
use Rattle.dbus_types.specs.declared.types.Value.{Value}
use Rattle.dbus_types.specs.declared.types.Value.TheVariants as V
use Rattle.dbus_values.specs.Spells.{gap}
use Rattle.dbus_values.specs.Spelling.{Spelled, text_body, spelled_length, spelled_lengths}
use Rattle.dbus_values.proofs.OneSpelling.{roll_str}
use Rattle.portal_model.specs.Changed.{changed_header, row_value, rows_value, texts_value}
use Rattle.portal_model.specs.Rows.{is_row_of}
use Rattle.portal_model.specs.Store.{can_be_told, without_permissions}
use Rattle.portal_model.specs.declared.records.Row.{Row}
use Rattle.portal_model.specs.declared.store.StoredEntry.{StoredEntry}
use Rattle.portal_model.proofs.SpelledEnds.{behind, elements_at, on, entry-end, struct-end, rows-end, texts-end}

-- ---- what begins later ends later

pad-4 : (a b : ℕ) → a ≤ b → a + gap 4 a ≤ b + gap 4 b
pad-4 a b h = omega arith

pad-8 : (a b : ℕ) → a ≤ b → a + gap 8 a ≤ b + gap 8 b
pad-8 a b h = omega arith

str-is : (at : ℕ) (text : List ℕ) → at + spelled_length at (V.Str text) ≡ (at + gap 4 at) + length (text_body Little text)
str-is at text = ap (λ (s : Spelled). at + length (s.1 at)) (roll_str Little text) ∙ behind 4 (λ start. text_body Little text) at

str-later : (a b : ℕ) (text : List ℕ) → a ≤ b → a + spelled_length a (V.Str text) ≤ b + spelled_length b (V.Str text)
str-later a b text h = omega (arith, str-is a text, str-is b text, pad-4 a b h)

strs-later : (a b : ℕ) (texts : List (List ℕ)) → a ≤ b → a + spelled_lengths a (map (λ t. V.Str t) texts) ≤ b + spelled_lengths b (map (λ t. V.Str t) texts)
strs-later a b [] h = omega arith
strs-later a b (t ∷ ts) h =
    let c : ℕ = a + spelled_length a (V.Str t) in
    let d : ℕ = b + spelled_length b (V.Str t) in
    omega (
      arith,
      on a c (V.Str t) (map (λ t. V.Str t) ts) refl,
      on b d (V.Str t) (map (λ t. V.Str t) ts) refl,
      strs-later c d ts (str-later a b t h),
    )

texts-later : (a b : ℕ) (texts : List (List ℕ)) → a ≤ b → a + spelled_length a (texts_value texts) ≤ b + spelled_length b (texts_value texts)
texts-later a b texts h =
    let start : a + gap 4 a + 4 ≤ b + gap 4 b + 4 = omega (arith, pad-4 a b h) in
    omega (
      arith,
      texts-end a texts,
      texts-end b texts,
      strs-later (elements_at 4 a) (elements_at 4 b) texts (pad-4 (a + gap 4 a + 4) (b + gap 4 b + 4) start),
    )

row-later : (a b : ℕ) (row : Row) → a ≤ b → a + spelled_length a (row_value row) ≤ b + spelled_length b (row_value row)
row-later a b row h =
    let c : ℕ = a + gap 8 a in
    let d : ℕ = b + gap 8 b in
    let key : c + spelled_length c (V.Str row.app) ≤ d + spelled_length d (V.Str row.app) = str-later c d row.app (pad-8 a b h) in
    omega (
      arith,
      entry-end a (V.Str row.app) (texts_value row.names),
      entry-end b (V.Str row.app) (texts_value row.names),
      texts-later (c + spelled_length c (V.Str row.app)) (d + spelled_length d (V.Str row.app)) row.names key,
    )

rows-later : (a b : ℕ) (rows : List Row) → a ≤ b → a + spelled_lengths a (map row_value rows) ≤ b + spelled_lengths b (map row_value rows)
rows-later a b [] h = omega arith
rows-later a b (r ∷ rs) h =
    let c : ℕ = a + spelled_length a (row_value r) in
    let d : ℕ = b + spelled_length b (row_value r) in
    omega (
      arith,
      on a c (row_value r) (map row_value rs) refl,
      on b d (row_value r) (map row_value rs) refl,
      rows-later c d rs (row-later a b r h),
    )

-- ---- fewer rows end earlier

fewer : (p : Row → Bool) (at : ℕ) (rows : List Row) → at + spelled_lengths at (map row_value (filter p rows)) ≤ at + spelled_lengths at (map row_value rows)
fewer p at [] = omega arith
fewer p at (r ∷ rs) = step (p r) (at + spelled_length at (row_value r)) refl (fewer p at rs) (fewer p (at + spelled_length at (row_value r)) rs)
  where
    step : (b : Bool) (next : ℕ) → next ≡ at + spelled_length at (row_value r)
        → at + spelled_lengths at (map row_value (filter p rs)) ≤ at + spelled_lengths at (map row_value rs)
        → next + spelled_lengths next (map row_value (filter p rs)) ≤ next + spelled_lengths next (map row_value rs)
        → at + spelled_lengths at (map row_value (cond b (r ∷ filter p rs) (filter p rs))) ≤ at + spelled_lengths at (map row_value (r ∷ rs))
    step true next e same later = omega (arith, on at next (row_value r) (map row_value (filter p rs)) e, on at next (row_value r) (map row_value rs) e)
    step false next e same later =
        let ahead : at ≤ next = omega arith in
        omega (arith, on at next (row_value r) (map row_value rs) e, rows-later at next rs ahead)

rows-shorter : (p : Row → Bool) (at : ℕ) (rows : List Row) → at + spelled_length at (rows_value (filter p rows)) ≤ at + spelled_length at (rows_value rows)
rows-shorter p at rows = omega (arith, rows-end at (filter p rows), rows-end at rows, fewer p (elements_at 8 at) rows)

-- ---- the whole signal

abbrev after : ℕ → Value → ℕ
after at v = at + spelled_length at v

abbrev after_four : Value → Value → Value → Value → ℕ
after_four a b c d = after (after (after (after 0 a) b) c) d

last-of : (a b c d r : Value) → after (after_four a b c d) r ≡ spelled_length 0 (V.Struct (a ∷ b ∷ c ∷ d ∷ r ∷ []))
last-of a b c d r =
    let whole : 0 + spelled_lengths 0 (a ∷ b ∷ c ∷ d ∷ r ∷ []) ≡ 0 + spelled_length 0 (V.Struct (a ∷ b ∷ c ∷ d ∷ r ∷ [])) = struct-end 0 (a ∷ b ∷ c ∷ d ∷ r ∷ []) in
    omega (
      arith,
      whole,
      on 0 (after 0 a) a (b ∷ c ∷ d ∷ r ∷ []) refl,
      on (after 0 a) (after (after 0 a) b) b (c ∷ d ∷ r ∷ []) refl,
      on (after (after 0 a) b) (after (after (after 0 a) b) c) c (d ∷ r ∷ []) refl,
      on (after (after (after 0 a) b) c) (after_four a b c d) d (r ∷ []) refl,
      on (after_four a b c d) (after (after_four a b c d) r) r [] refl,
    )

fits : (header more less : ℕ) → less ≤ more → nat_le (header + more) 16777216 ≡ true → nat_le (header + less) 16777216 ≡ true
fits header more less l h = grind (arith, nat_tests)

pub fewer-told : (app : List ℕ) (e : StoredEntry) → can_be_told e ≡ true → can_be_told (without_permissions app e) ≡ true
fewer-told app e h =
    let p : Row → Bool = λ row. not (is_row_of app row) in
    let a : Value = V.Str e.table in
    let b : Value = V.Str e.id in
    let c : Value = V.Bool false in
    let d : Value = V.Variant e.datum in
    let at : ℕ = after_four a b c d in
    let shorter : spelled_length 0 (V.Struct (a ∷ b ∷ c ∷ d ∷ rows_value (filter p e.rows) ∷ [])) ≤ spelled_length 0 (V.Struct (a ∷ b ∷ c ∷ d ∷ rows_value e.rows ∷ [])) =
    omega (arith, rows-shorter p at e.rows, last-of a b c d (rows_value (filter p e.rows)), last-of a b c d (rows_value e.rows)) in
    fits changed_header (spelled_length 0 (V.Struct (a ∷ b ∷ c ∷ d ∷ rows_value e.rows ∷ []))) (spelled_length 0 (V.Struct (a ∷ b ∷ c ∷ d ∷ rows_value (filter p e.rows) ∷ []))) shorter h
