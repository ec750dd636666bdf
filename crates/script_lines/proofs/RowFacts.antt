-- Facts on the texts of rows.
use Rattle.std.proofs.Common.{◌≡◌, ◌≢◌, ℕ, true, false, List, [], ◌∷◌, ◌++◌, length, refl, sym, ap, ◌∙◌, arith, map}
use Rattle.std.specs.Prelude.{◌==◌, codes}
use Rattle.std.specs.List.{All, join_with_byte}
use Rattle.std.proofs.lemmas.List.{length-append}
use Rattle.std.proofs.lemmas.List.Elements.{All-head, All-tail, All-cons, All-nil}
use Rattle.portal_base.specs.Names.{is_app_name, is_name_byte}
use Rattle.portal_model.specs.declared.records.Row.{Row}
use Rattle.script_lines.specs.Lines.{row_text, rows_text, IsNamedRow}
use Rattle.script_lines.specs.Reading.{IsFree, CutsAt}
use Rattle.script_lines.proofs.GrantFacts.{name_free}
use Rattle.script_lines.proofs.JoinFacts.{append_free, joined_free, joined_same}
use Rattle.script_lines.proofs.LineFacts.{differ_at}
use Rattle.script_lines.proofs.TextFacts.{cut_same, not_free}

-- ---- names that pluses join

abbrev pub IsName : List ℕ → Type 0
IsName name = is_app_name name ≡ true

abbrev pub itself : List ℕ → List ℕ
itself name = name

pub themselves : (names : List (List ℕ)) → map itself names ≡ names
themselves [] = refl
themselves (name ∷ names) = ap (λ (t : List (List ℕ)). name ∷ t) (themselves names)

pub name_plus : (name : List ℕ) → IsName name → IsFree 43 (itself name)
name_plus name h = name_free 43 refl name h

pub name_one : (a b : List ℕ) → IsName a → IsName b → itself a ≡ itself b → a ≡ b
name_one a b ha hb e = e

pub names_free : (s : ℕ) → is_name_byte s ≡ false → (43 == s) ≡ false → (names : List (List ℕ)) → All IsName names → (names ≢ []) → IsFree s (join_with_byte 43 names)
names_free s other plus [] all some = absurd (some refl)
names_free s other plus (name ∷ names) all some = joined_free s 43 plus name names (each (name ∷ names) all)
  where
    each : (ns : List (List ℕ)) → All IsName ns → All (IsFree s) ns
    each [] all = All-nil (IsFree s)
    each (n ∷ ns) all = All-cons (IsFree s) n ns (name_free s other n (All-head IsName n ns all)) (each ns (All-tail IsName n ns all))

pub names_same : (a b : List (List ℕ)) → All IsName a → All IsName b → (a ≢ []) → (b ≢ []) → join_with_byte 43 a ≡ join_with_byte 43 b → a ≡ b
names_same a b ha hb sa sb e =
    joined_same 43 itself IsName name_plus name_one a b ha hb sa sb (ap (join_with_byte 43) (themselves a) ∙ e ∙ ap (join_with_byte 43) (sym (themselves b)))

-- ---- one row

pub row_halves : (word key names : List ℕ) (row : Row) → CutsAt 61 word key names → IsNamedRow row → word ≡ row_text row
    → (key ≡ row.app) × (names ≡ join_with_byte 43 row.names)
row_halves word key names row cut is same =
    cut_same 61 key names row.app (join_with_byte 43 row.names) cut.first (name_free 61 refl row.app is.key) (sym cut.whole ∙ same)

pub no_row : (word : List ℕ) → IsFree 61 word → (row : Row) → word ≡ row_text row → ⊥
no_row word free row same = not_free 61 row.app (join_with_byte 43 row.names) (rw same at free)

pub row_same : (a b : Row) → IsNamedRow a → IsNamedRow b → row_text a ≡ row_text b → a ≡ b
row_same a b ia ib e =
    let halves = cut_same 61 a.app (join_with_byte 43 a.names) b.app (join_with_byte 43 b.names) (name_free 61 refl a.app ia.key) (name_free 61 refl b.app ib.key) e in
    let names = names_same a.names b.names ia.names ib.names ia.some ib.some halves.1 in
    λ i. record { app = halves.0 i; names = names i }

pub row_free : (s : ℕ) → is_name_byte s ≡ false → (61 == s) ≡ false → (43 == s) ≡ false → (row : Row) → IsNamedRow row → IsFree s (row_text row)
row_free s other equals plus row is =
    append_free s row.app (61 ∷ join_with_byte 43 row.names) (name_free s other row.app is.key)
    (All-cons (λ x. (x == s) ≡ false) 61 (join_with_byte 43 row.names) equals (names_free s other plus row.names is.names is.some))

pub no_piece : (p next : List ℕ) → is_app_name p ≡ false → p ≡ itself next → IsName next → ⊥
no_piece p next none same is = absurd (cc (none, same, is))

pub row_comma : (row : Row) → IsNamedRow row → IsFree 44 (row_text row)
row_comma row is = row_free 44 refl refl refl row is

-- ---- all rows

-- a row's text has an equals sign, which a dash is not
pub rows_dash : (row : Row) (rows : List Row) → rows_text (row ∷ rows) ≡ codes "-" → ⊥
rows_dash row [] e = no_equals row.app (join_with_byte 43 row.names) e
  where
    no_equals : (a b : List ℕ) → a ++ (61 ∷ b) ≡ 45 ∷ [] → ⊥
    no_equals [] b e = absurd (cc (differ_at 0 61 _ _ e refl refl))
    no_equals (x ∷ []) b e = cc e
    no_equals (x ∷ y ∷ xs) b e = cc e
rows_dash row (next ∷ rows) e =
    let n = ap length e in
    absurd (omega (arith, length-append row.app (61 ∷ join_with_byte 43 row.names), length-append (row_text row) (44 ∷ join_with_byte 44 (map row_text (next ∷ rows)))))

pub rows_of_word : (word : List ℕ) (rows : List Row) → (word ≢ codes "-") → word ≡ rows_text rows → (rows ≢ []) × (word ≡ join_with_byte 44 (map row_text rows))
rows_of_word word [] other same = absurd (other same)
rows_of_word word (row ∷ rows) other same = ((λ e. cc e), same)

pub rows_as_word : (word : List ℕ) (rows : List Row) → (rows ≢ []) → word ≡ join_with_byte 44 (map row_text rows) → word ≡ rows_text rows
rows_as_word word [] some same = absurd (some refl)
rows_as_word word (row ∷ rows) some same = same

pub rows_same : (a b : List Row) → All IsNamedRow a → All IsNamedRow b → rows_text a ≡ rows_text b → a ≡ b
rows_same [] [] ha hb e = refl
rows_same [] (r ∷ rs) ha hb e = absurd (rows_dash r rs (sym e))
rows_same (r ∷ rs) [] ha hb e = absurd (rows_dash r rs e)
rows_same (r ∷ rs) (q ∷ qs) ha hb e = joined_same 44 row_text IsNamedRow row_comma row_same (r ∷ rs) (q ∷ qs) ha hb (λ x. cc x) (λ x. cc x) e
