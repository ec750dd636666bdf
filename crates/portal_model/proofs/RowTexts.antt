-- The texts of rows that are stored, put and taken out have no zero byte, where those before had none.
use Rattle.std.proofs.Common.{◌≡◌, ℕ, List, [], ◌∷◌, reverse, Bool, true, false, not, ◌&&◌, cond, refl, ap, ◌∙◌}
use Rattle.std.specs.List.{list_all}
use Rattle.std.proofs.lemmas.Grind.{reverse_onto}
use Rattle.std.proofs.lemmas.List.Folds.{list_all-append}
use Rattle.portal_model.specs.declared.records.Row.{Row}
use Rattle.portal_model.specs.Ordered.{put, put_all}
use Rattle.portal_model.specs.Rows.{has_names, is_row_of, row_less, stored_rows, with_row, without_row}
use Rattle.portal_model.specs.Valid.{has_texts}
use Rattle.portal_model.proofs.DistinctItems.{list_all-filter}
use Rattle.portal_model.proofs.DocumentChanges.{both, first_of_both, second_of_both}

abbrev pub have_texts : List Row → Bool
have_texts rows = list_all has_texts rows

put-texts : (x : Row) (ys : List Row) → has_texts x ≡ true → have_texts ys ≡ true → have_texts (put row_less x ys) ≡ true
put-texts x [] h k = both (has_texts x) true h refl
put-texts x (y ∷ ys) h k =
    let one : has_texts y ≡ true = first_of_both (has_texts y) (have_texts ys) k in
    let rest : have_texts ys ≡ true = second_of_both (has_texts y) (have_texts ys) k in
    step (row_less x y) (row_less y x) one rest (put-texts x ys h rest)
  where
    step : (a b : Bool) → has_texts y ≡ true → have_texts ys ≡ true → have_texts (put row_less x ys) ≡ true → have_texts (cond a (x ∷ y ∷ ys) (cond b (y ∷ put row_less x ys) (x ∷ ys))) ≡ true
    step true b one rest more = both (has_texts x) (has_texts y && have_texts ys) h (both (has_texts y) (have_texts ys) one rest)
    step false true one rest more = both (has_texts y) (have_texts (put row_less x ys)) one more
    step false false one rest more = both (has_texts x) (have_texts ys) h rest

put_all-texts : (rows : List Row) → have_texts rows ≡ true → have_texts (put_all row_less rows) ≡ true
put_all-texts [] h = refl
put_all-texts (x ∷ xs) h = put-texts x (put_all row_less xs) (first_of_both (has_texts x) (have_texts xs) h) (put_all-texts xs (second_of_both (has_texts x) (have_texts xs) h))

reverse-texts : (rows : List Row) → have_texts rows ≡ true → have_texts (reverse rows) ≡ true
reverse-texts [] h = refl
reverse-texts (x ∷ xs) h =
    ap have_texts (reverse_onto xs x [])
    ∙ (list_all-append has_texts (reverse xs) (x ∷ [])
    ∙ both (have_texts (reverse xs)) (has_texts x && true) (reverse-texts xs (second_of_both (has_texts x) (have_texts xs) h)) (both (has_texts x) true (first_of_both (has_texts x) (have_texts xs) h) refl))

pub stored-texts : (rows : List Row) → have_texts rows ≡ true → have_texts (stored_rows rows) ≡ true
stored-texts rows h = list_all-filter has_texts has_names (put_all row_less (reverse rows)) (put_all-texts (reverse rows) (reverse-texts rows h))

pub with-texts : (row : Row) (rows : List Row) → has_texts row ≡ true → have_texts rows ≡ true → have_texts (with_row row rows) ≡ true
with-texts row rows h k = list_all-filter has_texts has_names (put row_less row rows) (put-texts row rows h k)

pub without-texts : (app : List ℕ) (rows : List Row) → have_texts rows ≡ true → have_texts (without_row app rows) ≡ true
without-texts app rows h = list_all-filter has_texts (λ (r : Row). not (is_row_of app r)) rows h
