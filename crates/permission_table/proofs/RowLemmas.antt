-- The rows of an entry: what is stored, put and taken out stands in order, and none is empty.
use Rattle.std.proofs.Common.{◌≡◌, ℕ, ◌+◌, ◌<◌, List, [], ◌∷◌, ◌++◌, length, get_or, take, reverse, Bool, true, false, not, ◌&&◌, refl, sym, ap, ◌∙◌, arith}
use Rattle.std.specs.List.{filter, list_all}
use Rattle.std.proofs.lemmas.List.{take_more, reverse-append}
use Rattle.portal_base.specs.Names.{is_same}
use Rattle.portal_model.specs.Ordered.{bytes_less, put, put_all, is_rising}
use Rattle.portal_model.specs.Rows.{are_rows, has_names, is_row_of, row_less, stored_rows, with_row, without_row}
use Rattle.portal_model.specs.declared.records.Row.{Row}
use Rattle.portal_model.proofs.RisingLists.{rising-put, rising-put_all, rising-filter}
use Rattle.portal_model.proofs.DistinctItems.{list_all-filter}
use Rattle.permission_table.proofs.InOrder.{bytes}

pub reverse-more : {X : Type 0} (xs : List X) (i : ℕ) (x : X) → i < length xs → x ≡ get_or xs i x → reverse (take (i + 1) xs) ≡ x ∷ reverse (take i xs)
reverse-more xs i x l e = ap reverse (take_more xs i x l) ∙ (ap (λ y. reverse (take i xs ++ y ∷ [])) (sym e) ∙ reverse-append (take i xs) (x ∷ []))

pub both : (a b : Bool) → a ≡ true → b ≡ true → (a && b) ≡ true
both a b h l = λ i. h i && l i

pub left : (a b : Bool) → (a && b) ≡ true → a ≡ true
left true b h = refl
left false b h = cc

pub right : (a b : Bool) → (a && b) ≡ true → b ≡ true
right true b h = h
right false b h = cc

pub rising-of : (rows : List Row) → are_rows rows ≡ true → is_rising row_less rows ≡ true
rising-of rows h = left (is_rising row_less rows) (list_all has_names rows) h

all-left : (p : Row → Bool) (rows : List Row) → list_all p (filter p rows) ≡ true
all-left p [] = refl
all-left p (r ∷ rs) = grind (arith, all-left p rs)

filtered : (rows : List Row) → is_rising row_less rows ≡ true → are_rows (filter has_names rows) ≡ true
filtered rows h = both (is_rising row_less (filter has_names rows)) (list_all has_names (filter has_names rows)) (rising-filter bytes_less is_same (λ (r : Row). r.app) bytes has_names rows h) (all-left has_names rows)

pub stored-are : (rows : List Row) → are_rows (stored_rows rows) ≡ true
stored-are rows = filtered (put_all row_less (reverse rows)) (rising-put_all bytes_less is_same (λ (r : Row). r.app) bytes (reverse rows))

pub with-are : (row : Row) (rows : List Row) → are_rows rows ≡ true → are_rows (with_row row rows) ≡ true
with-are row rows h = filtered (put row_less row rows) (rising-put bytes_less is_same (λ (r : Row). r.app) bytes row rows (rising-of rows h))

pub without-are : (app : List ℕ) (rows : List Row) → are_rows rows ≡ true → are_rows (without_row app rows) ≡ true
without-are app rows h =
    both (is_rising row_less (without_row app rows)) (list_all has_names (without_row app rows)) (rising-filter bytes_less is_same (λ (r : Row). r.app) bytes (λ r. not (is_row_of app r)) rows (rising-of rows h))
    (list_all-filter has_names (λ r. not (is_row_of app r)) rows (right (is_rising row_less rows) (list_all has_names rows) h))
