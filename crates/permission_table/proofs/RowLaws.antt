-- Which permissions rows give.
use Rattle.std.proofs.Common.{◌≡◌, ℕ, List, [], ◌∷◌, reverse, Bool, true, false, cond, Option, Some, None, refl, sym, ap, ◌∙◌, arith}
use Rattle.std.specs.List.{filter, find, list_all}
use Rattle.portal_base.specs.Names.{is_same}
use Rattle.portal_model.specs.Ordered.{bytes_less, put, put_all, is_rising}
use Rattle.portal_model.specs.Rows.{are_rows, has_names, is_row_of, names_of_row, permissions_of, row_less, stored_rows, with_row}
use Rattle.portal_model.specs.declared.records.Row.{Row}
use Rattle.portal_model.proofs.RisingLists.{rising-put, rising-put_all}
use Rattle.portal_model.proofs.TripleOrder.{is_same-eq, bytes-irreflexive, bytes-total}
use Rattle.permission_table.proofs.InOrder.{bytes}
use Rattle.permission_table.proofs.RowLemmas.{rising-of}

module _ (app : List ℕ) where
  abbrev test : Row → Bool
  test = is_row_of app

  -- of two in order at most one is the application's
  apart : (x y : Row) → row_less x y ≡ true → test x ≡ true → test y ≡ false
  apart x y l h = step (test y) refl
    where
      step : (b : Bool) → test y ≡ b → b ≡ false
      step false e = refl
      step true e =
          let same : x.app ≡ y.app = is_same-eq x.app app h ∙ sym (is_same-eq y.app app e) in
          let never : row_less x y ≡ false = ap (bytes_less x.app) (sym same) ∙ bytes-irreflexive x.app in
          cc

  -- of two with one key both are, or none
  alike : (x y : Row) → row_less x y ≡ false → row_less y x ≡ false → test x ≡ test y
  alike x y l m = ap (λ (k : List ℕ). is_same k app) (bytes-total x.app y.app l m)

  pub find-put : (x : Row) (ys : List Row) → find test (put row_less x ys) ≡ cond (test x) (Some x) (find test ys)
  find-put x [] = refl
  find-put x (y ∷ ys) = step (row_less x y) (row_less y x) refl refl (test x) (test y) refl refl (find-put x ys)
    where
      step : (a b : Bool) → row_less x y ≡ a → row_less y x ≡ b → (s t : Bool) → test x ≡ s → test y ≡ t → find test (put row_less x ys) ≡ cond (test x) (Some x) (find test ys)
          → find test (cond a (x ∷ y ∷ ys) (cond b (y ∷ put row_less x ys) (x ∷ ys))) ≡ cond (test x) (Some x) (cond (test y) (Some y) (find test ys))
      step true b l m s t h k more = refl
      step false true l m true true h k more = let never : test x ≡ false = apart y x m k in cc
      step false true l m true false h k more = grind (arith, more)
      step false true l m false t h k more = grind (arith, more)
      step false false l m true t h k more = grind arith
      step false false l m false t h k more = let none : test y ≡ false = sym (alike x y l m) ∙ h in grind arith

  pub find-put_all : (rows : List Row) → find test (put_all row_less rows) ≡ find test rows
  find-put_all [] = refl
  find-put_all (x ∷ xs) = find-put x (put_all row_less xs) ∙ ap (λ (o : Option Row). cond (test x) (Some x) o) (find-put_all xs)

  none-behind : (x : Row) (ys : List Row) → list_all (row_less x) ys ≡ true → test x ≡ true → find test (filter has_names ys) ≡ None
  none-behind x [] l h = refl
  none-behind x (y ∷ ys) l h =
      let one : row_less x y ≡ true = grind arith in
      let rest : list_all (row_less x) ys ≡ true = grind arith in
      step (has_names y) (apart x y one h) (none-behind x ys rest h)
    where
      step : (b : Bool) → test y ≡ false → find test (filter has_names ys) ≡ None → find test (cond b (y ∷ filter has_names ys) (filter has_names ys)) ≡ None
      step true k more = ap (λ (c : Bool). cond c (Some y) (find test (filter has_names ys))) k ∙ more
      step false k more = more

  no-names : (x : Row) → has_names x ≡ false → x.names ≡ []
  no-names x h = at x.names h
    where
      at : (names : List (List ℕ)) → has_names (record { app = x.app; names = names }) ≡ false → names ≡ []
      at [] k = refl
      at (n ∷ ns) k = cc

  -- an empty row gives none, as no row does
  pub named-only : (rows : List Row) → is_rising row_less rows ≡ true → names_of_row (find test (filter has_names rows)) ≡ names_of_row (find test rows)
  named-only [] h = refl
  named-only (x ∷ xs) h =
      let first : list_all (row_less x) xs ≡ true = grind arith in
      let rest : is_rising row_less xs ≡ true = grind arith in
      step (has_names x) (test x) refl refl first (named-only xs rest)
    where
      step : (b t : Bool) → has_names x ≡ b → test x ≡ t → list_all (row_less x) xs ≡ true → names_of_row (find test (filter has_names xs)) ≡ names_of_row (find test xs)
          → names_of_row (find test (cond b (x ∷ filter has_names xs) (filter has_names xs))) ≡ names_of_row (cond t (Some x) (find test xs))
      step true true n k f more = ap (λ (c : Bool). names_of_row (cond c (Some x) (find test (filter has_names xs)))) k
      step true false n k f more = ap (λ (c : Bool). names_of_row (cond c (Some x) (find test (filter has_names xs)))) k ∙ more
      step false true n k f more = ap names_of_row (none-behind x xs f k) ∙ sym (no-names x n)
      step false false n k f more = more

pub last-stands : (rows : List Row) (app : List ℕ) → permissions_of (stored_rows rows) app ≡ permissions_of (reverse rows) app
last-stands rows app =
    named-only app (put_all row_less (reverse rows)) (rising-put_all bytes_less is_same (λ (r : Row). r.app) bytes (reverse rows))
    ∙ ap names_of_row (find-put_all app (reverse rows))

pub row-put : (row : Row) (rows : List Row) (app : List ℕ) → are_rows rows ≡ true → permissions_of (with_row row rows) app ≡ cond (is_row_of app row) row.names (permissions_of rows app)
row-put row rows app h =
    named-only app (put row_less row rows) (rising-put bytes_less is_same (λ (r : Row). r.app) bytes row rows (rising-of rows h))
    ∙ (ap names_of_row (find-put app row rows) ∙ out (is_row_of app row))
  where
    out : (b : Bool) → names_of_row (cond b (Some row) (find (is_row_of app) rows)) ≡ cond b row.names (permissions_of rows app)
    out true = refl
    out false = refl
