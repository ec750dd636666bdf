-- Rows that are sorted first, those of one application in their order: the last of each still stands.
use Rattle.std.proofs.Common.{◌≡◌, ℕ, List, [], ◌∷◌, ◌++◌, reverse, length, append-nil, Bool, true, false, not, ◌&&◌, cond, Option, Some, None, refl, sym, ap, ◌∙◌, arith}
use Rattle.std.specs.List.{filter, find, list_all}
use Rattle.std.specs.List.Sorted.{IsStableBy, ties}
use Rattle.std.specs.Option.{option_or}
use Rattle.std.proofs.lemmas.List.{append_assoc, reverse-append}
use Rattle.std.proofs.lemmas.List.Folds.{find-append}
use Rattle.portal_base.specs.Names.{is_same}
use Rattle.portal_model.specs.Ordered.{bytes_less, put, put_all, is_rising}
use Rattle.portal_model.specs.Rows.{is_row_of, row_less}
use Rattle.portal_model.specs.declared.records.Row.{Row}
use Rattle.portal_model.proofs.RisingLists.{rising-put, rising-put_all}
use Rattle.portal_model.proofs.TripleOrder.{is_same-eq, is_same-refl, is_same-sym, bytes-irreflexive, bytes-total, bytes-through}
use Rattle.permission_table.specs.Keys.{key_less}
use Rattle.permission_table.proofs.InOrder.{bytes}
use Rattle.permission_table.proofs.RowLaws.{find-put_all}
use Rattle.permission_table.proofs.SortedIds.{compared}

-- ---- rows in order are those that are found in them

above : (z : Row) (app : List ℕ) (rows : List Row) (w : Row) → list_all (row_less z) rows ≡ true → find (is_row_of app) rows ≡ Some w → bytes_less z.app app ≡ true
above z app [] w h f = cc
above z app (x ∷ xs) w h f = grind (arith, above z app xs w, is_same-eq x.app app)

none-above : (z : Row) (app : List ℕ) (rows : List Row) → list_all (row_less z) rows ≡ true → is_same z.app app ≡ true → find (is_row_of app) rows ≡ None
none-above z app [] h s = refl
none-above z app (x ∷ xs) h s = grind (arith, none-above z app xs, is_same-eq z.app app, is_same-eq x.app app, bytes-irreflexive app)

heads : (x y : Row) (xs ys : List Row) → list_all (row_less x) xs ≡ true → list_all (row_less y) ys ≡ true
    → find (is_row_of x.app) (x ∷ xs) ≡ find (is_row_of x.app) (y ∷ ys) → find (is_row_of y.app) (x ∷ xs) ≡ find (is_row_of y.app) (y ∷ ys) → x ≡ y
heads x y xs ys h l a b =
    grind (arith, is_same-refl x.app, is_same-refl y.app, is_same-sym x.app y.app, above y x.app ys x, above x y.app xs y, bytes-through x.app y.app x.app, bytes-irreflexive x.app)

same_rows : (xs ys : List Row) → is_rising row_less xs ≡ true → is_rising row_less ys ≡ true → ((app : List ℕ) → find (is_row_of app) xs ≡ find (is_row_of app) ys) → xs ≡ ys
same_rows [] [] h l e = refl
same_rows [] (y ∷ ys) h l e = let f = e y.app in grind (arith, is_same-refl y.app)
same_rows (x ∷ xs) [] h l e = let f = e x.app in grind (arith, is_same-refl x.app)
same_rows (x ∷ xs) (y ∷ ys) h l e =
    let hx : list_all (row_less x) xs ≡ true = grind arith in
    let hs : is_rising row_less xs ≡ true = grind arith in
    let ly : list_all (row_less y) ys ≡ true = grind arith in
    let ls : is_rising row_less ys ≡ true = grind arith in
    let first : x ≡ y = heads x y xs ys hx ly (e x.app) (e y.app) in
    let rest : xs ≡ ys = same_rows xs ys hs ls (λ app. tails app first hx ly (e app)) in
    cc
  where
    tails : (app : List ℕ) → x ≡ y → list_all (row_less x) xs ≡ true → list_all (row_less y) ys ≡ true → find (is_row_of app) (x ∷ xs) ≡ find (is_row_of app) (y ∷ ys) → find (is_row_of app) xs ≡ find (is_row_of app) ys
    tails app first hx ly f = grind (arith, none-above x app xs, none-above y app ys)

-- ---- the last that passes a test, of those that pass it

back : (x : Row) (xs : List Row) → reverse (x ∷ xs) ≡ reverse xs ++ x ∷ []
back x xs = reverse-append (x ∷ []) xs

module _ (test : Row → Bool) where
  last-kept : (rows : List Row) → find test (reverse (filter test rows)) ≡ find test (reverse rows)
  last-kept [] = refl
  last-kept (x ∷ xs) = step (test x) refl (last-kept xs)
    where
      behind : find test (reverse (x ∷ xs)) ≡ option_or (find test (reverse xs)) (cond (test x) (Some x) None)
      behind = ap (find test) (back x xs) ∙ find-append test (reverse xs) (x ∷ [])

      step : (b : Bool) → test x ≡ b → find test (reverse (filter test xs)) ≡ find test (reverse xs)
          → find test (reverse (cond b (x ∷ filter test xs) (filter test xs))) ≡ find test (reverse (x ∷ xs))
      step true h more =
          ap (find test) (back x (filter test xs))
          ∙ (find-append test (reverse (filter test xs)) (x ∷ [])
          ∙ (ap (λ (o : Option Row). option_or o (cond (test x) (Some x) None)) more ∙ sym behind))
      step false h more =
          more ∙ sym (behind ∙ (ap (λ (b : Bool). option_or (find test (reverse xs)) (cond b (Some x) None)) h ∙ unchanged (find test (reverse xs))))
        where
          unchanged : (o : Option Row) → option_or o None ≡ o
          unchanged None = refl
          unchanged (Some r) = refl

-- ---- a stable sort

abbrev pub less : Row → Row → Bool
less a b = key_less a.app b.app

-- rows tie with a row of an application where they are that application's
tied : (x y : Row) → ties less x y ≡ is_row_of x.app y
tied x y = (λ i. not (compared x.app y.app i) && not (compared y.app x.app i)) ∙ one (is_same y.app x.app) refl
  where
    one : (b : Bool) → is_same y.app x.app ≡ b → (not (bytes_less x.app y.app) && not (bytes_less y.app x.app)) ≡ b
    one true h = grind (arith, is_same-eq y.app x.app, bytes-irreflexive x.app)
    one false h = grind (arith, is_same-refl x.app, bytes-total x.app y.app)

same-last : (rows sorted : List Row) → IsStableBy less rows sorted → (app : List ℕ) → find (is_row_of app) (reverse sorted) ≡ find (is_row_of app) (reverse rows)
same-last rows sorted stable app =
    let one : Row = record { app = app; names = [] } in
    let kept : filter (is_row_of app) sorted ≡ filter (is_row_of app) rows = (λ i. filter (λ y. sym (tied one y) i) sorted) ∙ (stable one ∙ (λ i. filter (λ y. tied one y i) rows)) in
    sym (last-kept (is_row_of app) sorted) ∙ (ap (λ (rs : List Row). find (is_row_of app) (reverse rs)) kept ∙ last-kept (is_row_of app) rows)

rising : (rows : List Row) → is_rising row_less (put_all row_less rows) ≡ true
rising rows = rising-put_all bytes_less is_same (λ (r : Row). r.app) bytes rows

-- what is put in order of rows, of sorted rows is put too
pub put-sorted : (rows sorted : List Row) → IsStableBy less rows sorted → put_all row_less (reverse sorted) ≡ put_all row_less (reverse rows)
put-sorted rows sorted stable =
    same_rows (put_all row_less (reverse sorted)) (put_all row_less (reverse rows)) (rising (reverse sorted)) (rising (reverse rows))
    (λ app. find-put_all app (reverse sorted) ∙ (same-last rows sorted stable app ∙ sym (find-put_all app (reverse rows))))

-- ---- rows that are put one after another

abbrev pub put_each : List Row → List Row → List Row
put_each stored [] = stored
put_each stored (x ∷ xs) = put_each (put row_less x stored) xs

each-put : (done rows : List Row) → put_each (put_all row_less done) rows ≡ put_all row_less (reverse rows ++ done)
each-put done [] = refl
each-put done (x ∷ xs) = each-put (x ∷ done) xs ∙ ap (put_all row_less) (sym (append_assoc (reverse xs) (x ∷ []) done) ∙ ap (λ (ys : List Row). ys ++ done) (sym (back x xs)))

pub all-put : (rows : List Row) → put_each [] rows ≡ put_all row_less (reverse rows)
all-put rows = each-put [] rows ∙ ap (put_all row_less) (append-nil (reverse rows))

pub put-next : (stored rows rest : List Row) (x : Row) → rows ≡ x ∷ rest → put_each (put row_less x stored) rest ≡ put_each stored rows
put-next stored rows rest x e = ap (put_each stored) (sym e)

pub rising-next : (stored : List Row) (x : Row) → is_rising row_less stored ≡ true → is_rising row_less (put row_less x stored) ≡ true
rising-next stored x h = rising-put bytes_less is_same (λ (r : Row). r.app) bytes x stored h

pub nothing_left : {X : Type 0} (rows : List X) → length rows ≡ 0 → rows ≡ []
nothing_left [] e = refl
nothing_left (x ∷ xs) e = absurd (omega arith)
