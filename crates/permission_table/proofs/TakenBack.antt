-- An entry that was put is taken back.
use Rattle.std.proofs.Common.{◌≡◌, List, [], ◌∷◌, ◌++◌, Bool, true, false, not, cond, Option, Some, None, option_map, refl, sym, ap, ◌∙◌, arith}
use Rattle.std.specs.List.{filter, find, list_any}
use Rattle.portal_base.specs.Names.{is_same}
use Rattle.portal_model.specs.RecordChanges.{change_first}
use Rattle.portal_model.specs.Store.{Entries, is_entry_of, entry_of, put_entry}
use Rattle.portal_model.specs.declared.store.StoredEntry.{StoredEntry}
use Rattle.portal_model.specs.declared.store.TableEntry.{TableEntry}
use Rattle.portal_model.proofs.TripleOrder.{is_same-eq, is_same-refl}
use Rattle.permission_table.specs.Tables.{content_of, former_of, put_back}

none-any : {X : Type 0} (p : X → Bool) (xs : List X) → find p xs ≡ None → list_any p xs ≡ false
none-any p [] e = refl
none-any p (x ∷ xs) e = grind (arith, none-any p xs)

some-any : {X : Type 0} (p : X → Bool) (xs : List X) (f : X) → find p xs ≡ Some f → list_any p xs ≡ true
some-any p [] f e = cc
some-any p (x ∷ xs) f e = grind (arith, some-any p xs f)

last-goes : {X : Type 0} (p : X → Bool) (xs : List X) (x : X) → p x ≡ true → list_any p xs ≡ false → filter (λ y. not (p y)) (xs ++ x ∷ []) ≡ xs
last-goes p [] x h n = grind arith
last-goes p (y ∷ ys) x h n = grind (arith, last-goes p ys x)

module _ (e : StoredEntry) where
  abbrev test : StoredEntry → Bool
  test = is_entry_of e.table e.id

  of-itself : test e ≡ true
  of-itself = grind (arith, is_same-refl e.table, is_same-refl e.id)

  abbrev back : TableEntry → StoredEntry → StoredEntry
  back former x = record x { rows = former.rows; datum = former.datum }

  same-table : (x : StoredEntry) → test x ≡ true → e.table ≡ x.table
  same-table x h = let t : is_same x.table e.table ≡ true = grind arith in sym (is_same-eq x.table e.table t)

  same-id : (x : StoredEntry) → test x ≡ true → e.id ≡ x.id
  same-id x h = let t : is_same x.id e.id ≡ true = grind arith in sym (is_same-eq x.id e.id t)

  whole : (x f : StoredEntry) → test x ≡ true → x ≡ f → back (content_of f) e ≡ x
  whole x f h s = λ i. record {
    table = same-table x h i;
    id = same-id x h i;
    datum = sym (ap (λ (y : StoredEntry). y.datum) s) i;
    rows = sym (ap (λ (y : StoredEntry). y.rows) s) i;
  }

  is-first : (x f : StoredEntry) → Some x ≡ Some f → x ≡ f
  is-first x f s = cc

  first-back : (es : Entries) (f : StoredEntry) → find test es ≡ Some f → change_first test (back (content_of f)) (change_first test (λ _. e) es) ≡ es
  first-back [] f h = refl
  first-back (x ∷ xs) f h = step (test x) refl h (first-back xs f)
    where
      step : (b : Bool) → test x ≡ b → cond b (Some x) (find test xs) ≡ Some f
          → (find test xs ≡ Some f → change_first test (back (content_of f)) (change_first test (λ _. e) xs) ≡ xs)
          → change_first test (back (content_of f)) (cond b (e ∷ xs) (x ∷ change_first test (λ _. e) xs)) ≡ x ∷ xs
      step true t h more =
          ap (λ (b : Bool). cond b (back (content_of f) e ∷ xs) (e ∷ change_first test (back (content_of f)) xs)) of-itself
          ∙ ap (λ (y : StoredEntry). y ∷ xs) (whole x f t (is-first x f h))
      step false t h more =
          ap (λ (b : Bool). cond b (back (content_of f) x ∷ change_first test (λ _. e) xs) (x ∷ change_first test (back (content_of f)) (change_first test (λ _. e) xs))) t
          ∙ ap (λ (ys : Entries). x ∷ ys) (more h)

  pub taken-back : (before : Entries) → put_back e.table e.id (former_of before e.table e.id) (put_entry e before) ≡ before
  taken-back before = step (entry_of before e.table e.id) refl
    where
      step : (o : Option StoredEntry) → entry_of before e.table e.id ≡ o → put_back e.table e.id (option_map content_of o) (put_entry e before) ≡ before
      step None h =
          ap (λ (b : Bool). filter (λ x. not (test x)) (cond b (change_first test (λ _. e) before) (before ++ e ∷ []))) (none-any test before h)
          ∙ last-goes test before e of-itself (none-any test before h)
      step (Some f) h =
          ap (λ (b : Bool). change_first test (back (content_of f)) (cond b (change_first test (λ _. e) before) (before ++ e ∷ []))) (some-any test before f h)
          ∙ first-back before f h
