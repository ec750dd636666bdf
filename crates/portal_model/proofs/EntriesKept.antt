-- The entries of the permission store, as one is put in its place, taken out or looked up: they go on to
-- differ, and to pass a test that all passed.
use Rattle.std.proofs.Common.{◌≡◌, ℕ, List, [], ◌∷◌, ◌++◌, Bool, true, false, not, ◌&&◌, ◌||◌, cond, Some, refl, sym, ◌∙◌}
use Rattle.std.specs.List.{list_all, list_any, IsDistinct, AllByRecursion}
use Rattle.std.proofs.lemmas.List.Folds.{list_all-append}
use Rattle.portal_base.specs.Names.{is_same}
use Rattle.portal_model.specs.declared.store.StoredEntry.{StoredEntry}
use Rattle.portal_model.specs.RecordChanges.{change_first}
use Rattle.portal_model.specs.Store.{Entries, entry_of, is_entry_of, put_entry, without_entry}
use Rattle.portal_model.specs.Valid.{same_entry}
use Rattle.portal_model.proofs.DistinctItems.{IsDistinct-filter, list_all-filter}
use Rattle.portal_model.proofs.DocumentChanges.{both, first_of_both, second_of_both}
use Rattle.portal_model.proofs.ListLookups.{found_in_all, found_passes, is_same-eq}

pub is-of : (table id : List ℕ) (e : StoredEntry) → is_entry_of table id e ≡ true → (e.table ≡ table) × (e.id ≡ id)
is-of table id e h =
    (is_same-eq e.table table (first_of_both (is_same e.table table) (is_same e.id id) h), is_same-eq e.id id (second_of_both (is_same e.table table) (is_same e.id id) h))

-- ---- one that goes

pub differ-without : (table id : List ℕ) (entries : Entries) → IsDistinct same_entry entries → IsDistinct same_entry (without_entry table id entries)
differ-without table id entries d = IsDistinct-filter same_entry (λ (e : StoredEntry). not (is_entry_of table id e)) entries d

pub pass-without : (p : StoredEntry → Bool) (table id : List ℕ) (entries : Entries) → list_all p entries ≡ true → list_all p (without_entry table id entries) ≡ true
pass-without p table id entries h = list_all-filter p (λ (e : StoredEntry). not (is_entry_of table id e)) entries h

-- ---- a new one, behind the others

apart-last : (x e : StoredEntry) (xs : Entries) → AllByRecursion (λ y. same_entry x y ≡ false) xs → same_entry x e ≡ false → AllByRecursion (λ y. same_entry x y ≡ false) (xs ++ e ∷ [])
apart-last x e [] h l = (l, tt)
apart-last x e (y ∷ ys) h l = (h.0, apart-last x e ys h.1 l)

neither_first : (a b : Bool) → (a || b) ≡ false → a ≡ false
neither_first true b h = h
neither_first false b h = refl

neither_second : (a b : Bool) → (a || b) ≡ false → b ≡ false
neither_second true b h = cc
neither_second false b h = h

differ-last : (e : StoredEntry) (xs : Entries) → IsDistinct same_entry xs → list_any (is_entry_of e.table e.id) xs ≡ false → IsDistinct same_entry (xs ++ e ∷ [])
unfolding IsDistinct
differ-last e [] d n = (tt, tt)
differ-last e (x ∷ xs) d n =
    let test = is_entry_of e.table e.id in
    (apart-last x e xs d.0 (neither_first (test x) (list_any test xs) n), differ-last e xs d.1 (neither_second (test x) (list_any test xs) n))

-- ---- one in the place of another, of the same table and identifier

module _ (test : StoredEntry → Bool) (e : StoredEntry) (key : (x : StoredEntry) → test x ≡ true → (e.table ≡ x.table) × (e.id ≡ x.id)) where
  apart-left : (x : StoredEntry) (ys : Entries) → test x ≡ true → AllByRecursion (λ y. same_entry x y ≡ false) ys → AllByRecursion (λ y. same_entry e y ≡ false) ys
  apart-left x [] h d = tt
  apart-left x (y ∷ ys) h d = let k = key x h in ((λ i. is_same (k.0 i) y.table && is_same (k.1 i) y.id) ∙ d.0, apart-left x ys h d.1)

  apart-changed : (x : StoredEntry) (ys : Entries) → AllByRecursion (λ y. same_entry x y ≡ false) ys → AllByRecursion (λ y. same_entry x y ≡ false) (change_first test (λ _. e) ys)
  apart-changed x [] d = tt
  apart-changed x (y ∷ ys) d = step (test y) refl (apart-changed x ys d.1)
    where
      step : (b : Bool) → test y ≡ b → AllByRecursion (λ z. same_entry x z ≡ false) (change_first test (λ _. e) ys) → AllByRecursion (λ z. same_entry x z ≡ false) (cond b (e ∷ ys) (y ∷ change_first test (λ _. e) ys))
      step true h more = let k = key y h in ((λ i. is_same x.table (k.0 i) && is_same x.id (k.1 i)) ∙ d.0, d.1)
      step false h more = (d.0, more)

  differ-changed : (xs : Entries) → IsDistinct same_entry xs → IsDistinct same_entry (change_first test (λ _. e) xs)
  unfolding IsDistinct
  differ-changed [] d = tt
  differ-changed (x ∷ xs) d = step (test x) refl (differ-changed xs d.1)
    where
      step : (b : Bool) → test x ≡ b → IsDistinct same_entry (change_first test (λ _. e) xs) → IsDistinct same_entry (cond b (e ∷ xs) (x ∷ change_first test (λ _. e) xs))
      step true h more = (apart-left x xs h d.0, d.1)
      step false h more = (apart-changed x xs d.0, more)

pass-changed : (p test : StoredEntry → Bool) (e : StoredEntry) (xs : Entries) → p e ≡ true → list_all p xs ≡ true → list_all p (change_first test (λ _. e) xs) ≡ true
pass-changed p test e [] k h = refl
pass-changed p test e (x ∷ xs) k h = step (test x) (pass-changed p test e xs k (second_of_both (p x) (list_all p xs) h))
  where
    step : (b : Bool) → list_all p (change_first test (λ _. e) xs) ≡ true → list_all p (cond b (e ∷ xs) (x ∷ change_first test (λ _. e) xs)) ≡ true
    step true more = both (p e) (list_all p xs) k (second_of_both (p x) (list_all p xs) h)
    step false more = both (p x) (list_all p (change_first test (λ _. e) xs)) (first_of_both (p x) (list_all p xs) h) more

-- ---- one that is put

pub differ-put : (e : StoredEntry) (entries : Entries) → IsDistinct same_entry entries → IsDistinct same_entry (put_entry e entries)
differ-put e entries d = step (list_any (is_entry_of e.table e.id) entries) refl
  where
    same-key : (x : StoredEntry) → is_entry_of e.table e.id x ≡ true → (e.table ≡ x.table) × (e.id ≡ x.id)
    same-key x h = let s = is-of e.table e.id x h in (sym s.0, sym s.1)

    step : (b : Bool) → list_any (is_entry_of e.table e.id) entries ≡ b → IsDistinct same_entry (cond b (change_first (is_entry_of e.table e.id) (λ _. e) entries) (entries ++ e ∷ []))
    step true h = differ-changed (is_entry_of e.table e.id) e same-key entries d
    step false h = differ-last e entries d h

pub pass-put : (p : StoredEntry → Bool) (e : StoredEntry) (entries : Entries) → p e ≡ true → list_all p entries ≡ true → list_all p (put_entry e entries) ≡ true
pass-put p e entries k h = step (list_any (is_entry_of e.table e.id) entries)
  where
    step : (b : Bool) → list_all p (cond b (change_first (is_entry_of e.table e.id) (λ _. e) entries) (entries ++ e ∷ [])) ≡ true
    step true = pass-changed p (is_entry_of e.table e.id) e entries k h
    step false = list_all-append p entries (e ∷ []) ∙ both (list_all p entries) (p e && true) h (both (p e) true k refl)

-- ---- the one that is looked up

pub found-passes : (p : StoredEntry → Bool) (table id : List ℕ) (entries : Entries) (e : StoredEntry) → list_all p entries ≡ true → entry_of entries table id ≡ Some e → p e ≡ true
found-passes p table id entries e h f = found_in_all (is_entry_of table id) p entries e f h

pub found-of : (table id : List ℕ) (entries : Entries) (e : StoredEntry) → entry_of entries table id ≡ Some e → (e.table ≡ table) × (e.id ≡ id)
found-of table id entries e f = is-of table id e (found_passes (is_entry_of table id) entries e f)
