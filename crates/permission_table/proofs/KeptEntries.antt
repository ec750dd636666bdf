-- The entry of a table and an identifier, looked up, taken out and put in its place.
use Rattle.std.proofs.Common.{◌≡◌, ℕ, ◌+◌, ◌<◌, nat_lt, suc, List, [], ◌∷◌, ◌++◌, length, Bool, true, false, not, ◌&&◌, cond, Some, None, refl, sym, ap, subst, ◌∙◌, arith}
use Rattle.std.specs.List.{All, filter, find, list_any, remove, prefix_len, position, position_or_len, slice_get, IsDistinct, AllByRecursion}
use Rattle.std.proofs.lemmas.Bool.Decides.{nat_tests}
use Rattle.std.proofs.lemmas.List.Elements.{All-cons, All-filter, All-head, All-nil, All-push, All-tail}
use Rattle.std.proofs.lemmas.List.Folds.{find_at}
use Rattle.portal_base.specs.Names.{is_same}
use Rattle.portal_model.specs.RecordChanges.{change_first}
use Rattle.portal_model.specs.Store.{Entries, entry_of, is_entry_of, put_entry, without_entry}
use Rattle.portal_model.specs.declared.store.StoredEntry.{StoredEntry}
use Rattle.portal_model.specs.declared.store.TableEntry.{TableEntry}
use Rattle.portal_model.proofs.DistinctItems.{IsDistinct-filter}
use Rattle.portal_model.proofs.ListLookups.{found_passes}
use Rattle.portal_model.proofs.TripleOrder.{is_same-eq, is_same-refl}
use Rattle.portal_model.specs.Valid.{same_entry}
use Rattle.permission_table.specs.Tables.{AreEntries, IsFormer, IsHeld, restored}

pub place-is : (b : Bool) (n i : ℕ) → cond b (Some n) None ≡ Some i → i ≡ n
place-is true n i e = cc
place-is false n i e = cc

no-place : (b : Bool) (n : ℕ) → cond b (Some n) None ≡ None → b ≡ false
no-place true n e = cc
no-place false n e = refl

within : (b : Bool) (n m i : ℕ) → nat_lt n m ≡ b → cond b (Some n) None ≡ Some i → i < m
within true n m i h e = let p : i ≡ n = cc in grind (arith, nat_tests)
within false n m i h e = cc

-- ---- the first that passes a test

module _ {X : Type 0} (test : X → Bool) where
  none-found : (xs : List X) → nat_lt (position_or_len test xs) (length xs) ≡ false → find test xs ≡ None
  none-found [] e = refl
  none-found (x ∷ xs) e = step (test x) e (none-found xs)
    where
      step : (b : Bool) → nat_lt (cond (not b) (1 + position_or_len test xs) 0) (suc (length xs)) ≡ false → (nat_lt (position_or_len test xs) (length xs) ≡ false → find test xs ≡ None) → cond b (Some x) (find test xs) ≡ None
      step true e more = grind (arith, nat_tests)
      step false e more = more (grind (arith, nat_tests))

  pub not-found : (xs : List X) → position test xs ≡ None → find test xs ≡ None
  not-found xs e = none-found xs (no-place (nat_lt (position_or_len test xs) (length xs)) (position_or_len test xs) e)

  pub none-left-out : (xs : List X) → find test xs ≡ None → filter (λ x. not (test x)) xs ≡ xs
  none-left-out [] e = refl
  none-left-out (x ∷ xs) e = grind (arith, none-left-out xs)

  pub not-there : (xs : List X) → position test xs ≡ None → xs ≡ filter (λ x. not (test x)) xs
  not-there xs e = sym (none-left-out xs (not-found xs e))

  pub found-at : (xs : List X) (i : ℕ) (x : X) → position test xs ≡ Some i → slice_get xs i ≡ Some x → Some x ≡ find test xs
  found-at xs i x e g =
      sym g ∙ (ap (slice_get xs) (place-is (nat_lt (position_or_len test xs) (length xs)) (position_or_len test xs) i e) ∙ sym (find_at test xs))

  pub found-by-place : (xs : List X) (i : ℕ) → position test xs ≡ Some i → slice_get xs i ≡ find test xs
  found-by-place xs i e = ap (slice_get xs) (place-is (nat_lt (position_or_len test xs) (length xs)) (position_or_len test xs) i e) ∙ sym (find_at test xs)

  pub place-within : (xs : List X) (i : ℕ) → position test xs ≡ Some i → i < length xs
  place-within xs i e = within (nat_lt (position_or_len test xs) (length xs)) (position_or_len test xs) (length xs) i refl e

  remove-more : (x : X) (xs : List X) (k : ℕ) → remove (x ∷ xs) (1 + k) ≡ x ∷ remove xs k
  remove-more x xs k = let e : 1 + k ≡ suc k = omega arith in ap (λ (n : ℕ). remove (x ∷ xs) n) e

  -- where items that pass are the same, and the items differ
  module _ (same : X → X → Bool) (apart : (x y : X) → test x ≡ true → same x y ≡ false → test y ≡ false) where
    none-other : (x : X) (xs : List X) → test x ≡ true → AllByRecursion (λ y. same x y ≡ false) xs → filter (λ y. not (test y)) xs ≡ xs
    none-other x [] h d = refl
    none-other x (y ∷ ys) h d =
        ap (λ (b : Bool). cond (not b) (y ∷ filter (λ z. not (test z)) ys) (filter (λ z. not (test z)) ys)) (apart x y h d.0)
        ∙ ap (λ (zs : List X). y ∷ zs) (none-other x ys h d.1)

    removed-is : (xs : List X) → IsDistinct same xs → remove xs (prefix_len (λ x. not (test x)) xs) ≡ filter (λ x. not (test x)) xs
    unfolding IsDistinct
    removed-is [] d = refl
    removed-is (x ∷ xs) d = step (test x) refl (removed-is xs d.1)
      where
        step : (b : Bool) → test x ≡ b → remove xs (prefix_len (λ y. not (test y)) xs) ≡ filter (λ y. not (test y)) xs →
            remove (x ∷ xs) (cond (not b) (1 + prefix_len (λ y. not (test y)) xs) 0) ≡ cond (not b) (x ∷ filter (λ y. not (test y)) xs) (filter (λ y. not (test y)) xs)
        step true e more = sym (none-other x xs e d.0)
        step false e more = remove-more x xs (prefix_len (λ y. not (test y)) xs) ∙ ap (λ (ys : List X). x ∷ ys) more

    pub removed-at : (xs : List X) (i : ℕ) → IsDistinct same xs → position test xs ≡ Some i → remove xs i ≡ filter (λ x. not (test x)) xs
    removed-at xs i d e =
        ap (remove xs) (place-is (nat_lt (position_or_len test xs) (length xs)) (position_or_len test xs) i e) ∙ removed-is xs d

-- ---- entries of a table and an identifier

pub is-of : (table id : List ℕ) (e : StoredEntry) → is_entry_of table id e ≡ true → (e.table ≡ table) × (e.id ≡ id)
is-of table id e h = let t : is_same e.table table ≡ true = grind arith in let i : is_same e.id id ≡ true = grind arith in (is_same-eq e.table table t, is_same-eq e.id id i)

of-itself : (e : StoredEntry) → is_entry_of e.table e.id e ≡ true
of-itself e = grind (arith, is_same-refl e.table, is_same-refl e.id)

-- of two that differ only one is of a table and an identifier
pub of-one : (table id : List ℕ) (a b : StoredEntry) → is_entry_of table id a ≡ true → same_entry a b ≡ false → is_entry_of table id b ≡ false
of-one table id a b h d = step (is_entry_of table id b) refl
  where
    step : (t : Bool) → is_entry_of table id b ≡ t → t ≡ false
    step false e = refl
    step true e =
        let x = is-of table id a h in
        let y = is-of table id b e in
        let s : same_entry a b ≡ true =
        (λ i. is_entry_of (y.0 i) (y.1 i) a) ∙ h in
        cc

-- ---- what tables keep

kept-some : (p : StoredEntry → Bool) (entries : Entries) → AreEntries entries → AreEntries (filter p entries)
kept-some p entries k = record {
  differ = IsDistinct-filter same_entry p entries k.differ;
  held = All-filter p IsHeld entries k.held;
}

pub kept-without : (table id : List ℕ) (entries : Entries) → AreEntries entries → AreEntries (without_entry table id entries)
kept-without table id entries k = kept-some (λ e. not (is_entry_of table id e)) entries k

all-last : (x e : StoredEntry) (xs : Entries) → AllByRecursion (λ y. same_entry x y ≡ false) xs → same_entry x e ≡ false → AllByRecursion (λ y. same_entry x y ≡ false) (xs ++ e ∷ [])
all-last x e [] h l = (l, tt)
all-last x e (y ∷ ys) h l = (h.0, all-last x e ys h.1 l)

differ-last : (e : StoredEntry) (xs : Entries) → IsDistinct same_entry xs → list_any (is_entry_of e.table e.id) xs ≡ false → IsDistinct same_entry (xs ++ e ∷ [])
unfolding IsDistinct
differ-last e [] d n = (tt, tt)
differ-last e (x ∷ xs) d n =
    let one : is_entry_of e.table e.id x ≡ false = grind arith in
    let rest : list_any (is_entry_of e.table e.id) xs ≡ false = grind arith in
    (all-last x e xs d.0 one, differ-last e xs d.1 rest)

module _ (test : StoredEntry → Bool) (change : StoredEntry → StoredEntry)
    (keeps : (e : StoredEntry) → test e ≡ true → ((change e).table ≡ e.table) × ((change e).id ≡ e.id)) where
  same-left : (x y : StoredEntry) → test x ≡ true → same_entry (change x) y ≡ same_entry x y
  same-left x y h = let k = keeps x h in λ i. is_same (k.0 i) y.table && is_same (k.1 i) y.id

  same-right : (x y : StoredEntry) → test y ≡ true → same_entry x (change y) ≡ same_entry x y
  same-right x y h = let k = keeps y h in λ i. is_same x.table (k.0 i) && is_same x.id (k.1 i)

  all-left : (x : StoredEntry) (ys : Entries) → test x ≡ true → AllByRecursion (λ y. same_entry x y ≡ false) ys → AllByRecursion (λ y. same_entry (change x) y ≡ false) ys
  all-left x [] h d = tt
  all-left x (y ∷ ys) h d = (same-left x y h ∙ d.0, all-left x ys h d.1)

  all-changed : (x : StoredEntry) (ys : Entries) → AllByRecursion (λ y. same_entry x y ≡ false) ys → AllByRecursion (λ y. same_entry x y ≡ false) (change_first test change ys)
  all-changed x [] d = tt
  all-changed x (y ∷ ys) d = step (test y) refl (all-changed x ys d.1)
    where
      step : (b : Bool) → test y ≡ b → AllByRecursion (λ z. same_entry x z ≡ false) (change_first test change ys) → AllByRecursion (λ z. same_entry x z ≡ false) (cond b (change y ∷ ys) (y ∷ change_first test change ys))
      step true e more = (same-right x y e ∙ d.0, d.1)
      step false e more = (d.0, more)

  pub differ-changed : (xs : Entries) → IsDistinct same_entry xs → IsDistinct same_entry (change_first test change xs)
  unfolding IsDistinct
  differ-changed [] d = tt
  differ-changed (x ∷ xs) d = step (test x) refl (differ-changed xs d.1)
    where
      step : (b : Bool) → test x ≡ b → IsDistinct same_entry (change_first test change xs) → IsDistinct same_entry (cond b (change x ∷ xs) (x ∷ change_first test change xs))
      step true e more = (all-left x xs e d.0, d.1)
      step false e more = (all-changed x xs d.0, more)

  held-changed : (xs : Entries) → ((e : StoredEntry) → test e ≡ true → IsHeld (change e)) → All IsHeld xs → All IsHeld (change_first test change xs)
  held-changed [] f h = h
  held-changed (x ∷ xs) f h = step (test x) refl (held-changed xs f (All-tail IsHeld x xs h))
    where
      step : (b : Bool) → test x ≡ b → All IsHeld (change_first test change xs) → All IsHeld (cond b (change x ∷ xs) (x ∷ change_first test change xs))
      step true e more = All-cons IsHeld (change x) xs (f x e) (All-tail IsHeld x xs h)
      step false e more = All-cons IsHeld x (change_first test change xs) (All-head IsHeld x xs h) more

  pub kept-changed : (xs : Entries) → ((e : StoredEntry) → test e ≡ true → IsHeld (change e)) → AreEntries xs → AreEntries (change_first test change xs)
  kept-changed xs f k = record { differ = differ-changed xs k.differ; held = held-changed xs f k.held }

pub kept-put : (e : StoredEntry) (entries : Entries) → IsHeld e → AreEntries entries → AreEntries (put_entry e entries)
kept-put e entries r k = step (list_any (is_entry_of e.table e.id) entries) refl
  where
    same-key : (x : StoredEntry) → is_entry_of e.table e.id x ≡ true → (e.table ≡ x.table) × (e.id ≡ x.id)
    same-key x h = let s = is-of e.table e.id x h in (sym s.0, sym s.1)

    step : (b : Bool) → list_any (is_entry_of e.table e.id) entries ≡ b → AreEntries (cond b (change_first (is_entry_of e.table e.id) (λ _. e) entries) (entries ++ e ∷ []))
    step true h = kept-changed (is_entry_of e.table e.id) (λ _. e) same-key entries (λ _ _. r) k
    step false h = record {
      differ = differ-last e entries k.differ h;
      held = All-push IsHeld entries e k.held r;
    }

-- an entry that has its former rows and data is held, as it was
pub kept-restored : (table id : List ℕ) (former : TableEntry) (entries : Entries) → IsFormer table id former → AreEntries entries → AreEntries (restored table id former entries)
kept-restored table id former entries r k =
    kept-changed (is_entry_of table id) (λ e. record e { rows = former.rows; datum = former.datum }) (λ e h. (refl, refl)) entries held k
  where
    held : (e : StoredEntry) → is_entry_of table id e ≡ true → IsHeld (record e { rows = former.rows; datum = former.datum })
    held e h =
        let s = is-of table id e h in
        subst IsHeld (λ i. record { table = sym s.0 i; id = sym s.1 i; datum = former.datum; rows = former.rows }) r

pub kept-none : AreEntries []
unfolding IsDistinct
kept-none = record { differ = tt; held = All-nil IsHeld }

-- ---- the one that is looked up

all-found : (test : StoredEntry → Bool) (xs : Entries) (x : StoredEntry) → find test xs ≡ Some x → All IsHeld xs → IsHeld x
all-found test [] x f a = let never : ⊥ = cc in absurd never
all-found test (y ∷ ys) x f a = step (test y) f (λ g. all-found test ys x g (All-tail IsHeld y ys a))
  where
    same : Some y ≡ Some x → y ≡ x
    same p = cc

    step : (b : Bool) → cond b (Some y) (find test ys) ≡ Some x → (find test ys ≡ Some x → IsHeld x) → IsHeld x
    step true g more = subst IsHeld (same g) (All-head IsHeld y ys a)
    step false g more = more g

pub held-found : (table id : List ℕ) (entries : Entries) (e : StoredEntry) → AreEntries entries → entry_of entries table id ≡ Some e → IsHeld e
held-found table id entries e k h = all-found (is_entry_of table id) entries e h k.held

-- it is of that table and identifier
pub found-of : (table id : List ℕ) (entries : Entries) (e : StoredEntry) → entry_of entries table id ≡ Some e → (e.table ≡ table) × (e.id ≡ id)
found-of table id entries e h = is-of table id e (found_passes (is_entry_of table id) entries e h)
