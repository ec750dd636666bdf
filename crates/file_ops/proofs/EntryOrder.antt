-- The entries of temporaries, and how they are put in byte order of their names.
use Rattle.std.proofs.Common.{◌≡◌, ◌&&◌, ℕ, zero, suc, ◌+◌, ◌<◌, List, [], ◌∷◌, ◌++◌, length, take, map, get_or, set, Bool, true, false, cond, Option, Some, None, slice_get, refl, sym, ap, ◌∙◌, arith}
use Rattle.std.specs.List.{filter, insert, list_all, prefix_len}
use Rattle.std.proofs.lemmas.List.{append-nil}
use Rattle.portal_base.specs.Names.{is_same}
use Rattle.portal_base.specs.declared.names.doc_id.DocId.{DocId}
use Rattle.portal_model.specs.declared.reply.DirName.{DirName}
use Rattle.portal_model.specs.declared.temporary.OwnTemp.{OwnTemp}
use Rattle.portal_model.specs.OpenDir.{entry_of_temp, name_less}
use Rattle.portal_model.specs.Ordered.{bytes_less, put, put_all}
use Rattle.portal_model.specs.SeatNames.{is_temp_in}
use Rattle.portal_model.proofs.TripleOrder.{bytes-irreflexive, bytes-through, bytes-total, is_same-eq, is_same-refl}
use Rattle.file_ops.specs.Temporaries.{entries_of, is_called_so, puts}

-- ---- those in a folder

module _ (view : ℕ) (id : DocId) where
  abbrev pub entries_in : List OwnTemp → List DirName
  entries_in ts = map (entry_of_temp view) (filter (is_temp_in view id) ts)

  -- the entry of one stands ahead of the others
  entry-first : (t : OwnTemp) (ts : List OwnTemp) → entries_in (t ∷ ts) ≡ entries_of view id (Some t) ++ entries_in ts
  entry-first t ts = by (is_temp_in view id t)
    where
      by : (b : Bool) → map (entry_of_temp view) (cond b (t ∷ filter (is_temp_in view id) ts) (filter (is_temp_in view id) ts)) ≡ cond b (entry_of_temp view t ∷ []) [] ++ entries_in ts
      by true = refl
      by false = refl

  ahead-of : (o : Option OwnTemp) (xs ys : List DirName) → (entries_of view id o ++ xs) ++ ys ≡ entries_of view id o ++ (xs ++ ys)
  ahead-of None xs ys = refl
  ahead-of (Some t) xs ys = by (is_temp_in view id t)
    where
      by : (b : Bool) → (cond b (entry_of_temp view t ∷ []) [] ++ xs) ++ ys ≡ cond b (entry_of_temp view t ∷ []) [] ++ (xs ++ ys)
      by true = refl
      by false = refl

  entries-step : (ts : List OwnTemp) (n : ℕ) → entries_in (take n ts) ++ entries_of view id (slice_get ts n) ≡ entries_in (take (suc n) ts)
  entries-step [] zero = refl
  entries-step [] (suc n) = refl
  entries-step (t ∷ ts) zero = sym (append-nil (entries_of view id (Some t))) ∙ sym (entry-first t [])
  entries-step (t ∷ ts) (suc n) =
      ap (λ (es : List DirName). es ++ entries_of view id (slice_get ts n)) (entry-first t (take n ts))
      ∙ (ahead-of (Some t) (entries_in (take n ts)) (entries_of view id (slice_get ts n))
      ∙ (ap (λ (es : List DirName). entries_of view id (Some t) ++ es) (entries-step ts n)
      ∙ sym (entry-first t (take (suc n) ts))))

  -- one more place
  pub entries-next : (ts : List OwnTemp) (n : ℕ) → entries_in (take n ts) ++ entries_of view id (slice_get ts n) ≡ entries_in (take (n + 1) ts)
  entries-next ts n = let e : suc n ≡ n + 1 = omega arith in entries-step ts n ∙ ap (λ (m : ℕ). entries_in (take m ts)) e

-- one that isn't in the folder adds nothing
pub adds-none : (view : ℕ) (id : DocId) (t : OwnTemp) (r : Bool) (es : List DirName) → r ≡ is_temp_in view id t → r ≡ false → es ≡ es ++ entries_of view id (Some t)
adds-none view id t r es e f = sym (ap (λ (b : Bool). es ++ cond b (entry_of_temp view t ∷ []) []) (sym e ∙ f) ∙ append-nil es)

pub adds-one : (view : ℕ) (id : DocId) (t : OwnTemp) (r : Bool) (entry : DirName) (es : List DirName) → r ≡ is_temp_in view id t → r ≡ true → entry ≡ entry_of_temp view t → es ++ entry ∷ [] ≡ es ++ entries_of view id (Some t)
adds-one view id t r entry es e f n =
    ap (λ (x : DirName). es ++ x ∷ []) n
    ∙ sym (ap (λ (b : Bool). es ++ cond b (entry_of_temp view t ∷ []) []) (sym e ∙ f))

-- ---- each put in its place

pub puts-last : (entry : DirName) (es names : List DirName) → puts (es ++ entry ∷ []) names ≡ puts es (put name_less entry names)
puts-last entry [] names = refl
puts-last entry (e ∷ es) names = ap (put name_less e) (puts-last entry es names)

pub puts-all : (es : List DirName) → puts es [] ≡ put_all name_less es
puts-all [] = refl
puts-all (e ∷ es) = ap (put name_less e) (puts-all es)

-- ---- where one stands

abbrev pub is_ahead : List ℕ → DirName → Bool
is_ahead name entry = bytes_less entry.name name

abbrev pub place : List ℕ → List DirName → ℕ
place name names = prefix_len (is_ahead name) names

pub all-more : (p : DirName → Bool) (xs : List DirName) (x : DirName) → list_all p xs ≡ true → p x ≡ true → list_all p (xs ++ x ∷ []) ≡ true
all-more p [] x h e = ap (λ (b : Bool). b && true) e
all-more p (y ∷ ys) x h e = by (p y) h (all-more p ys x)
  where
    by : (b : Bool) → (b && list_all p ys) ≡ true → (list_all p ys ≡ true → p x ≡ true → list_all p (ys ++ x ∷ []) ≡ true) → (b && list_all p (ys ++ x ∷ [])) ≡ true
    by true f more = more f e
    by false f more = cc

pub ends-at : (p : DirName → Bool) (xs : List DirName) (n : ℕ) (d : DirName) → n < length xs → list_all p (take n xs) ≡ true → p (get_or xs n d) ≡ false → n ≡ prefix_len p xs
ends-at p [] n d l h f = absurd (omega arith)
ends-at p (x ∷ xs) zero d l h f = sym (ap (λ (b : Bool). cond b (1 + prefix_len p xs) 0) f)
ends-at p (x ∷ xs) (suc n) d l h f = by (p x) h (λ r. ends-at p xs n d (omega arith) r f)
  where
    by : (b : Bool) → (b && list_all p (take n xs)) ≡ true → (list_all p (take n xs) ≡ true → n ≡ prefix_len p xs) → suc n ≡ cond b (1 + prefix_len p xs) 0
    by true g more = let e = more g in omega (arith, e)
    by false g more = cc

pub all-ahead : (p : DirName → Bool) (xs : List DirName) → list_all p xs ≡ true → length xs ≡ prefix_len p xs
all-ahead p [] h = refl
all-ahead p (x ∷ xs) h = by (p x) h (all-ahead p xs)
  where
    by : (b : Bool) → (b && list_all p xs) ≡ true → (list_all p xs ≡ true → length xs ≡ prefix_len p xs) → length (x ∷ xs) ≡ cond b (1 + prefix_len p xs) 0
    by true g more = let e = more g in omega (arith, e)
    by false g more = cc

-- ---- put there, as permission_table does it

not-back : (a b : List ℕ) → bytes_less a b ≡ true → bytes_less b a ≡ false
not-back a b l = grind (arith, bytes-through a b a, bytes-irreflexive a)

same-way : (a b : List ℕ) → a ≡ b → is_same b a ≡ true
same-way a b e = ap (is_same b) e ∙ is_same-refl b

ahead : (a b : List ℕ) → is_same b a ≡ false → bytes_less b a ≡ false → bytes_less a b ≡ true
ahead a b k l = grind (arith, bytes-total a b, same-way a b)

not-ahead : (a b : List ℕ) → is_same b a ≡ true → bytes_less a b ≡ false
not-ahead a b k = ap (bytes_less a) (is_same-eq b a k) ∙ bytes-irreflexive a

next-item : (x : DirName) (xs : List DirName) (n : ℕ) → slice_get (x ∷ xs) (1 + n) ≡ slice_get xs n
next-item x xs n = let e : 1 + n ≡ suc n = omega arith in ap (slice_get (x ∷ xs)) e

insert-more : (x y : DirName) (ys : List DirName) (n : ℕ) → insert (y ∷ ys) (1 + n) x ≡ y ∷ insert ys n x
insert-more x y ys n = let e : 1 + n ≡ suc n = omega arith in ap (λ (m : ℕ). insert (y ∷ ys) m x) e

set-more : (x y : DirName) (ys : List DirName) (n : ℕ) → set (y ∷ ys) (1 + n) x ≡ y ∷ set ys n x
set-more x y ys n = let e : 1 + n ≡ suc n = omega arith in ap (λ (m : ℕ). set (y ∷ ys) m x) e

-- an entry of the name stands at its place
abbrev pub is_there : List ℕ → List DirName → Bool
is_there name names = is_called_so name (slice_get names (place name names))

pub put-new : (x : DirName) (xs : List DirName) → is_there x.name xs ≡ false → insert xs (place x.name xs) x ≡ put name_less x xs
put-new x [] h = refl
put-new x (y ∷ ys) h = step (bytes_less y.name x.name) refl h (put-new x ys)
  where
    step : (b : Bool) → bytes_less y.name x.name ≡ b → is_called_so x.name (slice_get (y ∷ ys) (cond b (1 + place x.name ys) 0)) ≡ false → (is_there x.name ys ≡ false → insert ys (place x.name ys) x ≡ put name_less x ys) →
        insert (y ∷ ys) (cond b (1 + place x.name ys) 0) x ≡ cond (name_less x y) (x ∷ y ∷ ys) (cond b (y ∷ put name_less x ys) (x ∷ ys))
    step true l h more =
        let there : is_there x.name ys ≡ false = ap (is_called_so x.name) (sym (next-item y ys (place x.name ys))) ∙ h in
        insert-more x y ys (place x.name ys) ∙ (ap (λ (zs : List DirName). y ∷ zs) (more there)
        ∙ sym (ap (λ (b : Bool). cond b (x ∷ y ∷ ys) (y ∷ put name_less x ys)) (not-back y.name x.name l)))
    step false l h more = sym (ap (λ (b : Bool). cond b (x ∷ y ∷ ys) (x ∷ ys)) (ahead x.name y.name h l))

pub put-over : (x : DirName) (xs : List DirName) → is_there x.name xs ≡ true → set xs (place x.name xs) x ≡ put name_less x xs
put-over x [] h = cc
put-over x (y ∷ ys) h = step (bytes_less y.name x.name) refl h (put-over x ys)
  where
    step : (b : Bool) → bytes_less y.name x.name ≡ b → is_called_so x.name (slice_get (y ∷ ys) (cond b (1 + place x.name ys) 0)) ≡ true → (is_there x.name ys ≡ true → set ys (place x.name ys) x ≡ put name_less x ys) →
        set (y ∷ ys) (cond b (1 + place x.name ys) 0) x ≡ cond (name_less x y) (x ∷ y ∷ ys) (cond b (y ∷ put name_less x ys) (x ∷ ys))
    step true l h more =
        let there : is_there x.name ys ≡ true = ap (is_called_so x.name) (sym (next-item y ys (place x.name ys))) ∙ h in
        set-more x y ys (place x.name ys) ∙ (ap (λ (zs : List DirName). y ∷ zs) (more there)
        ∙ sym (ap (λ (b : Bool). cond b (x ∷ y ∷ ys) (y ∷ put name_less x ys)) (not-back y.name x.name l)))
    step false l h more = sym (ap (λ (b : Bool). cond b (x ∷ y ∷ ys) (x ∷ ys)) (not-ahead x.name y.name h))
