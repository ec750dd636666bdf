-- What the table of temporaries has of a seat is what a connection has, and how it changes.
use Rattle.std.proofs.Common.{◌≡◌, ◌==◌, ◌&&◌, ◌||◌, ◌+◌, zero, suc, ◌<◌, ◌≤◌, ℕ, nat_eq, nat_lt, List, [], ◌∷◌, ◌++◌, length, map, find, Bool, true, false, not, cond, Option, Some, None, IfSome, IsSomeAnd, slice_get, refl, sym, ap, subst, arith, ◌∙◌}
use Rattle.std.specs.Option.{option_map}
use Rattle.std.specs.List.{AllByRecursion, IsDistinct, filter}
use Rattle.std.specs.Map.{keys_of, lookup}
use Rattle.std.proofs.lemmas.Bool.Decides.{nat_tests}
use Rattle.std.proofs.lemmas.List.{length-map}
use Rattle.portal_base.specs.declared.names.doc_id.DocId.{DocId}
use Rattle.portal_model.specs.declared.temporary.OwnTemp.{OwnTemp}
use Rattle.portal_model.specs.declared.temporary.Temp.{Temp}
use Rattle.portal_model.specs.NodeVerdict.{NameChange, Temps}
use Rattle.portal_model.specs.SeatNames.{Begins, Drops, Renames, found_temp, is_called as called_in, is_replaced, lacks_temp, own_temp, renamed, temp_of}
use Rattle.save_files.specs.Own.{Adds, AtSeat, Both, CanAdd, IsKept, Keeps, Own, Removes, RemovesOthers, Renames as RenamesOwn, found_in, is_called, is_other, last_number, most_temps, number_at, number_in, own_on, owned, temp_of as own_temp_of}
use Rattle.save_files.specs.Tables.{TempTable}
use Rattle.save_files.specs.TempErrors.{Refuses}
use Rattle.save_files.specs.declared.own.TempError.TheVariants.{Full}
use Rattle.save_files.proofs.Owned.{added-owned, found-owned, removed-owned, renamed-owned, temp-owned}
use Rattle.file_ops.specs.SeatTemps.{HeldTemps, SeatTemped, held_after, held_by, seat_temps, temps_on}

some-held : (a b : HeldTemps) → Some a ≡ Some b → a ≡ b
some-held a b e = cc

-- ---- a temporary by its number

pub by-number : (k : ℕ) (o : Option Own) (has : HeldTemps) → option_map held_by o ≡ Some has → own_temp_of o k ≡ temp_of has.temps k
by-number k None has e = cc
by-number k (Some o) has e =
    let same : held_by o ≡ has = cc in
    sym (temp-owned k o.temps) ∙ ap (λ (h : HeldTemps). temp_of h.temps k) same

-- ---- by its name

number-same : (a b : ℕ) → (a == b) ≡ true → a ≡ b
number-same a b h = grind (arith, nat_tests)

turned : (a b : ℕ) → (a == b) ≡ (b == a)
turned a b = grind (arith, nat_tests)

itself : (n : ℕ) → (n == n) ≡ true
itself n = grind (arith, nat_tests)

-- a number that was found is among the keys
apart-found : (p : ℕ × Temp → Bool) (a k : ℕ) (es : List (ℕ × Temp)) → number_in (find p es) ≡ Some k → AllByRecursion (λ n. nat_eq a n ≡ false) (keys_of es) → nat_eq a k ≡ false
apart-found p a k [] e h = cc
apart-found p a k (x ∷ es) e h = by (p x) e (λ f. apart-found p a k es f h.1)
  where
    by : (b : Bool) → number_in (cond b (Some x) (find p es)) ≡ Some k → (number_in (find p es) ≡ Some k → nat_eq a k ≡ false) → nat_eq a k ≡ false
    by true f more = let same : x.0 ≡ k = cc in subst (λ (n : ℕ). nat_eq a n ≡ false) same h.0
    by false f more = more f

module _ (view : ℕ) (id : DocId) (name : List ℕ) where
  abbrev called : ℕ × Temp → Bool
  called e = is_called view id.number name e

  found-is : (k : ℕ) (temp : Temp) (es : List (ℕ × Temp)) → IsDistinct nat_eq (keys_of es) → number_in (find called es) ≡ Some k → lookup (λ n. k == n) es ≡ Some temp → found_temp (owned es) view id name ≡ Some (own_temp k temp)
  unfolding IsDistinct
  found-is k temp [] d e l = cc
  found-is k temp (x ∷ es) d e l = by (called x) e (λ f. found-is k temp es d.1 f)
    where
      first : Some x.0 ≡ Some k → Some (own_temp x.0 x.1) ≡ Some (own_temp k temp)
      first f =
          let same : x.0 ≡ k = cc in
          let here : Some x.1 ≡ Some temp = sym (ap (λ (b : Bool). cond b (Some x.1) (lookup (λ n. k == n) es)) (ap (λ (n : ℕ). k == n) same ∙ itself k)) ∙ l in
          let is : x.1 ≡ temp = cc in
          λ i. Some (own_temp (same i) (is i))

      later : number_in (find called es) ≡ Some k → lookup (λ n. k == n) es ≡ Some temp
      later f = sym (ap (λ (b : Bool). cond b (Some x.1) (lookup (λ n. k == n) es)) (turned k x.0 ∙ apart-found called x.0 k es f d.0)) ∙ l

      by : (b : Bool) → number_in (cond b (Some x) (find called es)) ≡ Some k → (number_in (find called es) ≡ Some k → lookup (λ n. k == n) es ≡ Some temp → found_temp (owned es) view id name ≡ Some (own_temp k temp)) →
          cond b (Some (own_temp x.0 x.1)) (found_temp (owned es) view id name) ≡ Some (own_temp k temp)
      by true f more = first f
      by false f more = more f (later f)

  -- one that was found has its number
  found-there : (k : ℕ) (es : List (ℕ × Temp)) → number_in (find called es) ≡ Some k → lookup (λ n. k == n) es ≡ None → ⊥
  found-there k [] e l = cc
  found-there k (x ∷ es) e l = by (called x) e (k == x.0) refl l (λ f n. found-there k es f n)
    where
      by : (b : Bool) → number_in (cond b (Some x) (find called es)) ≡ Some k → (c : Bool) → (k == x.0) ≡ c → cond c (Some x.1) (lookup (λ n. k == n) es) ≡ None → (number_in (find called es) ≡ Some k → lookup (λ n. k == n) es ≡ None → ⊥) → ⊥
      by true f true h n more = cc
      by true f false h n more =
          let same : x.0 ≡ k = cc in
          let no : true ≡ false = sym (itself k) ∙ (ap (λ (n : ℕ). k == n) (sym same) ∙ h) in
          cc
      by false f true h n more = cc
      by false f false h n more = more f n

  none-found : (o : Option OwnTemp) → option_map (λ (t : OwnTemp). t.k) o ≡ None → o ≡ None
  none-found None e = refl
  none-found (Some t) e = cc

  pub called-none : (o : Option Own) (has : HeldTemps) → option_map held_by o ≡ Some has → found_in o view id.number name ≡ None → None ≡ found_temp has.temps view id name
  called-none None has e f = cc
  called-none (Some o) has e f =
      let same : held_by o ≡ has = cc in
      sym (none-found (found_temp (owned o.temps) view id name) (found-owned view id name o.temps ∙ f)) ∙ ap (λ (h : HeldTemps). found_temp h.temps view id name) same

  pub called-some : (o : Option Own) (has : HeldTemps) (k : ℕ) (temp : Temp) → option_map held_by o ≡ Some has → IfSome o IsKept → found_in o view id.number name ≡ Some k → own_temp_of o k ≡ Some temp → Some (own_temp k temp) ≡ found_temp has.temps view id name
  called-some None has k temp e kept f l = cc
  called-some (Some o) has k temp e kept f l =
      let same : held_by o ≡ has = cc in
      sym (found-is k temp o.temps kept.numbered.differ f l) ∙ ap (λ (h : HeldTemps). found_temp h.temps view id name) same

  pub called-there : (o : Option Own) (k : ℕ) → found_in o view id.number name ≡ Some k → own_temp_of o k ≡ None → ⊥
  called-there None k f l = cc
  called-there (Some o) k f l = found-there k o.temps f l

-- ---- by its place

place-none : (place : ℕ) (es : List (ℕ × Temp)) → number_in (slice_get es place) ≡ None → slice_get (owned es) place ≡ None
place-none place [] e = refl
place-none zero (x ∷ es) e = cc
place-none (suc place) (x ∷ es) e = place-none place es e

place-apart : (a k place : ℕ) (es : List (ℕ × Temp)) → number_in (slice_get es place) ≡ Some k → AllByRecursion (λ n. nat_eq a n ≡ false) (keys_of es) → nat_eq a k ≡ false
place-apart a k place [] e h = cc
place-apart a k zero (x ∷ es) e h = let same : x.0 ≡ k = cc in subst (λ (n : ℕ). nat_eq a n ≡ false) same h.0
place-apart a k (suc place) (x ∷ es) e h = place-apart a k place es e h.1

place-is : (k : ℕ) (temp : Temp) (place : ℕ) (es : List (ℕ × Temp)) → IsDistinct nat_eq (keys_of es) → number_in (slice_get es place) ≡ Some k → lookup (λ n. k == n) es ≡ Some temp → slice_get (owned es) place ≡ Some (own_temp k temp)
unfolding IsDistinct
place-is k temp place [] d e l = cc
place-is k temp zero (x ∷ es) d e l =
    let same : x.0 ≡ k = cc in
    let here : Some x.1 ≡ Some temp = sym (ap (λ (b : Bool). cond b (Some x.1) (lookup (λ n. k == n) es)) (ap (λ (n : ℕ). k == n) same ∙ itself k)) ∙ l in
    let is : x.1 ≡ temp = cc in
    λ i. Some (own_temp (same i) (is i))
place-is k temp (suc place) (x ∷ es) d e l =
    place-is k temp place es d.1 e
    (sym (ap (λ (b : Bool). cond b (Some x.1) (lookup (λ n. k == n) es)) (turned k x.0 ∙ place-apart x.0 k place es e d.0)) ∙ l)

place-there : (k place : ℕ) (es : List (ℕ × Temp)) → number_in (slice_get es place) ≡ Some k → lookup (λ n. k == n) es ≡ None → ⊥
place-there k place [] e l = cc
place-there k zero (x ∷ es) e l =
    let same : x.0 ≡ k = cc in
    let no : Some x.1 ≡ None = sym (ap (λ (b : Bool). cond b (Some x.1) (lookup (λ n. k == n) es)) (ap (λ (n : ℕ). k == n) same ∙ itself k)) ∙ l in
    cc
place-there k (suc place) (x ∷ es) e l = by (k == x.0) l (λ h. place-there k place es e h)
  where
    by : (b : Bool) → cond b (Some x.1) (lookup (λ n. k == n) es) ≡ None → (lookup (λ n. k == n) es ≡ None → ⊥) → ⊥
    by true h more = cc
    by false h more = more h

pub at-none : (place : ℕ) (o : Option Own) (has : HeldTemps) → option_map held_by o ≡ Some has → number_at o place ≡ None → None ≡ slice_get has.temps place
at-none place None has e f = cc
at-none place (Some o) has e f =
    let same : held_by o ≡ has = cc in
    sym (place-none place o.temps f) ∙ ap (λ (h : HeldTemps). slice_get h.temps place) same

pub at-some : (place : ℕ) (o : Option Own) (has : HeldTemps) (k : ℕ) (temp : Temp) → option_map held_by o ≡ Some has → IfSome o IsKept → number_at o place ≡ Some k → own_temp_of o k ≡ Some temp → Some (own_temp k temp) ≡ slice_get has.temps place
at-some place None has k temp e kept f l = cc
at-some place (Some o) has k temp e kept f l =
    let same : held_by o ≡ has = cc in
    sym (place-is k temp place o.temps kept.numbered.differ f l) ∙ ap (λ (h : HeldTemps). slice_get h.temps place) same

pub at-there : (place : ℕ) (o : Option Own) (k : ℕ) → number_at o place ≡ Some k → own_temp_of o k ≡ None → ⊥
at-there place None k f l = cc
at-there place (Some o) k f l = place-there k place o.temps f l

-- a seat has no more than it may
pub few-temps : (o : Option Own) (has : HeldTemps) → option_map held_by o ≡ Some has → IfSome o IsKept → length has.temps ≤ most_temps
few-temps None has e kept = cc
few-temps (Some o) has e kept =
    let same : held_by o ≡ has = cc in
    let count : length (owned o.temps) ≡ length o.temps = length-map o.temps (λ (x : ℕ × Temp). own_temp x.0 x.1) in
    subst (λ (h : HeldTemps). length h.temps ≤ most_temps) same (omega (arith, count, kept.limit))

-- ---- room for one more

can-add : (n added : ℕ) → n < 64 → added < 4294967295 → (not (nat_lt n 64) || not (nat_lt added 4294967295)) ≡ false
can-add n added h k =
    let first : nat_lt n 64 ≡ true = grind (arith, nat_tests) in
    let second : nat_lt added 4294967295 ≡ true = grind (arith, nat_tests) in
    λ i. not (first i) || not (second i)

free-of : (o m : Option Own) (next : List ℕ → ℕ) (has : HeldTemps) → option_map held_by o ≡ Some has → Both Keeps o m → IsSomeAnd m CanAdd → lacks_temp (record { temps = has.temps; added = has.added; next = next }) ≡ false
free-of None m next has e k c = cc
free-of (Some o) None next has e k c = absurd k
free-of (Some o) (Some m) next has e k c =
    let same : held_by o ≡ has = cc in
    let count : length (owned o.temps) ≡ length o.temps = length-map o.temps (λ (x : ℕ × Temp). own_temp x.0 x.1) in
    let few : length (owned o.temps) < 64 = omega (arith, count, subst (λ (ts : List (ℕ × Temp)). length ts < most_temps) k.temps c.limit) in
    let left : o.added < 4294967295 = subst (λ (n : ℕ). n < last_number) k.added c.number in
    subst (λ (h : HeldTemps). lacks_temp (record { temps = h.temps; added = h.added; next = next }) ≡ false) same (can-add (length (owned o.temps)) o.added few left)

pub room-free : (table mid : TempTable) (seat : ℕ) (has : HeldTemps) → temps_on table.seats seat ≡ Some has → AtSeat (Both Keeps) table.seats mid.seats seat → IsSomeAnd (own_on mid.seats seat) CanAdd → lacks_temp (seat_temps table has) ≡ false
room-free table mid seat has e k c = free-of (own_on table.seats seat) (own_on mid.seats seat) (seat_temps table has).next has e k.there c

full-by : (n added : ℕ) → 64 ≤ n → (not (nat_lt n 64) || not (nat_lt added 4294967295)) ≡ true
full-by n added h =
    let first : nat_lt n 64 ≡ false = grind (arith, nat_tests) in
    ap (λ (b : Bool). not b || not (nat_lt added 4294967295)) first

full-of : (o : Option Own) (next : List ℕ → ℕ) (has : HeldTemps) → option_map held_by o ≡ Some has → IfSome o (λ x. Refuses x Full) → lacks_temp (record { temps = has.temps; added = has.added; next = next }) ≡ true
full-of None next has e r = cc
full-of (Some o) next has e r =
    let same : held_by o ≡ has = cc in
    let count : length (owned o.temps) ≡ length o.temps = length-map o.temps (λ (x : ℕ × Temp). own_temp x.0 x.1) in
    let many : 64 ≤ length (owned o.temps) = omega (arith, count, r) in
    subst (λ (h : HeldTemps). lacks_temp (record { temps = h.temps; added = h.added; next = next }) ≡ true) same (full-by (length (owned o.temps)) o.added many)

pub room-full : (table : TempTable) (seat : ℕ) (has : HeldTemps) → temps_on table.seats seat ≡ Some has → IfSome (own_on table.seats seat) (λ x. Refuses x Full) → lacks_temp (seat_temps table has) ≡ true
room-full table seat has e r = full-of (own_on table.seats seat) (seat_temps table has).next has e r

-- a seat keeps what it has
same-held : (o m : Option Own) → Both Keeps o m → option_map held_by m ≡ option_map held_by o
same-held None None k = refl
same-held None (Some m) k = absurd k
same-held (Some o) None k = absurd k
same-held (Some o) (Some m) k = λ i. Some (record { temps = ap owned k.temps i; added = k.added i })

pub seats-kept : (old new : List (ℕ × Own)) (seat : ℕ) → AtSeat (Both Keeps) old new seat → (q : ℕ) → temps_on new q ≡ temps_on old q
seats-kept old new seat k q = by (seat == q) refl
  where
    by : (b : Bool) → (seat == q) ≡ b → temps_on new q ≡ temps_on old q
    by true h = subst (λ (n : ℕ). temps_on new n ≡ temps_on old n) (number-same seat q h) (same-held (own_on old seat) (own_on new seat) k.there)
    by false h = ap (λ (o : Option Own). option_map held_by o) (k.elsewhere q h)

-- ---- changes

-- what a seat has changes so, and nothing else
changed-so : (change : NameChange) (R : Own → Own → Type 0) → ((o n : Own) → R o n → held_by n ≡ held_after change (held_by o)) → (o n : Option Own) → Both R o n → option_map held_by n ≡ option_map (held_after change) (option_map held_by o)
changed-so change R f None None h = refl
changed-so change R f None (Some n) h = absurd h
changed-so change R f (Some o) None h = absurd h
changed-so change R f (Some o) (Some n) h = ap (λ (x : HeldTemps). Some x) (f o n h)

temped-so : (change : NameChange) (R : Own → Own → Type 0) → ((o n : Own) → R o n → held_by n ≡ held_after change (held_by o)) → (old new : TempTable) (seat : ℕ) → AtSeat (Both R) old.seats new.seats seat → SeatTemped seat change old new
temped-so change R f old new seat h = record {
  there = changed-so change R f (own_on old.seats seat) (own_on new.seats seat) h.there;
  elsewhere = λ other e. ap (λ (o : Option Own). option_map held_by o) (h.elsewhere other e);
}

-- one is added
adds-held : (k : ℕ) (temp : Temp) (o n : Own) → Adds k temp o n → held_by n ≡ held_after (Temps (Begins temp)) (held_by o)
adds-held k temp o n h = λ i. record {
  temps = (ap owned h.temps ∙ (added-owned k temp o.temps ∙ ap (λ (m : ℕ). owned o.temps ++ own_temp m temp ∷ []) h.number)) i;
  added = (h.added ∙ h.number) i;
}

pub begins-temped : (k : ℕ) (temp : Temp) (old new : TempTable) (seat : ℕ) → AtSeat (Both (Adds k temp)) old.seats new.seats seat → SeatTemped seat (Temps (Begins temp)) old new
begins-temped k temp old new seat h = temped-so (Temps (Begins temp)) (Adds k temp) (adds-held k temp) old new seat h

number-by : (k : ℕ) (temp : Temp) (o n : Option Own) (has : HeldTemps) → option_map held_by o ≡ Some has → Both (Adds k temp) o n → k ≡ has.added + 1
number-by k temp None n has e h = cc
number-by k temp (Some o) None has e h = absurd h
number-by k temp (Some o) (Some n) has e h = let same : held_by o ≡ has = cc in h.number ∙ ap (λ (x : HeldTemps). x.added + 1) same

pub begins-number : (k : ℕ) (temp : Temp) (old new : TempTable) (seat : ℕ) (has : HeldTemps) → temps_on old.seats seat ≡ Some has → AtSeat (Both (Adds k temp)) old.seats new.seats seat → k ≡ has.added + 1
begins-number k temp old new seat has e h = number-by k temp (own_on old.seats seat) (own_on new.seats seat) has e h.there

-- one is gone: the numbers of a connection differ
module _ (k : ℕ) where
  removes-held : (o n : Own) → IsKept o → Removes k o n → held_by n ≡ held_after (Temps (Drops k)) (held_by o)
  removes-held o n kept h = λ i. record { temps = (ap owned h.temps ∙ removed-owned k o.temps kept.numbered.differ) i; added = h.added i }

  removed-by : (o n : Option Own) → IfSome o IsKept → Both (Removes k) o n → option_map held_by n ≡ option_map (held_after (Temps (Drops k))) (option_map held_by o)
  removed-by None None q h = refl
  removed-by None (Some n) q h = absurd h
  removed-by (Some o) None q h = absurd h
  removed-by (Some o) (Some n) q h = ap (λ (x : HeldTemps). Some x) (removes-held o n q h)

  pub drops-temped : (old new : TempTable) (seat : ℕ) → IfSome (own_on old.seats seat) IsKept → AtSeat (Both (Removes k)) old.seats new.seats seat → SeatTemped seat (Temps (Drops k)) old new
  drops-temped old new seat q h = record {
    there = removed-by (own_on old.seats seat) (own_on new.seats seat) q h.there;
    elsewhere = λ other e. ap (λ (o : Option Own). option_map held_by o) (h.elsewhere other e);
  }

-- ---- another name, and others of it gone

-- a temporary that has the name is another one or that of this number, whichever name that has
module _ (k : ℕ) (temp : Temp) (name : List ℕ) where
  abbrev other_of : ℕ × Temp → Bool
  other_of e = is_other k temp.view temp.document.number name e

  abbrev replaced : OwnTemp → Bool
  replaced t = is_replaced k temp name t

  -- of one that has another number nothing changed, and that of this number stays
  filtered : (es : List (ℕ × Temp)) → owned (filter (λ e. not (other_of e)) es) ≡ filter (λ t. not (replaced t)) (owned es)
  filtered [] = refl
  filtered (e ∷ es) = by (other_of e) (filtered es)
    where
      by : (b : Bool) → owned (filter (λ x. not (other_of x)) es) ≡ filter (λ t. not (replaced t)) (owned es) →
          owned (cond (not b) (e ∷ filter (λ x. not (other_of x)) es) (filter (λ x. not (other_of x)) es)) ≡ cond (not b) (own_temp e.0 e.1 ∷ filter (λ t. not (replaced t)) (owned es)) (filter (λ t. not (replaced t)) (owned es))
      by true m = m
      by false m = ap (λ (ts : List OwnTemp). own_temp e.0 e.1 ∷ ts) m

  -- another one isn't that of this number
  never : (a b : Bool) → b ≡ true → (a && not b) ≡ false
  never true b h = ap not h
  never false b h = refl

  same-test : (t : OwnTemp) → replaced (renamed k name t) ≡ replaced t
  same-test t = by (t.k == k) refl
    where
      by : (b : Bool) → (t.k == k) ≡ b → replaced (cond b (record t { temp = record t.temp { name = name } }) t) ≡ replaced t
      by true h =
          never (called_in temp.view temp.document name (record t { temp = record t.temp { name = name } })) (t.k == k) h
          ∙ sym (never (called_in temp.view temp.document name t) (t.k == k) h)
      by false h = refl

  -- so those that are gone are gone before or behind it
  renamed-filtered : (ts : List OwnTemp) → filter (λ t. not (replaced t)) (map (renamed k name) ts) ≡ map (renamed k name) (filter (λ t. not (replaced t)) ts)
  renamed-filtered [] = refl
  renamed-filtered (t ∷ ts) =
      ap (λ (b : Bool). cond (not b) (renamed k name t ∷ filter (λ x. not (replaced x)) (map (renamed k name) ts)) (filter (λ x. not (replaced x)) (map (renamed k name) ts))) (same-test t)
      ∙ by (replaced t) (renamed-filtered ts)
    where
      by : (b : Bool) → filter (λ x. not (replaced x)) (map (renamed k name) ts) ≡ map (renamed k name) (filter (λ x. not (replaced x)) ts) →
          cond (not b) (renamed k name t ∷ filter (λ x. not (replaced x)) (map (renamed k name) ts)) (filter (λ x. not (replaced x)) (map (renamed k name) ts)) ≡ map (renamed k name) (cond (not b) (t ∷ filter (λ x. not (replaced x)) ts) (filter (λ x. not (replaced x)) ts))
      by true m = m
      by false m = ap (λ (xs : List OwnTemp). renamed k name t ∷ xs) m

  renames-held : (o m n : Own) → IsKept o → RenamesOwn k name o m → RemovesOthers k temp.view temp.document.number name m n → held_by n ≡ held_after (Temps (Renames k temp name)) (held_by o)
  renames-held o m n kept r g = λ i. record {
    temps = (ap owned g.temps
        ∙ (filtered m.temps
        ∙ (ap (λ (ts : List OwnTemp). filter (λ t. not (replaced t)) ts) (renamed-owned k name o.temps m.temps r.numbers kept.numbered.differ r.named)
        ∙ renamed-filtered (owned o.temps)))) i;
    added = (g.added ∙ r.added) i;
  }

  renamed-by : (o m n : Option Own) → IfSome o IsKept → Both (RenamesOwn k name) o m → Both (RemovesOthers k temp.view temp.document.number name) m n → option_map held_by n ≡ option_map (held_after (Temps (Renames k temp name))) (option_map held_by o)
  renamed-by None None None q r g = refl
  renamed-by None None (Some n) q r g = absurd g
  renamed-by None (Some m) n q r g = absurd r
  renamed-by (Some o) None n q r g = absurd r
  renamed-by (Some o) (Some m) None q r g = absurd g
  renamed-by (Some o) (Some m) (Some n) q r g = ap (λ (x : HeldTemps). Some x) (renames-held o m n q r g)

  pub renames-temped : (old mid new : TempTable) (seat : ℕ) → IfSome (own_on old.seats seat) IsKept → AtSeat (Both (RenamesOwn k name)) old.seats mid.seats seat → AtSeat (Both (RemovesOthers k temp.view temp.document.number name)) mid.seats new.seats seat →
      SeatTemped seat (Temps (Renames k temp name)) old new
  renames-temped old mid new seat q r g = record {
    there = renamed-by (own_on old.seats seat) (own_on mid.seats seat) (own_on new.seats seat) q r.there g.there;
    elsewhere = λ other e. ap (λ (o : Option Own). option_map held_by o) (g.elsewhere other e ∙ r.elsewhere other e);
  }
