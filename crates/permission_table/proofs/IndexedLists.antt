-- Entries with the places that lead to them, where an entry came, changed or went.
use Rattle.std.proofs.Common.{◌≡◌, ℕ, zero, suc, ◌+◌, nat_lt, List, [], ◌∷◌, ◌++◌, length, Bool, true, false, not, ◌&&◌, cond, Option, Some, None, String, refl, sym, ap, ◌∙◌, arith}
use Rattle.std.specs.BTreeMap.{BTreeMap}
use Rattle.std.specs.List.{IsDistinct, AllByRecursion, list_all, list_any, position, position_or_len, remove}
use Rattle.portal_base.specs.Names.{is_same}
use Rattle.portal_model.specs.RecordChanges.{change_first}
use Rattle.portal_model.specs.Store.{Entries, is_entry_of}
use Rattle.portal_model.specs.Valid.{same_entry}
use Rattle.portal_model.specs.declared.store.StoredEntry.{StoredEntry}
use Rattle.portal_model.specs.declared.store.TableEntry.{TableEntry}
use Rattle.portal_model.proofs.TripleOrder.{is_same-eq}
use Rattle.permission_table.specs.EntryIndex.{IsIndexed, KeepPlaces, Places, place_beside, place_in}
use Rattle.permission_table.specs.Tables.{restored}
use Rattle.permission_table.proofs.KeptEntries.{is-of, of-one, place-is}
use Rattle.permission_table.proofs.PlacesRise.{rising-last, rising-without}

-- ---- an entry that comes

none-beside : (test : StoredEntry → Bool) (es : Entries) (ps : List ℕ) → list_any test es ≡ false → place_beside test es ps ≡ None
none-beside test [] ps h = refl
none-beside test (x ∷ xs) [] h = refl
none-beside test (x ∷ xs) (p ∷ ps) h = grind (arith, none-beside test xs ps)

abbrev first-or : Option ℕ → Option ℕ → Option ℕ
first-or None o = o
first-or (Some n) o = Some n

or-none : (o : Option ℕ) → first-or o None ≡ o
or-none None = refl
or-none (Some n) = refl

last-beside : (test : StoredEntry → Bool) (es : Entries) (ps : List ℕ) (e : StoredEntry) (n : ℕ) → length ps ≡ length es
    → place_beside test (es ++ e ∷ []) (ps ++ n ∷ []) ≡ first-or (place_beside test es ps) (cond (test e) (Some n) None)
last-beside test [] [] e n l = refl
last-beside test [] (p ∷ ps) e n l = absurd (omega arith)
last-beside test (x ∷ xs) [] e n l = absurd (omega arith)
last-beside test (x ∷ xs) (p ∷ ps) e n l = step (test x) (last-beside test xs ps e n (omega arith))
  where
    step : (b : Bool) → place_beside test (xs ++ e ∷ []) (ps ++ n ∷ []) ≡ first-or (place_beside test xs ps) (cond (test e) (Some n) None)
        → cond b (Some p) (place_beside test (xs ++ e ∷ []) (ps ++ n ∷ [])) ≡ first-or (cond b (Some p) (place_beside test xs ps)) (cond (test e) (Some n) None)
    step true more = refl
    step false more = more

long : {X : Type 0} (xs : List X) (x : X) → length (xs ++ x ∷ []) ≡ suc (length xs)
long [] x = refl
long (y ∷ ys) x = ap suc (long ys x)

same-key : (a b c d : List ℕ) → (is_same a c && is_same b d) ≡ true → (a ≡ c) × (b ≡ d)
same-key a b c d h = let t : is_same a c ≡ true = grind arith in let i : is_same b d ≡ true = grind arith in (is_same-eq a c t, is_same-eq b d i)

pub indexed-none : {X Y : Type 0} (tables : BTreeMap (String Y) (BTreeMap (String X) ℕ)) → ((t i : List ℕ) → place_in tables t i ≡ None) → IsIndexed [] [] tables
indexed-none tables h = record { beside = refl; rises = refl; same = h }

pub indexed-kept : {X Y : Type 0} (es : Entries) (ps : List ℕ) (old new : BTreeMap (String Y) (BTreeMap (String X) ℕ)) → KeepPlaces old new → IsIndexed es ps old → IsIndexed es ps new
indexed-kept es ps old new h k = record { beside = k.beside; rises = k.rises; same = λ t i. h t i ∙ k.same t i }

pub indexed-more : {X Y : Type 0} (es : Entries) (ps : List ℕ) (old new : BTreeMap (String Y) (BTreeMap (String X) ℕ)) (e : StoredEntry) (n : ℕ) → IsIndexed es ps old
    → list_any (is_entry_of e.table e.id) es ≡ false → list_all (λ p. nat_lt p n) ps ≡ true → Places e.table e.id (Some n) old new → IsIndexed (es ++ e ∷ []) (ps ++ n ∷ []) new
indexed-more es ps old new e n k free high sets = record {
  beside = long ps n ∙ (ap suc k.beside ∙ sym (long es e));
  rises = rising-last ps n k.rises high;
  same = λ t i. sets t i ∙ (step t i (is_same e.table t && is_same e.id i) refl ∙ sym (last-beside (is_entry_of t i) es ps e n k.beside));
}
  where
    step : (t i : List ℕ) (b : Bool) → (is_same e.table t && is_same e.id i) ≡ b
        → cond (is_same e.table t && is_same e.id i) (Some n) (place_in old t i) ≡ first-or (place_beside (is_entry_of t i) es ps) (cond (is_same e.table t && is_same e.id i) (Some n) None)
    step t i true h =
        let key = same-key e.table e.id t i h in
        let none : place_beside (is_entry_of t i) es ps ≡ None = none-beside (is_entry_of t i) es ps ((λ j. list_any (is_entry_of (sym key.0 j) (sym key.1 j)) es) ∙ free) in
        ap (λ (b : Bool). cond b (Some n) (place_in old t i)) h
        ∙ ((λ j. first-or (sym none j) (cond (sym h j) (Some n) None)))
    step t i false h =
        ap (λ (b : Bool). cond b (Some n) (place_in old t i)) h
        ∙ (k.same t i ∙ (sym (or-none (place_beside (is_entry_of t i) es ps)) ∙ ap (λ (b : Bool). first-or (place_beside (is_entry_of t i) es ps) (cond b (Some n) None)) (sym h)))

-- ---- an entry that changes in its place

module _ (test : StoredEntry → Bool) (change : StoredEntry → StoredEntry)
    (keeps : (e : StoredEntry) → test e ≡ true → ((change e).table ≡ e.table) × ((change e).id ≡ e.id)) where
  same-length : (es : Entries) → length (change_first test change es) ≡ length es
  same-length [] = refl
  same-length (x ∷ xs) = step (test x) (same-length xs)
    where
      step : (b : Bool) → length (change_first test change xs) ≡ length xs → length (cond b (change x ∷ xs) (x ∷ change_first test change xs)) ≡ suc (length xs)
      step true more = refl
      step false more = ap suc more

  same-beside : (t i : List ℕ) (es : Entries) (ps : List ℕ) → place_beside (is_entry_of t i) (change_first test change es) ps ≡ place_beside (is_entry_of t i) es ps
  same-beside t i [] ps = refl
  same-beside t i (x ∷ xs) [] = step (test x)
    where
      step : (b : Bool) → place_beside (is_entry_of t i) (cond b (change x ∷ xs) (x ∷ change_first test change xs)) [] ≡ None
      step true = refl
      step false = refl
  same-beside t i (x ∷ xs) (p ∷ ps) = step (test x) refl (same-beside t i xs ps)
    where
      step : (b : Bool) → test x ≡ b → place_beside (is_entry_of t i) (change_first test change xs) ps ≡ place_beside (is_entry_of t i) xs ps
          → place_beside (is_entry_of t i) (cond b (change x ∷ xs) (x ∷ change_first test change xs)) (p ∷ ps) ≡ cond (is_entry_of t i x) (Some p) (place_beside (is_entry_of t i) xs ps)
      step true h more = let k = keeps x h in λ j. cond (is_same (k.0 j) t && is_same (k.1 j) i) (Some p) (place_beside (is_entry_of t i) xs ps)
      step false h more = ap (λ (o : Option ℕ). cond (is_entry_of t i x) (Some p) o) more

  pub indexed-changed : {X Y : Type 0} (es : Entries) (ps : List ℕ) (tables : BTreeMap (String Y) (BTreeMap (String X) ℕ)) → IsIndexed es ps tables → IsIndexed (change_first test change es) ps tables
  indexed-changed es ps tables k = record {
    beside = k.beside ∙ sym (same-length es);
    rises = k.rises;
    same = λ t i. k.same t i ∙ sym (same-beside t i es ps);
  }

pub indexed-set : {X Y : Type 0} (e : StoredEntry) (es : Entries) (ps : List ℕ) (tables : BTreeMap (String Y) (BTreeMap (String X) ℕ)) → IsIndexed es ps tables
    → IsIndexed (change_first (is_entry_of e.table e.id) (λ _. e) es) ps tables
indexed-set e es ps tables k =
    indexed-changed (is_entry_of e.table e.id) (λ _. e) (λ x h. (let s = is-of e.table e.id x h in (sym s.0, sym s.1))) es ps tables k

pub indexed-restored : {X Y : Type 0} (table id : List ℕ) (former : TableEntry) (es : Entries) (ps : List ℕ) (tables : BTreeMap (String Y) (BTreeMap (String X) ℕ)) → IsIndexed es ps tables
    → IsIndexed (restored table id former es) ps tables
indexed-restored table id former es ps tables k =
    indexed-changed (is_entry_of table id) (λ e. record e { rows = former.rows; datum = former.datum }) (λ e h. (refl, refl)) es ps tables k

-- ---- an entry that goes

module _ {X : Type 0} where
  remove-more : (x : X) (xs : List X) (k : ℕ) → remove (x ∷ xs) (1 + k) ≡ x ∷ remove xs k
  remove-more x xs k = let e : 1 + k ≡ suc k = omega arith in ap (λ (n : ℕ). remove (x ∷ xs) n) e

module _ (table id : List ℕ) where
  abbrev test : StoredEntry → Bool
  test = is_entry_of table id

  abbrev at : Entries → ℕ
  at es = position_or_len test es

  none-passes : (x : StoredEntry) (xs : Entries) → test x ≡ true → AllByRecursion (λ y. same_entry x y ≡ false) xs → list_any test xs ≡ false
  none-passes x [] h d = refl
  none-passes x (y ∷ ys) h d = let first : test y ≡ false = of-one table id x y h d.0 in let rest : list_any test ys ≡ false = none-passes x ys h d.1 in grind arith

  -- nothing is left of the table and the identifier
  gone : (es : Entries) (ps : List ℕ) → IsDistinct same_entry es → length ps ≡ length es → place_beside test (remove es (at es)) (remove ps (at es)) ≡ None
  unfolding IsDistinct
  gone [] ps d l = refl
  gone (x ∷ xs) [] d l = absurd (omega arith)
  gone (x ∷ xs) (p ∷ ps) d l = step (test x) refl (gone xs ps d.1 (omega arith))
    where
      step : (b : Bool) → test x ≡ b → place_beside test (remove xs (at xs)) (remove ps (at xs)) ≡ None
          → place_beside test (remove (x ∷ xs) (cond (not b) (1 + at xs) 0)) (remove (p ∷ ps) (cond (not b) (1 + at xs) 0)) ≡ None
      step true h more = none-beside test xs ps (none-passes x xs h d.0)
      step false h more =
          (λ j. place_beside test (remove-more x xs (at xs) j) (remove-more p ps (at xs) j))
          ∙ (ap (λ (b : Bool). cond b (Some p) (place_beside test (remove xs (at xs)) (remove ps (at xs)))) h ∙ more)

  -- the others keep their places
  others : (t i : List ℕ) (es : Entries) (ps : List ℕ) → (is_same table t && is_same id i) ≡ false → length ps ≡ length es
      → place_beside (is_entry_of t i) (remove es (at es)) (remove ps (at es)) ≡ place_beside (is_entry_of t i) es ps
  others t i [] ps o l = refl
  others t i (x ∷ xs) [] o l = absurd (omega arith)
  others t i (x ∷ xs) (p ∷ ps) o l = step (test x) refl (others t i xs ps o (omega arith))
    where
      step : (b : Bool) → test x ≡ b → place_beside (is_entry_of t i) (remove xs (at xs)) (remove ps (at xs)) ≡ place_beside (is_entry_of t i) xs ps
          → place_beside (is_entry_of t i) (remove (x ∷ xs) (cond (not b) (1 + at xs) 0)) (remove (p ∷ ps) (cond (not b) (1 + at xs) 0)) ≡ cond (is_entry_of t i x) (Some p) (place_beside (is_entry_of t i) xs ps)
      step true h more =
          let key = is-of table id x h in
          let other : is_entry_of t i x ≡ false = (λ j. is_same (key.0 j) t && is_same (key.1 j) i) ∙ o in
          ap (λ (b : Bool). cond b (Some p) (place_beside (is_entry_of t i) xs ps)) (sym other)
      step false h more =
          (λ j. place_beside (is_entry_of t i) (remove-more x xs (at xs) j) (remove-more p ps (at xs) j))
          ∙ ap (λ (o : Option ℕ). cond (is_entry_of t i x) (Some p) o) more

  same-lengths : (es : Entries) (ps : List ℕ) (k : ℕ) → length ps ≡ length es → length (remove ps k) ≡ length (remove es k)
  same-lengths [] [] zero l = refl
  same-lengths [] [] (suc k) l = refl
  same-lengths [] (p ∷ ps) k l = absurd (omega arith)
  same-lengths (x ∷ xs) [] k l = absurd (omega arith)
  same-lengths (x ∷ xs) (p ∷ ps) zero l = omega arith
  same-lengths (x ∷ xs) (p ∷ ps) (suc k) l = ap suc (same-lengths xs ps k (omega arith))

  fewer : {X Y : Type 0} (es : Entries) (ps : List ℕ) (old new : BTreeMap (String Y) (BTreeMap (String X) ℕ)) → IsIndexed es ps old → IsDistinct same_entry es → Places table id None old new
      → IsIndexed (remove es (at es)) (remove ps (at es)) new
  fewer es ps old new k d sets = record {
    beside = same-lengths es ps (at es) k.beside;
    rises = rising-without ps (at es) k.rises;
    same = λ t i. sets t i ∙ step t i (is_same table t && is_same id i) refl;
  }
    where
      step : (t i : List ℕ) (b : Bool) → (is_same table t && is_same id i) ≡ b
          → cond (is_same table t && is_same id i) None (place_in old t i) ≡ place_beside (is_entry_of t i) (remove es (at es)) (remove ps (at es))
      step t i true h =
          let key = same-key table id t i h in
          ap (λ (b : Bool). cond b None (place_in old t i)) h
          ∙ (sym (gone es ps d k.beside) ∙ (λ j. place_beside (is_entry_of (key.0 j) (key.1 j)) (remove es (at es)) (remove ps (at es))))
      step t i false h =
          ap (λ (b : Bool). cond b None (place_in old t i)) h ∙ (k.same t i ∙ sym (others t i es ps h k.beside))

  pub indexed-fewer : {X Y : Type 0} (es : Entries) (ps : List ℕ) (old new : BTreeMap (String Y) (BTreeMap (String X) ℕ)) (i : ℕ) → IsIndexed es ps old → IsDistinct same_entry es → Places table id None old new
      → position test es ≡ Some i → IsIndexed (remove es i) (remove ps i) new
  indexed-fewer es ps old new i k d sets e =
      let here : i ≡ at es = place-is (nat_lt (at es) (length es)) (at es) i e in
      rw here (fewer es ps old new k d sets)

-- an entry of a list that differ is of none ahead of it
pub none-ahead : (es rest : Entries) (e : StoredEntry) → IsDistinct same_entry (es ++ e ∷ rest) → list_any (is_entry_of e.table e.id) es ≡ false
unfolding IsDistinct
none-ahead [] rest e d = refl
none-ahead (x ∷ xs) rest e d =
    let first : is_entry_of e.table e.id x ≡ false = last-of x xs d.0 in
    let more : list_any (is_entry_of e.table e.id) xs ≡ false = none-ahead xs rest e d.1 in
    grind arith
  where
    last-of : (y : StoredEntry) (ys : Entries) → AllByRecursion (λ z. same_entry y z ≡ false) (ys ++ e ∷ rest) → same_entry y e ≡ false
    last-of y [] h = h.0
    last-of y (z ∷ zs) h = last-of y zs h.1
