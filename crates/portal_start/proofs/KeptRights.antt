-- The records that stand for the state that good records open are those records.
use Rattle.std.proofs.Common.{◌≡◌, ℕ, zero, suc, ◌==◌, ◌<◌, ◌≤◌, nat_eq, List, [], ◌∷◌, ◌++◌, map, fold, Bool, true, false, ◌&&◌, ◌||◌, cond, Some, refl, sym, ap, ◌∙◌, arith}
use Rattle.std.specs.List.{list_any, list_all, filter, find, IsDistinct, All, AllByRecursion}
use Rattle.std.specs.Cmp.Lexicographic.{slice_cmp, nat_list_cmp_total}
use Rattle.std.specs.Ordering.{is_lt, nat_cmp}
use Rattle.std.specs.declared.cmp.Ordering.TheVariants.{Less}
use Rattle.std.proofs.lemmas.Bool.Decides.{nat_tests}
use Rattle.std.proofs.lemmas.Cmp.{same_from_slice_cmp}
use Rattle.std.proofs.lemmas.List.Folds.{list_any-append}
use Rattle.std.proofs.lemmas.List.Elements.{All-head, All-tail}
use Rattle.portal_base.specs.Names.{is_same}
use Rattle.portal_base.specs.declared.names.doc_id.DocId.{DocId}
use Rattle.portal_model.specs.declared.records.DocRecord.{DocRecord}
use Rattle.portal_model.specs.declared.records.GrantRecord.{GrantRecord}
use Rattle.portal_model.specs.declared.rights.Right.{Right}
use Rattle.portal_model.specs.declared.rights.Right.TheVariants.{Read, Write, GrantPermissions, Delete}
use Rattle.portal_model.specs.declared.state.Document.{Document}
use Rattle.portal_model.specs.declared.state.Triple.{Triple}
use Rattle.portal_model.specs.Info.{holders}
use Rattle.portal_model.specs.Kept.{bits_of, document_record, grant_record}
use Rattle.portal_model.specs.Opening.{document_kept, id_of, set_of_bits, with_grant, with_grants}
use Rattle.portal_model.specs.Ordered.{bytes_less, is_rising}
use Rattle.portal_model.specs.Rights.{is_in, triple, triple_if, triple_less, triples_of, same_triple}
use Rattle.portal_model.specs.State.{app_has, gives, held_of, same_right}
use Rattle.portal_model.proofs.RisingLists.{Order, any-put_all, rising-put_all, same_items}
use Rattle.portal_model.proofs.TripleOrder.{bytes-irreflexive, bytes-through, bytes-total, is_same-eq, is_same-refl, is_same-sym, nat_is, nat-itself, triples}
use Rattle.record_keeper.specs.SoundRecords.{IsGrant, IsRising, IsSoundDocument}
use Rattle.rights_rule.specs.Rights.{RightSet, holds_any}
use Rattle.document_records.proofs.FreshItems.{any-mapped, any_same}
use Rattle.portal_start.specs.Loading.{document_loaded}
use Rattle.portal_start.proofs.Found.{Finds, all_found, any_found}

-- ---- names that rise

pub texts : Order bytes_less is_same
texts = record { eq = is_same-eq; itself = is_same-refl; irreflexive = bytes-irreflexive; total = bytes-total; through = bytes-through }

less_bytes : (a b : List ℕ) → slice_cmp nat_cmp a b ≡ Less → bytes_less a b ≡ true
less_bytes a b h = sym (same_from_slice_cmp nat_cmp is_lt bytes_less refl (λ _ _. refl) (λ _ _. refl) (λ x y xs ys o h. grind (arith, nat_tests)) a b Less (sym h))

all_less : (a b : List ℕ) (names : List (List ℕ)) → slice_cmp nat_cmp a b ≡ Less → IsRising (b ∷ names) → list_all (bytes_less a) (b ∷ names) ≡ true
all_less a b [] less rising = rw (less_bytes a b less) refl
all_less a b (c ∷ names) less rising = rw (less_bytes a b less) (all_less a c names (nat_list_cmp_total.trans a b c less rising.0) rising.1)

rising_bytes : (names : List (List ℕ)) → IsRising names → is_rising bytes_less names ≡ true
rising_bytes [] rising = refl
rising_bytes (a ∷ []) rising = refl
rising_bytes (a ∷ b ∷ names) rising = rw (all_less a b names rising.0 rising.1) (rising_bytes (b ∷ names) rising.1)

less_apart : (a b : List ℕ) → bytes_less a b ≡ true → (c : Bool) → is_same a b ≡ c → is_same a b ≡ false
less_apart a b h true e = let same : a ≡ b = is_same-eq a b e in let l : bytes_less a a ≡ true = ap (bytes_less a) same ∙ h in cc (l, bytes-irreflexive a)
less_apart a b h false e = e

all_apart : (a : List ℕ) (names : List (List ℕ)) → list_all (bytes_less a) names ≡ true → AllByRecursion (λ y. is_same a y ≡ false) names
all_apart a [] h = tt
all_apart a (b ∷ names) h =
    let one : bytes_less a b ≡ true = grind arith in
    let rest : list_all (bytes_less a) names ≡ true = grind arith in
    (less_apart a b one (is_same a b) refl, all_apart a names rest)

names_apart : (names : List (List ℕ)) → is_rising bytes_less names ≡ true → IsDistinct is_same names
unfolding IsDistinct
names_apart [] h = tt
names_apart (a ∷ names) h =
    let first : list_all (bytes_less a) names ≡ true = grind arith in
    let rest : is_rising bytes_less names ≡ true = grind arith in
    (all_apart a names first, names_apart names rest)

pub rising_names : (names : List (List ℕ)) → IsRising names → IsDistinct is_same names
rising_names names rising = names_apart names (rising_bytes names rising)

-- ---- numbers of rights

-- what is tested of each number below one
tests : (p : ℕ → Bool) → ℕ → Bool
tests p zero = true
tests p (suc k) = p k && tests p k

tested : (p : ℕ → Bool) (k n : ℕ) → n < k → tests p k ≡ true → p n ≡ true
unfolding tests
tested p zero n l h = absurd (omega arith)
tested p (suc k) n l h =
    let one : p k ≡ true = grind arith in
    let rest : tests p k ≡ true = grind arith in
    last (nat_eq n k) refl one (λ less. tested p k n less rest)
  where
    last : (b : Bool) → nat_eq n k ≡ b → p k ≡ true → (n < k → p n ≡ true) → p n ≡ true
    last true e one earlier = ap p (nat_is n k e) ∙ one
    last false e one earlier = let less : n < k = grind (arith, nat_tests, l, e) in earlier less

bits_back : (r : ℕ) → r ≤ 15 → bits_of (set_of_bits r) ≡ r
unfolding tests
bits_back r l = nat_is (bits_of (set_of_bits r)) r (tested (λ (n : ℕ). nat_eq (bits_of (set_of_bits n)) n) 16 r (omega arith) refl)

bits_held : (r : ℕ) → 1 ≤ r → r ≤ 15 → holds_any (set_of_bits r) ≡ true
unfolding tests
bits_held r some most =
    let there : (nat_eq r 0 || holds_any (set_of_bits r)) ≡ true = tested (λ (n : ℕ). nat_eq n 0 || holds_any (set_of_bits n)) 16 r (omega arith) refl in
    let no : nat_eq r 0 ≡ false = grind (arith, nat_tests) in
    rw no at there

-- ---- lists that are mapped and filtered

pub any-filtered : {X : Type 0} (p q : X → Bool) (xs : List X) → list_any p (filter q xs) ≡ list_any (λ x. q x && p x) xs
any-filtered p q [] = refl
any-filtered p q (x ∷ xs) = one (q x) refl (any-filtered p q xs)
  where
    one : (b : Bool) → q x ≡ b → list_any p (filter q xs) ≡ list_any (λ y. q y && p y) xs → list_any p (cond (q x) (x ∷ filter q xs) (filter q xs)) ≡ ((q x && p x) || list_any (λ y. q y && p y) xs)
    one true e rest = rw e (ap (λ (b : Bool). p x || b) rest)
    one false e rest = rw e rest

-- ---- what some right satisfies

pub or-swap : (a b c : Bool) → (a || (b || c)) ≡ ((b || a) || c)
or-swap true true c = refl
or-swap true false c = refl
or-swap false true c = refl
or-swap false false c = refl

module _ (p : Triple → Bool) where
  -- some right that a record gives
  abbrev pub some_given : ℕ → GrantRecord → Bool
  some_given number g = list_any p (triples_of g.app (id_of number) (set_of_bits g.rights))

  abbrev pub some_granted : DocRecord → Bool
  some_granted d = list_any (some_given d.number) d.grants

  any-with_grant : (number : ℕ) (rights : List Triple) (g : GrantRecord) → list_any p (with_grant number rights g) ≡ (some_given number g || list_any p rights)
  any-with_grant number rights g = any-put_all triple_less same_triple triples p (triples_of g.app (id_of number) (set_of_bits g.rights) ++ rights)
      ∙ list_any-append p (triples_of g.app (id_of number) (set_of_bits g.rights)) rights

  pub any-grants : (number : ℕ) (gs : List GrantRecord) (rights : List Triple) → list_any p (fold (with_grant number) rights gs) ≡ (list_any (some_given number) gs || list_any p rights)
  any-grants number [] rights = refl
  any-grants number (g ∷ gs) rights =
      any-grants number gs (with_grant number rights g) ∙ ap (λ (b : Bool). list_any (some_given number) gs || b) (any-with_grant number rights g)
      ∙ or-swap (list_any (some_given number) gs) (some_given number g) (list_any p rights)

  any-documents : (ds : List DocRecord) (rights : List Triple) → list_any p (fold with_grants rights (map document_loaded ds)) ≡ (list_any some_granted ds || list_any p rights)
  any-documents [] rights = refl
  any-documents (d ∷ ds) rights =
      any-documents ds (with_grants rights (document_loaded d)) ∙ ap (λ (b : Bool). list_any some_granted ds || b) (any-grants d.number d.grants rights)
      ∙ or-swap (list_any some_granted ds) (some_granted d) (list_any p rights)

  or-none : (b : Bool) → (b || false) ≡ b
  or-none true = refl
  or-none false = refl

  -- some right is held exactly where a record gives it
  pub any-kept : (ds : List DocRecord) → list_any p (fold with_grants [] (map document_loaded ds)) ≡ list_any some_granted ds
  any-kept ds = any-documents ds [] ∙ or-none (list_any some_granted ds)

-- ---- sets of rights

any-if : (p : Triple → Bool) (t : Triple) (b : Bool) → list_any p (triple_if b t) ≡ (b && p t)
any-if p t true = or-none p (p t)
any-if p t false = refl

any-of : (p : Triple → Bool) (app : List ℕ) (id : DocId) (set : RightSet) → list_any p (triples_of app id set)
    ≡ ((set.read && p (triple app id Read)) || ((set.write && p (triple app id Write)) || ((set.grant_permissions && p (triple app id GrantPermissions)) || (set.delete && p (triple app id Delete)))))
any-of p app id set =
    let r = triple_if set.read (triple app id Read) in
    let w = triple_if set.write (triple app id Write) in
    let g = triple_if set.grant_permissions (triple app id GrantPermissions) in
    let d = triple_if set.delete (triple app id Delete) in
    list_any-append p r (w ++ (g ++ d))
    ∙ (λ i. any-if p (triple app id Read) set.read i || (list_any-append p w (g ++ d) i))
    ∙ (λ i. (set.read && p (triple app id Read)) || (any-if p (triple app id Write) set.write i || (list_any-append p g d i)))
    ∙ (λ i. (set.read && p (triple app id Read)) || ((set.write && p (triple app id Write)) || (any-if p (triple app id GrantPermissions) set.grant_permissions i || any-if p (triple app id Delete) set.delete i)))

pick : (right : Right) (a b r w g d : Bool) →
    ((r && (a && (b && same_right Read right))) || ((w && (a && (b && same_right Write right))) || ((g && (a && (b && same_right GrantPermissions right))) || (d && (a && (b && same_right Delete right))))))
    ≡ (b && (a && is_in (record { read = r; write = w; grant_permissions = g; delete = d }) right))
pick Read a b r w g d = grind arith
pick Write a b r w g d = grind arith
pick GrantPermissions a b r w g d = grind arith
pick Delete a b r w g d = grind arith

-- whether the record gives the application this right, in the document of the number
pub right_given : (app : List ℕ) (m : ℕ) (right : Right) (n : ℕ) (g : GrantRecord) → some_given (gives app m right) n g ≡ ((n == m) && (is_same g.app app && is_in (set_of_bits g.rights) right))
right_given app m right n g = any-of (gives app m right) g.app (id_of n) (set_of_bits g.rights)
    ∙ pick right (is_same g.app app) (n == m) (set_of_bits g.rights).read (set_of_bits g.rights).write (set_of_bits g.rights).grant_permissions (set_of_bits g.rights).delete

-- whether it gives the application a right there
abbrev is_held_in : List ℕ → ℕ → Triple → Bool
is_held_in app m t = (t.id.number == m) && is_same t.app app

all-picked : (a b r w g d : Bool) → ((r && (b && a)) || ((w && (b && a)) || ((g && (b && a)) || (d && (b && a))))) ≡ (b && (a && (r || (w || (g || d)))))
all-picked a b r w g d = grind arith

some_right : (app : List ℕ) (m n : ℕ) (g : GrantRecord) → some_given (is_held_in app m) n g ≡ ((n == m) && (is_same g.app app && holds_any (set_of_bits g.rights)))
some_right app m n g = any-of (is_held_in app m) g.app (id_of n) (set_of_bits g.rights)
    ∙ all-picked (is_same g.app app) (n == m) (set_of_bits g.rights).read (set_of_bits g.rights).write (set_of_bits g.rights).grant_permissions (set_of_bits g.rights).delete

pub any_both : {X : Type 0} (b : Bool) (q : X → Bool) (xs : List X) → list_any (λ x. b && q x) xs ≡ (b && list_any q xs)
any_both true q xs = refl
any_both false q [] = refl
any_both false q (x ∷ xs) = any_both false q xs

-- ---- the records of documents

numbers-turned : (a b : ℕ) → nat_eq a b ≡ nat_eq b a
numbers-turned a b = grind (arith, nat_tests)

module _ (ds : List DocRecord) (differ : IsDistinct nat_eq (map (λ (d : DocRecord). d.number) ds)) where
  abbrev held : List Triple
  held = fold with_grants [] (map document_loaded ds)

  -- what is true of some right in a document is told by its record alone
  any_in : (p : Triple → Bool) (d : DocRecord) (q : GrantRecord → Bool) → ((n : ℕ) (g : GrantRecord) → some_given p n g ≡ ((n == d.number) && q g)) → find (λ (x : DocRecord). nat_eq x.number d.number) ds ≡ Some d →
      list_any p held ≡ list_any q d.grants
  any_in p d q e f =
      any-kept p ds
      ∙ any_same (some_granted p) (λ (x : DocRecord). nat_eq x.number d.number && list_any q x.grants)
      (λ x. any_same (some_given p x.number) (λ (g : GrantRecord). nat_eq x.number d.number && q g) (e x.number) x.grants ∙ any_both (nat_eq x.number d.number) q x.grants) ds
      ∙ any_found (λ (x : DocRecord). x.number) nat_eq nat_is nat-itself numbers-turned d.number (λ (x : DocRecord). list_any q x.grants) ds d differ f

  module _ (d : DocRecord) (there : find (λ (x : DocRecord). nat_eq x.number d.number) ds ≡ Some d) (sound : IsSoundDocument d) where
    apps_differ : IsDistinct is_same (map (λ (g : GrantRecord). g.app) d.grants)
    apps_differ = rising_names (map (λ (g : GrantRecord). g.app) d.grants) sound.rising

    has_right : (g : GrantRecord) (right : Right) → find (λ (x : GrantRecord). is_same x.app g.app) d.grants ≡ Some g → app_has held g.app d.number right ≡ is_in (set_of_bits g.rights) right
    has_right g right f =
        any_in (gives g.app d.number right) d (λ (x : GrantRecord). is_same x.app g.app && is_in (set_of_bits x.rights) right) (right_given g.app d.number right) there
        ∙ any_found (λ (x : GrantRecord). x.app) is_same is_same-eq is_same-refl is_same-sym g.app (λ (x : GrantRecord). is_in (set_of_bits x.rights) right) d.grants g apps_differ f

    held_back : (g : GrantRecord) → find (λ (x : GrantRecord). is_same x.app g.app) d.grants ≡ Some g → held_of held g.app d.number ≡ set_of_bits g.rights
    held_back g f = λ i. record { read = has_right g Read f i; write = has_right g Write f i; grant_permissions = has_right g GrantPermissions f i; delete = has_right g Delete f i }

    grant_back : (g : GrantRecord) → IsGrant g → find (λ (x : GrantRecord). is_same x.app g.app) d.grants ≡ Some g → grant_record held d.number g.app ≡ g
    grant_back g one f = λ i. record { app = g.app; rights = (ap bits_of (held_back g f) ∙ bits_back g.rights one.no_other) i }

    grants_back : (gs : List GrantRecord) → All IsGrant gs → Finds (λ (x : GrantRecord). x.app) is_same is_same-eq is_same-refl is_same-sym d.grants gs → map (grant_record held d.number) (map (λ (g : GrantRecord). g.app) gs) ≡ gs
    grants_back [] all f = refl
    grants_back (g ∷ gs) all f = λ i. grant_back g (All-head IsGrant g gs all) f.0 i ∷ grants_back gs (All-tail IsGrant g gs all) f.1 i

    some_each : (app : List ℕ) (gs : List GrantRecord) → All IsGrant gs → list_any (λ (g : GrantRecord). is_same g.app app && holds_any (set_of_bits g.rights)) gs ≡ list_any (λ (x : List ℕ). is_same x app) (map (λ (g : GrantRecord). g.app) gs)
    some_each app [] all = refl
    some_each app (g ∷ gs) all =
        let one = All-head IsGrant g gs all in
        λ i. both (is_same g.app app) (holds_any (set_of_bits g.rights)) (bits_held g.rights one.some_right one.no_other) i || some_each app gs (All-tail IsGrant g gs all) i
      where
        both : (a b : Bool) → b ≡ true → (a && b) ≡ a
        both true b h = h
        both false b h = refl

    is_holder : (app : List ℕ) → list_any (λ (x : List ℕ). is_same x app) (holders held d.number) ≡ list_any (λ (x : List ℕ). is_same x app) (map (λ (g : GrantRecord). g.app) d.grants)
    is_holder app =
        any-put_all bytes_less is_same texts (λ (x : List ℕ). is_same x app) (map (λ (t : Triple). t.app) (filter (λ (t : Triple). t.id.number == d.number) held))
        ∙ any-mapped (λ (x : List ℕ). is_same x app) (λ (t : Triple). t.app) (filter (λ (t : Triple). t.id.number == d.number) held)
        ∙ any-filtered (λ (t : Triple). is_same t.app app) (λ (t : Triple). t.id.number == d.number) held
        ∙ any_in (is_held_in app d.number) d (λ (g : GrantRecord). is_same g.app app && holds_any (set_of_bits g.rights)) (some_right app d.number) there
        ∙ some_each app d.grants sound.grants

    holders_back : holders held d.number ≡ map (λ (g : GrantRecord). g.app) d.grants
    holders_back = same_items bytes_less is_same texts (holders held d.number) (map (λ (g : GrantRecord). g.app) d.grants)
        (rising-put_all bytes_less is_same (λ (x : List ℕ). x) texts (map (λ (t : Triple). t.app) (filter (λ (t : Triple). t.id.number == d.number) held)))
        (rising_bytes (map (λ (g : GrantRecord). g.app) d.grants) sound.rising) is_holder

    document_back : document_record held (document_kept (document_loaded d)) ≡ d
    document_back = λ i. record {
      number = d.number;
      path = d.path;
      reusable = d.reusable;
      strict = d.strict;
      grants = (ap (map (grant_record held d.number)) holders_back ∙ grants_back d.grants sound.grants (all_found (λ (x : GrantRecord). x.app) is_same is_same-eq is_same-refl is_same-sym d.grants apps_differ)) i;
    }

  documents_back : (xs : List DocRecord) → All IsSoundDocument xs → Finds (λ (x : DocRecord). x.number) nat_eq nat_is nat-itself numbers-turned ds xs →
      map (document_record held) (filter (λ (d : Document). d.persistent) (map document_kept (map document_loaded xs))) ≡ xs
  documents_back [] all f = refl
  documents_back (d ∷ xs) all f = λ i. document_back d f.0 (All-head IsSoundDocument d xs all) i ∷ documents_back xs (All-tail IsSoundDocument d xs all) f.1 i

  pub all_back : All IsSoundDocument ds → map (document_record held) (filter (λ (d : Document). d.persistent) (map document_kept (map document_loaded ds))) ≡ ds
  all_back all = documents_back ds all (all_found (λ (x : DocRecord). x.number) nat_eq nat_is nat-itself numbers-turned ds differ)
