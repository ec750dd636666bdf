-- Rights that were given last are taken back: what was there before is there again.
use Rattle.std.proofs.Common.{◌≡◌, ℕ, ◌==◌, ◌-◌, ◌+◌, ◌≤◌, List, [], ◌∷◌, ◌++◌, length, length-append, take, Bool, true, false, not, ◌||◌, ◌&&◌, refl, sym, ap, subst, ◌∙◌, arith}
use Rattle.std.specs.List.{filter, list_any, list_all}
use Rattle.std.proofs.lemmas.List.Folds.{list_any-append}
use Rattle.portal_base.specs.Names.{is_same}
use Rattle.portal_base.specs.declared.names.doc_id.DocId.{DocId}
use Rattle.rights_rule.specs.Rights.{RightSet, minus}
use Rattle.portal_model.specs.declared.rights.Right.{Right}
use Rattle.portal_model.specs.declared.rights.Right.TheVariants.{Read, Write, GrantPermissions, Delete}
use Rattle.portal_model.specs.declared.state.Triple.{Triple}
use Rattle.portal_model.specs.Rights.{add_rights, are_in_order, is_in, is_listed, same_triple, take_rights, triple, triple_less, triples_of}
use Rattle.portal_model.specs.State.{app_has, gives, held_of, same_right}
use Rattle.portal_model.proofs.FourTriples.{any-of}
use Rattle.portal_model.proofs.RightsLaws.{ordered-add_rights, ordered-take_rights}
use Rattle.portal_model.proofs.RisingLists.{any-put_all, same_items}
use Rattle.portal_model.proofs.TripleOrder.{bits-apart, is_same-refl, nat_is, nat-itself, triples}
use Rattle.document_records.specs.Documents.{front}
use Rattle.add_calls.specs.declared.give.Given.{Given}
use Rattle.add_calls.specs.Giving.{Gave, app_if}

-- ---- the triples

any-filter : (p q : Triple → Bool) (ts : List Triple) → list_any p (filter q ts) ≡ list_any (λ t. p t && q t) ts
any-filter p q [] = refl
any-filter p q (t ∷ ts) = grind (arith, any-filter p q ts)

module _ (app : List ℕ) (id : DocId) (set : RightSet) (rights : List Triple) where
  abbrev held : RightSet
  held = held_of rights app id.number

  abbrev added : RightSet
  added = minus set held

  held-is : (right : Right) → is_in held right ≡ app_has rights app id.number right
  held-is Read = refl
  held-is Write = refl
  held-is GrantPermissions = refl
  held-is Delete = refl

  added-is : (right : Right) → is_in added right ≡ (is_in set right && not (is_in held right))
  added-is Read = refl
  added-is Write = refl
  added-is GrantPermissions = refl
  added-is Delete = refl

  abbrev stays : Triple → Triple → Bool
  stays k t = same_triple t k && not (is_listed app id.number added t)

  same-right-eq : (a b : Right) → same_right a b ≡ true → a ≡ b
  same-right-eq a b h = bits-apart a b (nat_is _ _ h)

  -- a triple that was there is none of those that are taken
  old-one : (t : Triple) → app_has rights app id.number t.right ≡ true → is_listed app id.number added t ≡ false
  old-one t h =
      let in_held : is_in held t.right ≡ true = held-is t.right ∙ h in
      let out : is_in added t.right ≡ false = added-is t.right ∙ out-of (is_in set t.right) (is_in held t.right) in_held in
      ap (λ (b : Bool). is_same t.app app && (t.id.number == id.number && b)) out ∙ none (is_same t.app app) (t.id.number == id.number)
    where
      out-of : (a b : Bool) → b ≡ true → (a && not b) ≡ false
      out-of true b e = ap not e
      out-of false b e = refl

      none : (a b : Bool) → (a && (b && false)) ≡ false
      none true true = refl
      none true false = refl
      none false b = refl

  not-taken : (ts : List Triple) → ((right : Right) → app_has ts app id.number right ≡ true → app_has rights app id.number right ≡ true) →
      list_all (λ t. not (is_listed app id.number added t)) ts ≡ true
  not-taken [] h = refl
  not-taken (t ∷ ts) h =
      let rest : list_all (λ t. not (is_listed app id.number added t)) ts ≡ true = not-taken ts (λ right k. h right (or-right (gives app id.number right t) (app_has ts app id.number right) k)) in
      ap (λ (b : Bool). not b && list_all (λ t. not (is_listed app id.number added t)) ts) (first (is_listed app id.number added t) refl) ∙ rest
    where
      or-right : (a b : Bool) → b ≡ true → (a || b) ≡ true
      or-right true b e = refl
      or-right false b e = e

      or-left : (a b : Bool) → a ≡ true → (a || b) ≡ true
      or-left true b e = refl
      or-left false b e = cc

      two : (a b c : Bool) → (a && (b && c)) ≡ true → (a && (b && true)) ≡ true
      two true true c e = refl
      two true false c e = cc
      two false b c e = cc

      itself : (right : Right) → same_right right right ≡ true
      itself Read = refl
      itself Write = refl
      itself GrantPermissions = refl
      itself Delete = refl

      first : (b : Bool) → is_listed app id.number added t ≡ b → is_listed app id.number added t ≡ false
      first false e = e
      first true e =
          let mine : gives app id.number t.right t ≡ true =
          ap (λ (b : Bool). is_same t.app app && (t.id.number == id.number && b)) (itself t.right) ∙ two (is_same t.app app) (t.id.number == id.number) (is_in added t.right) e in
          old-one t (h t.right (or-left (gives app id.number t.right t) (app_has ts app id.number t.right) mine))

  stays-all : (k : Triple) (ts : List Triple) → list_all (λ t. not (is_listed app id.number added t)) ts ≡ true → list_any (stays k) ts ≡ list_any (λ t. same_triple t k) ts
  stays-all k [] h = refl
  stays-all k (t ∷ ts) h =
      λ i. (and-true (same_triple t k) (not (is_listed app id.number added t)) (first-of (not (is_listed app id.number added t)) (list_all (λ t. not (is_listed app id.number added t)) ts) h) i)
      || (stays-all k ts (second-of (not (is_listed app id.number added t)) (list_all (λ t. not (is_listed app id.number added t)) ts) h) i)
    where
      and-true : (a b : Bool) → b ≡ true → (a && b) ≡ a
      and-true true b e = e
      and-true false b e = refl

      first-of : (a b : Bool) → (a && b) ≡ true → a ≡ true
      first-of true b e = refl
      first-of false b e = e

      second-of : (a b : Bool) → (a && b) ≡ true → b ≡ true
      second-of true b e = e
      second-of false b e = cc

  abbrev there : Triple → Bool
  there k = list_any (λ t. same_triple t k) rights

  -- one of those that were added and stay was there before
  new-one : (k : Triple) (right : Right) → (is_in set right && stays k (triple app id right)) ≡ true → there k ≡ true
  new-one k right e =
      let s : is_in set right ≡ true = parts.0 in
      let same : triple app id right ≡ k = triples.eq (triple app id right) k parts.1 in
      let out : is_listed app id.number added (triple app id right) ≡ false = parts.2 in
      let held_one : is_in held right ≡ true = was-held out s in
      let has : app_has rights app id.number right ≡ true = sym (held-is right) ∙ held_one in
      subst (λ (t : Triple). there t ≡ true) same has
    where
      three : (a b c : Bool) → (a && (b && not c)) ≡ true → (a ≡ true) × (b ≡ true) × (c ≡ false)
      three true true false e = (refl, refl, refl)
      three true true true e = cc
      three true false c e = cc
      three false b c e = cc

      parts : (is_in set right ≡ true) × (same_triple (triple app id right) k ≡ true) × (is_listed app id.number added (triple app id right) ≡ false)
      parts = three (is_in set right) (same_triple (triple app id right) k) (is_listed app id.number added (triple app id right)) e

      itself : is_listed app id.number added (triple app id right) ≡ is_in added right
      itself = ap (λ (b : Bool). b && (id.number == id.number && is_in added right)) (is_same-refl app) ∙ ap (λ (b : Bool). b && is_in added right) (nat-itself id.number)

      was : (a b : Bool) → (a && not b) ≡ false → a ≡ true → b ≡ true
      was true true n m = refl
      was true false n m = cc
      was false b n m = cc

      was-held : is_listed app id.number added (triple app id right) ≡ false → is_in set right ≡ true → is_in held right ≡ true
      was-held out s = was (is_in set right) (is_in held right) (sym (added-is right) ∙ (sym itself ∙ out)) s

  any-four : (a b c d t : Bool) → (a ≡ true → t ≡ true) → (b ≡ true → t ≡ true) → (c ≡ true → t ≡ true) → (d ≡ true → t ≡ true) → ((a || (b || (c || d))) || t) ≡ t
  any-four true b c d t f g h k = sym (f refl)
  any-four false true c d t f g h k = sym (g refl)
  any-four false false true d t f g h k = sym (h refl)
  any-four false false false true t f g h k = sym (k refl)
  any-four false false false false t f g h k = refl

  same-there : (k : Triple) → list_any (λ t. same_triple t k) (take_rights app id.number added (add_rights app id set rights)) ≡ there k
  same-there k =
      any-filter (λ t. same_triple t k) (λ t. not (is_listed app id.number added t)) (add_rights app id set rights)
      ∙ (any-put_all triple_less same_triple triples (stays k) (triples_of app id set ++ rights)
      ∙ (list_any-append (stays k) (triples_of app id set) rights
      ∙ (ap (λ (b : Bool). b || list_any (stays k) rights) (any-of (stays k) app id set)
      ∙ (ap (λ (b : Bool). ((set.read && stays k (triple app id Read)) || ((set.write && stays k (triple app id Write))
      || ((set.grant_permissions && stays k (triple app id GrantPermissions)) || (set.delete && stays k (triple app id Delete))))) || b) (stays-all k rights (not-taken rights (λ right e. e)))
      ∙ any-four (set.read && stays k (triple app id Read)) (set.write && stays k (triple app id Write)) (set.grant_permissions && stays k (triple app id GrantPermissions)) (set.delete && stays k (triple app id Delete)) (there k)
      (new-one k Read) (new-one k Write) (new-one k GrantPermissions) (new-one k Delete)))))

  pub rights-back : are_in_order rights ≡ true → take_rights app id.number added (add_rights app id set rights) ≡ rights
  rights-back h =
      same_items triple_less same_triple triples (take_rights app id.number added (add_rights app id set rights)) rights
      (ordered-take_rights app id.number added (add_rights app id set rights) (ordered-add_rights app id set rights)) h same-there

-- ---- what was put last

whole : {X : Type 0} (xs : List X) (x : X) → take (length xs) (xs ++ x ∷ []) ≡ xs
whole [] x = refl
whole (y ∷ ys) x = ap (λ (l : List _). y ∷ l) (whole ys x)

pub front-back : {X : Type 0} (xs : List X) (x : X) → front (xs ++ x ∷ []) ≡ xs
front-back xs x =
    let long : length (xs ++ x ∷ []) ≡ length xs + 1 = length-append xs (x ∷ []) in
    let less : length (xs ++ x ∷ []) - 1 ≡ length xs = omega (arith, long) in
    ap (λ (n : ℕ). take n (xs ++ x ∷ [])) less ∙ whole xs x

pub taken-back : (app : List ℕ) (id : DocId) (set : RightSet) (given : Given) (now : List Triple) (apps_now : List (List ℕ)) (less : RightSet) → less ≡ minus set given.before →
    (rights : List Triple) (apps : List (List ℕ)) → Gave app id set given rights apps now apps_now → take_rights app id.number less now ≡ rights
taken-back app id set given now apps_now less e rights apps gave =
    (λ i. take_rights app id.number ((e ∙ ap (minus set) gave.had) i) (gave.added i)) ∙ rights-back app id set rights gave.in_order

-- ---- a number that was given last

pub number-back : (old new : List (List ℕ)) (numbered : Bool) (app : List ℕ) (apps : List (List ℕ)) → numbered ≡ true → new ≡ front old → old ≡ apps ++ app_if numbered app → new ≡ apps
number-back old new true app apps n e k = e ∙ (ap front k ∙ front-back apps app)
number-back old new false app apps n e k = cc

pub none-back : (old : List (List ℕ)) (numbered : Bool) (app : List ℕ) (apps : List (List ℕ)) → numbered ≡ false → old ≡ apps ++ app_if numbered app → old ≡ apps
none-back old false app apps n k = k ∙ right-nil apps
  where
    right-nil : (l : List (List ℕ)) → l ++ [] ≡ l
    right-nil [] = refl
    right-nil (x ∷ xs) = ap (λ (l : List (List ℕ)). x ∷ l) (right-nil xs)
none-back old true app apps n k = cc

-- a number that was given makes the names at least one
pub few-back : (old : List (List ℕ)) (numbered : Bool) (app : List ℕ) (apps : List (List ℕ)) (count : ℕ) → count ≡ length old → count ≤ 0 → numbered ≡ true → old ≡ apps ++ app_if numbered app → old ≡ apps
few-back old true app apps count n h t e =
    let long : length old ≡ length apps + 1 = ap (λ (l : List (List ℕ)). length l) e ∙ length-append apps (app ∷ []) in
    absurd (omega arith)
few-back old false app apps count n h t e = cc
