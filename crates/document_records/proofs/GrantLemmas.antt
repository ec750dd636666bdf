-- Rights kept together are the triples that they stand for.
use Rattle.std.proofs.Common.{◌≡◌, ℕ, ◌==◌, ltb, List, [], ◌∷◌, ◌++◌, map, Bool, true, false, not, ◌||◌, ◌&&◌, cond, Option, Some, None, is_some, refl, sym, ap, subst, ◌∙◌, arith, zero, suc, ◌+◌, ◌<◌, ◌≤◌, length, get_or, Bor, MutBor}
use Rattle.std.specs.List.{filter, find, list_any, list_all, insert, prefix_len, remove, slice_get, IsItemAtMut}
use Rattle.std.proofs.Math.ListN.{set}
use Rattle.std.specs.List.Sorted.{IsPartitionedBy, IsPartitionPoint}
use Rattle.std.proofs.lemmas.Bool.Decides.{nat_tests}
use Rattle.std.proofs.lemmas.List.Folds.{list_any-append}
use Rattle.std.proofs.lemmas.List.Elements.{filter-append}
use Rattle.std.proofs.lemmas.List.Sums.{prefix_len_is}
use Rattle.std.specs.Option.{option_copied}
use Rattle.std.specs.Slice.{IsItemAt}
use Rattle.std.proofs.lemmas.Option.{slice_get_past, slice_get-get_or}
use Rattle.portal_base.specs.declared.names.doc_id.DocId.{DocId}
use Rattle.rights_rule.specs.Rights.{RightSet, union, minus, no_rights, is_no_right}
use Rattle.portal_model.specs.declared.rights.Right.{Right}
use Rattle.portal_model.specs.declared.rights.Right.TheVariants.{Read, Write, GrantPermissions, Delete}
use Rattle.portal_model.specs.declared.state.Triple.{Triple}
use Rattle.portal_model.specs.State.{app_has, held_of}
use Rattle.document_records.specs.declared.grants.Grant.{Grant}
use Rattle.document_records.specs.Grants.{triples_of_grant, triples_of_grants, is_of, is_before, grant_less, are_grants_in_order, given, taken, has_a_right, is_elsewhere, AreKept}
use Rattle.portal_model.specs.Ordered.{put, bytes_less, is_rising}
use Rattle.portal_model.specs.Rights.{same_triple, triple_less, triple, triples_of, is_in, add_rights, is_listed, take_rights, forget_document}
use Rattle.portal_model.proofs.RisingLists.{rising-put, rising-put_all, rising-filter, rising-map, rising-append, any-put_all, same_items}
use Rattle.portal_model.proofs.TripleOrder.{Key, key_less, same_key, keys, triples, nat_is, is_same-eq, bytes-irreflexive}
use Rattle.portal_model.proofs.FourTriples.{any-union, gives-of, filter-of, all-of, rising-of}

abbrev pub key_of : Grant → Key
key_of g = record { number = g.id.number; app = g.app }

-- ---- the triples of grants in order are in order

triples-apart : (t u : Triple) → cond (t.id.number == u.id.number) (bytes_less t.app u.app) (ltb t.id.number u.id.number) ≡ true → triple_less t u ≡ true
triples-apart t u h = grind (arith, is_same-eq t.app u.app, bytes-irreflexive-at t.app u.app)
  where
    bytes-irreflexive-at : (a b : List ℕ) → a ≡ b → bytes_less a b ≡ false
    bytes-irreflexive-at a b e = subst (λ (x : List ℕ). bytes_less a x ≡ false) e (bytes-irreflexive a)

ahead-of-all : (g h : Grant) (t : Right) → grant_less g h ≡ true → list_all (triple_less (triple g.app g.id t)) (triples_of_grant h) ≡ true
ahead-of-all g h t l = all-of (triple_less (triple g.app g.id t)) h.app h.id h.rights (λ r. triples-apart (triple g.app g.id t) (triple h.app h.id r) l)

all-join : (p : Triple → Bool) (xs ys : List Triple) → list_all p xs ≡ true → list_all p ys ≡ true → list_all p (xs ++ ys) ≡ true
all-join p [] ys h l = l
all-join p (x ∷ xs) ys h l = grind (arith, all-join p xs ys)

ahead-of-rest : (g : Grant) (t : Right) (hs : List Grant) → list_all (grant_less g) hs ≡ true → list_all (triple_less (triple g.app g.id t)) (triples_of_grants hs) ≡ true
ahead-of-rest g t [] l = refl
ahead-of-rest g t (h ∷ hs) l =
    let a : grant_less g h ≡ true = grind arith in
    let b : list_all (grant_less g) hs ≡ true = grind arith in
    all-join (triple_less (triple g.app g.id t)) (triples_of_grant h) (triples_of_grants hs) (ahead-of-all g h t a) (ahead-of-rest g t hs b)

pub rising-triples : (gs : List Grant) → are_grants_in_order gs ≡ true → is_rising triple_less (triples_of_grants gs) ≡ true
rising-triples [] h = refl
rising-triples (g ∷ gs) h =
    let a : list_all (grant_less g) gs ≡ true = grind arith in
    let b : are_grants_in_order gs ≡ true = grind arith in
    rising-append triple_less (triples_of_grant g) (triples_of_grants gs) (rising-of g.app g.id g.rights) (rising-triples gs b)
    (all-of (λ (t : Triple). list_all (triple_less t) (triples_of_grants gs)) g.app g.id g.rights (λ r. ahead-of-rest g r gs a))

-- ---- what is looked up

module _ (app : List ℕ) (number : ℕ) (right : Right) where
  has-of : (g : Grant) → app_has (triples_of_grant g) app number right ≡ (is_of app number g && is_in g.rights right)
  has-of g = gives-of app number right g.app g.id g.rights

  pub has-more : (g : Grant) (gs : List Grant) → app_has (triples_of_grants (g ∷ gs)) app number right ≡ ((is_of app number g && is_in g.rights right) || app_has (triples_of_grants gs) app number right)
  has-more g gs = list_any-append _ (triples_of_grant g) (triples_of_grants gs) ∙ ap (λ (b : Bool). b || app_has (triples_of_grants gs) app number right) (has-of g)

  looked : (g : Grant) (gs : List Grant) (b : Bool) (r : Option Grant) → is_of app number g ≡ b → find (is_of app number) (g ∷ gs) ≡ r → cond b (Some g) (find (is_of app number) gs) ≡ r
  looked g gs b r k e = sym (ap (λ (x : Bool). cond x (Some g) (find (is_of app number) gs)) k) ∙ e

  pub has-none : (gs : List Grant) → find (is_of app number) gs ≡ None → app_has (triples_of_grants gs) app number right ≡ false
  has-none [] e = refl
  has-none (g ∷ gs) e = has-more g gs ∙ rest (is_of app number g) refl (has-none gs)
    where
      rest : (b : Bool) → is_of app number g ≡ b → (find (is_of app number) gs ≡ None → app_has (triples_of_grants gs) app number right ≡ false) →
          ((b && is_in g.rights right) || app_has (triples_of_grants gs) app number right) ≡ false
      rest true k more = let f : Some g ≡ None = looked g gs true None k e in cc
      rest false k more = more (looked g gs false None k e)

not-of : (app : List ℕ) (number : ℕ) (g h : Grant) → is_of app number g ≡ true → grant_less g h ≡ true → is_of app number h ≡ false
not-of app number g h k l = grind (arith, nat_tests, is_same-eq g.app app, is_same-eq h.app app, bytes-irreflexive app)

pub none-behind : (app : List ℕ) (number : ℕ) (g : Grant) (gs : List Grant) → is_of app number g ≡ true → list_all (grant_less g) gs ≡ true → find (is_of app number) gs ≡ None
none-behind app number g [] k l = refl
none-behind app number g (h ∷ hs) k l = grind (arith, none-behind app number g hs, not-of app number g h)

pub or-false : (x : Bool) → (x || false) ≡ x
or-false true = refl
or-false false = refl

pub has-some : (app : List ℕ) (number : ℕ) (right : Right) (gs : List Grant) (f : Grant) → are_grants_in_order gs ≡ true → find (is_of app number) gs ≡ Some f →
    app_has (triples_of_grants gs) app number right ≡ is_in f.rights right
has-some app number right [] f s e = cc
has-some app number right (g ∷ gs) f s e =
    let a : list_all (grant_less g) gs ≡ true = grind arith in
    let b : are_grants_in_order gs ≡ true = grind arith in
    has-more app number right g gs ∙ rest (is_of app number g) refl a (has-some app number right gs f b)
  where
    rest : (c : Bool) → is_of app number g ≡ c → list_all (grant_less g) gs ≡ true → (find (is_of app number) gs ≡ Some f → app_has (triples_of_grants gs) app number right ≡ is_in f.rights right) →
        ((c && is_in g.rights right) || app_has (triples_of_grants gs) app number right) ≡ is_in f.rights right
    rest true k a more =
        let same : Some g ≡ Some f = looked app number right g gs true (Some f) k e in
        let found : g ≡ f = cc in
        ap (λ (x : Bool). is_in g.rights right || x) (has-none app number right gs (none-behind app number g gs k a))
        ∙ (or-false (is_in g.rights right) ∙ ap (λ (x : Grant). is_in x.rights right) found)
    rest false k a more = more (looked app number right g gs false (Some f) k e)

pub held-some : (app : List ℕ) (number : ℕ) (gs : List Grant) (f : Grant) → are_grants_in_order gs ≡ true → find (is_of app number) gs ≡ Some f → f.rights ≡ held_of (triples_of_grants gs) app number
held-some app number gs f s e = λ i. record {
  read = sym (has-some app number Read gs f s e) i;
  write = sym (has-some app number Write gs f s e) i;
  grant_permissions = sym (has-some app number GrantPermissions gs f s e) i;
  delete = sym (has-some app number Delete gs f s e) i;
}

pub held-none : (app : List ℕ) (number : ℕ) (gs : List Grant) → find (is_of app number) gs ≡ None → no_rights ≡ held_of (triples_of_grants gs) app number
held-none app number gs e = λ i. record {
  read = sym (has-none app number Read gs e) i;
  write = sym (has-none app number Write gs e) i;
  grant_permissions = sym (has-none app number GrantPermissions gs e) i;
  delete = sym (has-none app number Delete gs e) i;
}

-- ---- rights added to a grant that is there

abbrev pub passes : (Triple → Bool) → List Grant → Bool
passes p gs = list_any p (triples_of_grants gs)

given-one : (p : Triple → Bool) (app : List ℕ) (id : DocId) (set : RightSet) (g : Grant) (b : Bool) → is_of app id.number g ≡ b →
    list_any p (triples_of_grant (cond b (record g { rights = union g.rights set }) g)) ≡ ((b && list_any p (triples_of app id set)) || list_any p (triples_of_grant g))
given-one p app id set g true k =
    any-union p g.app g.id g.rights set ∙ (swap (list_any p (triples_of_grant g)) (list_any p (triples_of g.app g.id set))
    ∙ ap (λ (x : Bool). x || list_any p (triples_of_grant g)) own)
  where
    swap : (x y : Bool) → (x || y) ≡ (y || x)
    swap true true = refl
    swap true false = refl
    swap false true = refl
    swap false false = refl

    same_app : g.app ≡ app
    same_app = is_same-eq g.app app (grind arith)

    same_id : g.id ≡ id
    same_id = λ i. record { number = nat_is g.id.number id.number (grind arith) i }

    own : list_any p (triples_of g.app g.id set) ≡ list_any p (triples_of app id set)
    own = λ i. list_any p (triples_of (same_app i) (same_id i) set)
given-one p app id set g false k = refl

gather : (a b n x y : Bool) → (((a && n) || x) || ((b && n) || y)) ≡ (((a || b) && n) || (x || y))
gather true true true x y = refl
gather true true false true y = refl
gather true true false false y = refl
gather true false true x y = refl
gather true false false x y = refl
gather false true true true y = refl
gather false true true false y = refl
gather false true false x y = refl
gather false false n x y = refl

pub any-given : (p : Triple → Bool) (app : List ℕ) (id : DocId) (set : RightSet) (gs : List Grant) →
    passes p (map (given app id.number set) gs) ≡ ((list_any (is_of app id.number) gs && list_any p (triples_of app id set)) || passes p gs)
any-given p app id set [] = refl
any-given p app id set (g ∷ gs) =
    list_any-append p (triples_of_grant (given app id.number set g)) (triples_of_grants (map (given app id.number set) gs))
    ∙ ((λ i. given-one p app id set g (is_of app id.number g) refl i || any-given p app id set gs i)
    ∙ (gather (is_of app id.number g) (list_any (is_of app id.number) gs) (list_any p (triples_of app id set)) (list_any p (triples_of_grant g)) (passes p gs)
    ∙ ap (λ (x : Bool). ((is_of app id.number g || list_any (is_of app id.number) gs) && list_any p (triples_of app id set)) || x) (sym (list_any-append p (triples_of_grant g) (triples_of_grants gs)))))

pub given-key : (app : List ℕ) (number : ℕ) (set : RightSet) (g : Grant) → key_of (given app number set g) ≡ key_of g
given-key app number set g = at (is_of app number g)
  where
    at : (b : Bool) → key_of (cond b (record g { rights = union g.rights set }) g) ≡ key_of g
    at true = refl
    at false = refl

pub rising-given : (app : List ℕ) (number : ℕ) (set : RightSet) (gs : List Grant) → are_grants_in_order gs ≡ true → are_grants_in_order (map (given app number set) gs) ≡ true
rising-given app number set gs s = rising-map key_less same_key key_of keys (given app number set) (given-key app number set) gs s

-- the same triples pass as after the addition, so the lists are equal
pub added-is : (app : List ℕ) (id : DocId) (set : RightSet) (old new : List Grant) → are_grants_in_order new ≡ true →
    ((p : Triple → Bool) → passes p new ≡ (list_any p (triples_of app id set) || passes p old)) → triples_of_grants new ≡ add_rights app id set (triples_of_grants old)
added-is app id set old new s e =
    same_items triple_less same_triple triples (triples_of_grants new) (add_rights app id set (triples_of_grants old)) (rising-triples new s)
    (rising-put_all triple_less same_triple (λ (t : Triple). t) triples (triples_of app id set ++ triples_of_grants old))
    (λ k. e (λ t. same_triple t k) ∙ (sym (list_any-append (λ t. same_triple t k) (triples_of app id set) (triples_of_grants old))
    ∙ sym (any-put_all triple_less same_triple triples (λ t. same_triple t k) (triples_of app id set ++ triples_of_grants old))))

pub some-is : (p : Grant → Bool) (gs : List Grant) → is_some (find p gs) ≡ true → list_any p gs ≡ true
some-is p [] e = cc
some-is p (g ∷ gs) e = grind (arith, some-is p gs)

pub given-is : (app : List ℕ) (id : DocId) (set : RightSet) (gs : List Grant) → are_grants_in_order gs ≡ true → is_some (find (is_of app id.number) gs) ≡ true →
    triples_of_grants (map (given app id.number set) gs) ≡ add_rights app id set (triples_of_grants gs)
given-is app id set gs s h =
    added-is app id set gs (map (given app id.number set) gs) (rising-given app id.number set gs s)
    (λ p. any-given p app id set gs ∙ ap (λ (b : Bool). (b && list_any p (triples_of app id set)) || passes p gs) (some-is (is_of app id.number) gs h))

-- ---- a new grant in its place

not-back : (g h : Grant) → grant_less h g ≡ true → grant_less g h ≡ false
not-back g h l = grind (arith, keys.through (key_of g) (key_of h) (key_of g), keys.irreflexive (key_of g))

ahead : (g h : Grant) → is_of g.app g.id.number h ≡ false → grant_less h g ≡ false → grant_less g h ≡ true
ahead g h k l = grind (arith, keys.total (key_of g) (key_of h), keys.itself (key_of h), same_way (key_of g) (key_of h))
  where
    same_way : (a b : Key) → a ≡ b → same_key b a ≡ true
    same_way a b e = subst (λ (x : Key). same_key b x ≡ true) (sym e) (keys.itself b)

insert-more : (g h : Grant) (hs : List Grant) (k : ℕ) → insert (h ∷ hs) (1 + k) g ≡ h ∷ insert hs k g
insert-more g h hs k = let e : 1 + k ≡ suc k = omega arith in ap (λ (n : ℕ). insert (h ∷ hs) n g) e

abbrev pub place : Grant → List Grant → ℕ
place g gs = prefix_len (is_before g.app g.id.number) gs

pub insert-put : (g : Grant) (gs : List Grant) → list_any (is_of g.app g.id.number) gs ≡ false → insert gs (place g gs) g ≡ put grant_less g gs
insert-put g [] e = refl
insert-put g (h ∷ hs) e =
    let k : is_of g.app g.id.number h ≡ false = grind arith in
    let n : list_any (is_of g.app g.id.number) hs ≡ false = grind arith in
    step (grant_less h g) refl k (insert-put g hs n)
  where
    step : (b : Bool) → grant_less h g ≡ b → is_of g.app g.id.number h ≡ false → insert hs (place g hs) g ≡ put grant_less g hs →
        insert (h ∷ hs) (cond b (1 + place g hs) 0) g ≡ cond (grant_less g h) (g ∷ h ∷ hs) (cond b (h ∷ put grant_less g hs) (g ∷ hs))
    step true l k more =
        insert-more g h hs (place g hs) ∙ (ap (λ (xs : List Grant). h ∷ xs) more
        ∙ sym (ap (λ (b : Bool). cond b (g ∷ h ∷ hs) (h ∷ put grant_less g hs)) (not-back g h l)))
    step false l k more = sym (ap (λ (b : Bool). cond b (g ∷ h ∷ hs) (g ∷ hs)) (ahead g h k l))

or-turn : (x y z : Bool) → (x || (y || z)) ≡ (y || (x || z))
or-turn true true z = refl
or-turn true false z = refl
or-turn false y z = refl

pub any-put-grant : (p : Triple → Bool) (g : Grant) (gs : List Grant) → list_any (is_of g.app g.id.number) gs ≡ false →
    passes p (put grant_less g gs) ≡ (list_any p (triples_of_grant g) || passes p gs)
any-put-grant p g [] e = list_any-append p (triples_of_grant g) []
any-put-grant p g (h ∷ hs) e =
    let k : is_of g.app g.id.number h ≡ false = grind arith in
    let n : list_any (is_of g.app g.id.number) hs ≡ false = grind arith in
    step (grant_less g h) (grant_less h g) refl refl k (any-put-grant p g hs n)
  where
    step : (a b : Bool) → grant_less g h ≡ a → grant_less h g ≡ b → is_of g.app g.id.number h ≡ false → passes p (put grant_less g hs) ≡ (list_any p (triples_of_grant g) || passes p hs) →
        passes p (cond a (g ∷ h ∷ hs) (cond b (h ∷ put grant_less g hs) (g ∷ hs))) ≡ (list_any p (triples_of_grant g) || passes p (h ∷ hs))
    step true b l m k more = list_any-append p (triples_of_grant g) (triples_of_grants (h ∷ hs))
    step false true l m k more =
        list_any-append p (triples_of_grant h) (triples_of_grants (put grant_less g hs))
        ∙ (ap (λ (x : Bool). list_any p (triples_of_grant h) || x) more
        ∙ (or-turn (list_any p (triples_of_grant h)) (list_any p (triples_of_grant g)) (passes p hs)
        ∙ ap (λ (x : Bool). list_any p (triples_of_grant g) || x) (sym (list_any-append p (triples_of_grant h) (triples_of_grants hs)))))
    step false false l m k more = let t : grant_less g h ≡ true = ahead g h k m in cc

pub none-is : (p : Grant → Bool) (gs : List Grant) → find p gs ≡ None → list_any p gs ≡ false
none-is p [] e = refl
none-is p (g ∷ gs) e = grind (arith, none-is p gs)

pub placed : (g : Grant) (gs : List Grant) → find (is_of g.app g.id.number) gs ≡ None → insert gs (place g gs) g ≡ put grant_less g gs
placed g gs e = insert-put g gs (none-is (is_of g.app g.id.number) gs e)

pub rising-new : (g : Grant) (gs : List Grant) → are_grants_in_order gs ≡ true → are_grants_in_order (put grant_less g gs) ≡ true
rising-new g gs s = rising-put key_less same_key key_of keys g gs s

-- ---- rights taken

taken-one : (app : List ℕ) (number : ℕ) (set : RightSet) (g : Grant) (b : Bool) → is_of app number g ≡ b →
    triples_of_grant (cond b (record g { rights = minus g.rights set }) g) ≡ take_rights app number set (triples_of_grant g)
taken-one app number set g true k =
    sym (filter-of (λ t. not (is_listed app number set t)) g.app g.id g.rights (record { read = not set.read; write = not set.write; grant_permissions = not set.grant_permissions; delete = not set.delete })
    (stays Read) (stays Write) (stays GrantPermissions) (stays Delete))
  where
    stays : (r : Right) → not (is_listed app number set (triple g.app g.id r)) ≡ not (is_in set r)
    stays r = grind arith
taken-one app number set g false k =
    sym (filter-of (λ t. not (is_listed app number set t)) g.app g.id g.rights (record { read = true; write = true; grant_permissions = true; delete = true })
    (stays Read) (stays Write) (stays GrantPermissions) (stays Delete) ∙ all-stay)
  where
    stays : (r : Right) → not (is_listed app number set (triple g.app g.id r)) ≡ true
    stays r = grind arith

    and-true : (x : Bool) → (x && true) ≡ x
    and-true true = refl
    and-true false = refl

    all-stay : triples_of g.app g.id (record { read = g.rights.read && true; write = g.rights.write && true; grant_permissions = g.rights.grant_permissions && true; delete = g.rights.delete && true }) ≡ triples_of_grant g
    all-stay = λ i. triples_of g.app g.id (record { read = and-true g.rights.read i; write = and-true g.rights.write i; grant_permissions = and-true g.rights.grant_permissions i; delete = and-true g.rights.delete i })

pub taken-is : (app : List ℕ) (number : ℕ) (set : RightSet) (gs : List Grant) → triples_of_grants (map (taken app number set) gs) ≡ take_rights app number set (triples_of_grants gs)
taken-is app number set [] = refl
taken-is app number set (g ∷ gs) =
    (λ i. taken-one app number set g (is_of app number g) refl i ++ taken-is app number set gs i)
    ∙ sym (filter-append (λ t. not (is_listed app number set t)) (triples_of_grant g) (triples_of_grants gs))

pub taken-key : (app : List ℕ) (number : ℕ) (set : RightSet) (g : Grant) → key_of (taken app number set g) ≡ key_of g
taken-key app number set g = at (is_of app number g)
  where
    at : (b : Bool) → key_of (cond b (record g { rights = minus g.rights set }) g) ≡ key_of g
    at true = refl
    at false = refl

pub rising-taken : (app : List ℕ) (number : ℕ) (set : RightSet) (gs : List Grant) → are_grants_in_order gs ≡ true → are_grants_in_order (map (taken app number set) gs) ≡ true
rising-taken app number set gs s = rising-map key_less same_key key_of keys (taken app number set) (taken-key app number set) gs s

none-of : (app : List ℕ) (id : DocId) (set : RightSet) → is_no_right set ≡ true → triples_of app id set ≡ []
none-of app id set h = grind arith

-- where no right is added, all stays as it was
pub unchanged-is : (app : List ℕ) (id : DocId) (set : RightSet) (gs : List Grant) → are_grants_in_order gs ≡ true → is_no_right set ≡ true →
    triples_of_grants gs ≡ add_rights app id set (triples_of_grants gs)
unchanged-is app id set gs s h =
    added-is app id set gs gs s (λ p. sym (ap (λ (ts : List Triple). list_any p ts || passes p gs) (none-of app id set h)))

-- a grant without a right stands for nothing
pub held-ones-are : (gs : List Grant) → triples_of_grants (filter has_a_right gs) ≡ triples_of_grants gs
held-ones-are [] = refl
held-ones-are (g ∷ gs) = step (is_no_right g.rights) refl (held-ones-are gs)
  where
    step : (b : Bool) → is_no_right g.rights ≡ b → triples_of_grants (filter has_a_right gs) ≡ triples_of_grants gs →
        triples_of_grants (cond (not b) (g ∷ filter has_a_right gs) (filter has_a_right gs)) ≡ triples_of_grants (g ∷ gs)
    step true k more = more ∙ sym (ap (λ (xs : List Triple). xs ++ triples_of_grants gs) (none-of g.app g.id g.rights k))
    step false k more = ap (λ (xs : List Triple). triples_of_grant g ++ xs) more

pub rising-some : (p : Grant → Bool) (gs : List Grant) → are_grants_in_order gs ≡ true → are_grants_in_order (filter p gs) ≡ true
rising-some p gs s = rising-filter key_less same_key key_of keys p gs s

-- ---- every grant has a right

given-held : (app : List ℕ) (number : ℕ) (set : RightSet) (g : Grant) → has_a_right g ≡ true → has_a_right (given app number set g) ≡ true
given-held app number set g h = at (is_of app number g)
  where
    at : (b : Bool) → has_a_right (cond b (record g { rights = union g.rights set }) g) ≡ true
    at true = grind arith
    at false = h

all-given : (app : List ℕ) (number : ℕ) (set : RightSet) (gs : List Grant) → list_all has_a_right gs ≡ true → list_all has_a_right (map (given app number set) gs) ≡ true
all-given app number set [] h = refl
all-given app number set (g ∷ gs) h = grind (arith, given-held app number set g, all-given app number set gs)

pub all-put : (p : Grant → Bool) (g : Grant) (gs : List Grant) → p g ≡ true → list_all p gs ≡ true → list_all p (put grant_less g gs) ≡ true
all-put p g [] h l = grind arith
all-put p g (x ∷ xs) h l = grind (arith, all-put p g xs)

pub all-some : (q p : Grant → Bool) (gs : List Grant) → list_all q gs ≡ true → list_all q (filter p gs) ≡ true
all-some q p [] h = refl
all-some q p (g ∷ gs) h = grind (arith, all-some q p gs)

all-left : (p : Grant → Bool) (gs : List Grant) → list_all p (filter p gs) ≡ true
all-left p [] = refl
all-left p (g ∷ gs) = grind (arith, all-left p gs)

pub kept-given : (app : List ℕ) (number : ℕ) (set : RightSet) (gs : List Grant) → AreKept gs → AreKept (map (given app number set) gs)
kept-given app number set gs k = record { order = rising-given app number set gs k.order; held = all-given app number set gs k.held }

pub kept-new : (g : Grant) (gs : List Grant) → has_a_right g ≡ true → AreKept gs → AreKept (put grant_less g gs)
kept-new g gs h k = record { order = rising-new g gs k.order; held = all-put has_a_right g gs h k.held }

pub kept-taken : (app : List ℕ) (number : ℕ) (set : RightSet) (gs : List Grant) → AreKept gs → AreKept (filter has_a_right (map (taken app number set) gs))
kept-taken app number set gs k = record {
  order = rising-some has_a_right (map (taken app number set) gs) (rising-taken app number set gs k.order);
  held = all-left has_a_right (map (taken app number set) gs);
}

-- ---- a document forgotten

filter-none : (number : ℕ) (ts : List Triple) → list_all (λ t. t.id.number == number) ts ≡ true → forget_document number ts ≡ []
filter-none number [] h = refl
filter-none number (t ∷ ts) h = grind (arith, filter-none number ts)

filter-every : (number : ℕ) (ts : List Triple) → list_all (λ t. not (t.id.number == number)) ts ≡ true → forget_document number ts ≡ ts
filter-every number [] h = refl
filter-every number (t ∷ ts) h = grind (arith, filter-every number ts)

pub forgotten-is : (number : ℕ) (gs : List Grant) → triples_of_grants (filter (is_elsewhere number) gs) ≡ forget_document number (triples_of_grants gs)
forgotten-is number [] = refl
forgotten-is number (g ∷ gs) =
    step (g.id.number == number) refl (forgotten-is number gs) ∙ sym (filter-append (λ (t : Triple). not (t.id.number == number)) (triples_of_grant g) (triples_of_grants gs))
  where
    step : (b : Bool) → (g.id.number == number) ≡ b → triples_of_grants (filter (is_elsewhere number) gs) ≡ forget_document number (triples_of_grants gs) →
        triples_of_grants (cond (not b) (g ∷ filter (is_elsewhere number) gs) (filter (is_elsewhere number) gs)) ≡ forget_document number (triples_of_grant g) ++ forget_document number (triples_of_grants gs)
    step true k more =
        more ∙ sym (ap (λ (xs : List Triple). xs ++ forget_document number (triples_of_grants gs)) (filter-none number (triples_of_grant g) (all-of (λ t. t.id.number == number) g.app g.id g.rights (λ r. k))))
    step false k more = λ i. sym (filter-every number (triples_of_grant g) (all-of (λ t. not (t.id.number == number)) g.app g.id g.rights (λ r. ap not k))) i ++ more i

-- ---- what a search in the code says

pub copied-some : {X : Type 0} (r : Option (Bor X)) → is_some (option_copied r) ≡ is_some r
copied-some None = refl
copied-some (Some x) = refl

pub not-some : {X : Type 0} (r : Option X) → is_some r ≡ false → r ≡ None
not-some None e = refl
not-some (Some x) e = cc

-- ---- where a grant stands

ahead-too : (app : List ℕ) (number : ℕ) (g h : Grant) → grant_less g h ≡ true → is_before app number h ≡ true → is_before app number g ≡ true
ahead-too app number g h l k = keys.through (key_of g) (key_of h) (record { number = number; app = app }) l k

each-of : (p : Grant → Bool) (gs : List Grant) (i : ℕ) (d : Grant) → i < length gs → list_all p gs ≡ true → p (get_or gs i d) ≡ true
each-of p [] i d h a = absurd (omega arith)
each-of p (g ∷ gs) zero d h a = grind arith
each-of p (g ∷ gs) (suc i) d h a = each-of p gs i d (omega arith) (grind arith)

-- those that stand ahead come first
pub in-two-parts : (app : List ℕ) (number : ℕ) (gs : List Grant) → are_grants_in_order gs ≡ true → IsPartitionedBy (is_before app number) gs
in-two-parts app number [] s i j d le lt k = absurd (omega arith)
in-two-parts app number (g ∷ gs) s zero zero d le lt k = k
in-two-parts app number (g ∷ gs) s zero (suc j) d le lt k =
    let a : list_all (grant_less g) gs ≡ true = grind arith in
    ahead-too app number g (get_or gs j d) (each-of (grant_less g) gs j d (omega arith) a) k
in-two-parts app number (g ∷ gs) s (suc i) zero d le lt k = absurd (omega arith)
in-two-parts app number (g ∷ gs) s (suc i) (suc j) d le lt k =
    let b : are_grants_in_order gs ≡ true = grind arith in
    in-two-parts app number gs b i j d (omega arith) (omega arith) k

pub parts-end : (p : Grant → Bool) (gs : List Grant) (i : ℕ) → i ≤ length gs → IsPartitionPoint (λ y. p y ≡ true) (λ y. p y ≡ false) gs i → i ≡ prefix_len p gs
parts-end p [] i b h = omega arith
parts-end p (g ∷ gs) i b h = sym (prefix_len_is p (g ∷ gs) i g b (λ k l. h.0 k g (omega arith) l) (λ l. h.1 i g (omega arith) l))

abbrev pub if_of : List ℕ → ℕ → Option Grant → Option Grant
if_of app number None = None
if_of app number (Some g) = cond (is_of app number g) (Some g) None

not-behind : (app : List ℕ) (number : ℕ) (g h : Grant) → is_before app number g ≡ false → grant_less g h ≡ true → is_of app number h ≡ false
not-behind app number g h k l = grind (arith, nat_tests, is_same-eq h.app app)

none-at-or-behind : (app : List ℕ) (number : ℕ) (g : Grant) (hs : List Grant) → is_before app number g ≡ false → list_all (grant_less g) hs ≡ true → find (is_of app number) hs ≡ None
none-at-or-behind app number g [] k l = refl
none-at-or-behind app number g (h ∷ hs) k l = grind (arith, none-at-or-behind app number g hs, not-behind app number g h)

not-both : (app : List ℕ) (number : ℕ) (g : Grant) → is_before app number g ≡ true → is_of app number g ≡ false
not-both app number g k = grind (arith, nat_tests, is_same-eq g.app app, bytes-irreflexive app)

next-item : (g : Grant) (gs : List Grant) (n : ℕ) → slice_get (g ∷ gs) (1 + n) ≡ slice_get gs n
next-item g gs n = let e : 1 + n ≡ suc n = omega arith in ap (slice_get (g ∷ gs)) e

-- a grant that is there stands at its place
pub found-in-place : (app : List ℕ) (number : ℕ) (gs : List Grant) → are_grants_in_order gs ≡ true →
    find (is_of app number) gs ≡ if_of app number (slice_get gs (prefix_len (is_before app number) gs))
found-in-place app number [] s = refl
found-in-place app number (g ∷ gs) s =
    let a : list_all (grant_less g) gs ≡ true = grind arith in
    let b : are_grants_in_order gs ≡ true = grind arith in
    step (is_before app number g) (is_of app number g) refl refl a (found-in-place app number gs b)
  where
    step : (b o : Bool) → is_before app number g ≡ b → is_of app number g ≡ o → list_all (grant_less g) gs ≡ true →
        find (is_of app number) gs ≡ if_of app number (slice_get gs (prefix_len (is_before app number) gs)) →
        cond o (Some g) (find (is_of app number) gs) ≡ if_of app number (slice_get (g ∷ gs) (cond b (1 + prefix_len (is_before app number) gs) 0))
    step true true k l a more = let f : is_of app number g ≡ false = not-both app number g k in cc
    step true false k l a more = more ∙ ap (if_of app number) (sym (next-item g gs (prefix_len (is_before app number) gs)))
    step false true k l a more = sym (ap (λ (c : Bool). cond c (Some g) None) l)
    step false false k l a more = none-at-or-behind app number g gs k a ∙ sym (ap (λ (c : Bool). cond c (Some g) None) l)

-- what `get` answers is the item of the list
pub item-at : (xs : List Grant) (i : ℕ) (r : Option (Bor Grant)) → IsItemAt xs i r → option_copied r ≡ slice_get xs i
item-at xs i None h = sym (slice_get_past xs i h.3)
item-at xs i (Some x) h = ap (λ (y : Grant). Some y) h.1 ∙ sym (slice_get-get_or xs i x.now h.3.0)

-- ---- what is changed in one place

pub item-lent : (xs : List Grant) (i : ℕ) (x : MutBor Grant) → IsItemAtMut xs i (Some x) → slice_get xs i ≡ Some x.now
item-lent xs i x h = slice_get-get_or xs i x.now h.3.0 ∙ ap (λ (y : Grant). Some y) (sym h.1)

pub nothing-lent : (xs : List Grant) (i : ℕ) (r : Option (MutBor Grant)) → IsItemAtMut xs i r → r ≡ None → slice_get xs i ≡ None
nothing-lent xs i None h e = slice_get_past xs i h.3
nothing-lent xs i (Some x) h e = cc

set-next : (g x : Grant) (gs : List Grant) (n : ℕ) → set (g ∷ gs) (1 + n) x ≡ g ∷ set gs n x
set-next g x gs n = let e : 1 + n ≡ suc n = omega arith in ap (λ (k : ℕ). set (g ∷ gs) k x) e

module _ (app : List ℕ) (number : ℕ) (f : Grant → Grant) (stays : (g : Grant) → is_of app number g ≡ false → f g ≡ g) where
  all-stay : (gs : List Grant) → find (is_of app number) gs ≡ None → map f gs ≡ gs
  all-stay [] e = refl
  all-stay (g ∷ gs) e = step (is_of app number g) refl (all-stay gs)
    where
      step : (b : Bool) → is_of app number g ≡ b → (find (is_of app number) gs ≡ None → map f gs ≡ gs) → f g ∷ map f gs ≡ g ∷ gs
      step true k more = let x : Some g ≡ None = looked app number Read g gs true None k e in cc
      step false k more = λ i. stays g k i ∷ more (looked app number Read g gs false None k e) i

  -- nothing is there to change
  pub changed-none : (gs : List Grant) → are_grants_in_order gs ≡ true → slice_get gs (prefix_len (is_before app number) gs) ≡ None → map f gs ≡ gs
  changed-none gs s e = all-stay gs (found-in-place app number gs s ∙ ap (if_of app number) e)

  -- only what stands in the place is changed
  pub changed-one : (gs : List Grant) (g : Grant) → are_grants_in_order gs ≡ true → slice_get gs (prefix_len (is_before app number) gs) ≡ Some g →
      map f gs ≡ set gs (prefix_len (is_before app number) gs) (f g)
  changed-one [] g s e = cc
  changed-one (h ∷ hs) g s e =
      let a : list_all (grant_less h) hs ≡ true = grind arith in
      let b : are_grants_in_order hs ≡ true = grind arith in
      step (is_before app number h) refl a (changed-one hs g b)
    where
      step : (b : Bool) → is_before app number h ≡ b → list_all (grant_less h) hs ≡ true →
          (slice_get hs (prefix_len (is_before app number) hs) ≡ Some g → map f hs ≡ set hs (prefix_len (is_before app number) hs) (f g)) →
          f h ∷ map f hs ≡ set (h ∷ hs) (prefix_len (is_before app number) (h ∷ hs)) (f g)
      step true k a more =
          let n = prefix_len (is_before app number) hs in
          let at : prefix_len (is_before app number) (h ∷ hs) ≡ 1 + n = ap (λ (c : Bool). cond c (1 + n) 0) k in
          let there : slice_get hs n ≡ Some g = sym (next-item h hs n) ∙ (ap (slice_get (h ∷ hs)) (sym at) ∙ e) in
          (λ i. stays h (not-both app number h k) i ∷ more there i)
          ∙ (sym (set-next h (f g) hs n) ∙ ap (λ (m : ℕ). set (h ∷ hs) m (f g)) (sym at))
      step false k a more =
          let at : prefix_len (is_before app number) (h ∷ hs) ≡ 0 = ap (λ (c : Bool). cond c (1 + prefix_len (is_before app number) hs) 0) k in
          let first : Some h ≡ Some g = ap (slice_get (h ∷ hs)) (sym at) ∙ e in
          let same : h ≡ g = cc in
          (λ i. f (same i) ∷ all-stay hs (none-at-or-behind app number h hs k a) i)
          ∙ ap (λ (m : ℕ). set (h ∷ hs) m (f g)) (sym at)

pub given-stays : (app : List ℕ) (number : ℕ) (set : RightSet) (g : Grant) → is_of app number g ≡ false → given app number set g ≡ g
given-stays app number set g k = ap (λ (b : Bool). cond b (record g { rights = union g.rights set }) g) k

pub taken-stays : (app : List ℕ) (number : ℕ) (set : RightSet) (g : Grant) → is_of app number g ≡ false → taken app number set g ≡ g
taken-stays app number set g k = ap (λ (b : Bool). cond b (record g { rights = minus g.rights set }) g) k

pub all-held : (gs : List Grant) → list_all has_a_right gs ≡ true → filter has_a_right gs ≡ gs
all-held [] h = refl
all-held (g ∷ gs) h =
    let a : has_a_right g ≡ true = grind arith in
    let b : list_all has_a_right gs ≡ true = grind arith in
    ap (λ (c : Bool). cond c (g ∷ filter has_a_right gs) (filter has_a_right gs)) a ∙ ap (λ (xs : List Grant). g ∷ xs) (all-held gs b)

pub one-held : (gs : List Grant) (i : ℕ) (x : Grant) → list_all has_a_right gs ≡ true → has_a_right x ≡ true → filter has_a_right (set gs i x) ≡ set gs i x
one-held [] i x h k = refl
one-held (g ∷ gs) zero x h k =
    let b : list_all has_a_right gs ≡ true = grind arith in
    ap (λ (c : Bool). cond c (x ∷ filter has_a_right gs) (filter has_a_right gs)) k ∙ ap (λ (xs : List Grant). x ∷ xs) (all-held gs b)
one-held (g ∷ gs) (suc i) x h k =
    let a : has_a_right g ≡ true = grind arith in
    let b : list_all has_a_right gs ≡ true = grind arith in
    ap (λ (c : Bool). cond c (g ∷ filter has_a_right (set gs i x)) (filter has_a_right (set gs i x))) a ∙ ap (λ (xs : List Grant). g ∷ xs) (one-held gs i x b k)

-- the one that has no right left goes
pub one-gone : (gs : List Grant) (i : ℕ) (x : Grant) → i < length gs → list_all has_a_right gs ≡ true → has_a_right x ≡ false → filter has_a_right (set gs i x) ≡ remove (set gs i x) i
one-gone [] i x l h k = absurd (omega arith)
one-gone (g ∷ gs) zero x l h k =
    let b : list_all has_a_right gs ≡ true = grind arith in
    ap (λ (c : Bool). cond c (x ∷ filter has_a_right gs) (filter has_a_right gs)) k ∙ all-held gs b
one-gone (g ∷ gs) (suc i) x l h k =
    let a : has_a_right g ≡ true = grind arith in
    let b : list_all has_a_right gs ≡ true = grind arith in
    ap (λ (c : Bool). cond c (g ∷ filter has_a_right (set gs i x)) (filter has_a_right (set gs i x))) a
    ∙ ap (λ (xs : List Grant). g ∷ xs) (one-gone gs i x (omega arith) b k)
