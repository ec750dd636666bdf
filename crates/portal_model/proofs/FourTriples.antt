-- The triples of one application and document.
use Rattle.std.proofs.Common.{◌≡◌, ℕ, ◌==◌, ltb, List, [], ◌∷◌, ◌++◌, Bool, true, false, ◌||◌, ◌&&◌, cond, refl, sym, ap, ◌∙◌, arith}
use Rattle.std.specs.List.{filter, list_any, list_all}
use Rattle.std.proofs.lemmas.List.Folds.{list_any-append}
use Rattle.std.proofs.lemmas.List.Elements.{filter-append}
use Rattle.portal_base.specs.Names.{is_same}
use Rattle.portal_base.specs.declared.names.doc_id.DocId.{DocId}
use Rattle.rights_rule.specs.Rights.{RightSet, union}
use Rattle.portal_model.specs.declared.rights.Right.{Right}
use Rattle.portal_model.specs.declared.rights.Right.TheVariants.{Read, Write, GrantPermissions, Delete}
use Rattle.portal_model.specs.declared.state.Triple.{Triple}
use Rattle.portal_model.specs.State.{bit_of, same_right, gives, app_has}
use Rattle.portal_model.specs.Ordered.{is_rising}
use Rattle.portal_model.specs.Rights.{triple_less, triple, triple_if, triples_of, is_in}
use Rattle.portal_model.proofs.TripleOrder.{is_same-refl, nat-itself}

any-if : (p : Triple → Bool) (b : Bool) (t : Triple) → list_any p (triple_if b t) ≡ (b && p t)
any-if p true t = grind arith
any-if p false t = refl

-- some triple of a set passes
pub any-of : (p : Triple → Bool) (app : List ℕ) (id : DocId) (set : RightSet) →
    list_any p (triples_of app id set)
    ≡ ((set.read && p (triple app id Read)) || ((set.write && p (triple app id Write))
    || ((set.grant_permissions && p (triple app id GrantPermissions)) || (set.delete && p (triple app id Delete)))))
any-of p app id set =
    let d = triple_if set.delete (triple app id Delete) in
    let g = triple_if set.grant_permissions (triple app id GrantPermissions) in
    let w = triple_if set.write (triple app id Write) in
    let r = triple_if set.read (triple app id Read) in
    list_any-append p r (w ++ (g ++ d))
    ∙ (ap (λ (x : Bool). x || list_any p (w ++ (g ++ d))) (any-if p set.read (triple app id Read))
    ∙ ap (λ (x : Bool). (set.read && p (triple app id Read)) || x) (list_any-append p w (g ++ d)
    ∙ (ap (λ (x : Bool). x || list_any p (g ++ d)) (any-if p set.write (triple app id Write))
    ∙ ap (λ (x : Bool). (set.write && p (triple app id Write)) || x) (list_any-append p g d
    ∙ (ap (λ (x : Bool). x || list_any p d) (any-if p set.grant_permissions (triple app id GrantPermissions))
    ∙ ap (λ (x : Bool). (set.grant_permissions && p (triple app id GrantPermissions)) || x) (any-if p set.delete (triple app id Delete)))))))

or-two : (a b x : Bool) → ((a || b) && x) ≡ ((a && x) || (b && x))
or-two true true x = grind arith
or-two true false x = grind arith
or-two false b x = refl

or-swap : (a b c d : Bool) → ((a || b) || (c || d)) ≡ ((a || c) || (b || d))
or-swap true b c d = refl
or-swap false true true d = refl
or-swap false true false d = refl
or-swap false false true d = refl
or-swap false false false d = refl

one-more : (a b x p q r : Bool) → r ≡ (p || q) → (((a || b) && x) || r) ≡ (((a && x) || p) || ((b && x) || q))
one-more a b x p q r e = ap (λ (y : Bool). y || r) (or-two a b x) ∙ (ap (λ (y : Bool). ((a && x) || (b && x)) || y) e ∙ or-swap (a && x) (b && x) p q)

-- some triple of a union passes where one of either set does
pub any-union : (p : Triple → Bool) (app : List ℕ) (id : DocId) (s u : RightSet) →
    list_any p (triples_of app id (union s u)) ≡ (list_any p (triples_of app id s) || list_any p (triples_of app id u))
any-union p app id s u =
    let r = p (triple app id Read) in
    let w = p (triple app id Write) in
    let g = p (triple app id GrantPermissions) in
    let d = p (triple app id Delete) in
    any-of p app id (union s u)
    ∙ (one-more s.read u.read r ((s.write && w) || ((s.grant_permissions && g) || (s.delete && d))) ((u.write && w) || ((u.grant_permissions && g) || (u.delete && d))) _
    (one-more s.write u.write w ((s.grant_permissions && g) || (s.delete && d)) ((u.grant_permissions && g) || (u.delete && d)) _
    (one-more s.grant_permissions u.grant_permissions g (s.delete && d) (u.delete && d) _ (or-two s.delete u.delete d)))
    ∙ (ap (λ (x : Bool). x || ((u.read && r) || ((u.write && w) || ((u.grant_permissions && g) || (u.delete && d))))) (sym (any-of p app id s))
    ∙ ap (λ (x : Bool). list_any p (triples_of app id s) || x) (sym (any-of p app id u))))

four-in : (right : Right) (a b : Bool) (s : RightSet) →
    ((s.read && (a && (b && same_right Read right))) || ((s.write && (a && (b && same_right Write right)))
    || ((s.grant_permissions && (a && (b && same_right GrantPermissions right))) || (s.delete && (a && (b && same_right Delete right))))))
    ≡ ((b && a) && is_in s right)
four-in Read a b s = grind arith
four-in Write a b s = grind arith
four-in GrantPermissions a b s = grind arith
four-in Delete a b s = grind arith

-- a set gives the rights that are in it
pub gives-of : (name : List ℕ) (number : ℕ) (right : Right) (app : List ℕ) (id : DocId) (set : RightSet) →
    app_has (triples_of app id set) name number right ≡ ((id.number == number && is_same app name) && is_in set right)
gives-of name number right app id set = any-of (gives name number right) app id set ∙ four-in right (is_same app name) (id.number == number) set

-- ---- a filter over the triples of a set

filter-if : (q : Triple → Bool) (b c : Bool) (t : Triple) → q t ≡ c → filter q (triple_if b t) ≡ triple_if (b && c) t
filter-if q true c t e = ap (λ (x : Bool). cond x (t ∷ []) []) e
filter-if q false c t e = refl

-- where the filter says of each right whether it stays
pub filter-of : (q : Triple → Bool) (app : List ℕ) (id : DocId) (s u : RightSet) →
    q (triple app id Read) ≡ u.read → q (triple app id Write) ≡ u.write → q (triple app id GrantPermissions) ≡ u.grant_permissions → q (triple app id Delete) ≡ u.delete →
    filter q (triples_of app id s)
    ≡ triples_of app id (record { read = s.read && u.read; write = s.write && u.write; grant_permissions = s.grant_permissions && u.grant_permissions; delete = s.delete && u.delete })
filter-of q app id s u er ew eg ed =
    let d = triple_if s.delete (triple app id Delete) in
    let g = triple_if s.grant_permissions (triple app id GrantPermissions) in
    let w = triple_if s.write (triple app id Write) in
    let r = triple_if s.read (triple app id Read) in
    filter-append q r (w ++ (g ++ d))
    ∙ (ap (λ (x : List Triple). x ++ filter q (w ++ (g ++ d))) (filter-if q s.read u.read (triple app id Read) er)
    ∙ ap (λ (x : List Triple). triple_if (s.read && u.read) (triple app id Read) ++ x) (filter-append q w (g ++ d)
    ∙ (ap (λ (x : List Triple). x ++ filter q (g ++ d)) (filter-if q s.write u.write (triple app id Write) ew)
    ∙ ap (λ (x : List Triple). triple_if (s.write && u.write) (triple app id Write) ++ x) (filter-append q g d
    ∙ (ap (λ (x : List Triple). x ++ filter q d) (filter-if q s.grant_permissions u.grant_permissions (triple app id GrantPermissions) eg)
    ∙ ap (λ (x : List Triple). triple_if (s.grant_permissions && u.grant_permissions) (triple app id GrantPermissions) ++ x) (filter-if q s.delete u.delete (triple app id Delete) ed))))))

-- ---- their order

all-if : (p : Triple → Bool) (b : Bool) (t : Triple) (ts : List Triple) → p t ≡ true → list_all p ts ≡ true → list_all p (triple_if b t ++ ts) ≡ true
all-if p true t ts h l = grind arith
all-if p false t ts h l = l

-- what is true of all four is true of a set's
pub all-of : (p : Triple → Bool) (app : List ℕ) (id : DocId) (set : RightSet) →
    ((right : Right) → p (triple app id right) ≡ true) → list_all p (triples_of app id set) ≡ true
all-of p app id set h =
    all-if p set.read (triple app id Read) _ (h Read) (all-if p set.write (triple app id Write) _ (h Write)
    (all-if p set.grant_permissions (triple app id GrantPermissions) _ (h GrantPermissions) (last set.delete)))
  where
    last : (b : Bool) → list_all p (triple_if b (triple app id Delete)) ≡ true
    last true = let e : p (triple app id Delete) ≡ true = h Delete in grind arith
    last false = refl

rising-if : (b : Bool) (t : Triple) (ts : List Triple) → list_all (triple_less t) ts ≡ true → is_rising triple_less ts ≡ true → is_rising triple_less (triple_if b t ++ ts) ≡ true
rising-if true t ts h l = grind arith
rising-if false t ts h l = l

less-of : (app : List ℕ) (id : DocId) (a b : Right) → ltb (bit_of a) (bit_of b) ≡ true → triple_less (triple app id a) (triple app id b) ≡ true
less-of app id a b h = grind (arith, nat-itself id.number, is_same-refl app)

pub rising-of : (app : List ℕ) (id : DocId) (set : RightSet) → is_rising triple_less (triples_of app id set) ≡ true
rising-of app id set =
    rising-if set.read (triple app id Read) _
    (all-if (triple_less (triple app id Read)) set.write (triple app id Write) _ (less-of app id Read Write refl)
    (all-if (triple_less (triple app id Read)) set.grant_permissions (triple app id GrantPermissions) _ (less-of app id Read GrantPermissions refl) (end Read set.delete (less-of app id Read Delete refl))))
    (rising-if set.write (triple app id Write) _
    (all-if (triple_less (triple app id Write)) set.grant_permissions (triple app id GrantPermissions) _ (less-of app id Write GrantPermissions refl) (end Write set.delete (less-of app id Write Delete refl)))
    (rising-if set.grant_permissions (triple app id GrantPermissions) _ (end GrantPermissions set.delete (less-of app id GrantPermissions Delete refl)) (one set.delete)))
  where
    end : (a : Right) (b : Bool) → triple_less (triple app id a) (triple app id Delete) ≡ true → list_all (triple_less (triple app id a)) (triple_if b (triple app id Delete)) ≡ true
    end a true h = grind arith
    end a false h = refl

    one : (b : Bool) → is_rising triple_less (triple_if b (triple app id Delete)) ≡ true
    one true = refl
    one false = refl
