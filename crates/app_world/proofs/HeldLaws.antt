-- The rights that an application holds after some were added or taken, or all in a document went.
use Rattle.std.proofs.Common.{◌≡◌, ℕ, ◌==◌, List, [], ◌∷◌, ◌++◌, Bool, true, false, not, ◌&&◌, ◌||◌, cond, refl, sym, ap, ◌∙◌, arith}
use Rattle.std.specs.List.{filter, list_any}
use Rattle.std.proofs.lemmas.Bool.Decides.{nat_tests}
use Rattle.std.proofs.lemmas.List.Folds.{list_any-append}
use Rattle.portal_base.specs.Names.{is_same}
use Rattle.portal_base.specs.declared.names.doc_id.DocId.{DocId}
use Rattle.rights_rule.specs.Rights.{RightSet, contains, holds_any, minus, union}
use Rattle.portal_model.specs.declared.rights.Right.{Right}
use Rattle.portal_model.specs.declared.rights.Right.TheVariants.{Read, Write, GrantPermissions, Delete}
use Rattle.portal_model.specs.declared.state.Triple.{Triple}
use Rattle.portal_model.specs.State.{app_has, bit_of, gives, held_of, same_right}
use Rattle.portal_model.specs.Rights.{add_rights, forget_document, is_in, is_listed, take_rights, triple_less, triples_of}
use Rattle.portal_model.proofs.FourTriples.{gives-of}
use Rattle.portal_model.proofs.RisingLists.{any-put_all}
use Rattle.app_world.specs.Revoke.{common}
use Rattle.portal_model.proofs.TripleOrder.{bits-apart, is_same-eq, nat_is, triples}

pub same-rights : (a b : RightSet) → a.read ≡ b.read → a.write ≡ b.write → a.grant_permissions ≡ b.grant_permissions → a.delete ≡ b.delete → a ≡ b
same-rights a b r w g d = λ i. record { read = r i; write = w i; grant_permissions = g i; delete = d i }

-- ---- added

module _ (app : List ℕ) (n : ℕ) (named : List ℕ) (id : DocId) (set : RightSet) (rights : List Triple) where
  abbrev is_named : Bool
  is_named = id.number == n && is_same named app

  or-in : (b x m : Bool) → ((b && x) || m) ≡ cond b (m || x) m
  or-in b x m = grind arith

  has-add : (right : Right) → app_has (add_rights named id set rights) app n right ≡ cond is_named (app_has rights app n right || is_in set right) (app_has rights app n right)
  has-add right =
      any-put_all triple_less _ triples (gives app n right) (triples_of named id set ++ rights)
      ∙ (list_any-append (gives app n right) (triples_of named id set) rights
      ∙ (ap (λ (b : Bool). b || app_has rights app n right) (gives-of app n right named id set) ∙ or-in is_named (is_in set right) (app_has rights app n right)))

  held-added : (b : Bool) (k m : RightSet) → k.read ≡ cond b (m.read || set.read) m.read → k.write ≡ cond b (m.write || set.write) m.write →
      k.grant_permissions ≡ cond b (m.grant_permissions || set.grant_permissions) m.grant_permissions → k.delete ≡ cond b (m.delete || set.delete) m.delete → k ≡ cond b (union m set) m
  held-added true k m r w g d = same-rights k (union m set) r w g d
  held-added false k m r w g d = same-rights k m r w g d

  pub held-add : held_of (add_rights named id set rights) app n ≡ cond (id.number == n && is_same named app) (union (held_of rights app n) set) (held_of rights app n)
  held-add = held-added is_named (held_of (add_rights named id set rights) app n) (held_of rights app n) (has-add Read) (has-add Write) (has-add GrantPermissions) (has-add Delete)

-- ---- taken

any-take : (p q : Triple → Bool) (w : Bool) → ((t : Triple) → p t ≡ true → q t ≡ w) → (rights : List Triple) → list_any p (filter (λ t. not (q t)) rights) ≡ (list_any p rights && not w)
any-take p q w h [] = refl
any-take p q w h (t ∷ ts) = grind (arith, any-take p q w h ts, h t)

module _ (app : List ℕ) (n : ℕ) (named : List ℕ) (number : ℕ) (set : RightSet) (rights : List Triple) where
  abbrev is_meant : Bool
  is_meant = n == number && is_same app named

  listed-is : (right : Right) (t : Triple) → gives app n right t ≡ true → is_listed named number set t ≡ (is_same app named && ((n == number) && is_in set right))
  listed-is right t g =
      let a : is_same t.app app ≡ true = grind arith in
      let b : (t.id.number == n) ≡ true = grind arith in
      let c : same_right t.right right ≡ true = grind arith in
      let x : t.app ≡ app = is_same-eq t.app app a in
      let y : t.id.number ≡ n = nat_is t.id.number n b in
      let z : t.right ≡ right = bits-apart t.right right (nat_is (bit_of t.right) (bit_of right) c) in
      λ i. is_same (x i) named && ((y i == number) && is_in set (z i))

  and-not : (m s k x : Bool) → (m && not (s && (k && x))) ≡ cond (k && s) (m && not x) m
  and-not m s k x = grind arith

  has-take : (right : Right) → app_has (take_rights named number set rights) app n right ≡ cond is_meant (app_has rights app n right && not (is_in set right)) (app_has rights app n right)
  has-take right =
      any-take (gives app n right) (is_listed named number set) (is_same app named && ((n == number) && is_in set right)) (listed-is right) rights
      ∙ and-not (app_has rights app n right) (is_same app named) (n == number) (is_in set right)

  held-taken : (b : Bool) (k m : RightSet) → k.read ≡ cond b (m.read && not set.read) m.read → k.write ≡ cond b (m.write && not set.write) m.write →
      k.grant_permissions ≡ cond b (m.grant_permissions && not set.grant_permissions) m.grant_permissions → k.delete ≡ cond b (m.delete && not set.delete) m.delete → k ≡ cond b (minus m set) m
  held-taken true k m r w g d = same-rights k (minus m set) r w g d
  held-taken false k m r w g d = same-rights k m r w g d

  pub held-take : held_of (take_rights named number set rights) app n ≡ cond (n == number && is_same app named) (minus (held_of rights app n) set) (held_of rights app n)
  held-take = held-taken is_meant (held_of (take_rights named number set rights) app n) (held_of rights app n) (has-take Read) (has-take Write) (has-take GrantPermissions) (has-take Delete)

-- ---- all in a document gone

any-filter-else : (p q : Triple → Bool) → ((t : Triple) → p t ≡ true → q t ≡ true) → (rights : List Triple) → list_any p (filter q rights) ≡ list_any p rights
any-filter-else p q h [] = refl
any-filter-else p q h (t ∷ ts) = grind (arith, any-filter-else p q h ts, h t)

else-kept : (app : List ℕ) (n number : ℕ) (right : Right) → (n == number) ≡ false → (t : Triple) → gives app n right t ≡ true → not (t.id.number == number) ≡ true
else-kept app n number right e t g = grind (arith, nat_tests)

pub held-forget : (app : List ℕ) (n number : ℕ) (rights : List Triple) → (n == number) ≡ false → held_of (forget_document number rights) app n ≡ held_of rights app n
held-forget app n number rights e =
    let same : (right : Right) → app_has (forget_document number rights) app n right ≡ app_has rights app n right =
    λ right. any-filter-else (gives app n right) (λ (t : Triple). not (t.id.number == number)) (else-kept app n number right e) rights in
    same-rights (held_of (forget_document number rights) app n) (held_of rights app n) (same Read) (same Write) (same GrantPermissions) (same Delete)

-- ---- rights as sets of four

or-new : (m h : Bool) → (m || (h && not m)) ≡ (m || h)
or-new m h = grind arith

-- what is new of a set adds as much as the set
pub union-new : (m set : RightSet) → union m (minus set m) ≡ union m set
union-new m set = same-rights (union m (minus set m)) (union m set) (or-new m.read set.read) (or-new m.write set.write) (or-new m.grant_permissions set.grant_permissions) (or-new m.delete set.delete)

pub union-nothing : (m more : RightSet) → holds_any more ≡ false → union m more ≡ m
union-nothing m more e = same-rights (union m more) m (grind arith) (grind arith) (grind arith) (grind arith)

pub nothing-union : (m more : RightSet) → holds_any m ≡ false → union m more ≡ more
nothing-union m more e = same-rights (union m more) more (grind arith) (grind arith) (grind arith) (grind arith)

not-both : (m h : Bool) → (m && not (h && m)) ≡ (m && not h)
not-both m h = grind arith

pub minus-nothing : (m less : RightSet) → holds_any less ≡ false → minus m less ≡ m
minus-nothing m less e = same-rights (minus m less) m (grind arith) (grind arith) (grind arith) (grind arith)

pub nothing-minus : (m less : RightSet) → holds_any m ≡ false → holds_any (minus m less) ≡ false
nothing-minus m less e = grind arith

-- to take what is in both sets is to take the set
pub minus-common : (m set : RightSet) → minus m set ≡ minus m (common set m)
minus-common m set =
    same-rights (minus m set) (minus m (common set m))
    (sym (not-both m.read set.read)) (sym (not-both m.write set.write)) (sym (not-both m.grant_permissions set.grant_permissions)) (sym (not-both m.delete set.delete))

-- a set adds nothing to one that has it
pub union-covered : (m set : RightSet) → contains m set ≡ true → union m set ≡ m
union-covered m set e = same-rights (union m set) m (grind arith) (grind arith) (grind arith) (grind arith)
