-- The documents in which an application has a right, as the rights tell them.
use Rattle.std.proofs.Common.{◌≡◌, ℕ, ◌==◌, List, [], ◌∷◌, ◌++◌, map, Bool, true, false, not, ◌||◌, ◌&&◌, cond, refl, sym, ap, subst, ◌∙◌, arith, nat_lt}
use Rattle.std.specs.BTreeMap.{is_at}
use Rattle.std.specs.List.{AllByRecursion, filter, list_all, list_any}
use Rattle.std.specs.List.Sorted.{IsStrictlySortedBy}
use Rattle.std.specs.Ordering.{nat_cmp}
use Rattle.std.specs.declared.cmp.Ordering.TheVariants.{Less}
use Rattle.std.proofs.lemmas.Bool.Decides.{nat_tests}
use Rattle.std.proofs.lemmas.List.Folds.{list_any-append}
use Rattle.portal_base.specs.Names.{is_same}
use Rattle.portal_base.specs.declared.names.doc_id.DocId.{DocId}
use Rattle.rights_rule.specs.Rights.{RightSet, holds_any}
use Rattle.portal_model.specs.declared.rights.Right.{Right}
use Rattle.portal_model.specs.declared.rights.Right.TheVariants.{Read, Write, GrantPermissions, Delete}
use Rattle.portal_model.specs.declared.state.Triple.{Triple}
use Rattle.portal_model.specs.Opening.{id_of}
use Rattle.portal_model.specs.Ordered.{is_rising}
use Rattle.portal_model.specs.Rights.{add_rights, forget_document, is_listed, same_triple, take_rights, triple_less, triples_of}
use Rattle.portal_model.specs.State.{app_has, held_of, same_right}
use Rattle.portal_model.proofs.FourTriples.{any-of}
use Rattle.portal_model.proofs.RisingLists.{Order, any-put_all, rising-put_all, same_items}
use Rattle.portal_model.proofs.TripleOrder.{is_same-eq, is_same-sym, nat_is, triples}
use Rattle.document_records.specs.GrantIndex.{documents_of, holds, id_less, is_held, is_this}

-- ---- some right is one of the four

any-right : (right : Right) (b r w g d : Bool) →
    (((b && same_right right Read) || r) || (((b && same_right right Write) || w)
    || (((b && same_right right GrantPermissions) || g) || ((b && same_right right Delete) || d))))
    ≡ (b || (r || (w || (g || d))))
any-right Read b r w g d = grind arith
any-right Write b r w g d = grind arith
any-right GrantPermissions b r w g d = grind arith
any-right Delete b r w g d = grind arith

pub holds-any : (rights : List Triple) (app : List ℕ) (n : ℕ) →
    holds_any (held_of rights app n) ≡ holds rights app n
holds-any [] app n = refl
holds-any (t ∷ ts) app n =
    (λ i. (turned (is_same t.app app) (t.id.number == n) (same_right t.right Read) i
    || app_has ts app n Read)
    || ((turned (is_same t.app app) (t.id.number == n) (same_right t.right Write) i
    || app_has ts app n Write)
    || ((turned (is_same t.app app) (t.id.number == n) (same_right t.right GrantPermissions) i
    || app_has ts app n GrantPermissions)
    || (turned (is_same t.app app) (t.id.number == n) (same_right t.right Delete) i
    || app_has ts app n Delete))))
    ∙ (any-right t.right (is_held app n t) (app_has ts app n Read) (app_has ts app n Write)
    (app_has ts app n GrantPermissions) (app_has ts app n Delete)
    ∙ ap (λ (b : Bool). is_held app n t || b) (holds-any ts app n))
  where
    turned : (a b c : Bool) → (a && (b && c)) ≡ ((b && a) && c)
    turned true true c = refl
    turned true false c = refl
    turned false true c = refl
    turned false false c = refl

-- ---- the documents, by identifier

abbrev pub same_id : DocId → DocId → Bool
same_id a b = a.number == b.number

id-eq : (a b : DocId) → same_id a b ≡ true → a ≡ b
id-eq a b h = λ i. record { number = nat_is a.number b.number h i }

id-itself : (a : DocId) → same_id a a ≡ true
id-itself a = grind (arith, nat_tests)

id-irreflexive : (a : DocId) → id_less a a ≡ false
id-irreflexive a = grind (arith, nat_tests)

id-numbers : (a b : DocId) → id_less a b ≡ false → id_less b a ≡ false → same_id a b ≡ true
id-numbers a b h l = grind (arith, nat_tests)

id-through : (a b c : DocId) → id_less a b ≡ true → id_less b c ≡ true → id_less a c ≡ true
id-through a b c h l = grind (arith, nat_tests)

pub ids : Order id_less same_id
ids = record {
  eq = id-eq;
  itself = id-itself;
  irreflexive = id-irreflexive;
  total = λ a b h l. id-eq a b (id-numbers a b h l);
  through = id-through;
}

pub rising-documents : (rights : List Triple) (app : List ℕ) →
    is_rising id_less (documents_of rights app) ≡ true
rising-documents rights app = rising-put_all id_less same_id (λ (x : DocId). x) ids
    (map (λ (t : Triple). t.id) (filter (λ t. is_same t.app app) rights))

-- an application has a right in these documents, and in no others
pub any-documents : (rights : List Triple) (app : List ℕ) (n : ℕ) →
    list_any (λ x. x.number == n) (documents_of rights app) ≡ holds rights app n
any-documents rights app n =
    any-put_all id_less same_id ids (λ (x : DocId). x.number == n)
    (map (λ (t : Triple). t.id) (filter (λ t. is_same t.app app) rights)) ∙ among rights
  where
    among : (ts : List Triple) → list_any (λ (x : DocId). x.number == n)
        (map (λ (t : Triple). t.id) (filter (λ t. is_same t.app app) ts)) ≡ holds ts app n
    among [] = refl
    among (t ∷ ts) = grind (arith, among ts)

-- numbers that rise are those of the documents, where they are the same numbers
rising-ids : (ns : List ℕ) → IsStrictlySortedBy nat_cmp ns → is_rising id_less (map id_of ns) ≡ true
unfolding IsStrictlySortedBy
rising-ids [] s = refl
rising-ids (n ∷ ns) s = λ i. behind n ns s.0 i && rising-ids ns s.1 i
  where
    less : (n m : ℕ) → nat_cmp n m ≡ Less → nat_lt n m ≡ true
    less n m h = grind (arith, nat_tests)

    behind : (n : ℕ) (ms : List ℕ) → AllByRecursion (λ m. nat_cmp n m ≡ Less) ms →
        list_all (id_less (id_of n)) (map id_of ms) ≡ true
    behind n [] h = refl
    behind n (m ∷ ms) h = λ i. less n m h.0 i && behind n ms h.1 i

pub ids-are : (rights : List Triple) (app : List ℕ) (ns : List ℕ) → IsStrictlySortedBy nat_cmp ns →
    ((n : ℕ) → list_any (is_at (nat_cmp n)) ns ≡ holds rights app n) →
    map id_of ns ≡ documents_of rights app
ids-are rights app ns s h =
    same_items id_less same_id ids (map id_of ns) (documents_of rights app) (rising-ids ns s)
    (rising-documents rights app)
    (λ k. found k.number ns ∙ (h k.number ∙ sym (any-documents rights app k.number)))
  where
    at : (n m : ℕ) → (m == n) ≡ is_at (nat_cmp n) m
    at n m = grind (arith, nat_tests)

    found : (n : ℕ) (ms : List ℕ) →
        list_any (λ (x : DocId). x.number == n) (map id_of ms) ≡ list_any (is_at (nat_cmp n)) ms
    found n [] = refl
    found n (m ∷ ms) = λ i. at n m i || found n ms i

pub no-ids : (rights : List Triple) (app : List ℕ) → ((n : ℕ) → holds rights app n ≡ false) →
    [] ≡ documents_of rights app
unfolding IsStrictlySortedBy
no-ids rights app h = ids-are rights app [] tt (λ n. sym (h n))

-- what holds at an application and a number holds where they are the same
pub these : (app : List ℕ) (number : ℕ) (other : List ℕ) (n : ℕ) →
    is_this app number other n ≡ true → (P : List ℕ → ℕ → Type 0) → P app number → P other n
these app number other n e P h =
    let one : (number == n) ≡ true = grind arith in
    let two : is_same app other ≡ true = grind arith in
    subst (λ (name : List ℕ). P name n) (is_same-eq app other two)
    (subst (P app) (nat_is number n one) h)

-- ---- what is held once rights have changed

pub any-set : (app : List ℕ) (n : ℕ) (name : List ℕ) (id : DocId) (set : RightSet) →
    list_any (is_held app n) (triples_of name id set)
    ≡ (is_this name id.number app n && holds_any set)
any-set app n name id set = any-of (is_held app n) name id set
    ∙ four (is_this name id.number app n) set.read set.write set.grant_permissions set.delete
  where
    four : (b r w g d : Bool) → ((r && b) || ((w && b) || ((g && b) || (d && b))))
        ≡ (b && (r || (w || (g || d))))
    four b r w g d = grind arith

pub holds-added : (rights : List Triple) (app : List ℕ) (id : DocId) (set : RightSet)
    (other : List ℕ) (n : ℕ) → holds (add_rights app id set rights) other n
    ≡ ((is_this app id.number other n && holds_any set) || holds rights other n)
holds-added rights app id set other n =
    any-put_all triple_less same_triple triples (is_held other n) (triples_of app id set ++ rights)
    ∙ (list_any-append (is_held other n) (triples_of app id set) rights
    ∙ ap (λ (b : Bool). b || holds rights other n) (any-set other n app id set))

-- a filter that takes no triple of an application and document
holds-apart : (q : Triple → Bool) (app : List ℕ) (n : ℕ) →
    ((t : Triple) → is_held app n t ≡ true → q t ≡ true) → (ts : List Triple) →
    holds (filter q ts) app n ≡ holds ts app n
holds-apart q app n h [] = refl
holds-apart q app n h (t ∷ ts) = step (is_held app n t) (q t) refl refl (holds-apart q app n h ts)
  where
    step : (a b : Bool) → is_held app n t ≡ a → q t ≡ b →
        holds (filter q ts) app n ≡ holds ts app n →
        list_any (is_held app n) (cond b (t ∷ filter q ts) (filter q ts)) ≡ (a || holds ts app n)
    step a true e f more = λ i. e i || more i
    step true false e f more = let no : false ≡ true = sym f ∙ h t e in cc
    step false false e f more = more

-- a filter that takes them all
holds-none : (q : Triple → Bool) (app : List ℕ) (n : ℕ) →
    ((t : Triple) → is_held app n t ≡ true → q t ≡ false) → (ts : List Triple) →
    holds (filter q ts) app n ≡ false
holds-none q app n h [] = refl
holds-none q app n h (t ∷ ts) = step (is_held app n t) (q t) refl refl (holds-none q app n h ts)
  where
    step : (a b : Bool) → is_held app n t ≡ a → q t ≡ b → holds (filter q ts) app n ≡ false →
        list_any (is_held app n) (cond b (t ∷ filter q ts) (filter q ts)) ≡ false
    step true true e f more = let no : true ≡ false = sym f ∙ h t e in cc
    step false true e f more = λ i. e i || more i
    step a false e f more = more

pub holds-some : (q : Triple → Bool) (app : List ℕ) (n : ℕ) (ts : List Triple) →
    holds (filter q ts) app n ≡ true → holds ts app n ≡ true
holds-some q app n [] h = h
holds-some q app n (t ∷ ts) h = grind (arith, holds-some q app n ts)

module _ (app : List ℕ) (number : ℕ) (set : RightSet) where
  -- what is taken from one application in one document is taken nowhere else
  elsewhere : (other : List ℕ) (n : ℕ) → is_this app number other n ≡ false → (t : Triple) →
      is_held other n t ≡ true → not (is_listed app number set t) ≡ true
  elsewhere other n e t h = grind (arith, nat_tests, is_same-eq t.app other, is_same-sym other app)

  pub holds-left : (ts : List Triple) (there : Bool) →
      holds (take_rights app number set ts) app number ≡ there → (other : List ℕ) (n : ℕ) →
      holds (take_rights app number set ts) other n
      ≡ cond (is_this app number other n) there (holds ts other n)
  holds-left ts there h other n = step (is_this app number other n) refl
    where
      step : (b : Bool) → is_this app number other n ≡ b →
          holds (take_rights app number set ts) other n ≡ cond b there (holds ts other n)
      step true e = these app number other n e
          (λ name m. holds (take_rights app number set ts) name m ≡ there) h
      step false e = holds-apart (λ t. not (is_listed app number set t)) other n
          (elsewhere other n e) ts

pub holds-forgotten : (number : ℕ) (ts : List Triple) (other : List ℕ) (n : ℕ) →
    holds (forget_document number ts) other n ≡ cond (number == n) false (holds ts other n)
holds-forgotten number ts other n = step (number == n) refl
  where
    step : (b : Bool) → (number == n) ≡ b →
        holds (forget_document number ts) other n ≡ cond b false (holds ts other n)
    step true e = holds-none (λ t. not (t.id.number == number)) other n
        (λ t h. grind (arith, nat_tests)) ts
    step false e = holds-apart (λ t. not (t.id.number == number)) other n
        (λ t h. grind (arith, nat_tests)) ts
