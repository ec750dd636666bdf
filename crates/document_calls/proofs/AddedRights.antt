-- Rights that are added to an application in a document, and taken back.
use Rattle.std.proofs.Common.{◌≡◌, ℕ, ◌==◌, List, ◌++◌, Bool, true, false, not, ◌&&◌, ◌||◌, refl, sym, ap, ◌∙◌, arith}
use Rattle.std.proofs.lemmas.Bool.Decides.{nat_tests}
use Rattle.std.proofs.lemmas.List.Folds.{list_any-append}
use Rattle.portal_base.specs.Names.{is_same}
use Rattle.portal_base.specs.declared.names.doc_id.DocId.{DocId}
use Rattle.rights_rule.specs.Rights.{RightSet, is_no_right, minus, union}
use Rattle.portal_model.specs.declared.rights.Right.{Right}
use Rattle.portal_model.specs.declared.rights.Right.TheVariants.{Read, Write, GrantPermissions, Delete}
use Rattle.portal_model.specs.declared.state.Document.{Document}
use Rattle.portal_model.specs.declared.state.Triple.{Triple}
use Rattle.portal_model.specs.Rights.{add_rights, are_in_order, is_in, is_listed, same_triple, take_rights, triple_less, triples_of}
use Rattle.portal_model.specs.State.{app_has, bit_of, gives, held_of, same_right}
use Rattle.portal_model.proofs.FourTriples.{gives-of}
use Rattle.portal_model.proofs.RightsLaws.{ordered-add_rights, ordered-take_rights}
use Rattle.portal_model.proofs.RisingLists.{any-put_all, same_items}
use Rattle.portal_model.proofs.TripleOrder.{bits-apart, is_same-eq, is_same-refl, is_same-sym, nat-itself, nat_is, triples}
use Rattle.document_records.specs.Documents.{is_kept}
use Rattle.document_records.proofs.KeptDocuments.{kept_records}
use Rattle.document_calls.proofs.KeptRights.{any-take, same-held}

module _ (app : List ℕ) (id : DocId) (set : RightSet) (rights : List Triple) where
  pub has-add : (a : List ℕ) (m : ℕ) (right : Right) → app_has (add_rights app id set rights) a m right ≡ (((id.number == m && is_same app a) && is_in set right) || app_has rights a m right)
  has-add a m right =
      any-put_all triple_less same_triple triples (gives a m right) (triples_of app id set ++ rights)
      ∙ (list_any-append (gives a m right) (triples_of app id set) rights
      ∙ ap (λ (b : Bool). b || app_has rights a m right) (gives-of a m right app id set))

  own-add : (right : Right) → app_has (add_rights app id set rights) app id.number right ≡ (app_has rights app id.number right || is_in set right)
  own-add right = has-add app id.number right ∙ grind (arith, nat-itself id.number, is_same-refl app)

  pub held-add : held_of (add_rights app id set rights) app id.number ≡ union (held_of rights app id.number) set
  held-add = λ i. record { read = own-add Read i; write = own-add Write i; grant_permissions = own-add GrantPermissions i; delete = own-add Delete i }

listed-is : (a : List ℕ) (m : ℕ) (app : List ℕ) (number : ℕ) (set : RightSet) (right : Right) (t : Triple) → gives a m right t ≡ true → is_listed app number set t ≡ (is_same a app && ((m == number) && is_in set right))
listed-is a m app number set right t g =
    let e : is_same t.app a ≡ true = grind arith in
    let f : (t.id.number == m) ≡ true = grind arith in
    let h : same_right t.right right ≡ true = grind arith in
    let x : t.app ≡ a = is_same-eq t.app a e in
    let y : t.id.number ≡ m = nat_is t.id.number m f in
    let z : t.right ≡ right = bits-apart t.right right (nat_is (bit_of t.right) (bit_of right) h) in
    λ i. is_same (x i) app && ((y i == number) && is_in set (z i))

has-taken : (app : List ℕ) (number : ℕ) (set : RightSet) (rights : List Triple) (a : List ℕ) (m : ℕ) (right : Right) →
    app_has (take_rights app number set rights) a m right ≡ (app_has rights a m right && not (is_same a app && ((m == number) && is_in set right)))
has-taken app number set rights a m right = any-take (gives a m right) (is_listed app number set) (is_same a app && ((m == number) && is_in set right)) (listed-is a m app number set right) rights

in-minus : (a b : RightSet) (right : Right) → is_in (minus a b) right ≡ (is_in a right && not (is_in b right))
in-minus a b Read = refl
in-minus a b Write = refl
in-minus a b GrantPermissions = refl
in-minus a b Delete = refl

in-held : (rights : List Triple) (app : List ℕ) (number : ℕ) (right : Right) → is_in (held_of rights app number) right ≡ app_has rights app number right
in-held rights app number Read = refl
in-held rights app number Write = refl
in-held rights app number GrantPermissions = refl
in-held rights app number Delete = refl

-- what is held where the names and the numbers are the same
same-has : (rights : List Triple) (app a : List ℕ) (number m : ℕ) (right : Right) → (is_same a app && (m == number)) ≡ true → app_has rights a m right ≡ app_has rights app number right
same-has rights app a number m right h =
    let e : is_same a app ≡ true = grind arith in
    let f : (m == number) ≡ true = grind arith in
    λ i. app_has rights (is_same-eq a app e i) (nat_is m number f i) right

number-sym : (a b : ℕ) → (a == b) ≡ (b == a)
number-sym a b = grind (arith, nat_tests)

back : (b c s h held : Bool) → ((b && c) ≡ true → h ≡ held) → ((((c && b) && s) || h) && not (b && (c && (s && not held)))) ≡ h
back true true true true held f = let e : true ≡ held = f refl in grind arith
back true true true false held f = let e : false ≡ held = f refl in grind arith
back true true false true held f = refl
back true true false false held f = refl
back true false s true held f = refl
back true false s false held f = refl
back false true s true held f = refl
back false true s false held f = refl
back false false s true held f = refl
back false false s false held f = refl

module _ (app : List ℕ) (id : DocId) (set : RightSet) (rights : List Triple) (o : are_in_order rights ≡ true) where
  abbrev gained : RightSet
  gained = minus set (held_of rights app id.number)

  same-again : (a : List ℕ) (m : ℕ) (right : Right) → app_has (take_rights app id.number gained (add_rights app id set rights)) a m right ≡ app_has rights a m right
  same-again a m right =
      has-taken app id.number gained (add_rights app id set rights) a m right
      ∙ ((λ i. has-add app id set rights a m right i && not (is_same a app && ((m == id.number) && (in-minus set (held_of rights app id.number) right ∙ ap (λ (b : Bool). is_in set right && not b) (in-held rights app id.number right)) i)))
      ∙ ((λ i. (((number-sym id.number m i && is_same-sym app a i) && is_in set right) || app_has rights a m right) && not (is_same a app && ((m == id.number) && (is_in set right && not (app_has rights app id.number right)))))
      ∙ back (is_same a app) (m == id.number) (is_in set right) (app_has rights a m right) (app_has rights app id.number right) (same-has rights app a id.number m right)))

  -- what was new is taken back
  pub taken-back : take_rights app id.number gained (add_rights app id set rights) ≡ rights
  taken-back =
      same_items triple_less same_triple triples (take_rights app id.number gained (add_rights app id set rights)) rights
      (ordered-take_rights app id.number gained (add_rights app id set rights) (ordered-add_rights app id set rights)) o
      (λ k. same-again k.app k.id.number k.right)

  in-gained : (right : Right) → is_no_right gained ≡ true → is_in set right ≡ true → app_has rights app id.number right ≡ true
  in-gained Read h k = grind arith
  in-gained Write h k = grind arith
  in-gained GrantPermissions h k = grind arith
  in-gained Delete h k = grind arith

  held-already : (b c s h held : Bool) → ((b && c) ≡ true → h ≡ held) → (s ≡ true → held ≡ true) → (((c && b) && s) || h) ≡ h
  held-already true true true h held f g = let e : h ≡ held = f refl in let k : held ≡ true = g refl in grind arith
  held-already true true false h held f g = refl
  held-already true false s h held f g = refl
  held-already false true s h held f g = refl
  held-already false false s h held f g = refl

  -- nothing is new: all stay
  pub added-stays : is_no_right gained ≡ true → add_rights app id set rights ≡ rights
  added-stays h =
      same_items triple_less same_triple triples (add_rights app id set rights) rights (ordered-add_rights app id set rights) o
      (λ k. has-add app id set rights k.app k.id.number k.right
      ∙ ((λ i. ((number-sym id.number k.id.number i && is_same-sym app k.app i) && is_in set k.right) || app_has rights k.app k.id.number k.right)
      ∙ held-already (is_same k.app app) (k.id.number == id.number) (is_in set k.right) (app_has rights k.app k.id.number k.right) (app_has rights app id.number k.right)
      (same-has rights app k.app id.number k.id.number k.right) (in-gained k.right h)))

pub none-beyond : (a b : RightSet) → is_no_right (minus a (union b a)) ≡ true
none-beyond a b = grind arith

pub added-differs : (app : List ℕ) (id : DocId) (set : RightSet) (rights : List Triple) (documents : List Document) → is_kept documents id.number ≡ true → is_no_right (minus set (held_of rights app id.number)) ≡ false →
    kept_records (add_rights app id set rights) documents ≡ kept_records rights documents → ⊥
added-differs app id set rights documents k h e =
    let same : union (held_of rights app id.number) set ≡ held_of rights app id.number = sym (held-add app id set rights) ∙ same-held id.number app (add_rights app id set rights) rights documents k e in
    let none : is_no_right (minus set (held_of rights app id.number)) ≡ true = ap (λ (x : RightSet). is_no_right (minus set x)) (sym same) ∙ none-beyond set (held_of rights app id.number) in
    let no : true ≡ false = sym none ∙ h in
    cc

-- the same of what the code was given
pub taken-back-seen : (app : List ℕ) (id : DocId) (set : RightSet) (rights added new : List Triple) (gained held : RightSet) → are_in_order rights ≡ true → held ≡ held_of rights app id.number → gained ≡ minus set held →
    added ≡ add_rights app id set rights → new ≡ take_rights app id.number gained added → new ≡ rights
taken-back-seen app id set rights added new fresh held o h g a n =
    n ∙ ((λ i. take_rights app id.number ((g ∙ ap (minus set) h) i) (a i)) ∙ taken-back app id set rights o)
