-- Rights that are added and taken away: they stand in order, and what is true of all stays true of all.
use Rattle.std.proofs.Common.{◌≡◌, ℕ, List, [], ◌∷◌, ◌++◌, Bool, true, false, ◌&&◌, refl, sym, ap, ◌∙◌, arith}
use Rattle.std.specs.List.{list_all}
use Rattle.std.proofs.lemmas.List.Folds.{list_all-append}
use Rattle.portal_base.specs.declared.names.doc_id.DocId.{DocId}
use Rattle.rights_rule.specs.Rights.{RightSet, is_no_right}
use Rattle.portal_model.specs.declared.rights.Right.{Right}
use Rattle.portal_model.specs.declared.rights.Right.TheVariants.{Read, Write, GrantPermissions, Delete}
use Rattle.portal_model.specs.declared.state.Triple.{Triple}
use Rattle.portal_model.specs.Ordered.{put, put_all}
use Rattle.portal_model.specs.Rights.{add_rights, are_in_order, forget_document, same_triple, take_rights, triple, triple_if, triple_less, triples_of}
use Rattle.portal_model.proofs.DistinctItems.{list_all-filter}
use Rattle.portal_model.proofs.RisingLists.{put_all-rising, rising-filter, rising-put_all}
use Rattle.portal_model.proofs.TripleOrder.{triples}

-- ---- their order

pub ordered-add_rights : (app : List ℕ) (id : DocId) (set : RightSet) (rights : List Triple) → are_in_order (add_rights app id set rights) ≡ true
ordered-add_rights app id set rights = rising-put_all triple_less same_triple (λ (t : Triple). t) triples (triples_of app id set ++ rights)

none-of : (app : List ℕ) (id : DocId) (set : RightSet) → is_no_right set ≡ true → triples_of app id set ≡ []
none-of app id set h =
    let r : set.read ≡ false = grind arith in
    let w : set.write ≡ false = grind arith in
    let g : set.grant_permissions ≡ false = grind arith in
    let d : set.delete ≡ false = grind arith in
    rw (r, w, g, d) refl

-- where no right is added, nothing changes
pub none-added : (app : List ℕ) (id : DocId) (set : RightSet) (rights : List Triple) → is_no_right set ≡ true → are_in_order rights ≡ true → add_rights app id set rights ≡ rights
none-added app id set rights h k =
    ap (λ (ts : List Triple). put_all triple_less (ts ++ rights)) (none-of app id set h) ∙ put_all-rising triple_less same_triple (λ (t : Triple). t) triples rights k

pub ordered-take_rights : (app : List ℕ) (number : ℕ) (set : RightSet) (rights : List Triple) → are_in_order rights ≡ true → are_in_order (take_rights app number set rights) ≡ true
ordered-take_rights app number set rights h = rising-filter triple_less same_triple (λ (t : Triple). t) triples _ rights h

pub ordered-forget_document : (number : ℕ) (rights : List Triple) → are_in_order rights ≡ true → are_in_order (forget_document number rights) ≡ true
ordered-forget_document number rights h = rising-filter triple_less same_triple (λ (t : Triple). t) triples _ rights h

-- ---- what is true of all

module _ (p : Triple → Bool) where
  all-put : (t : Triple) (rights : List Triple) → list_all p (put triple_less t rights) ≡ (p t && list_all p rights)
  all-put t [] = refl
  all-put t (u ∷ us) = grind (arith, all-put t us, triples.total t u)

  pub all-put_all : (rights : List Triple) → list_all p (put_all triple_less rights) ≡ list_all p rights
  all-put_all [] = refl
  all-put_all (t ∷ ts) = all-put t (put_all triple_less ts) ∙ ap (λ (b : Bool). p t && b) (all-put_all ts)

  -- true of all exactly where it is true of those that are added, and was true of all
  pub all-added : (app : List ℕ) (id : DocId) (set : RightSet) (rights : List Triple) → list_all p (add_rights app id set rights) ≡ (list_all p (triples_of app id set) && list_all p rights)
  all-added app id set rights = all-put_all (triples_of app id set ++ rights) ∙ list_all-append p (triples_of app id set) rights

  all_both : (ts us : List Triple) → list_all p ts ≡ true → list_all p us ≡ true → list_all p (ts ++ us) ≡ true
  all_both ts us h k = list_all-append p ts us ∙ grind (arith, h, k)

  all_one : (t : Triple) (b : Bool) → p t ≡ true → list_all p (triple_if b t) ≡ true
  all_one t true h = grind (arith, h)
  all_one t false h = refl

  pub all_of : (app : List ℕ) (id : DocId) (set : RightSet) → ((right : Right) → p (triple app id right) ≡ true) → list_all p (triples_of app id set) ≡ true
  all_of app id set f =
      all_both (triple_if set.read (triple app id Read)) _ (all_one _ set.read (f Read))
      (all_both (triple_if set.write (triple app id Write)) _ (all_one _ set.write (f Write))
      (all_both (triple_if set.grant_permissions (triple app id GrantPermissions)) _ (all_one _ set.grant_permissions (f GrantPermissions)) (all_one _ set.delete (f Delete))))

  pub all-add_rights : (app : List ℕ) (id : DocId) (set : RightSet) (rights : List Triple) → ((right : Right) → p (triple app id right) ≡ true) → list_all p rights ≡ true → list_all p (add_rights app id set rights) ≡ true
  all-add_rights app id set rights f l = all-put_all (triples_of app id set ++ rights) ∙ all_both (triples_of app id set) rights (all_of app id set f) l

  pub all-take_rights : (app : List ℕ) (number : ℕ) (set : RightSet) (rights : List Triple) → list_all p rights ≡ true → list_all p (take_rights app number set rights) ≡ true
  all-take_rights app number set rights l = list_all-filter p _ rights l

-- where some right of an application is among those of which this is true, its name has it
some_named : (p : List ℕ → Bool) (app : List ℕ) (id : DocId) (r w g d : Bool) → is_no_right (record { read = r; write = w; grant_permissions = g; delete = d }) ≡ false →
    list_all (λ (t : Triple). p t.app) (triples_of app id (record { read = r; write = w; grant_permissions = g; delete = d })) ≡ true → p app ≡ true
some_named p app id true w g d n h = grind arith
some_named p app id false true g d n h = grind arith
some_named p app id false false true d n h = grind arith
some_named p app id false false false true n h = grind arith
some_named p app id false false false false n h = cc

pub named-added : (p : List ℕ → Bool) (app : List ℕ) (id : DocId) (set : RightSet) (rights : List Triple) → is_no_right set ≡ false →
    list_all (λ (t : Triple). p t.app) (add_rights app id set rights) ≡ true → p app ≡ true
named-added p app id set rights n h =
    let both : (list_all (λ (t : Triple). p t.app) (triples_of app id set) && list_all (λ (t : Triple). p t.app) rights) ≡ true = sym (all-added (λ (t : Triple). p t.app) app id set rights) ∙ h in
    some_named p app id set.read set.write set.grant_permissions set.delete n (grind arith)
