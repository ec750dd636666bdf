-- The files of an Add: what they are to an application that adds them, and to another.
use Rattle.std.proofs.Common.{◌≡◌, ℕ, ◌==◌, nat_eq, List, [], ◌∷◌, ◌++◌, fold, map, Bool, true, false, ◌||◌, cond, Option, Some, None, refl, sym, ap, ◌∙◌, subst, arith}
use Rattle.std.specs.List.{find, list_any, list_all, IsDistinct, AllByRecursion}
use Rattle.std.specs.Option.{option_map}
use Rattle.std.proofs.lemmas.Bool.Decides.{nat_tests}
use Rattle.std.proofs.lemmas.Cmp.{nat_eq_equiv}
use Rattle.std.proofs.lemmas.List.{map-append}
use Rattle.std.proofs.lemmas.Map.Keys.{IsDistinct-push}
use Rattle.portal_base.specs.Names.{is_same}
use Rattle.portal_base.specs.declared.names.doc_id.DocId.{DocId}
use Rattle.portal_base.specs.declared.who.Who.{Who}
use Rattle.rights_rule.specs.Rights.{RightSet, contains, holds_any, rights_named, union}
use Rattle.portal_model.specs.declared.request.AddRequest.{AddRequest}
use Rattle.portal_model.specs.declared.rights.Right.{Right}
use Rattle.portal_model.specs.declared.rights.Right.TheVariants.{Read, Write, GrantPermissions, Delete}
use Rattle.portal_model.specs.declared.state.Document.{Document}
use Rattle.portal_model.specs.declared.state.Triple.{Triple}
use Rattle.portal_model.specs.Add.{Added, add_file, adding_rights, caller_rights, first_number, new_document, use_document, used_again, with_new_document, with_rights_of}
use Rattle.portal_model.specs.AddArguments.{exports, is_left_out, makes_strict, names_nobody, persists, reuses}
use Rattle.portal_model.specs.Documents.{id_of_document, same_flag, serves}
use Rattle.portal_model.specs.Grant.{given_rights}
use Rattle.portal_model.specs.State.{State, app_has, document_of, gives, held_in, held_of, is_app}
use Rattle.portal_model.specs.Valid.{Valid, is_placed}
use Rattle.portal_model.proofs.ListLookups.{found_passes, is_same-eq, nat_is}
use Rattle.app_world.specs.Add.{document_used, file_touch, files_touch, names_app}
use Rattle.app_world.specs.Effect.{Effect, Gained, apply, apply_all}
use Rattle.app_world.specs.Grant.{gained_in}
use Rattle.app_world.specs.View.{AppView, holding_at, view}
use Rattle.app_world.proofs.UseLaws.{Joins, joined-gained, joined-same, joined-touched, joins-again, joins-new, rights-other, rights-own}

-- ---- what rights leave

-- rights that are given change nothing but rights and applications
module _ {X : Type 0} (f : State → X) (h : (s : State) (rights : List Triple) (apps : List (List ℕ)) → f (record s { rights = rights; applications = apps }) ≡ f s) where
  listed-keeps : (a : AddRequest) (id : DocId) (s : State) (b : Bool) → f (cond b s (given_rights a.app id (rights_named a.names) s)) ≡ f s
  listed-keeps a id s true = refl
  listed-keeps a id s false = h s _ _

  caller-keeps : (who : Who) (a : AddRequest) (id : DocId) (s : State) → f (caller_rights who a id s) ≡ f s
  caller-keeps Who.Host a id s = refl
  caller-keeps (Who.App app) a id s = h s _ _

  pub rights-keep : (who : Who) (a : AddRequest) (id : DocId) (s : State) → f (with_rights_of who a id s) ≡ f s
  rights-keep who a id s = listed-keeps a id (caller_rights who a id s) (names_nobody a) ∙ caller-keeps who a id s

-- ---- a document that is used again

pub record Again (documents : List Document) (a : AddRequest) (path : List ℕ) (id : DocId) : Type 0 where
  pub document : Document
  pub is_first : find (serves path (persists a) (makes_strict a) (exports a)) documents ≡ Some document
  pub id_is : document.id ≡ id
  pub reuse : reuses a ≡ true

again-by : (documents : List Document) (a : AddRequest) (path : List ℕ) (id : DocId) (b : Bool) (o : Option Document) → reuses a ≡ b → find (serves path (persists a) (makes_strict a) (exports a)) documents ≡ o →
    cond b (option_map id_of_document o) None ≡ Some id → Again documents a path id
again-by documents a path id true None e f g = cc
again-by documents a path id true (Some d) e f g = record { document = d; is_first = f; id_is = cc; reuse = e }
again-by documents a path id false o e f g = cc

pub again-is : (documents : List Document) (a : AddRequest) (path : List ℕ) (id : DocId) → used_again documents a path ≡ Some id → Again documents a path id
again-is documents a path id e = again-by documents a path id (reuses a) (find (serves path (persists a) (makes_strict a) (exports a)) documents) refl refl e

same_flag-is : (a b : Bool) → same_flag a b ≡ true → a ≡ b
same_flag-is true b e = sym e
same_flag-is false true e = cc
same_flag-is false false e = refl

-- a document that serves is as a new one of its number
serves-new : (a : AddRequest) (path : List ℕ) (d : Document) → serves path (persists a) (makes_strict a) (exports a) d ≡ true → reuses a ≡ true → new_document a d.id path ≡ d
serves-new a path d e r =
    let p : is_same d.path path ≡ true = grind arith in
    let f : same_flag d.persistent (persists a) ≡ true = grind arith in
    let g : same_flag d.strict (makes_strict a) ≡ true = grind arith in
    let k : same_flag d.folder (exports a) ≡ true = grind arith in
    let u : d.reusable ≡ true = grind arith in
    λ i. record { id = d.id; path = sym (is_same-eq d.path path p) i; persistent = sym (same_flag-is d.persistent (persists a) f) i; reusable = (r ∙ sym u) i; strict = sym (same_flag-is d.strict (makes_strict a) g) i; folder = sym (same_flag-is d.folder (exports a) k) i }

apart_number : (p : Document → Bool) (m : ℕ) (d : Document) (ds : List Document) → AllByRecursion (λ n. nat_eq m n ≡ false) (map (λ (x : Document). x.id.number) ds) → find p ds ≡ Some d → (m == d.id.number) ≡ false
apart_number p m d [] h e = cc
apart_number p m d (x ∷ xs) h e = by_head (p x) e h.0 (apart_number p m d xs h.1)
  where
    by_head : (b : Bool) → cond b (Some x) (find p xs) ≡ Some d → nat_eq m x.id.number ≡ false → (find p xs ≡ Some d → (m == d.id.number) ≡ false) → (m == d.id.number) ≡ false
    by_head true f g more = let same : x ≡ d = cc in ap (λ (y : Document). m == y.id.number) (sym same) ∙ g
    by_head false f g more = more f

first-live : (p : Document → Bool) (d : Document) (x : Document) (xs : List Document) (b : Bool) → p x ≡ b → cond b (Some x) (find p xs) ≡ Some d → AllByRecursion (λ n. nat_eq x.id.number n ≡ false) (map (λ (y : Document). y.id.number) xs) →
    (find p xs ≡ Some d → document_of xs d.id.number ≡ Some d) → document_of (x ∷ xs) d.id.number ≡ Some d
first-live p d x xs true e f h more =
    let same : x ≡ d = cc in
    let own : (x.id.number == d.id.number) ≡ true = grind (arith, nat_tests) in
    ap (λ (b : Bool). cond b (Some x) (document_of xs d.id.number)) own ∙ f
first-live p d x xs false e f h more =
    ap (λ (b : Bool). cond b (Some x) (document_of xs d.id.number)) (apart_number p x.id.number d xs h f) ∙ more f

pub found-live : (p : Document → Bool) (d : Document) (documents : List Document) → IsDistinct nat_eq (map (λ (x : Document). x.id.number) documents) → find p documents ≡ Some d → document_of documents d.id.number ≡ Some d
unfolding IsDistinct
found-live p d [] h e = cc
found-live p d (x ∷ xs) h e = first-live p d x xs (p x) refl e h.0 (λ f. found-live p d xs h.1 f)

-- ---- what is true while files are added

pub record Facts (app : List ℕ) (s : State) : Type 0 where
  -- live numbers differ, and the application has no right in a document that isn't live
  pub differ : IsDistinct nat_eq (map (λ d. d.id.number) s.documents)
  pub unheld : (n : ℕ) → document_of s.documents n ≡ None → holds_any (held_of s.rights app n) ≡ false

module _ (s : State) (app : List ℕ) (number : ℕ) (right : Right) (dead : document_of s.documents number ≡ None) where
  not_given : (t : Triple) (b : Bool) → gives app number right t ≡ b → is_placed s t ≡ true → b ≡ false
  not_given t true e p =
      let n : (t.id.number == number) ≡ true = grind arith in
      let l : document_of s.documents t.id.number ≡ None = ap (document_of s.documents) (nat_is t.id.number number n) ∙ dead in
      grind arith
  not_given t false e p = refl

  none_given : (rights : List Triple) → list_all (is_placed s) rights ≡ true → app_has rights app number right ≡ false
  none_given [] h = refl
  none_given (t ∷ ts) h = grind (arith, none_given ts, not_given t (gives app number right t) refl)

pub valid-facts : (app : List ℕ) (s : State) → Valid s → Facts app s
valid-facts app s v = record {
  differ = v.numbers_differ;
  unheld = λ n e. λ i. none_given s app n Read e s.rights v.rights_placed i || (none_given s app n Write e s.rights v.rights_placed i
      || (none_given s app n GrantPermissions e s.rights v.rights_placed i || none_given s app n Delete e s.rights v.rights_placed i));
}

turned : (a b : ℕ) → (a == b) ≡ false → nat_eq b a ≡ false
turned a b f = grind (arith, nat_tests)

none_first : (n m : ℕ) (d : Document) (o : Option Document) (b more : Bool) → (m == n) ≡ b → cond b (Some d) o ≡ None → (o ≡ None → more ≡ false) → (nat_eq n m || more) ≡ false
none_first n m d o true more f g h = cc
none_first n m d o false more f g h = ap (λ (x : Bool). x || more) (turned m n f) ∙ h g

none_of : (n : ℕ) (ds : List Document) → document_of ds n ≡ None → list_any (nat_eq n) (map (λ (d : Document). d.id.number) ds) ≡ false
none_of n [] e = refl
none_of n (d ∷ ds) e = none_first n d.id.number d (document_of ds n) (d.id.number == n) (list_any (nat_eq n) (map (λ (x : Document). x.id.number) ds)) refl e (none_of n ds)

differ-more : (ds : List Document) (d : Document) → IsDistinct nat_eq (map (λ (x : Document). x.id.number) ds) → document_of ds d.id.number ≡ None → IsDistinct nat_eq (map (λ (x : Document). x.id.number) (ds ++ d ∷ []))
differ-more ds d h e =
    subst (IsDistinct nat_eq) (sym (map-append (λ (x : Document). x.id.number) ds (d ∷ []))) (IsDistinct-push nat_eq_equiv (map (λ (x : Document). x.id.number) ds) d.id.number h (none_of d.id.number ds e))

-- ---- one document that is used, in the state

module _ (app : List ℕ) (who : Who) (a : AddRequest) (s base : State) (id : DocId) (path : List ℕ) where
  abbrev d : Document
  d = new_document a id path

  abbrev t : State
  t = with_rights_of who a id base

  -- base is the state with the document, whose rights are not given yet
  pub record IsBase : Type 0 where
    pub limits : base.limits ≡ s.limits
    pub tree : held_in base ≡ held_in s
    pub connections : base.connections ≡ s.connections
    pub handles : base.handles ≡ s.handles
    pub rights : base.rights ≡ s.rights
    pub joins : Joins s.documents base.documents (held_of s.rights app) d
    pub differ : IsDistinct nat_eq (map (λ x. x.id.number) base.documents)

  module _ (b : IsBase) where
    t-limits : t.limits ≡ s.limits
    t-limits = rights-keep (λ (x : State). x.limits) (λ x r p. refl) who a id base ∙ b.limits

    pub t-tree : held_in t ≡ held_in s
    t-tree = rights-keep held_in (λ x r p. refl) who a id base ∙ b.tree

    t-connections : t.connections ≡ s.connections
    t-connections = rights-keep (λ (x : State). x.connections) (λ x r p. refl) who a id base ∙ b.connections

    t-handles : t.handles ≡ s.handles
    t-handles = rights-keep (λ (x : State). x.handles) (λ x r p. refl) who a id base ∙ b.handles

    pub t-documents : t.documents ≡ base.documents
    t-documents = rights-keep (λ (x : State). x.documents) (λ x r p. refl) who a id base

    j : Joins s.documents t.documents (held_of s.rights app) d
    j = subst (λ (ds : List Document). Joins s.documents ds (held_of s.rights app) d) (sym t-documents) b.joins

    was-is : (n : ℕ) → held_of base.rights app n ≡ held_of s.rights app n
    was-is n = ap (λ (r : List Triple). held_of r app n) b.rights

    -- where the rights elsewhere stay
    pub facts-more : Facts app s → ((n : ℕ) → (id.number == n) ≡ false → held_of t.rights app n ≡ held_of s.rights app n) → Facts app t
    facts-more f e = record {
      differ = subst (λ (ds : List Document). IsDistinct nat_eq (map (λ (x : Document). x.id.number) ds)) (sym t-documents) b.differ;
      unheld = λ n g. by_number n (id.number == n) refl (sym (j.live n) ∙ g);
    }
      where
        by_number : (n : ℕ) (c : Bool) → (id.number == n) ≡ c → cond c (Some d) (document_of s.documents n) ≡ None → holds_any (held_of t.rights app n) ≡ false
        by_number n true h g = cc
        by_number n false h g = ap holds_any (e n h) ∙ f.unheld n g

    -- ---- to an application that doesn't add

    module _ (other : is_app app who ≡ false) where
      now-other : (n : ℕ) → held_of t.rights app n ≡ cond (id.number == n) (cond (names_app app a) (union (held_of s.rights app n) (rights_named a.names)) (held_of s.rights app n)) (held_of s.rights app n)
      now-other n = rights-other app a id base who other n ∙ ap (λ (k : RightSet). cond (id.number == n) (cond (names_app app a) (union k (rights_named a.names)) k) k) (was-is n)

      elsewhere-other : (n : ℕ) → (id.number == n) ≡ false → held_of t.rights app n ≡ held_of s.rights app n
      elsewhere-other n e = now-other n ∙ ap (λ (c : Bool). cond c (cond (names_app app a) (union (held_of s.rights app n) (rights_named a.names)) (held_of s.rights app n)) (held_of s.rights app n)) e

      both-same : (c : Bool) (k : RightSet) → cond c k k ≡ k
      both-same true k = refl
      both-same false k = refl

      touched-by : (c : Bool) → names_app app a ≡ c → apply_all (view s app) (cond c (gained_in app s (rights_named a.names) d) []) ≡ view t app
      touched-by true e = joined-touched app s t d t-limits t-tree t-connections t-handles j (rights_named a.names) (λ n.
          now-other n ∙ ap (λ (c : Bool). cond (id.number == n) (cond c (union (held_of s.rights app n) (rights_named a.names)) (held_of s.rights app n)) (held_of s.rights app n)) e)
      touched-by false e = joined-same app s t d t-limits t-tree t-connections t-handles j (λ n.
          now-other n ∙ (ap (λ (c : Bool). cond (id.number == n) (cond c (union (held_of s.rights app n) (rights_named a.names)) (held_of s.rights app n)) (held_of s.rights app n)) e ∙ both-same (id.number == n) (held_of s.rights app n)))

      pub used-other : apply_all (view s app) (cond (names_app app a) (gained_in app s (rights_named a.names) d) []) ≡ view t app
      used-other = touched-by (names_app app a) refl

      pub facts-other : Facts app s → Facts app t
      facts-other f = facts-more f elsewhere-other

-- ---- to the application that adds

module _ (app : List ℕ) (a : AddRequest) (s base : State) (id : DocId) (path : List ℕ) (b : IsBase app (Who.App app) a s base id path)
    (covers : names_app app a ≡ true → contains (union (held_of s.rights app id.number) (adding_rights a)) (rights_named a.names) ≡ true) where
  abbrev own_t : State
  own_t = with_rights_of (Who.App app) a id base

  now-own : (n : ℕ) → held_of own_t.rights app n ≡ cond (id.number == n) (union (held_of s.rights app n) (adding_rights a)) (held_of s.rights app n)
  now-own n =
      rights-own app a id base (λ e. ap (λ (k : RightSet). contains (union k (adding_rights a)) (rights_named a.names)) (was-is app (Who.App app) a s base id path b id.number) ∙ covers e) n
      ∙ ap (λ (k : RightSet). cond (id.number == n) (union k (adding_rights a)) k) (was-is app (Who.App app) a s base id path b n)

  pub used-own : apply (view s app) (Gained (new_document a id path) (adding_rights a) (holding_at s.files (new_document a id path))) ≡ view own_t app
  used-own =
      joined-gained app s own_t (new_document a id path) (t-limits app (Who.App app) a s base id path b) (t-tree app (Who.App app) a s base id path b) (t-connections app (Who.App app) a s base id path b) (t-handles app (Who.App app) a s base id path b)
      (j app (Who.App app) a s base id path b) (adding_rights a) now-own

  elsewhere-own : (n : ℕ) → (id.number == n) ≡ false → held_of own_t.rights app n ≡ held_of s.rights app n
  elsewhere-own n e = now-own n ∙ ap (λ (c : Bool). cond c (union (held_of s.rights app n) (adding_rights a)) (held_of s.rights app n)) e

  pub facts-own : Facts app s → Facts app own_t
  facts-own f = facts-more app (Who.App app) a s base id path b f elsewhere-own

  more-held : (c : Bool) (k m l : RightSet) → contains m l ≡ true → contains (cond c (union m k) m) l ≡ true
  more-held true k m l e = grind arith
  more-held false k m l e = e

  pub grows-own : (n : ℕ) (l : RightSet) → contains (held_of s.rights app n) l ≡ true → contains (held_of own_t.rights app n) l ≡ true
  grows-own n l e = ap (λ (k : RightSet). contains k l) (now-own n) ∙ more-held (id.number == n) (adding_rights a) (held_of s.rights app n) l e

-- the two cases: used again, and new

pub base-again : (app : List ℕ) (who : Who) (a : AddRequest) (s : State) (id : DocId) (path : List ℕ) → Facts app s → used_again s.documents a path ≡ Some id → IsBase app who a s s id path
base-again app who a s id path f e =
    let g : Again s.documents a path id = again-is s.documents a path id e in
    let live : document_of s.documents g.document.id.number ≡ Some g.document = found-live (serves path (persists a) (makes_strict a) (exports a)) g.document s.documents f.differ g.is_first in
    let same : new_document a id path ≡ g.document = ap (λ (i : DocId). new_document a i path) (sym g.id_is) ∙ serves-new a path g.document (found_passes (serves path (persists a) (makes_strict a) (exports a)) s.documents g.document g.is_first) g.reuse in
    record {
      limits = refl;
      tree = refl;
      connections = refl;
      handles = refl;
      rights = refl;
      joins = joins-again s.documents (held_of s.rights app) (new_document a id path) (subst (λ (x : Document). document_of s.documents x.id.number ≡ Some x) (sym same) live);
      differ = f.differ;
    }

pub base-new : (app : List ℕ) (who : Who) (a : AddRequest) (s : State) (id : DocId) (path : List ℕ) → Facts app s → document_of s.documents id.number ≡ None → IsBase app who a s (with_new_document (new_document a id path) s) id path
base-new app who a s id path f e = record {
  limits = refl;
  tree = refl;
  connections = refl;
  handles = refl;
  rights = refl;
  joins = joins-new s.documents (held_of s.rights app) (new_document a id path) e (f.unheld id.number e);
  differ = differ-more s.documents (new_document a id path) f.differ e;
}

-- ---- the files, of another

-- each number that is taken names no live document
abbrev pub Free : Who → AddRequest → Added → List (List ℕ) → Type 0
Free who a done [] = Unit {0}
Free who a done (path ∷ paths) =
    (is_left_out a path ≡ false → used_again done.state.documents a path ≡ None → document_of done.state.documents (first_number done.numbers).number ≡ None)
    × Free who a (add_file who a done path) paths

apply-joined : (v : AppView) (fs gs : List Effect) → apply_all v (fs ++ gs) ≡ apply_all (apply_all v fs) gs
apply-joined v [] gs = refl
apply-joined v (f ∷ fs) gs = apply-joined (apply v f) fs gs

module _ (app : List ℕ) (who : Who) (a : AddRequest) (other : is_app app who ≡ false) where
  -- of one file: what it touches gives the view after, and the facts stand
  abbrev FileSeen : Added → List ℕ → Bool → Type 0
  FileSeen done path left =
      (apply_all (view done.state app) (cond left [] (cond (names_app app a) (gained_in app done.state (rights_named a.names) (document_used a done.numbers path (used_again done.state.documents a path))) []))
      ≡ view (cond left (record done { ids = done.ids ++ [] ∷ [] }) (use_document who a path done (used_again done.state.documents a path))).state app)
      × Facts app (cond left (record done { ids = done.ids ++ [] ∷ [] }) (use_document who a path done (used_again done.state.documents a path))).state

  used-seen : (done : Added) (path : List ℕ) (again : Option DocId) → used_again done.state.documents a path ≡ again → Facts app done.state → (again ≡ None → document_of done.state.documents (first_number done.numbers).number ≡ None) →
      (apply_all (view done.state app) (cond (names_app app a) (gained_in app done.state (rights_named a.names) (document_used a done.numbers path again)) []) ≡ view (use_document who a path done again).state app)
      × Facts app (use_document who a path done again).state
  used-seen done path (Some id) e f n =
      let b : IsBase app who a done.state done.state id path = base-again app who a done.state id path f e in
      (used-other app who a done.state done.state id path b other, facts-other app who a done.state done.state id path b other f)
  used-seen done path None e f n =
      let id : DocId = first_number done.numbers in
      let base : State = with_new_document (new_document a id path) done.state in
      let b : IsBase app who a done.state base id path = base-new app who a done.state id path f (n refl) in
      (used-other app who a done.state base id path b other, facts-other app who a done.state base id path b other f)

  file-seen : (done : Added) (path : List ℕ) (left : Bool) → Facts app done.state → (left ≡ false → used_again done.state.documents a path ≡ None → document_of done.state.documents (first_number done.numbers).number ≡ None) → FileSeen done path left
  file-seen done path true f n = (refl, f)
  file-seen done path false f n = used-seen done path (used_again done.state.documents a path) refl f (n refl)

  -- of all files
  pub files-other : (paths : List (List ℕ)) (done : Added) → Facts app done.state → Free who a done paths → apply_all (view done.state app) (files_touch app who a done paths) ≡ view (fold (add_file who a) done paths).state app
  files-other [] done f n = refl
  files-other (path ∷ paths) done f n =
      let one : FileSeen done path (is_left_out a path) = file-seen done path (is_left_out a path) f n.0 in
      apply-joined (view done.state app) (file_touch app a done path) (files_touch app who a (add_file who a done path) paths)
      ∙ (ap (λ (v : AppView). apply_all v (files_touch app who a (add_file who a done path) paths)) one.0 ∙ files-other paths (add_file who a done path) one.1 n.1)
