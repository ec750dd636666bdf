-- A plan that is followed comes file by file to what the sequential portal does.
use Rattle.std.proofs.Common.{◌≡◌, ℕ, ◌+◌, ◌<◌, ◌≤◌, ◌==◌, List, [], ◌∷◌, ◌++◌, drop, fold, length, length-append, map, nat_lt, Bool, true, false, not, ◌&&◌, cond, Option, Some, None, refl, sym, ap, subst, ◌∙◌, arith}
use Rattle.std.specs.List.{find, position, position_or_len}
use Rattle.std.specs.Option.{option_map, option_or}
use Rattle.std.proofs.lemmas.Bool.Decides.{nat_tests}
use Rattle.std.proofs.lemmas.List.{map-append}
use Rattle.std.proofs.lemmas.List.Folds.{find-append, position_or_len_push}
use Rattle.std.proofs.lemmas.List.Sums.{fold-append}
use Rattle.std.proofs.Math.ListN.{get_or-append}
use Rattle.std.proofs.Math.Seq.{get_or-append_seam}
use Rattle.portal_base.specs.Names.{is_in_own_folder, is_same}
use Rattle.portal_base.specs.declared.names.doc_id.DocId.{DocId}
use Rattle.portal_base.specs.declared.who.Who.{Who}
use Rattle.rights_rule.specs.Rights.{RightSet, rights_named}
use Rattle.portal_model.specs.declared.request.AddRequest.{AddRequest}
use Rattle.portal_model.specs.declared.state.Document.{Document}
use Rattle.portal_model.specs.Add.{Added, add_file, add_files, adding_rights, first_number, listed_rights, new_document, use_document, used_again, with_new_document, with_rights_of}
use Rattle.portal_model.specs.AddArguments.{exports, is_as_needed, is_left_out, makes_strict, names_nobody, persists, reuses}
use Rattle.portal_model.specs.Documents.{id_of_document, reusable_of, same_flag, serves}
use Rattle.portal_model.specs.Grant.{given_rights}
use Rattle.portal_model.specs.State.{State}
use Rattle.add_files.specs.Items.{item_at, item_behind, items_of, left_out, made_ahead, makes, place_used, put_behind}
use Rattle.add_files.specs.Plans.{Followed, as_added, document_at, follow_item, id_or_zero, id_told, is_new, item_given, listed_given, made_for, named_app, none_followed, own_given, own_in, own_of, placed, used_for}
use Rattle.add_files.specs.declared.plan.PlanItem.{PlanItem}
use Rattle.add_files.specs.declared.plan.PlanUse.{PlanUse}
use Rattle.add_files.specs.declared.plan.PlanUse.TheVariants.{LeftOut, Live, Earlier, New}

-- ---- the arguments, as the code has them

pub left-out-is : (a : AddRequest) (path : List ℕ) → left_out a (named_app a) path ≡ is_left_out a path
left-out-is a path = by-name (names_nobody a) (is_as_needed a)
  where
    by-name : (b needed : Bool) → left_out a (cond b None (Some a.app)) path ≡ (is_as_needed a && (not b && is_in_own_folder a.app path))
    by-name true needed = and-false (is_as_needed a)
      where
        and-false : (x : Bool) → false ≡ (x && false)
        and-false true = refl
        and-false false = refl
    by-name false needed = refl

listed-is : (a : AddRequest) (id : DocId) (s : State) → listed_given (named_app a) (rights_named a.names) id s ≡ listed_rights a id s
listed-is a id s = by-name (names_nobody a)
  where
    by-name : (b : Bool) → listed_given (cond b None (Some a.app)) (rights_named a.names) id s ≡ cond b s (given_rights a.app id (rights_named a.names) s)
    by-name true = refl
    by-name false = refl

-- the rights of a file that has a document
pub given-is : (who : Who) (a : AddRequest) (id : DocId) (place : PlanUse) (s : State) → own_in (adding_rights a) place ≡ adding_rights a →
    item_given who (named_app a) (rights_named a.names) (own_of who a place) id s ≡ with_rights_of who a id s
given-is Who.Host a id place s e = listed-is a id s
given-is (Who.App app) a id place s e =
    listed-is a id (given_rights app id (own_in (adding_rights a) place) s) ∙ ap (λ (own : RightSet). listed_rights a id (given_rights app id own s)) e

-- ---- the documents, as rights are given

listed-keeps : (app : Option (List ℕ)) (set : RightSet) (id : DocId) (s : State) → (listed_given app set id s).documents ≡ s.documents
listed-keeps None set id s = refl
listed-keeps (Some app) set id s = refl

own-keeps : (who : Who) (set : RightSet) (id : DocId) (s : State) → (own_given who set id s).documents ≡ s.documents
own-keeps Who.Host set id s = refl
own-keeps (Who.App app) set id s = refl

given-keeps : (who : Who) (app : Option (List ℕ)) (listed own : RightSet) (id : DocId) (s : State) → (item_given who app listed own id s).documents ≡ s.documents
given-keeps who app listed own id s = listed-keeps app listed id (own_given who own id s) ∙ own-keeps who own id s

-- ---- looking up

pub position-inside : {X : Type 0} (p : X → Bool) (xs : List X) (k : ℕ) → position p xs ≡ Some k → k < length xs
position-inside p xs k e = by-test (position_or_len p xs) (length xs) k e
  where
    by-test : (n m k : ℕ) → cond (nat_lt n m) (Some n) None ≡ Some k → k < m
    by-test n m k e = step (nat_lt n m) refl e
      where
        step : (b : Bool) → nat_lt n m ≡ b → cond b (Some n) None ≡ Some k → k < m
        step true t e = let same : n ≡ k = cc in subst (λ (x : ℕ). x < m) same (let l : n < m = grind (arith, nat_tests) in l)
        step false t e = cc

-- the place in a list that is one longer, by numbers
one-more-place : (m most n len : ℕ) (b : Bool) → m ≤ most → n ≡ cond (m == most) (most + cond b 0 1) m → len ≡ most + 1 →
    cond (nat_lt n len) (Some n) None ≡ option_or (cond (nat_lt m most) (Some m) None) (cond b (Some most) None)
one-more-place m most n len true h e l = grind (arith, nat_tests)
one-more-place m most n len false h e l = grind (arith, nat_tests)

place-within : {X : Type 0} (p : X → Bool) (xs : List X) → position_or_len p xs ≤ length xs
place-within p [] = omega arith
place-within p (x ∷ xs) = grind (arith, place-within p xs)

position-more : {X : Type 0} (p : X → Bool) (xs : List X) (x : X) → position p (xs ++ x ∷ []) ≡ option_or (position p xs) (cond (p x) (Some (length xs)) None)
position-more p xs x =
    one-more-place (position_or_len p xs) (length xs) (position_or_len p (xs ++ x ∷ [])) (length (xs ++ x ∷ [])) (p x)
    (place-within p xs) (position_or_len_push p xs x) (length-append xs (x ∷ []))

found-more : (documents : List Document) (path : List ℕ) (persistent strict folder : Bool) (d : Document) →
    reusable_of (documents ++ d ∷ []) path persistent strict folder ≡ option_or (reusable_of documents path persistent strict folder) (cond (serves path persistent strict folder d) (Some d.id) None)
found-more documents path persistent strict folder d =
    ap (option_map id_of_document) (find-append (serves path persistent strict folder) documents (d ∷ []))
    ∙ by-found (find (serves path persistent strict folder) documents) (serves path persistent strict folder d)
  where
    by-found : (o : Option Document) (b : Bool) → option_map id_of_document (option_or o (cond b (Some d) None)) ≡ option_or (option_map id_of_document o) (cond b (Some d.id) None)
    by-found None true = refl
    by-found None false = refl
    by-found (Some x) true = refl
    by-found (Some x) false = refl

at-before : (documents : List (Option DocId)) (y : Option DocId) (k : ℕ) → k < length documents → document_at (documents ++ y ∷ []) k ≡ document_at documents k
at-before documents y k h = ap id_or_zero (get_or-append documents (y ∷ []) None k h)

map-before : (documents : List (Option DocId)) (y : Option DocId) (o : Option ℕ) → ((k : ℕ) → o ≡ Some k → k < length documents) →
    option_map (document_at (documents ++ y ∷ [])) o ≡ option_map (document_at documents) o
map-before documents y None h = refl
map-before documents y (Some k) h = ap (λ (id : DocId). Some id) (at-before documents y k (h k refl))

at-end : (documents : List (Option DocId)) (id : DocId) (n : ℕ) → length documents ≡ n → document_at (documents ++ Some id ∷ []) n ≡ id
at-end documents id n e = subst (λ (m : ℕ). document_at (documents ++ Some id ∷ []) m ≡ id) e (ap id_or_zero (get_or-append_seam documents (Some id) [] None))

or-none : {X : Type 0} (o : Option X) → option_or o None ≡ o
or-none None = refl
or-none (Some x) = refl

same-itself : (b : Bool) → same_flag b b ≡ true
same-itself true = refl
same-itself false = refl

serves-new : (a : AddRequest) (id : DocId) (own path : List ℕ) → reuses a ≡ true → serves path (persists a) (makes_strict a) (exports a) (new_document a id own) ≡ is_same own path
serves-new a id own path e =
    ap (λ (b : Bool). is_same own path && (b && (same_flag (makes_strict a) (makes_strict a) && (same_flag (exports a) (exports a) && reuses a)))) (same-itself (persists a))
    ∙ (ap (λ (b : Bool). is_same own path && (b && (same_flag (exports a) (exports a) && reuses a))) (same-itself (makes_strict a))
    ∙ (ap (λ (b : Bool). is_same own path && (b && reuses a)) (same-itself (exports a))
    ∙ (ap (λ (b : Bool). is_same own path && b) e ∙ and-true (is_same own path))))
  where
    and-true : (x : Bool) → (x && true) ≡ x
    and-true true = refl
    and-true false = refl

-- ---- what holds between files

-- the documents of the items ahead are those that the state has besides these
pub record Keeps (documents : List Document) (a : AddRequest) (ahead : List PlanItem) (f : Followed) : Type 0 where
  pub sized : length f.documents ≡ length ahead
  pub found : reuses a ≡ true → (path : List ℕ) →
      reusable_of f.state.documents path (persists a) (makes_strict a) (exports a)
      ≡ option_or (reusable_of documents path (persists a) (makes_strict a) (exports a)) (option_map (document_at f.documents) (position (makes path) ahead))

module _ (who : Who) (a : AddRequest) (app : Option (List ℕ)) (listed : RightSet) (documents : List Document) where
  placed-sized : (item : PlanItem) (f : Followed) (place : PlanUse) → length (placed who a app listed item f place).documents ≡ length f.documents + 1
  placed-sized item f LeftOut = length-append f.documents (None ∷ [])
  placed-sized item f (Live id) = length-append f.documents (Some id ∷ [])
  placed-sized item f (Earlier k) = length-append f.documents (Some (document_at f.documents k) ∷ [])
  placed-sized item f New = length-append f.documents (Some (first_number f.numbers) ∷ [])

  -- no document is made
  found-kept : (ahead : List PlanItem) (f g : Followed) (item : PlanItem) (y : Option DocId) → Keeps documents a ahead f → is_new item.place ≡ false →
      g.state.documents ≡ f.state.documents → g.documents ≡ f.documents ++ y ∷ [] → reuses a ≡ true → (path : List ℕ) →
      reusable_of g.state.documents path (persists a) (makes_strict a) (exports a)
      ≡ option_or (reusable_of documents path (persists a) (makes_strict a) (exports a)) (option_map (document_at g.documents) (position (makes path) (ahead ++ item ∷ [])))
  found-kept ahead f g item y k e s d r path =
      let before : position (makes path) (ahead ++ item ∷ []) ≡ position (makes path) ahead =
      position-more (makes path) ahead item
      ∙ (ap (λ (b : Bool). option_or (position (makes path) ahead) (cond (b && is_same item.path path) (Some (length ahead)) None)) e
      ∙ or-none (position (makes path) ahead)) in
      let inside : (n : ℕ) → position (makes path) ahead ≡ Some n → n < length f.documents =
      λ n h. subst (λ (m : ℕ). n < m) (sym k.sized) (position-inside (makes path) ahead n h) in
      ap (λ (l : List Document). reusable_of l path (persists a) (makes_strict a) (exports a)) s
      ∙ (k.found r path
      ∙ ap (option_or (reusable_of documents path (persists a) (makes_strict a) (exports a)))
      (sym (ap (option_map (document_at g.documents)) before
      ∙ (ap (λ (l : List (Option DocId)). option_map (document_at l) (position (makes path) ahead)) d
      ∙ map-before f.documents y (position (makes path) ahead) inside))))

  -- one is made
  found-made : (ahead : List PlanItem) (f g : Followed) (item : PlanItem) (id : DocId) → Keeps documents a ahead f → is_new item.place ≡ true →
      g.state.documents ≡ f.state.documents ++ new_document a id item.path ∷ [] → g.documents ≡ f.documents ++ Some id ∷ [] → reuses a ≡ true → (path : List ℕ) →
      reusable_of g.state.documents path (persists a) (makes_strict a) (exports a)
      ≡ option_or (reusable_of documents path (persists a) (makes_strict a) (exports a)) (option_map (document_at g.documents) (position (makes path) (ahead ++ item ∷ [])))
  found-made ahead f g item id k e s d r path =
      let inside : (n : ℕ) → position (makes path) ahead ≡ Some n → n < length f.documents =
      λ n h. subst (λ (m : ℕ). n < m) (sym k.sized) (position-inside (makes path) ahead n h) in
      ap (λ (l : List Document). reusable_of l path (persists a) (makes_strict a) (exports a)) s
      ∙ (found-more f.state.documents path (persists a) (makes_strict a) (exports a) (new_document a id item.path)
      ∙ (ap (λ (b : Bool). option_or (reusable_of f.state.documents path (persists a) (makes_strict a) (exports a)) (cond b (Some id) None)) (serves-new a id item.path path r)
      ∙ (ap (λ (o : Option DocId). option_or o (cond (is_same item.path path) (Some id) None)) (k.found r path)
      ∙ (joined (reusable_of documents path (persists a) (makes_strict a) (exports a)) (position (makes path) ahead) (is_same item.path path) inside
      ∙ ap (option_or (reusable_of documents path (persists a) (makes_strict a) (exports a)))
      (sym (ap (option_map (document_at g.documents))
      (position-more (makes path) ahead item
      ∙ ap (λ (b : Bool). option_or (position (makes path) ahead) (cond (b && is_same item.path path) (Some (length ahead)) None)) e)
      ∙ ap (λ (l : List (Option DocId)). option_map (document_at l) (option_or (position (makes path) ahead) (cond (is_same item.path path) (Some (length ahead)) None))) d))))))
    where
      joined : (live : Option DocId) (at : Option ℕ) (b : Bool) → ((n : ℕ) → at ≡ Some n → n < length f.documents) →
          option_or (option_or live (option_map (document_at f.documents) at)) (cond b (Some id) None)
          ≡ option_or live (option_map (document_at (f.documents ++ Some id ∷ [])) (option_or at (cond b (Some (length ahead)) None)))
      joined (Some x) at b h = refl
      joined None (Some n) b h = ap (λ (x : DocId). Some x) (sym (at-before f.documents (Some id) n (h n refl)))
      joined None None true h = ap (λ (x : DocId). Some x) (sym (at-end f.documents id (length ahead) k.sized))
      joined None None false h = refl

  made-documents : (item : PlanItem) (f : Followed) → (made_for who a app listed item f).state.documents ≡ f.state.documents ++ new_document a (first_number f.numbers) item.path ∷ []
  made-documents item f = given-keeps who app listed item.own (first_number f.numbers) (with_new_document (new_document a (first_number f.numbers) item.path) f.state)

  sized-more : (ahead : List PlanItem) (f : Followed) (item : PlanItem) → length f.documents ≡ length ahead → length (placed who a app listed item f item.place).documents ≡ length (ahead ++ item ∷ [])
  sized-more ahead f item e = placed-sized item f item.place ∙ (ap (λ (n : ℕ). n + 1) e ∙ sym (length-append ahead (item ∷ [])))

  found-placed : (ahead : List PlanItem) (f : Followed) (item : PlanItem) (place : PlanUse) → item.place ≡ place → Keeps documents a ahead f → reuses a ≡ true → (path : List ℕ) →
      reusable_of (placed who a app listed item f place).state.documents path (persists a) (makes_strict a) (exports a)
      ≡ option_or (reusable_of documents path (persists a) (makes_strict a) (exports a)) (option_map (document_at (placed who a app listed item f place).documents) (position (makes path) (ahead ++ item ∷ [])))
  found-placed ahead f item LeftOut e k r path = found-kept ahead f (placed who a app listed item f LeftOut) item None k (ap is_new e) refl refl r path
  found-placed ahead f item (Live id) e k r path =
      found-kept ahead f (placed who a app listed item f (Live id)) item (Some id) k (ap is_new e) (given-keeps who app listed item.own id f.state) refl r path
  found-placed ahead f item (Earlier n) e k r path =
      found-kept ahead f (placed who a app listed item f (Earlier n)) item (Some (document_at f.documents n)) k (ap is_new e) (given-keeps who app listed item.own (document_at f.documents n) f.state) refl r path
  found-placed ahead f item New e k r path =
      found-made ahead f (placed who a app listed item f New) item (first_number f.numbers) k (ap is_new e) (made-documents item f) refl r path

  pub keeps-more : (ahead : List PlanItem) (f : Followed) (item : PlanItem) → Keeps documents a ahead f → Keeps documents a (ahead ++ item ∷ []) (follow_item who a app listed f item)
  keeps-more ahead f item k = record { sized = sized-more ahead f item k.sized; found = found-placed ahead f item item.place refl k }

-- ---- one file

told-more : (documents : List (Option DocId)) (y : Option DocId) → map id_told documents ++ id_told y ∷ [] ≡ map id_told (documents ++ y ∷ [])
told-more documents y = sym (map-append id_told documents (y ∷ []))

-- the place of a file that isn't left out
abbrev pub place_of : Option DocId → Bool → Option ℕ → PlanUse
place_of None reused at = cond reused (made_ahead at) New
place_of (Some id) reused at = Live id

module _ (who : Who) (a : AddRequest) (documents : List Document) where
  use-there : (path : List ℕ) (f : Followed) (id : DocId) (place : PlanUse) → own_in (adding_rights a) place ≡ adding_rights a →
      use_document who a path (as_added f) (Some id) ≡ as_added (used_for who (named_app a) (rights_named a.names) (item_at who a path place) f id)
  use-there path f id place e = λ i. record {
    state = sym (given-is who a id place f.state e) i;
    numbers = f.numbers;
    ids = told-more f.documents (Some id) i;
  }

  make-one : (path : List ℕ) (f : Followed) → use_document who a path (as_added f) None ≡ as_added (made_for who a (named_app a) (rights_named a.names) (item_at who a path New) f)
  make-one path f =
      let id = first_number f.numbers in
      λ i. record {
        state = sym (given-is who a id New (with_new_document (new_document a id path) f.state) refl) i;
        numbers = drop 1 f.numbers;
        ids = told-more f.documents (Some id) i;
      }

  -- by what is used again, and what is made ahead
  use-placed : (path : List ℕ) (f : Followed) (live : Option DocId) (reused : Bool) (at : Option ℕ) →
      use_document who a path (as_added f) (cond reused (option_or live (option_map (document_at f.documents) at)) live)
      ≡ as_added (placed who a (named_app a) (rights_named a.names) (item_at who a path (place_of live reused at)) f (place_of live reused at))
  use-placed path f (Some id) true at = use-there path f id (Live id) refl
  use-placed path f (Some id) false at = use-there path f id (Live id) refl
  use-placed path f None false at = make-one path f
  use-placed path f None true (Some k) = use-there path f (document_at f.documents k) (Earlier k) refl
  use-placed path f None true None = make-one path f

  -- what is used again now
  used-now : (ahead : List PlanItem) (f : Followed) (path : List ℕ) → Keeps documents a ahead f → (b : Bool) → reuses a ≡ b →
      used_again f.state.documents a path
      ≡ cond b (option_or (used_again documents a path) (option_map (document_at f.documents) (position (makes path) ahead))) (used_again documents a path)
  used-now ahead f path k true e =
      ap (λ (b : Bool). cond b (reusable_of f.state.documents path (persists a) (makes_strict a) (exports a)) None) e
      ∙ (k.found e path
      ∙ ap (λ (o : Option DocId). option_or o (option_map (document_at f.documents) (position (makes path) ahead)))
      (sym (ap (λ (b : Bool). cond b (reusable_of documents path (persists a) (makes_strict a) (exports a)) None) e)))
  used-now ahead f path k false e =
      ap (λ (b : Bool). cond b (reusable_of f.state.documents path (persists a) (makes_strict a) (exports a)) None) e
      ∙ sym (ap (λ (b : Bool). cond b (reusable_of documents path (persists a) (makes_strict a) (exports a)) None) e)

  place-used-is : (ahead : List PlanItem) (path : List ℕ) (live : Option DocId) → place_used a ahead path live ≡ place_of live (reuses a) (position (makes path) ahead)
  place-used-is ahead path None = refl
  place-used-is ahead path (Some id) = refl

  one-file : (ahead : List PlanItem) (f : Followed) (path : List ℕ) → Keeps documents a ahead f →
      add_file who a (as_added f) path ≡ as_added (follow_item who a (named_app a) (rights_named a.names) f (item_behind documents who a (named_app a) ahead path))
  one-file ahead f path k =
      ap (λ (b : Bool). cond b (record (as_added f) { ids = map id_told f.documents ++ [] ∷ [] }) (use_document who a path (as_added f) (used_again f.state.documents a path))) (sym (left-out-is a path))
      ∙ by-test (left_out a (named_app a) path)
    where
      use-it : use_document who a path (as_added f) (used_again f.state.documents a path)
          ≡ as_added (placed who a (named_app a) (rights_named a.names) (item_at who a path (place_used a ahead path (used_again documents a path))) f (place_used a ahead path (used_again documents a path)))
      use-it =
          ap (use_document who a path (as_added f)) (used-now ahead f path k (reuses a) refl)
          ∙ (use-placed path f (used_again documents a path) (reuses a) (position (makes path) ahead)
          ∙ ap (λ (place : PlanUse). as_added (placed who a (named_app a) (rights_named a.names) (item_at who a path place) f place)) (sym (place-used-is ahead path (used_again documents a path))))

      by-test : (b : Bool) → cond b (record (as_added f) { ids = map id_told f.documents ++ [] ∷ [] }) (use_document who a path (as_added f) (used_again f.state.documents a path))
          ≡ as_added (follow_item who a (named_app a) (rights_named a.names) f (item_at who a path (cond b LeftOut (place_used a ahead path (used_again documents a path)))))
      by-test true = λ i. record { state = f.state; numbers = f.numbers; ids = told-more f.documents None i }
      by-test false = use-it

  -- ---- all files

  follow-all : (start : Followed) (paths : List (List ℕ)) (ahead : List PlanItem) (f : Followed) → f ≡ fold (follow_item who a (named_app a) (rights_named a.names)) start ahead → Keeps documents a ahead f →
      fold (add_file who a) (as_added f) paths
      ≡ as_added (fold (follow_item who a (named_app a) (rights_named a.names)) start (fold (put_behind documents who a (named_app a)) ahead paths))
  follow-all start [] ahead f e k = ap as_added e
  follow-all start (p ∷ ps) ahead f e k =
      let item : PlanItem = item_behind documents who a (named_app a) ahead p in
      ap (λ (done : Added). fold (add_file who a) done ps) (one-file ahead f p k)
      ∙ follow-all start ps (ahead ++ item ∷ []) (follow_item who a (named_app a) (rights_named a.names) f item)
      (ap (λ (g : Followed). follow_item who a (named_app a) (rights_named a.names) g item) e ∙ sym (fold-append (follow_item who a (named_app a) (rights_named a.names)) start ahead (item ∷ [])))
      (keeps-more who a (named_app a) (rights_named a.names) documents ahead f item k)

  pub files-followed : (s : State) (numbers : List DocId) (paths : List (List ℕ)) → s.documents ≡ documents →
      add_files who a s numbers paths
      ≡ as_added (fold (follow_item who a (named_app a) (rights_named a.names)) (none_followed s numbers) (items_of documents who a (named_app a) paths))
  files-followed s numbers paths e =
      follow-all (none_followed s numbers) paths [] (none_followed s numbers) refl (record { sized = refl; found = λ r path. at-first path })
    where
      at-first : (path : List ℕ) → reusable_of s.documents path (persists a) (makes_strict a) (exports a) ≡ option_or (reusable_of documents path (persists a) (makes_strict a) (exports a)) None
      at-first path = ap (λ (l : List Document). reusable_of l path (persists a) (makes_strict a) (exports a)) e ∙ sym (or-none (reusable_of documents path (persists a) (makes_strict a) (exports a)))
