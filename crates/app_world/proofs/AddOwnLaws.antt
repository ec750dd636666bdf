-- The files of an Add of the application itself: its own machine comes to the same in its view.
use Rattle.std.proofs.Common.{◌≡◌, ℕ, List, [], ◌∷◌, ◌++◌, drop, fold, Bool, true, false, not, ◌&&◌, ◌||◌, cond, Option, Some, None, refl, sym, ap, ◌∙◌, subst, arith}
use Rattle.std.specs.List.{find}
use Rattle.std.specs.Option.{option_map}
use Rattle.std.proofs.lemmas.List.{append_assoc}
use Rattle.file_generations.specs.Generations.{Held}
use Rattle.portal_base.specs.Names.{doc_text}
use Rattle.portal_base.specs.declared.files.File.{File}
use Rattle.portal_base.specs.declared.names.doc_id.DocId.{DocId}
use Rattle.portal_base.specs.declared.who.Who.{Who}
use Rattle.rights_rule.specs.Rights.{RightSet, contains, rights_named, union}
use Rattle.portal_model.specs.declared.request.AddRequest.{AddRequest}
use Rattle.portal_model.specs.declared.state.Document.{Document}
use Rattle.portal_model.specs.Add.{Added, add_file, adding_rights, first_number, new_document, use_document, used_again, with_new_document}
use Rattle.portal_model.specs.AddArguments.{exports, is_left_out, makes_strict, persists, reuses}
use Rattle.portal_model.specs.Content.{content_at}
use Rattle.portal_model.specs.Documents.{id_of_document, serves}
use Rattle.portal_model.specs.State.{State, document_of, held_in, held_of}
use Rattle.app_world.specs.Add.{OwnAdded, OwnFile, first_reused, id_or, names_app, own_add_file, own_again, own_files, own_use_document, reused_of}
use Rattle.app_world.specs.Effect.{Gained, apply}
use Rattle.app_world.specs.View.{Alone, Below, Holding, files_below, view}
use Rattle.app_world.proofs.AddLaws.{Facts, Free, IsBase, base-again, base-new, facts-own, grows-own, t-documents, t-tree, used-own}

-- ---- a document that was there before the call, or that the call made

find-joined : (p : Document → Bool) (xs ys : List Document) → option_map id_of_document (find p (xs ++ ys)) ≡ own_again (option_map id_of_document (find p xs)) (option_map id_of_document (find p ys))
find-joined p [] ys = refl
find-joined p (x ∷ xs) ys = by_first (p x) (find-joined p xs ys)
  where
    by_first : (b : Bool) → option_map id_of_document (find p (xs ++ ys)) ≡ own_again (option_map id_of_document (find p xs)) (option_map id_of_document (find p ys)) →
        option_map id_of_document (cond b (Some x) (find p (xs ++ ys))) ≡ own_again (option_map id_of_document (cond b (Some x) (find p xs))) (option_map id_of_document (find p ys))
    by_first true m = refl
    by_first false m = m

again-joined : (xs ys : List Document) (a : AddRequest) (path : List ℕ) → used_again (xs ++ ys) a path ≡ own_again (used_again xs a path) (used_again ys a path)
again-joined xs ys a path = by_flag (reuses a)
  where
    by_flag : (b : Bool) → cond b (option_map id_of_document (find (serves path (persists a) (makes_strict a) (exports a)) (xs ++ ys))) None
        ≡ own_again (cond b (option_map id_of_document (find (serves path (persists a) (makes_strict a) (exports a)) xs)) None) (cond b (option_map id_of_document (find (serves path (persists a) (makes_strict a) (exports a)) ys)) None)
    by_flag true = find-joined (serves path (persists a) (makes_strict a) (exports a)) xs ys
    by_flag false = refl

-- ---- what the application lists it holds

-- with these rights before the call
abbrev pub then_held : (ℕ → RightSet) → AddRequest → Option DocId → RightSet
then_held held a None = adding_rights a
then_held held a (Some id) = union (held id.number) (adding_rights a)

and-left : (a b : Bool) → (a && b) ≡ true → a ≡ true
and-left true b e = refl
and-left false b e = cc

and-right : (a b : Bool) → (a && b) ≡ true → b ≡ true
and-right true b e = e
and-right false b e = cc

and-four : {a b c d : Bool} → a ≡ true → b ≡ true → c ≡ true → d ≡ true → (a && (b && (c && d))) ≡ true
and-four e f g h = λ i. e i && (f i && (g i && h i))

one-bit : (m k l x : Bool) → (not l || (m || k)) ≡ true → (not m || x) ≡ true → (not l || (x || k)) ≡ true
one-bit m k l x e f = grind arith

contains-more : (m k l x : RightSet) → contains (union m k) l ≡ true → contains x m ≡ true → contains (union x k) l ≡ true
contains-more m k l x e f =
    let e2 = and-right (not l.read || (m.read || k.read)) _ e in
    let e3 = and-right (not l.write || (m.write || k.write)) _ e2 in
    let f2 = and-right (not m.read || x.read) _ f in
    let f3 = and-right (not m.write || x.write) _ f2 in
    and-four
    (one-bit m.read k.read l.read x.read (and-left _ _ e) (and-left _ _ f))
    (one-bit m.write k.write l.write x.write (and-left _ _ e2) (and-left _ _ f2))
    (one-bit m.grant_permissions k.grant_permissions l.grant_permissions x.grant_permissions (and-left _ _ e3) (and-left _ _ f3))
    (one-bit m.delete k.delete l.delete x.delete (and-right _ _ e3) (and-right _ _ f3))

contains-added : (k l x : RightSet) → contains k l ≡ true → contains (union x k) l ≡ true
contains-added k l x e = grind arith

-- as it lists for itself what it has before, it lists what it has while files are added
still-covers : (a : AddRequest) (held now : ℕ → RightSet) (first made : Option DocId) (fresh : DocId) (listed : RightSet) → ((n : ℕ) → contains (now n) (held n) ≡ true) → contains (then_held held a first) listed ≡ true →
    contains (union (now (id_or (own_again first made) fresh).number) (adding_rights a)) listed ≡ true
still-covers a held now None made fresh listed g e = contains-added (adding_rights a) listed (now (id_or made fresh).number) e
still-covers a held now (Some id) made fresh listed g e = contains-more (held id.number) (adding_rights a) listed (now id.number) e (g id.number)

-- ---- what is the same while files are added

-- what there is for a document of a path that the call makes
abbrev pub holds_for : AddRequest → List File → List ℕ → Holding
holds_for a files path = cond (exports a) (Below (files_below files path)) (Alone (content_at files path))

module _ (app : List ℕ) (a : AddRequest) (before : List Document) (held : ℕ → RightSet) (tree : Held) (content : List ℕ → Holding) where
  pub record Same (done : Added) (mine : OwnAdded) : Type 0 where
    pub seen : mine.view ≡ view done.state app
    pub numbers : mine.numbers ≡ done.numbers
    pub ids : mine.ids ≡ done.ids
    pub documents : done.state.documents ≡ before ++ mine.made
    pub tree_is : held_in done.state ≡ tree
    pub grows : (n : ℕ) → contains (held_of done.state.rights app n) (held n) ≡ true
    pub facts : Facts app done.state

  -- one file, used again or new
  use-same : (done : Added) (mine : OwnAdded) (path : List ℕ) (again : Option DocId) → Same done mine → used_again done.state.documents a path ≡ again →
      (again ≡ None → document_of done.state.documents (first_number done.numbers).number ≡ None) → content path ≡ holds_for a tree.present path →
      (names_app app a ≡ true → contains (union (held_of done.state.rights app (id_or again (first_number done.numbers)).number) (adding_rights a)) (rights_named a.names) ≡ true) →
      Same (use_document (Who.App app) a path done again) (own_use_document a content path mine again)
  use-same done mine path (Some id) s e n c h =
      let b : IsBase app (Who.App app) a done.state done.state id path = base-again app (Who.App app) a done.state id path s.facts e in
      let shown : content path ≡ holds_for a done.state.files path = c ∙ ap (λ (h : Held). holds_for a h.present path) (sym s.tree_is) in
      record {
        seen = (λ i. apply (s.seen i) (Gained (new_document a id path) (adding_rights a) (shown i))) ∙ used-own app a done.state done.state id path b h;
        numbers = s.numbers;
        ids = ap (λ xs. xs ++ doc_text id.number ∷ []) s.ids;
        documents = t-documents app (Who.App app) a done.state done.state id path b ∙ s.documents;
        tree_is = t-tree app (Who.App app) a done.state done.state id path b ∙ s.tree_is;
        grows = λ m. grows-own app a done.state done.state id path b h m (held m) (s.grows m);
        facts = facts-own app a done.state done.state id path b h s.facts;
      }
  use-same done mine path None s e n c h =
      let id : DocId = first_number done.numbers in
      let base : State = with_new_document (new_document a id path) done.state in
      let b : IsBase app (Who.App app) a done.state base id path = base-new app (Who.App app) a done.state id path s.facts (n refl) in
      let shown : content path ≡ holds_for a done.state.files path = c ∙ ap (λ (h : Held). holds_for a h.present path) (sym s.tree_is) in
      let same : new_document a id path ≡ new_document a (first_number mine.numbers) path = ap (λ ns. new_document a (first_number ns) path) (sym s.numbers) in
      record {
        seen = (λ i. apply (s.seen i) (Gained (new_document a (first_number (s.numbers i)) path) (adding_rights a) (shown i))) ∙ used-own app a done.state base id path b h;
        numbers = ap (drop 1) s.numbers;
        ids = λ i. s.ids i ++ doc_text (first_number (s.numbers i)).number ∷ [];
        documents =
            t-documents app (Who.App app) a done.state base id path b
            ∙ ((λ i. s.documents i ++ same i ∷ []) ∙ append_assoc before mine.made (new_document a (first_number mine.numbers) path ∷ []));
        tree_is = t-tree app (Who.App app) a done.state base id path b ∙ s.tree_is;
        grows = λ m. grows-own app a done.state base id path b h m (held m) (s.grows m);
        facts = facts-own app a done.state base id path b h s.facts;
      }

  -- of each file that isn't left out: what is listed is held, and its content is shown
  abbrev pub IsRead : List ℕ → Type 0
  IsRead path = (is_left_out a path ≡ false → names_app app a ≡ true → contains (then_held held a (used_again before a path)) (rights_named a.names) ≡ true) × (content path ≡ holds_for a tree.present path)

  abbrev pub AreRead : List (List ℕ) → Type 0
  AreRead [] = Unit {0}
  AreRead (path ∷ paths) = IsRead path × AreRead paths

  file-same : (done : Added) (mine : OwnAdded) (path : List ℕ) (first : Option DocId) → Same done mine → first ≡ used_again before a path →
      (used_again done.state.documents a path ≡ None → document_of done.state.documents (first_number done.numbers).number ≡ None) → content path ≡ holds_for a tree.present path →
      (names_app app a ≡ true → contains (then_held held a (used_again before a path)) (rights_named a.names) ≡ true) →
      Same (use_document (Who.App app) a path done (used_again done.state.documents a path)) (own_use_document a content path mine (own_again first (used_again mine.made a path)))
  file-same done mine path first s e n c h =
      let again : used_again done.state.documents a path ≡ own_again (used_again before a path) (used_again mine.made a path) =
      ap (λ ds. used_again ds a path) s.documents ∙ again-joined before mine.made a path in
      let mine_again : own_again first (used_again mine.made a path) ≡ used_again done.state.documents a path = ap (λ o. own_again o (used_again mine.made a path)) e ∙ sym again in
      subst (λ (o : Option DocId). Same (use_document (Who.App app) a path done (used_again done.state.documents a path)) (own_use_document a content path mine o)) (sym mine_again)
      (use-same done mine path (used_again done.state.documents a path) s refl n c (λ m.
      subst (λ (o : Option DocId). contains (union (held_of done.state.rights app (id_or o (first_number done.numbers)).number) (adding_rights a)) (rights_named a.names) ≡ true) (sym again)
      (still-covers a held (λ k. held_of done.state.rights app k) (used_again before a path) (used_again mine.made a path) (first_number done.numbers) (rights_named a.names) s.grows (h m))))

  left-same : (done : Added) (mine : OwnAdded) → Same done mine → Same (record done { ids = done.ids ++ [] ∷ [] }) (record mine { ids = mine.ids ++ [] ∷ [] })
  left-same done mine s = record {
    seen = s.seen;
    numbers = s.numbers;
    ids = ap (λ xs. xs ++ [] ∷ []) s.ids;
    documents = s.documents;
    tree_is = s.tree_is;
    grows = s.grows;
    facts = s.facts;
  }

  abbrev own_one : List ℕ → Option DocId → OwnFile
  own_one path again = record { path = path; again = again }

  abbrev State_after : List (List ℕ) → Added → Added
  State_after paths done = fold (add_file (Who.App app) a) done paths

  abbrev Mine_after : List OwnFile → OwnAdded → OwnAdded
  Mine_after fs mine = fold (own_add_file a content) mine fs

  -- one file, and then the others
  one-own : (path : List ℕ) (paths : List (List ℕ)) (done : Added) (mine : OwnAdded) (b : Bool) → is_left_out a path ≡ b → Same done mine →
      (is_left_out a path ≡ false → used_again done.state.documents a path ≡ None → document_of done.state.documents (first_number done.numbers).number ≡ None) → IsRead path →
      ((more : OwnAdded) → Same (add_file (Who.App app) a done path) more → Same (State_after paths (add_file (Who.App app) a done path)) (Mine_after (own_files a paths (reused_of before a paths)) more)) →
      Same (State_after paths (add_file (Who.App app) a done path))
      (Mine_after (cond b (own_one path None ∷ own_files a paths (cond b (reused_of before a paths) (used_again before a path ∷ reused_of before a paths)))
      (own_one path (first_reused (cond b (reused_of before a paths) (used_again before a path ∷ reused_of before a paths)))
      ∷ own_files a paths (drop 1 (cond b (reused_of before a paths) (used_again before a path ∷ reused_of before a paths))))) mine)
  one-own path paths done mine true e s n r more =
      more (own_add_file a content mine (own_one path None))
      (subst (λ (c : Bool). Same (cond c (record done { ids = done.ids ++ [] ∷ [] }) (use_document (Who.App app) a path done (used_again done.state.documents a path)))
      (cond c (record mine { ids = mine.ids ++ [] ∷ [] }) (own_use_document a content path mine (own_again None (used_again mine.made a path))))) (sym e) (left-same done mine s))
  one-own path paths done mine false e s n r more =
      more (own_add_file a content mine (own_one path (used_again before a path)))
      (subst (λ (c : Bool). Same (cond c (record done { ids = done.ids ++ [] ∷ [] }) (use_document (Who.App app) a path done (used_again done.state.documents a path)))
      (cond c (record mine { ids = mine.ids ++ [] ∷ [] }) (own_use_document a content path mine (own_again (used_again before a path) (used_again mine.made a path))))) (sym e)
      (file-same done mine path (used_again before a path) s refl (n e) r.1 (r.0 e)))

  -- all files
  pub files-own : (paths : List (List ℕ)) (done : Added) (mine : OwnAdded) → Same done mine → Free (Who.App app) a done paths → AreRead paths →
      Same (State_after paths done) (Mine_after (own_files a paths (reused_of before a paths)) mine)
  files-own [] done mine s n r = s
  files-own (path ∷ paths) done mine s n r =
      one-own path paths done mine (is_left_out a path) refl s n.0 r.0 (λ more t. files-own paths (add_file (Who.App app) a done path) more t n.1 r.1)
