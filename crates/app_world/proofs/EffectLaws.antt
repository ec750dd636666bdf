-- What the effects of others do to a view: rights that are gained and lost, and documents that go.
use Rattle.std.proofs.Common.{◌≡◌, ℕ, ◌==◌, List, [], ◌∷◌, map, Bool, true, false, not, ◌&&◌, ◌||◌, cond, Option, Some, None, refl, sym, ap, ◌∙◌, arith}
use Rattle.std.specs.List.{filter, list_any}
use Rattle.std.specs.Option.{option_map}
use Rattle.file_generations.specs.Generations.{Held, all_held}
use Rattle.portal_base.specs.Names.{is_same}
use Rattle.portal_base.specs.declared.files.File.{File}
use Rattle.portal_base.specs.declared.limits.Limits.{Limits}
use Rattle.portal_base.specs.declared.names.doc_id.DocId.{DocId}
use Rattle.rights_rule.specs.Rights.{RightSet, holds_any, minus, union}
use Rattle.portal_model.specs.declared.state.Document.{Document}
use Rattle.portal_model.specs.Content.{content_at}
use Rattle.portal_model.specs.State.{document_of}
use Rattle.portal_model.proofs.ListLookups.{nat_is, find-filter, found_passes}
use Rattle.portal_model.specs.Ordered.{put, is_rising}
use Rattle.app_world.specs.Effect.{Gained, Lost, Gone, apply, is_other, less_held, with_below, with_content, with_more}
use Rattle.app_world.specs.View.{Alone, Below, HeldDocument, NamedFile, OwnConnection, PathBelow, PathContent, below_at, contents_at, files_at, files_below, folder_paths, found_below, found_content, found_document, held_documents, holding_at, is_among, is_folder_document, is_held, is_held_name, is_plain_document, lower, named_as, named_paths, names_held, number_of, path_below, path_content, paths_where, seen, view_over}
use Rattle.app_world.proofs.ContentLaws.{below-fewer, below-found, below-joined, contents-fewer, contents-found, contents-joined}
use Rattle.app_world.proofs.DocumentLaws.{documents-are, documents-found, documents-rising, kept-seen, seen-nothing}
use Rattle.app_world.proofs.Found.{find-changed, find-kept, find-put, kept}
use Rattle.app_world.proofs.HeldLaws.{nothing-minus, nothing-union}
use Rattle.app_world.proofs.NamedFiles.{named-fewer}
use Rattle.app_world.proofs.Orders.{numbers}
use Rattle.portal_model.proofs.RisingLists.{rising-filter, rising-map, rising-put}
use Rattle.app_world.proofs.ViewLaws.{among-joined, documents-same, names-fewer-documents}

-- ---- what is named

any-filter : (p q : HeldDocument → Bool) (xs : List HeldDocument) → list_any p (filter q xs) ≡ true → list_any p xs ≡ true
any-filter p q [] h = h
any-filter p q (x ∷ xs) h = grind (arith, any-filter p q xs)

any-put : (p : HeldDocument → Bool) (x : HeldDocument) (xs : List HeldDocument) → list_any p (put lower x xs) ≡ true → (p x || list_any p xs) ≡ true
any-put p x [] h = grind arith
any-put p x (y ∷ ys) h = grind (arith, any-put p x ys)

module _ (test : Document → Bool) where
  abbrev has_path : List ℕ → HeldDocument → Bool
  has_path path d = test d.document && is_same d.document.path path

  among-where : (xs : List HeldDocument) (path : List ℕ) → is_among (paths_where test xs) path ≡ list_any (has_path path) xs
  among-where [] path = refl
  among-where (x ∷ xs) path = elim (test x.document) as (λ b. is_among (map (λ (d : HeldDocument). d.document.path) (cond b (x ∷ filter (λ (d : HeldDocument). test d.document) xs) (filter (λ (d : HeldDocument). test d.document) xs))) path ≡ ((b && is_same x.document.path path) || list_any (has_path path) xs)) [
    | true ↦ ap (λ (c : Bool). is_same x.document.path path || c) (among-where xs path)
    | false ↦ among-where xs path
  ]

  pub where-filter : (q : HeldDocument → Bool) (xs : List HeldDocument) (path : List ℕ) → is_among (paths_where test (filter q xs)) path ≡ true → is_among (paths_where test xs) path ≡ true
  where-filter q xs path h = among-where xs path ∙ any-filter (has_path path) q xs (sym (among-where (filter q xs) path) ∙ h)

  where-put : (x : HeldDocument) (xs : List HeldDocument) (path : List ℕ) → is_among (paths_where test (put lower x xs)) path ≡ true → ((test x.document && is_same x.document.path path) || is_among (paths_where test xs) path) ≡ true
  where-put x xs path h =
      ap (λ (b : Bool). (test x.document && is_same x.document.path path) || b) (among-where xs path)
      ∙ any-put (has_path path) x xs (sym (among-where (put lower x xs) path) ∙ h)

  -- documents that change in their rights alone
  where-same : (f : HeldDocument → HeldDocument) → ((x : HeldDocument) → (f x).document ≡ x.document) → (xs : List HeldDocument) (path : List ℕ) → is_among (paths_where test (map f xs)) path ≡ is_among (paths_where test xs) path
  where-same f e xs path = among-where (map f xs) path ∙ (any-same xs ∙ sym (among-where xs path))
    where
      any-same : (ys : List HeldDocument) → list_any (has_path path) (map f ys) ≡ list_any (has_path path) ys
      any-same [] = refl
      any-same (y ∷ ys) = λ i. (test (e y i) && is_same (e y i).path path) || any-same ys i

-- what was seen of the document stays
with_more-document : (d : Document) (more k : RightSet) (b : Bool) → (with_more d more (cond b (Some (record { document = d; rights = k })) None)).document ≡ d
with_more-document d more k true = refl
with_more-document d more k false = refl

-- the files that connections name stay with the connections
named-kept : (tree : Held) (cs : List OwnConnection) → filter (λ (f : NamedFile). is_held_name (names_held cs) (named_as f)) (files_at (all_held tree) (names_held cs)) ≡ files_at (all_held tree) (names_held cs)
named-kept tree cs = named-fewer (all_held tree) (names_held cs) (names_held cs) (λ name h. h)

-- ---- rights gained

gain-case : (d : Document) (more k : RightSet) (b : Bool) → holds_any k ≡ b →
    kept is_held (Some (with_more d more (cond b (Some (record { document = d; rights = k })) None))) ≡ seen (union k more) (Some d)
gain-case d more k true e = refl
gain-case d more k false e = ap (λ (m : RightSet). seen m (Some d)) (sym (nothing-union k more e))

content-stays : (files : List File) (path : List ℕ) (b : Bool) → with_content path (content_at files path) (cond b (Some (path_content files path)) None) ≡ path_content files path
content-stays files path true = refl
content-stays files path false = refl

below-stays : (files : List File) (path : List ℕ) (b : Bool) → with_below path (files_below files path) (cond b (Some (path_below files path)) None) ≡ path_below files path
below-stays files path true = refl
below-stays files path false = refl

module _ (limits : Limits) (tree : Held) (documents documents' : List Document) (held held' : ℕ → RightSet) (cs : List OwnConnection) (d : Document) (more : RightSet)
    (live : (n : ℕ) → document_of documents' n ≡ cond (d.id.number == n) (Some d) (document_of documents n))
    (rights : (n : ℕ) → held' n ≡ cond (d.id.number == n) (union (held n) more) (held n))
    (there : seen (held d.id.number) (document_of documents d.id.number) ≡ seen (held d.id.number) (Some d)) where
  abbrev old : List HeldDocument
  old = held_documents held documents

  abbrev new : HeldDocument
  new = with_more d more (found_document old d.id.number)

  abbrev after_put : List HeldDocument
  after_put = put lower new old

  abbrev after : List HeldDocument
  after = filter is_held after_put

  put-rising : is_rising lower after_put ≡ true
  put-rising = rising-put _ _ number_of numbers new old (documents-rising held documents)

  new-is : new ≡ with_more d more (seen (held d.id.number) (Some d))
  new-is = ap (with_more d more) (documents-found held d.id.number documents ∙ there)

  new-document : new.document ≡ d
  new-document = ap (λ (x : HeldDocument). x.document) new-is ∙ with_more-document d more (held d.id.number) (holds_any (held d.id.number))

  gained-at : (n : ℕ) (b : Bool) → (d.id.number == n) ≡ b →
      kept is_held (cond b (Some new) (found_document old n)) ≡ seen (cond b (union (held n) more) (held n)) (cond b (Some d) (document_of documents n))
  gained-at n true e =
      ap (λ (x : HeldDocument). kept is_held (Some x)) new-is
      ∙ (gain-case d more (held d.id.number) (holds_any (held d.id.number)) refl ∙ ap (λ (m : ℕ). seen (union (held m) more) (Some d)) (nat_is d.id.number n e))
  gained-at n false e = ap (kept is_held) (documents-found held n documents) ∙ kept-seen (held n) (document_of documents n)

  gained-found : (n : ℕ) → found_document after n ≡ seen (held' n) (document_of documents' n)
  gained-found n =
      find-kept _ _ number_of numbers is_held n after_put put-rising
      ∙ (ap (kept is_held) (find-put _ _ number_of numbers n new old)
      ∙ (ap (λ (x : Document). kept is_held (cond (x.id.number == n) (Some new) (found_document old n))) new-document
      ∙ (gained-at n (d.id.number == n) refl ∙ (λ i. seen (sym (rights n) i) (sym (live n) i)))))

  documents-gained : after ≡ held_documents held' documents'
  documents-gained = documents-are held' documents' after (rising-filter _ _ number_of numbers is_held after_put put-rising) gained-found

  -- what is named then was named before, or is the path of the document
  new-there : (test : Document → Bool) (path : List ℕ) → is_among (paths_where test after) path ≡ true → ((test d && is_same d.path path) || is_among (paths_where test old) path) ≡ true
  new-there test path h =
      ap (λ (x : Document). (test x && is_same x.path path) || is_among (paths_where test old) path) (sym new-document)
      ∙ where-put test new old path (where-filter test is_held after_put path h)

  weaker : (a b c : Bool) → ((a && b) || c) ≡ true → (b || c) ≡ true
  weaker true b c h = h
  weaker false true c h = refl
  weaker false false c h = h

  only : (a b c : Bool) → a ≡ false → ((a && b) || c) ≡ true → c ≡ true
  only true b c e h = cc
  only false b c e h = h

  or-three : (a b c x : Bool) → (a ≡ true → (x || b) ≡ true) → (a || c) ≡ true → (x || (b || c)) ≡ true
  or-three a b c true f h = refl
  or-three true b c false f h = grind (arith, f refl)
  or-three false b c false f h = grind arith

  or-two : (a b c : Bool) → (a ≡ true → b ≡ true) → (a || c) ≡ true → (b || c) ≡ true
  or-two true b c f h = ap (λ (x : Bool). x || c) (f refl)
  or-two false true c f h = refl
  or-two false false c f h = h

  abbrev rest : List (List ℕ)
  rest = named_paths [] cs

  named-then : (path : List ℕ) → is_among (named_paths after cs) path ≡ true → (is_same d.path path || is_among (named_paths old cs) path) ≡ true
  named-then path h =
      ap (λ (b : Bool). is_same d.path path || b) (among-joined (paths_where is_plain_document old) rest path)
      ∙ or-three (is_among (paths_where is_plain_document after) path) (is_among (paths_where is_plain_document old) path) (is_among rest path) (is_same d.path path)
      (λ k. weaker (not d.folder) (is_same d.path path) (is_among (paths_where is_plain_document old) path) (new-there is_plain_document path k))
      (sym (among-joined (paths_where is_plain_document after) rest path) ∙ h)

  -- the path of a folder isn't named
  named-still : d.folder ≡ true → (path : List ℕ) → is_among (named_paths after cs) path ≡ true → is_among (named_paths old cs) path ≡ true
  named-still e path h =
      among-joined (paths_where is_plain_document old) rest path
      ∙ or-two (is_among (paths_where is_plain_document after) path) (is_among (paths_where is_plain_document old) path) (is_among rest path)
      (λ k. only (not d.folder) (is_same d.path path) (is_among (paths_where is_plain_document old) path) (ap not e) (new-there is_plain_document path k))
      (sym (among-joined (paths_where is_plain_document after) rest path) ∙ h)

  folder-then : (path : List ℕ) → is_among (folder_paths after) path ≡ true → (is_same d.path path || is_among (folder_paths old) path) ≡ true
  folder-then path h = weaker d.folder (is_same d.path path) (is_among (folder_paths old) path) (new-there is_folder_document path h)

  folder-still : d.folder ≡ false → (path : List ℕ) → is_among (folder_paths after) path ≡ true → is_among (folder_paths old) path ≡ true
  folder-still e path h = only d.folder (is_same d.path path) (is_among (folder_paths old) path) e (new-there is_folder_document path h)

  abbrev had : List PathContent
  had = contents_at tree.present (named_paths old cs)

  abbrev had_below : List PathBelow
  had_below = below_at tree.present (folder_paths old)

  abbrev joining : PathContent
  joining = with_content d.path (content_at tree.present d.path) (found_content had d.path)

  joining-is : joining ≡ path_content tree.present d.path
  joining-is = ap (with_content d.path (content_at tree.present d.path)) (contents-found tree.present d.path (named_paths old cs)) ∙ content-stays tree.present d.path (is_among (named_paths old cs) d.path)

  abbrev joining_below : PathBelow
  joining_below = with_below d.path (files_below tree.present d.path) (found_below had_below d.path)

  joining_below-is : joining_below ≡ path_below tree.present d.path
  joining_below-is = ap (with_below d.path (files_below tree.present d.path)) (below-found tree.present d.path (folder_paths old)) ∙ below-stays tree.present d.path (is_among (folder_paths old) d.path)

  gained-by : (b : Bool) → d.folder ≡ b → apply (view_over limits tree old cs) (Gained d more (cond b (Below (files_below tree.present d.path)) (Alone (content_at tree.present d.path)))) ≡ view_over limits tree after cs
  gained-by true e = λ i. record (view_over limits tree after cs) {
    contents = contents-fewer tree.present (named_paths old cs) (named_paths after cs) (named-still e) i;
    below = below-joined tree.present d.path joining_below (folder_paths old) (folder_paths after) joining_below-is folder-then i;
    files = named-kept tree cs i;
  }
  gained-by false e = λ i. record (view_over limits tree after cs) {
    contents = contents-joined tree.present d.path joining (named_paths old cs) (named_paths after cs) joining-is named-then i;
    below = below-fewer tree.present (folder_paths old) (folder_paths after) (folder-still e) i;
    files = named-kept tree cs i;
  }

  -- in a document that is live afterwards
  pub view-gained : apply (view_over limits tree old cs) (Gained d more (holding_at tree.present d)) ≡ view_over limits tree (held_documents held' documents') cs
  view-gained = gained-by d.folder refl ∙ ap (λ (ds : List HeldDocument). view_over limits tree ds cs) documents-gained

-- ---- rights lost

less_held-document : (number : ℕ) (less : RightSet) (x : HeldDocument) → (less_held number less x).document ≡ x.document
less_held-document number less x = elim (number_of x == number) as (λ b. (cond b (record x { rights = minus x.rights less }) x).document ≡ x.document) [ true ↦ refl | false ↦ refl ]

less_held-number : (number : ℕ) (less : RightSet) (x : HeldDocument) → number_of (less_held number less x) ≡ number_of x
less_held-number number less x = ap (λ (d : Document). d.id.number) (less_held-document number less x)

lose-one : (less k : RightSet) (d : Document) (b : Bool) → kept is_held (Some (cond b (record { document = d; rights = minus k less }) (record { document = d; rights = k }))) ≡ seen (cond b (minus k less) k) (Some d)
lose-one less k d true = refl
lose-one less k d false = refl

lose-none : (less k : RightSet) (d : Document) (b : Bool) → holds_any k ≡ false → None ≡ seen (cond b (minus k less) k) (Some d)
lose-none less k d true e = sym (seen-nothing (minus k less) (Some d) (nothing-minus k less e))
lose-none less k d false e = sym (seen-nothing k (Some d) e)

lose-held : (number : ℕ) (less k : RightSet) (d : Document) (c : Bool) → holds_any k ≡ c →
    kept is_held (option_map (less_held number less) (cond c (Some (record { document = d; rights = k })) None)) ≡ seen (cond (d.id.number == number) (minus k less) k) (Some d)
lose-held number less k d true e = lose-one less k d (d.id.number == number)
lose-held number less k d false e = lose-none less k d (d.id.number == number) e

lose-seen : (number n : ℕ) (less k : RightSet) (o : Option Document) → ((d : Document) → o ≡ Some d → d.id.number ≡ n) →
    kept is_held (option_map (less_held number less) (seen k o)) ≡ seen (cond (n == number) (minus k less) k) o
lose-seen number n less k None e = refl
lose-seen number n less k (Some d) e = lose-held number less k d (holds_any k) refl ∙ ap (λ (m : ℕ). seen (cond (m == number) (minus k less) k) (Some d)) (e d refl)

module _ (limits : Limits) (tree : Held) (documents : List Document) (held held' : ℕ → RightSet) (cs : List OwnConnection) (id : DocId) (less : RightSet)
    (rights : (n : ℕ) → held' n ≡ cond (n == id.number) (minus (held n) less) (held n)) where
  abbrev before : List HeldDocument
  before = held_documents held documents

  abbrev lessened : List HeldDocument
  lessened = map (less_held id.number less) before

  lessened-rising : is_rising lower lessened ≡ true
  lessened-rising = rising-map _ _ number_of numbers (less_held id.number less) (less_held-number id.number less) before (documents-rising held documents)

  lost-found : (n : ℕ) → found_document (filter is_held lessened) n ≡ seen (held' n) (document_of documents n)
  lost-found n =
      find-kept _ _ number_of numbers is_held n lessened lessened-rising
      ∙ (ap (kept is_held) (find-changed _ _ number_of numbers (less_held id.number less) (less_held-number id.number less) n before ∙ ap (option_map (less_held id.number less)) (documents-found held n documents))
      ∙ (lose-seen id.number n less (held n) (document_of documents n) (λ d e. nat_is d.id.number n (found_passes (λ (x : Document). x.id.number == n) documents d e))
      ∙ ap (λ (k : RightSet). seen k (document_of documents n)) (sym (rights n))))

  fewer-lost : (test : Document → Bool) (path : List ℕ) → is_among (paths_where test (filter is_held lessened)) path ≡ true → is_among (paths_where test before) path ≡ true
  fewer-lost test path h = sym (where-same test (less_held id.number less) (less_held-document id.number less) before path) ∙ where-filter test is_held lessened path h

  pub view-lost : apply (view_over limits tree before cs) (Lost id less) ≡ view_over limits tree (held_documents held' documents) cs
  view-lost =
      (λ i. record (view_over limits tree (filter is_held lessened) cs) {
        contents =
            contents-fewer tree.present (named_paths before cs) (named_paths (filter is_held lessened) cs)
            (λ path. names-fewer-documents (paths_where is_plain_document before) (paths_where is_plain_document (filter is_held lessened)) (named_paths [] cs) path (fewer-lost is_plain_document path)) i;
        below = below-fewer tree.present (folder_paths before) (folder_paths (filter is_held lessened)) (fewer-lost is_folder_document) i;
        files = named-kept tree cs i;
      })
      ∙ ap (λ (ds : List HeldDocument). view_over limits tree ds cs)
      (documents-are held' documents (filter is_held lessened) (rising-filter _ _ number_of numbers is_held lessened lessened-rising) lost-found)

-- ---- a document gone

abbrev without : ℕ → List Document → List Document
without number documents = filter (λ d. not (d.id.number == number)) documents

turn : (b : Bool) (o : Option Document) → cond (not b) o None ≡ cond b None o
turn true o = refl
turn false o = refl

found-left : (number n : ℕ) (documents : List Document) → document_of (without number documents) n ≡ cond (n == number) None (document_of documents n)
found-left number n documents =
    find-filter (λ (d : Document). d.id.number == n) (λ (d : Document). not (d.id.number == number)) (not (n == number)) (λ d e. ap (λ (m : ℕ). not (m == number)) (nat_is d.id.number n e)) documents
    ∙ turn (n == number) (document_of documents n)

gone-seen : (k k' : RightSet) (o : Option Document) (b : Bool) → (b ≡ false → k' ≡ k) → kept is_held (cond (not b) (seen k o) None) ≡ seen k' (cond b None o)
gone-seen k k' o true e = refl
gone-seen k k' o false e = kept-seen k o ∙ ap (λ (h : RightSet). seen h o) (sym (e refl))

module _ (limits : Limits) (tree : Held) (documents : List Document) (held held' : ℕ → RightSet) (cs : List OwnConnection) (id : DocId)
    (rights : (n : ℕ) → (n == id.number) ≡ false → held' n ≡ held n) where
  abbrev here : List HeldDocument
  here = held_documents held documents

  abbrev fewer : List HeldDocument
  fewer = filter (is_other id.number) here

  fewer-rising : is_rising lower fewer ≡ true
  fewer-rising = rising-filter _ _ number_of numbers (is_other id.number) here (documents-rising held documents)

  gone-found : (n : ℕ) → found_document (filter is_held fewer) n ≡ seen (held' n) (document_of (without id.number documents) n)
  gone-found n =
      find-kept _ _ number_of numbers is_held n fewer fewer-rising
      ∙ (ap (kept is_held) (find-filter (λ (d : HeldDocument). number_of d == n) (is_other id.number) (not (n == id.number)) (λ d e. ap (λ (m : ℕ). not (m == id.number)) (nat_is (number_of d) n e)) here
      ∙ ap (λ (o : Option HeldDocument). cond (not (n == id.number)) o None) (documents-found held n documents))
      ∙ (gone-seen (held n) (held' n) (document_of documents n) (n == id.number) (rights n) ∙ ap (seen (held' n)) (sym (found-left id.number n documents))))

  fewer-gone : (test : Document → Bool) (path : List ℕ) → is_among (paths_where test (filter is_held fewer)) path ≡ true → is_among (paths_where test here) path ≡ true
  fewer-gone test path h = where-filter test (is_other id.number) here path (where-filter test is_held fewer path h)

  pub view-gone : apply (view_over limits tree here cs) (Gone id) ≡ view_over limits tree (held_documents held' (without id.number documents)) cs
  view-gone =
      (λ i. record (view_over limits tree (filter is_held fewer) cs) {
        contents =
            contents-fewer tree.present (named_paths here cs) (named_paths (filter is_held fewer) cs)
            (λ path. names-fewer-documents (paths_where is_plain_document here) (paths_where is_plain_document (filter is_held fewer)) (named_paths [] cs) path (fewer-gone is_plain_document path)) i;
        below = below-fewer tree.present (folder_paths here) (folder_paths (filter is_held fewer)) (fewer-gone is_folder_document) i;
        files = named-kept tree cs i;
      })
      ∙ ap (λ (ds : List HeldDocument). view_over limits tree ds cs)
      (documents-are held' (without id.number documents) (filter is_held fewer) (rising-filter _ _ number_of numbers is_held fewer fewer-rising) gone-found)

  -- of which nothing was seen
  unseen : holds_any (held id.number) ≡ false → (n : ℕ) (b : Bool) → (n == id.number) ≡ b → seen (held n) (document_of documents n) ≡ seen (held' n) (cond b None (document_of documents n))
  unseen f n true e = ap (λ (m : ℕ). seen (held m) (document_of documents n)) (nat_is n id.number e) ∙ seen-nothing (held id.number) (document_of documents n) f
  unseen f n false e = ap (λ (k : RightSet). seen k (document_of documents n)) (sym (rights n e))

  pub view-gone-unseen : holds_any (held id.number) ≡ false → view_over limits tree here cs ≡ view_over limits tree (held_documents held' (without id.number documents)) cs
  view-gone-unseen f =
      ap (λ (ds : List HeldDocument). view_over limits tree ds cs)
      (documents-same held held' documents (without id.number documents) (λ n. unseen f n (n == id.number) refl ∙ ap (seen (held' n)) (sym (found-left id.number n documents))))
