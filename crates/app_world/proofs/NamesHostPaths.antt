-- Each path of which a view tells is one on the host, so none is empty; and its folders are there.
use Rattle.std.proofs.Common.{◌≡◌, ℕ, ◌==◌, List, [], ◌∷◌, ◌++◌, map, Bool, true, false, not, ◌&&◌, ◌||◌, cond, Option, Some, None, refl, sym, ap, ◌∙◌, arith}
use Rattle.std.specs.List.{filter, flat_map, list_all, list_any}
use Rattle.std.proofs.lemmas.List.Folds.{list_all-append}
use Rattle.portal_base.specs.Content.{file_at, is_folder}
use Rattle.portal_base.specs.Names.{is_host_path, is_same, root}
use Rattle.portal_base.specs.declared.files.File.{File}
use Rattle.portal_base.proofs.PathsAbove.{no-path-is-empty}
use Rattle.rights_rule.specs.Rights.{RightSet, holds_any}
use Rattle.portal_model.specs.declared.handle.Handle.{Handle}
use Rattle.portal_model.specs.declared.handle.OpenHandle.{OpenHandle}
use Rattle.portal_model.specs.declared.state.Connection.{Connection}
use Rattle.portal_model.specs.declared.state.Document.{Document}
use Rattle.portal_model.specs.Ordered.{put, put_all}
use Rattle.portal_model.specs.State.{State, handles_of, held_of, is_app}
use Rattle.portal_model.specs.Valid.{Valid, has_host_path, is_sound_folder, is_sound_handle}
use Rattle.portal_model.proofs.ListLookups.{found_in_all, found_passes, is_same-eq}
use Rattle.app_world.specs.View.{HeldDocument, OwnHandle, covers, folder_paths, held_document, held_documents, is_among, is_at_or_below, is_folder_document, is_held, is_plain_document, lower, named_paths, names, own_connection, own_connections, own_handle, own_handles, paths_of_connection, paths_of_handle, paths_where, knows, view}
use Rattle.app_world.proofs.ShownLaws.{FoldersThere}

both : (a b : Bool) → a ≡ true → b ≡ true → (a && b) ≡ true
both true b e f = f
both false b e f = e

joined : (ps qs : List (List ℕ)) → list_all is_host_path ps ≡ true → list_all is_host_path qs ≡ true → list_all is_host_path (ps ++ qs) ≡ true
joined ps qs h k = list_all-append is_host_path ps qs ∙ both (list_all is_host_path ps) (list_all is_host_path qs) h k

-- ---- documents

module _ (test : Document → Bool) where
  abbrev passes : HeldDocument → Bool
  passes d = test d.document

  put_all_pass : (x : HeldDocument) (xs : List HeldDocument) → passes x ≡ true → list_all passes xs ≡ true → list_all passes (put lower x xs) ≡ true
  put_all_pass x [] h k = both (passes x) true h refl
  put_all_pass x (y ∷ ys) h k = grind (arith, put_all_pass x ys)

  all_pass : (xs : List HeldDocument) → list_all passes xs ≡ true → list_all passes (put_all lower xs) ≡ true
  all_pass [] h = refl
  all_pass (x ∷ xs) h = put_all_pass x (put_all lower xs) (grind arith) (all_pass xs (grind arith))

  held_pass : (held : ℕ → RightSet) (ds : List Document) → list_all test ds ≡ true → list_all passes (filter is_held (map (held_document held) ds)) ≡ true
  held_pass held [] h = refl
  held_pass held (d ∷ ds) h = by_right (holds_any (held d.id.number)) (held_pass held ds (grind arith))
    where
      by_right : (b : Bool) → list_all passes (filter is_held (map (held_document held) ds)) ≡ true → list_all passes (cond b (held_document held d ∷ filter is_held (map (held_document held) ds)) (filter is_held (map (held_document held) ds))) ≡ true
      by_right true k = both (test d) (list_all passes (filter is_held (map (held_document held) ds))) (grind arith) k
      by_right false k = k

  -- what is true of all documents is true of those of a view
  view_pass : (held : ℕ → RightSet) (ds : List Document) → list_all test ds ≡ true → list_all passes (held_documents held ds) ≡ true
  view_pass held ds h = all_pass (filter is_held (map (held_document held) ds)) (held_pass held ds h)

  -- and so something of the paths of those of one sort
  where_pass : (sort : Document → Bool) (r : List ℕ → Bool) → ((d : Document) → test d ≡ true → sort d ≡ true → r d.path ≡ true) → (xs : List HeldDocument) → list_all passes xs ≡ true → list_all r (paths_where sort xs) ≡ true
  where_pass sort r f [] h = refl
  where_pass sort r f (x ∷ xs) h = step (sort x.document) refl (where_pass sort r f xs (grind arith)) (grind arith)
    where
      step : (b : Bool) → sort x.document ≡ b → list_all r (paths_where sort xs) ≡ true → test x.document ≡ true →
          list_all r (map (λ (d : HeldDocument). d.document.path) (cond b (x ∷ filter (λ (d : HeldDocument). sort d.document) xs) (filter (λ (d : HeldDocument). sort d.document) xs))) ≡ true
      step true e k g = both (r x.document.path) (list_all r (paths_where sort xs)) (f x.document g e) k
      step false e k g = k

-- ---- open files

handle_host : (h : Handle) → has_host_path h ≡ true → list_all is_host_path (paths_of_handle h) ≡ true
handle_host (Handle.File name node document strict read write) e = both (is_host_path name.path) true e refl
handle_host (Handle.Folder node entries) e = refl

abbrev handle_paths : List OwnHandle → List (List ℕ)
handle_paths hs = flat_map (λ (h : OwnHandle). paths_of_handle h.handle) hs

handles_host : (cs : List Connection) (hs : List OpenHandle) (seat : ℕ) → list_all (is_sound_handle cs) hs ≡ true → list_all is_host_path (handle_paths (own_handles hs seat)) ≡ true
handles_host cs [] seat h = refl
handles_host cs (x ∷ hs) seat h = by_seat (x.seat == seat) (handle_host x.handle (grind arith)) (handles_host cs hs seat (grind arith))
  where
    by_seat : (b : Bool) → list_all is_host_path (paths_of_handle x.handle) ≡ true → list_all is_host_path (handle_paths (own_handles hs seat)) ≡ true → list_all is_host_path (handle_paths (map own_handle (cond b (x ∷ handles_of hs seat) (handles_of hs seat)))) ≡ true
    by_seat true k l = joined (paths_of_handle x.handle) (handle_paths (own_handles hs seat)) k l
    by_seat false k l = l

connections_host : (app : List ℕ) (cs : List Connection) (hs : List OpenHandle) → list_all (is_sound_handle cs) hs ≡ true → (xs : List Connection) → list_all is_host_path (flat_map paths_of_connection (map (own_connection app hs) xs)) ≡ true
connections_host app cs hs h [] = refl
connections_host app cs hs h (x ∷ xs) = joined (handle_paths (own_handles hs x.seat)) (flat_map paths_of_connection (map (own_connection app hs) xs)) (handles_host cs hs x.seat h) (connections_host app cs hs h xs)

-- ---- the view

among_pass : (r : List ℕ → Bool) (ps : List (List ℕ)) (path : List ℕ) → list_all r ps ≡ true → is_among ps path ≡ true → r path ≡ true
among_pass r [] path h e = let no : false ≡ true = e in cc
among_pass r (p ∷ ps) path h e = by_path (is_same p path) refl (among_pass r ps path (grind arith)) e (grind arith)
  where
    by_path : (b : Bool) → is_same p path ≡ b → (is_among ps path ≡ true → r path ≡ true) → (b || is_among ps path) ≡ true → r p ≡ true → r path ≡ true
    by_path true k rest g l = ap r (sym (is_same-eq p path k)) ∙ l
    by_path false k rest g l = rest g

not_empty : (path : List ℕ) → is_host_path path ≡ true → is_same path [] ≡ false
not_empty [] h = absurd (no-path-is-empty h)
not_empty (b ∷ bs) h = refl

below-some : (folder path : List ℕ) → is_same folder [] ≡ false → is_at_or_below folder path ≡ true → is_same path [] ≡ false
below-some folder (b ∷ bs) n h = refl
below-some [] [] n h = cc
below-some (a ∷ bs) [] n h = cc

module _ (app : List ℕ) (s : State) (v : Valid s) where
  abbrev held : ℕ → RightSet
  held n = held_of s.rights app n

  abbrev docs : List HeldDocument
  docs = held_documents held s.documents

  all_paths_pass : (sort : Document → Bool) → list_all is_host_path (paths_where sort docs) ≡ true
  all_paths_pass sort = where_pass (λ (d : Document). is_host_path d.path) sort is_host_path (λ d h e. h) docs (view_pass (λ (d : Document). is_host_path d.path) held s.documents v.paths)

  named_some : (path : List ℕ) → names (view s app) path ≡ true → is_same path [] ≡ false
  named_some path h =
      let opened : list_all is_host_path (flat_map paths_of_connection (own_connections app s.handles s.connections)) ≡ true = connections_host app s.connections s.handles v.handles_sound (filter (λ (c : Connection). is_app app c.who) s.connections) in
      not_empty path (among_pass is_host_path (named_paths docs (own_connections app s.handles s.connections)) path (joined (paths_where is_plain_document docs) (flat_map paths_of_connection (own_connections app s.handles s.connections)) (all_paths_pass is_plain_document) opened) h)

  covered_some : (fs : List (List ℕ)) (path : List ℕ) → list_all is_host_path fs ≡ true → list_any (λ (x : List ℕ). is_at_or_below x path) fs ≡ true → is_same path [] ≡ false
  covered_some [] path h e = let no : false ≡ true = e in cc
  covered_some (f ∷ fs) path h e = step (is_at_or_below f path) refl e (covered_some fs path (grind arith)) (grind arith)
    where
      step : (b : Bool) → is_at_or_below f path ≡ b → (b || list_any (λ (x : List ℕ). is_at_or_below x path) fs) ≡ true → (list_any (λ (x : List ℕ). is_at_or_below x path) fs ≡ true → is_same path [] ≡ false) → is_host_path f ≡ true → is_same path [] ≡ false
      step true k g more l = below-some f path (not_empty f l) k
      step false k g more l = more g

  pub none-empty : (path : List ℕ) → knows (view s app) path ≡ true → is_same path [] ≡ false
  none-empty path h = step (names (view s app) path) refl h
    where
      step : (b : Bool) → names (view s app) path ≡ b → (b || covers (view s app) path) ≡ true → is_same path [] ≡ false
      step true e g = named_some path e
      step false e g = covered_some (folder_paths docs) path (all_paths_pass is_folder_document) g

  -- ---- the folders of the view

  abbrev is_sound : Document → Bool
  is_sound d = is_sound_folder s.told s.files d

  not_root : (f r t : Bool) → (not f || (not r && t)) ≡ true → f ≡ true → not r ≡ true
  not_root true true t h e = cc
  not_root true false t h e = refl
  not_root false r t h e = cc

  pub no-roots : list_all (λ (x : List ℕ). not (is_same x root)) (folder_paths docs) ≡ true
  no-roots = where_pass is_sound is_folder_document (λ (x : List ℕ). not (is_same x root)) (λ d h e. not_root d.folder (is_same d.path root) (not s.told || is_folder s.files d.path) h e) docs (view_pass is_sound held s.documents v.folders_sound)

  is_there : (f r t x : Bool) → (not f || (not r && (not t || x))) ≡ true → f ≡ true → t ≡ true → x ≡ true
  is_there true true t x h e k = cc
  is_there true false true x h e k = h
  is_there true false false x h e k = cc
  is_there false r t x h e k = cc

  pub folders-there : s.told ≡ true → FoldersThere app s
  folders-there told folder h =
      let there : is_folder s.files folder ≡ true =
      among_pass (is_folder s.files) (folder_paths docs) folder
      (where_pass is_sound is_folder_document (is_folder s.files) (λ d k e. is_there d.folder (is_same d.path root) s.told (is_folder s.files d.path) k e told) docs (view_pass is_sound held s.documents v.folders_sound)) h in
      record {
        some = not_empty folder (among_pass is_host_path (folder_paths docs) folder (all_paths_pass is_folder_document) h);
        there = there;
        no_file = no-file folder (file_at s.files folder) refl there;
        no_root = root_no (is_same folder root) (among_pass (λ (x : List ℕ). not (is_same x root)) (folder_paths docs) folder no-roots h);
      }
    where
      root_no : (b : Bool) → not b ≡ true → b ≡ false
      root_no true e = cc
      root_no false e = refl

      no-file : (path : List ℕ) (o : Option File) → file_at s.files path ≡ o → is_folder s.files path ≡ true → file_at s.files path ≡ None
      no-file path None e k = e
      no-file path (Some f) e k =
          let apart : not (is_folder s.files f.path) ≡ true = found_in_all (λ (x : File). is_same x.path path) (λ (x : File). not (is_folder s.files x.path)) s.files f e v.files_apart in
          let same : f.path ≡ path = is_same-eq f.path path (found_passes (λ (x : File). is_same x.path path) s.files f e) in
          let no : false ≡ true = (λ i. not (sym k i)) ∙ (ap (λ (p : List ℕ). not (is_folder s.files p)) (sym same) ∙ apart) in
          cc
