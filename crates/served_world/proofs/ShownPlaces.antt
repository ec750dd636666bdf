-- Over a tree that tells its files the looks that are given to a request are what the files have at its places.
use Rattle.std.proofs.Common.{◌≡◌, ◌+◌, ◌==◌, ◌&&◌, ◌||◌, ℕ, nat_lt, List, [], ◌∷◌, length, map, take, Bool, true, false, not, cond, Option, Some, None, is_some, refl, sym, subst, ◌∙◌}
use Rattle.portal_base.specs.Content.{file_named}
use Rattle.file_generations.specs.Generations.{Held, all_held, may_freshen, may_turn}
use Rattle.portal_base.specs.Names.{is_same, name_of, named_child}
use Rattle.portal_base.specs.declared.files.File.{File}
use Rattle.portal_base.specs.declared.files.FileName.{FileName}
use Rattle.portal_base.specs.declared.files.Look.{Look}
use Rattle.portal_base.specs.declared.names.doc_id.DocId.{DocId}
use Rattle.portal_model.specs.declared.handle.Handle.{Handle}
use Rattle.portal_model.specs.declared.naming.Naming.{Naming}
use Rattle.portal_model.specs.declared.reply.Code.{Code}
use Rattle.portal_model.specs.declared.reply.Code.TheVariants as code
use Rattle.portal_model.specs.declared.reply.NodeAnswer.TheVariants as NodeAnswer
use Rattle.portal_model.specs.declared.request.AddRequest.{AddRequest}
use Rattle.portal_model.specs.declared.request.NodeOp.{NodeOp}
use Rattle.portal_model.specs.declared.request.NodeRequest.{NodeRequest}
use Rattle.portal_model.specs.declared.state.Connection.{Connection}
use Rattle.portal_model.specs.declared.state.Document.{Document}
use Rattle.portal_model.specs.declared.temporary.OwnTemp.{OwnTemp}
use Rattle.portal_model.specs.Access.{access_file, access_folder, executes, writes_to}
use Rattle.portal_model.specs.Add.{add, add_allowed, add_looking, add_presented, added, added_files, are_of_kind, may_list_all}
use Rattle.portal_model.specs.AddArguments.{are_add_arguments, are_presented, document_paths, paths_shown}
use Rattle.portal_model.specs.Attributes.{attr_of_folder, is_writable, on_node}
use Rattle.portal_model.specs.Content.{look_at}
use Rattle.portal_model.specs.Create.{Made, child_made, create_at, create_child, create_in, create_other, create_own, create_temp, create_there, own_made}
use Rattle.portal_model.specs.Errno.{eacces, ebadf, eexist, efbig, einval, eisdir, emfile, enametoolong, enoent, enotdir, eperm, exdev}
use Rattle.portal_model.specs.Fsync.{fsync_open}
use Rattle.portal_model.specs.GetAttr.{get_attr_by_handle, get_attr_by_place, get_attr_open, names_handle, tells_file, tells_folder}
use Rattle.portal_model.specs.Lookup.{entry_of_file, found_child, found_document, found_folder, found_own, lookup_child, lookup_in, named_in_root, named_in_views, naming_in}
use Rattle.portal_model.specs.Node.{NodeFacts, node_walk}
use Rattle.portal_model.specs.NodeVerdict.{NodeVerdict, OnFile, OnHandle, Room, Spot, at_name, by_file_handle, by_look, by_place, errs, errs_if, if_file, is_too_long, name_at, no_file, spot, told, is_dots}
use Rattle.portal_model.specs.Open.{has_no_mode, open_file, open_folder, open_name, opens_to_write, truncates}
use Rattle.portal_model.specs.OpenDir.{open_dir_in, open_found}
use Rattle.portal_model.specs.Place.{Exported, Folder, FolderOf, RootOf, Views, Sight, SightBelow, SightOfFile, SightOfFolder, SightOfTemp, file_node, temp_node}
use Rattle.portal_model.specs.Reach.{OpenFile, may_read_now, may_write_now, open_file_of, reaches}
use Rattle.portal_model.specs.Read.{read_limit, read_open}
use Rattle.portal_model.specs.ReadDir.{read_names}
use Rattle.portal_model.specs.ReleaseDir.{release_dir}
use Rattle.portal_model.specs.Rename.{AFile, AFolder, Home, RenameCall, are_too_long, home_of, is_own_name, rename, rename_call, rename_homes, rename_in, rename_temp, rename_to, same_home, temp_at, with_seen}
use Rattle.portal_model.specs.SeatNames.{SeatTemps, found_temp, lacks_number, lacks_temp}
use Rattle.portal_model.specs.SetAttr.{SetsAttr, resize, set_attr_at, set_attr_of, set_attr_of_folder, set_attr_of_open, set_attr_open, sets_by_handle, sets_owner_or_mode, sets_size}
use Rattle.portal_model.specs.State.{State}
use Rattle.portal_model.specs.Verdict.{Verdict, unless, walk_unless}
use Rattle.portal_model.specs.Walk.{Walk, Answers, Looks, Ends, Lists, AtPath, Named, LastCall, Uses, Changes, Makes, Gives, is_found, look_of_file, looks_at_all, shown_at, Freshens, Turns}
use Rattle.portal_model.specs.Write.{write_content, write_limit, write_open}
use Rattle.served_world.specs.OwnPlaces.{place_of_call, places_along, shown_along, shown_by_call}
use Rattle.portal_model.specs.Unlink.{unlink, unlink_at, unlink_in, unlink_temp}

-- ---- along a walk

module _ (held : Held) where
  abbrev files : List File
  files = held.present

  -- a file is made alone where nothing was seen
  abbrev pub IsMadeNew : LastCall → Type 0
  IsMadeNew (Uses name) = Unit {0}
  IsMadeNew (Changes name) = Unit {0}
  IsMadeNew (Makes path) = look_at files path ≡ Look.Missing
  IsMadeNew (Freshens name) = Unit {0}
  IsMadeNew (Turns name) = Unit {0}

  abbrev pub MakesNew : {X : Type 0} → Walk X → Type 0
  MakesNew (Answers x) = Unit {0}
  MakesNew (Looks place next) = MakesNew (next (shown_at held place))
  MakesNew (Ends call done missing) = IsMadeNew call
  MakesNew (Lists path done missing) = Unit {0}

  -- a call that finds nothing is at a place where nothing is
  none-there : (o : Option File) → false ≡ is_some o → look_of_file o ≡ Look.Missing
  none-there None e = refl
  none-there (Some f) e = cc

  missing-so : (b : Bool) (look : Look) → false ≡ b → cond b look Look.Missing ≡ Look.Missing
  missing-so true look e = cc
  missing-so false look e = refl

  nothing-there : (call : LastCall) → IsMadeNew call → false ≡ is_found held call → shown_by_call held call ≡ Look.Missing
  nothing-there (Uses name) h e = none-there (file_named (all_held held) name) e
  nothing-there (Changes name) h e = none-there (file_named (all_held held) name) e
  nothing-there (Makes path) h e = h
  nothing-there (Freshens name) h e = missing-so (may_freshen held name) (shown_at held (Named name)) e
  nothing-there (Turns name) h e = missing-so (may_turn held name) (shown_at held (Named name)) e

  abbrev At : {X : Type 0} → Walk X → List Look → Type 0
  At w looks = looks ≡ take (length looks) (shown_along held w looks)

  pub shown-along : {X : Type 0} (w : Walk X) → MakesNew w → (looks : List Look) (failed : Bool) → Gives (Some held) w looks failed → At w looks
  shown-along (Answers x) h looks failed g = subst (λ (l : List Look). l ≡ take (length l) []) (sym g.0) refl
  shown-along (Looks place next) h [] failed g = refl
  shown-along (Looks place next) h (look ∷ looks) failed g =
      let made : MakesNew (next look) = subst (λ (l : Look). MakesNew (next l)) (sym g.0) h in
      let rest : At (next look) looks = shown-along (next look) made looks failed g.1 in
      λ i. g.0 i ∷ rest i
  shown-along (Ends call done missing) h [] failed g = refl
  shown-along (Ends call done missing) h (look ∷ looks) failed g =
      let first : look ≡ shown_by_call held call = g.0 ∙ sym (nothing-there call h g.3) in
      let none : looks ≡ take (length looks) [] = subst (λ (l : List Look). l ≡ take (length l) []) (sym g.1) refl in
      λ i. first i ∷ none i
  shown-along (Lists path done missing) h looks failed g = subst (λ (l : List Look). l ≡ take (length l) (shown_at held (AtPath path) ∷ [])) (sym g) refl

  -- ---- a request on a node

  if-made : (wrong : Bool) (errno : ℕ) (w : Walk NodeVerdict) → MakesNew w → MakesNew (errs_if wrong errno w)
  if-made true errno w h = tt
  if-made false errno w h = h

  either-made : (b : Bool) (w u : Walk NodeVerdict) → MakesNew w → MakesNew u → MakesNew (cond b w u)
  either-made true w u h k = h
  either-made false w u h k = k

  file-made : (next : OnFile) (look : Look) → ((generation size moment : ℕ) → MakesNew (next generation size moment)) → MakesNew (if_file next look)
  file-made next (Look.File generation size moment) h = h generation size moment
  file-made next Look.Folder h = tt
  file-made next Look.Missing h = tt

  below-made : (view : ℕ) (at : Spot) (file : Spot → OnFile) (folder : Folder → Walk NodeVerdict) (look : Look) → ((generation size moment : ℕ) → MakesNew (file at generation size moment)) → ((f : Folder) → MakesNew (folder f)) → MakesNew (by_look view at file folder look)
  below-made view at file folder (Look.File generation size moment) h k = h generation size moment
  below-made view at file folder Look.Folder h k = k (Exported view at.document at.path at.may_write)
  below-made view at file folder Look.Missing h k = tt

  place-made : (sight : Option Sight) (file : Spot → OnFile) (folder : Folder → Walk NodeVerdict) → ((at : Spot) (generation size moment : ℕ) → MakesNew (file at generation size moment)) → ((f : Folder) → MakesNew (folder f)) → MakesNew (by_place sight file folder)
  place-made None file folder h k = tt
  place-made (Some (SightOfFile d may_write)) file folder h k = file-made (file (spot d d.path may_write)) (look_at files d.path) (h (spot d d.path may_write))
  place-made (Some (SightOfTemp d name may_write)) file folder h k = file-made (file (spot d name.path may_write)) (look_of_file (file_named (all_held held) name)) (h (spot d name.path may_write))
  place-made (Some (SightBelow view d path may_write)) file folder h k = below-made view (spot d path may_write) file folder (look_at files path) (h (spot d path may_write)) k
  place-made (Some (SightOfFolder f)) file folder h k = k f

  name-made : (name : FileName) (next : OnFile) → ((generation size moment : ℕ) → MakesNew (next generation size moment)) → MakesNew (at_name name next)
  name-made name next h = file-made next (look_of_file (file_named (all_held held) name)) h

  handle-made : (handle : Option Handle) (next : OnHandle) → ((file : OpenFile) → MakesNew (next file)) → MakesNew (by_file_handle handle next)
  handle-made None next h = tt
  handle-made (Some (Handle.File name node document strict reads writes)) next h = h (open_file_of name node document strict reads writes)
  handle-made (Some (Handle.Folder node names)) next h = tt

  -- a file is made alone where the look ahead shows none
  there-made : (r : NodeRequest) (flags : ℕ) (room : Room) (made : Made) (look : Look) → look_at files made.path ≡ look → MakesNew (create_there r flags room made look)
  there-made r flags room made (Look.File generation size moment) e = tt
  there-made r flags room made Look.Folder e = tt
  there-made r flags room made Look.Missing e = e

  at-made : (r : NodeRequest) (flags : ℕ) (room : Room) (made : Made) → MakesNew (create_at r flags room made)
  at-made r flags room made = there-made r flags room made (look_at files made.path) refl

  child-made : (r : NodeRequest) (flags : ℕ) (room : Room) (namings : List Naming) (view : ℕ) (d : Document) (may_write : Bool) (path : Option (List ℕ)) → MakesNew (create_child r flags room namings view d may_write path)
  child-made r flags room namings view d may_write None = tt
  child-made r flags room namings view d may_write (Some path) =
      let naming : Naming = naming_in view d path in
      let walk : Walk NodeVerdict = create_at r flags room (child_made namings d naming) in
      if-made (not may_write) eacces (errs_if (room.full || lacks_number namings naming) emfile walk)
      (if-made (room.full || lacks_number namings naming) emfile walk (at-made r flags room (child_made namings d naming)))

  temp-made : (r : NodeRequest) (name : List ℕ) (flags : ℕ) (room : Room) (temps : SeatTemps) (view : ℕ) (d : Document) (may_write : Bool) → MakesNew (create_temp r name flags room temps view d may_write)
  temp-made r name flags room temps view d may_write =
      if-made (is_dots name) eacces _ (if-made (not may_write) eacces _ (if-made (is_some (found_temp temps.temps view d.id name)) eexist _ (if-made (room.full || lacks_temp temps) emfile _ tt)))

  in-made : (r : NodeRequest) (name : List ℕ) (flags : ℕ) (room : Room) (namings : List Naming) (temps : SeatTemps) (f : Folder) → MakesNew (create_in r name flags room namings temps f)
  in-made r name flags room namings temps (RootOf view numbers has_views) = tt
  in-made r name flags room namings temps (Views applications) = tt
  in-made r name flags room namings temps (FolderOf view d may_write) =
      either-made (is_same name (name_of d.path)) (create_own r flags room view d may_write) (create_other r name flags room temps view d may_write)
      (if-made (not may_write) eacces _ (if-made room.full emfile _ (at-made r flags room (own_made view d))))
      (if-made d.folder eacces (create_temp r name flags room temps view d may_write) (temp-made r name flags room temps view d may_write))
  in-made r name flags room namings temps (Exported view d path may_write) = child-made r flags room namings view d may_write (named_child path name)

  found-made : (r : NodeRequest) (o : Option ℕ) → MakesNew (found_folder r o)
  found-made r None = tt
  found-made r (Some node) = tt

  own-made : (r : NodeRequest) (node : ℕ) (d : Document) (may_write : Bool) (look : Look) → MakesNew (found_document r node d may_write look)
  own-made r node d may_write (Look.File generation size moment) = tt
  own-made r node d may_write Look.Folder = either-made d.folder (told (NodeAnswer.Entry (attr_of_folder (on_node r node) may_write))) (errs enoent) tt tt
  own-made r node d may_write Look.Missing = tt

  entry-made : (r : NodeRequest) (namings : List Naming) (naming : Naming) (may_write : Bool) (look : Look) → MakesNew (found_child r namings naming may_write look)
  entry-made r namings naming may_write (Look.File generation size moment) = if-made (lacks_number namings naming) emfile _ tt
  entry-made r namings naming may_write Look.Folder = if-made (lacks_number namings naming) emfile _ tt
  entry-made r namings naming may_write Look.Missing = tt

  lookup-child-made : (r : NodeRequest) (namings : List Naming) (view : ℕ) (d : Document) (may_write : Bool) (path : Option (List ℕ)) → MakesNew (lookup_child r namings view d may_write path)
  lookup-child-made r namings view d may_write None = tt
  lookup-child-made r namings view d may_write (Some path) = entry-made r namings (naming_in view d path) may_write (look_at files path)

  own-temp-made : (r : NodeRequest) (view : ℕ) (may_write : Bool) (o : Option OwnTemp) → MakesNew (found_own r view may_write o)
  own-temp-made r view may_write None = tt
  own-temp-made r view may_write (Some t) = name-made t.temp.file (entry_of_file r (temp_node view t.k) may_write) (λ g s m. tt)

  lookup-made : (r : NodeRequest) (namings : List Naming) (temps : List OwnTemp) (name : List ℕ) (f : Folder) → MakesNew (lookup_in r namings temps name f)
  lookup-made r namings temps name (RootOf view numbers has_views) = found-made r (named_in_root view numbers has_views name)
  lookup-made r namings temps name (Views applications) = found-made r (named_in_views applications name)
  lookup-made r namings temps name (FolderOf view d may_write) =
      either-made (is_same name (name_of d.path)) (Looks (AtPath d.path) (found_document r (file_node view d.id.number) d may_write)) (found_own r view may_write (found_temp temps view d.id name)) (own-made r (file_node view d.id.number) d may_write (look_at files d.path))
      (own-temp-made r view may_write (found_temp temps view d.id name))
  lookup-made r namings temps name (Exported view d path may_write) = lookup-child-made r namings view d may_write (named_child path name)

  size-made : (r : NodeRequest) (a : SetsAttr) (name : FileName) (may_write : Bool) (size moment : ℕ) → MakesNew (set_attr_of r a name may_write size moment)
  size-made r a name may_write size moment = either-made (sets_size a.valid) _ _ (if-made (not may_write) eacces _ (if-made (nat_lt a.limit a.size) efbig (resize r a name may_write) tt)) tt

  open-made : (r : NodeRequest) (flags : ℕ) (room : Room) (d : Document) (name : FileName) → MakesNew (open_name r flags room d name)
  open-made r flags room d name = either-made (truncates flags) _ _ tt tt

  found-dir-made : (r : NodeRequest) (room : Room) (temps : List OwnTemp) (f : Folder) → MakesNew (open_found r room temps f)
  found-dir-made r room temps (RootOf view numbers has_views) = tt
  found-dir-made r room temps (Views applications) = tt
  found-dir-made r room temps (FolderOf view d may_write) = tt
  found-dir-made r room temps (Exported view d path may_write) = tt

  names-made : (offset size : ℕ) (handle : Option Handle) → MakesNew (read_names offset size handle)
  names-made offset size None = tt
  names-made offset size (Some (Handle.File name node document strict reads writes)) = tt
  names-made offset size (Some (Handle.Folder node names)) = tt

  release-made : (fh : ℕ) (handle : Option Handle) → MakesNew (release_dir fh handle)
  release-made fh None = tt
  release-made fh (Some (Handle.File name node document strict reads writes)) = tt
  release-made fh (Some (Handle.Folder node names)) = tt

  content-made : (limit : ℕ) (name : FileName) (offset : ℕ) (content : List ℕ) → MakesNew (write_content limit name offset content)
  content-made limit name offset [] = tt
  content-made limit name offset (b ∷ bs) = if-made (nat_lt limit (offset + length (b ∷ bs))) efbig _ tt

  rename-temp-made : (h : Home) (name : List ℕ) (o : Option OwnTemp) → MakesNew (rename_temp h name o)
  rename-temp-made h name None = tt
  rename-temp-made h name (Some t) = if-made (not h.may_write) eacces _ (if-made (is_dots name) eacces _ (either-made (is_own_name h name) _ _ tt tt))

  homes-made : (call : RenameCall) (temps : List OwnTemp) (first second : Option Home) → MakesNew (rename_homes call temps first second)
  homes-made call temps None second = tt
  homes-made call temps (Some first) None = tt
  homes-made call temps (Some first) (Some second) =
      if-made (not (same_home first second)) exdev _ (if-made (is_own_name first call.old_name) eperm _ (rename-temp-made first call.new_name (temp_at temps first call.old_name)))

  rename-made : (call : RenameCall) (temps : List OwnTemp) (sight new_sight : Option Sight) → MakesNew (rename call temps sight new_sight)
  rename-made call temps sight new_sight =
      if-made (not (call.flags == 0)) einval _ (if-made (are_too_long call) enametoolong _
      (place-made sight (λ at g s m. with_seen new_sight (rename_in call temps AFile)) (λ first. with_seen new_sight (rename_in call temps (AFolder first)))
      (λ at g s m. place-made new_sight (λ to g s m. rename_in call temps AFile AFile) (λ second. rename_in call temps AFile (AFolder second)) (λ to g s m. tt) (λ second. tt))
      (λ first. place-made new_sight (λ to g s m. rename_in call temps (AFolder first) AFile) (λ second. rename_in call temps (AFolder first) (AFolder second)) (λ to g s m. tt)
      (λ second. homes-made call temps (home_of first) (home_of second)))))

  unlink-temp-made : (h : Home) (o : Option OwnTemp) → MakesNew (unlink_temp h o)
  unlink-temp-made h None = tt
  unlink-temp-made h (Some t) = if-made (not h.may_write) eacces _ tt

  unlink-made : (name : List ℕ) (temps : List OwnTemp) (o : Option Home) → MakesNew (unlink_at name temps o)
  unlink-made name temps None = tt
  unlink-made name temps (Some h) = if-made (is_own_name h name) eperm _ (unlink-temp-made h (temp_at temps h name))

  module _ (f : NodeFacts) (r : NodeRequest) where
    attr-place-made : MakesNew (get_attr_by_place r f.sight)
    attr-place-made = place-made f.sight (λ at. tells_file r at.may_write) (tells_folder r) (λ at g s m. tt) (λ x. tt)

    attr-open-made : (file : OpenFile) → MakesNew (get_attr_open f.reach r file)
    attr-open-made file =
        if-made (not (reaches f.reach file)) eacces (at_name file.name (tells_file (on_node r file.node) (may_write_now f.reach file)))
        (name-made file.name (tells_file (on_node r file.node) (may_write_now f.reach file)) (λ g s m. tt))

    attr-made : (handle : Option Handle) → MakesNew (get_attr_by_handle f.reach r f.sight handle)
    attr-made None = tt
    attr-made (Some (Handle.File name node document strict reads writes)) = attr-open-made (open_file_of name node document strict reads writes)
    attr-made (Some (Handle.Folder node names)) = attr-place-made

    size-open-made : (a : SetsAttr) (file : OpenFile) → MakesNew (set_attr_open f.reach r a file)
    size-open-made a file =
        if-made (not (reaches f.reach file)) eacces _ (name-made file.name (set_attr_of_open f.reach r a file) (λ g s m.
        if-made (sets_size a.valid && not file.write) ebadf _ (size-made (on_node r file.node) a file.name (may_write_now f.reach file) s m)))

    pub node-made : (op : NodeOp) → MakesNew (node_walk f r op)
    node-made (NodeOp.Lookup name) = if-made (is_too_long name) enametoolong _ (place-made f.sight (no_file enotdir) (lookup_in r f.namings f.temps.temps name) (λ at g s m. tt) (lookup-made r f.namings f.temps.temps name))
    node-made (NodeOp.Forget count) = tt
    node-made (NodeOp.BatchForget nodes) = tt
    node-made (NodeOp.GetAttr flags fh) = either-made (names_handle flags) (get_attr_by_handle f.reach r f.sight (f.handle fh)) (get_attr_by_place r f.sight) (attr-made (f.handle fh)) attr-place-made
    node-made (NodeOp.SetAttr valid fh size) =
        let a : SetsAttr = record { valid = valid; size = size; limit = f.file_limit } in
        if-made (sets_owner_or_mode valid) eperm _
        (either-made (sets_by_handle valid) (by_file_handle (f.handle fh) (set_attr_open f.reach r a)) (by_place f.sight (set_attr_at r a) (set_attr_of_folder r a))
        (handle-made (f.handle fh) (set_attr_open f.reach r a) (size-open-made a))
        (place-made f.sight (set_attr_at r a) (set_attr_of_folder r a) (λ at g s m. size-made r a (name_at at g) at.may_write s m) (λ x. if-made (sets_size valid) eisdir _ tt)))
    node-made (NodeOp.Open flags) = if-made (has_no_mode flags) einval _ (place-made f.sight (open_file r flags f.room) open_folder
        (λ at g s m. if-made (opens_to_write flags && not at.may_write) eacces _ (if-made f.room.full emfile _ (open-made r flags f.room at.document (name_at at g)))) (λ x. tt))
    node-made (NodeOp.Create name flags) = if-made (has_no_mode flags) einval _ (if-made (is_too_long name) enametoolong _ (place-made f.sight (no_file enotdir) (create_in r name flags f.room f.namings f.temps) (λ at g s m. tt) (in-made r name flags f.room f.namings f.temps)))
    node-made (NodeOp.Read fh offset size) = if-made (nat_lt read_limit size) einval _ (handle-made (f.handle fh) (read_open f.reach f.bytes offset size) (λ file. if-made (not file.read) ebadf _ (if-made (not (may_read_now f.reach file)) eacces _ tt)))
    node-made (NodeOp.Write fh offset content) = if-made (nat_lt write_limit (length content)) einval _ (handle-made (f.handle fh) (write_open f.reach f.file_limit offset content) (λ file. if-made (not file.write) ebadf _ (if-made (not (may_write_now f.reach file)) eacces _ (content-made f.file_limit file.name offset content))))
    node-made (NodeOp.Flush fh) = handle-made (f.handle fh) _ (λ file. tt)
    node-made (NodeOp.Fsync fh) = handle-made (f.handle fh) fsync_open (λ file. tt)
    node-made (NodeOp.Release fh) = handle-made (f.handle fh) _ (λ file. tt)
    node-made NodeOp.OpenDir = place-made f.sight (no_file enotdir) (open_dir_in r f.room f.temps.temps) (λ at g s m. tt) (λ x. if-made f.room.full emfile _ (found-dir-made r f.room f.temps.temps x))
    node-made (NodeOp.ReadDir fh offset size) = if-made (nat_lt read_limit size) einval _ (names-made offset size (f.handle fh))
    node-made (NodeOp.ReleaseDir fh) = release-made fh (f.handle fh)
    node-made (NodeOp.Access mask) = if-made (nat_lt 7 mask) einval _ (place-made f.sight (access_file mask) (access_folder mask)
        (λ at g s m. if-made (executes mask || writes_to mask && not at.may_write) eacces (told NodeAnswer.Empty) tt)
        (λ x. if-made (writes_to mask && not (is_writable x)) eacces (told NodeAnswer.Empty) tt))
    node-made (NodeOp.Rename new_parent flags old_name new_name) = rename-made (rename_call flags old_name new_name) f.temps.temps f.sight (f.sight_of new_parent)
    node-made (NodeOp.Unlink name) = if-made (is_too_long name) enametoolong _ (place-made f.sight (no_file enotdir) (unlink_in name f.temps.temps) (λ at g s m. tt) (λ x. unlink-made name f.temps.temps (home_of x)))

  -- ---- an Add, which makes no file

  looks-made : {X : Type 0} (paths : List (List ℕ)) (x : List Look → X) → MakesNew (looks_at_all paths (λ (l : List Look). Answers (x l)))
  looks-made [] x = tt
  looks-made (path ∷ paths) x = looks-made paths (λ l. x (shown_at held (AtPath path) ∷ l))

  unless-made : (wrong : Bool) (c : Code) (w : Walk Verdict) → MakesNew w → MakesNew (walk_unless wrong c w)
  unless-made true c w h = tt
  unless-made false c w h = h

  pub add-made : (s : State) (c : Connection) (a : AddRequest) (numbers : List DocId) → MakesNew (add s c a numbers)
  add-made s c a numbers =
      unless-made (not (are_presented c.queue a)) code.InvalidArgs (add_presented s c a numbers)
      (unless-made (not (are_add_arguments c.queue a)) code.InvalidArgument (add_allowed s c a numbers)
      (unless-made (not (may_list_all s c.who a (document_paths c.queue a))) code.NotAllowed (add_looking s c a numbers)
      (looks-made (paths_shown c.queue a) (λ looks. unless (not (are_of_kind a (paths_shown c.queue a) looks)) code.InvalidArgument (added s (added_files s c a numbers))))))
