-- Where a walk of a request on a node asks the tree: at paths of documents that are seen and of what lies below those that are
-- folders, and by names of open files.
use Rattle.std.proofs.Common.{◌≡◌, ◌≤◌, ◌⊎◌, inl, inr, ℕ, ◌+◌, nat_lt, List, [], ◌∷◌, length, Bool, true, false, not, ◌==◌, ◌&&◌, ◌||◌, cond, Option, Some, None, is_some, refl, sym, subst, arith}
use Rattle.std.specs.List.{AllByRecursion}
use Rattle.file_generations.specs.Generations.{Held}
use Rattle.portal_base.specs.Names.{is_same, name_of, named_child}
use Rattle.portal_base.specs.declared.files.FileName.{FileName}
use Rattle.portal_base.specs.declared.files.Look.{Look}
use Rattle.portal_model.specs.declared.handle.Handle.{Handle}
use Rattle.portal_model.specs.declared.naming.Naming.{Naming}
use Rattle.portal_model.specs.declared.reply.NodeAnswer.TheVariants as NodeAnswers
use Rattle.portal_model.specs.declared.request.NodeRequest.{NodeRequest}
use Rattle.portal_model.specs.declared.state.Document.{Document}
use Rattle.portal_model.specs.declared.temporary.OwnTemp.{OwnTemp}
use Rattle.portal_model.specs.Access.{access, access_file, access_folder, executes, writes_to}
use Rattle.portal_model.specs.Attributes.{on_node, attr_of_folder, is_writable}
use Rattle.portal_model.specs.Create.{Made, child_made, create, create_child, create_in, create_other, create_own, create_temp, create_there, own_made}
use Rattle.portal_model.specs.Errno.{eacces, ebadf, eexist, efbig, eisdir, einval, emfile, enametoolong, enoent, enotdir, eperm, exdev}
use Rattle.portal_model.specs.Flush.{flush}
use Rattle.portal_model.specs.Fsync.{fsync, fsync_open}
use Rattle.portal_model.specs.GetAttr.{get_attr, get_attr_by_handle, get_attr_by_place, get_attr_open, names_handle, tells_file, tells_folder}
use Rattle.portal_model.specs.Lookup.{entry_of_file, found_child, found_document, found_folder, found_own, lookup, lookup_child, lookup_in, named_in_root, named_in_views, naming_in}
use Rattle.portal_model.specs.NodeVerdict.{NodeVerdict, Errs, OnFile, OnHandle, Room, Writes, at_file, at_name, by_file_handle, by_look, by_place, changes, changes_temps, errs, errs_if, if_file, is_too_long, no_file, told, Spot, name_at, spot, is_dots}
use Rattle.portal_model.specs.Open.{has_no_mode, open_file, open_folder, open_name, open_node, opens_to_write, truncates}
use Rattle.portal_model.specs.OpenDir.{open_dir, open_dir_in, open_found}
use Rattle.portal_model.specs.Place.{Folder, FolderOf, RootOf, Views, Sight, SightOfFile, SightOfFolder, SightOfTemp, file_node, temp_node, Exported, SightBelow}
use Rattle.portal_model.specs.Reach.{OpenFile, Reaching, may_read_now, may_write_now, open_file_of, reaches}
use Rattle.portal_model.specs.Read.{read, read_limit, read_open}
use Rattle.portal_model.specs.ReadDir.{read_dir, read_names}
use Rattle.portal_model.specs.Release.{release}
use Rattle.portal_model.specs.ReleaseDir.{release_dir}
use Rattle.portal_model.specs.Rename.{AFile, AFolder, Home, RenameCall, are_too_long, home, home_of, is_own_name, rename, rename_homes, rename_in, rename_temp, rename_to, same_home, saved, temp_at, with_seen}
use Rattle.portal_model.specs.SeatNames.{Renames, SeatTemps, found_temp, lacks_number, lacks_temp}
use Rattle.portal_model.specs.SetAttr.{SetsAttr, resize, set_attr, set_attr_at, set_attr_of, set_attr_of_folder, set_attr_of_open, set_attr_open, sets_by_handle, sets_owner_or_mode, sets_size}
use Rattle.portal_model.specs.Unlink.{unlink, unlink_at, unlink_in, unlink_temp}
use Rattle.portal_model.specs.Walk.{Walk, Answers, Looks, Ends, Target, AtPath, Named, Changes, Turns, Gives, Lists}
use Rattle.portal_model.specs.Write.{write, write_content, write_limit, write_open}
use Rattle.app_world.proofs.NamedPaths.{FolderOn, SightOn}
use Rattle.served_world.specs.OwnPlaces.{place_of_call, places_along}

-- ---- a place for each look

pub looks-placed : {X : Type 0} (w : Walk X) (tree : Option Held) (looks : List Look) (failed : Bool) → Gives tree w looks failed → length looks ≤ length (places_along w looks)
looks-placed (Answers x) tree looks failed g = subst (λ (l : List Look). length l ≤ 0) (sym g.0) (omega arith)
looks-placed (Looks place next) tree [] failed g = omega arith
looks-placed (Looks place next) tree (look ∷ looks) failed g =
    let more : length looks ≤ length (places_along (next look) looks) = looks-placed (next look) tree looks failed g.1 in
    omega arith
looks-placed (Ends call done missing) tree [] failed g = omega arith
looks-placed (Ends call done missing) tree (look ∷ looks) failed g = subst (λ (l : List Look). length (look ∷ l) ≤ 1) (sym g.1) (omega arith)
looks-placed (Lists path done missing) tree looks failed g = subst (λ (l : List Look). length l ≤ 1) (sym g) (omega arith)

-- a temporary, if any, is a file of a path at which it may be asked
abbrev pub TempAt : (List ℕ → Type 0) → Option OwnTemp → Type 0
TempAt At None = Unit {0}
TempAt At (Some t) = At t.temp.file.path

-- ---- places of one kind along a walk, whatever is shown

module _ (At : List ℕ → Type 0) (Open : FileName → Type 0) where
  abbrev pub May : Target → Type 0
  May (AtPath path) = At path
  May (Named name) = At name.path ⊎ Open name

  abbrev pub Along : Walk NodeVerdict → Type 0
  Along (Answers v) = Unit {0}
  Along (Looks place next) = May place × ((look : Look) → Along (next look))
  Along (Ends call done missing) = May (place_of_call call)
  Along (Lists path done missing) = At path

  pub along-places : (w : Walk NodeVerdict) → Along w → (looks : List Look) → AllByRecursion May (places_along w looks)
  along-places (Answers v) h looks = tt
  along-places (Looks place next) h [] = (h.0, tt)
  along-places (Looks place next) h (look ∷ looks) = (h.0, along-places (next look) (h.1 look) looks)
  along-places (Ends call done missing) h looks = (h, tt)
  along-places (Lists path done missing) h looks = (h, tt)

  -- an open file that passes the test of a request may be asked for
  abbrev pub Opening : Option Handle → (OpenFile → Bool) → Type 0
  Opening handle may =
      (file : OpenFile) → handle ≡ Some (Handle.File file.name file.node file.document file.strict file.read file.write) → may file ≡ true → Open file.name

  -- ---- parts of walks

  holds : (b : Bool) → not b ≡ false → b ≡ true
  holds true e = refl
  holds false e = cc

  if-wrong : (wrong : Bool) (errno : ℕ) (w : Walk NodeVerdict) → (wrong ≡ false → Along w) → Along (errs_if wrong errno w)
  if-wrong true errno w h = tt
  if-wrong false errno w h = h refl

  unless-wrong : (right : Bool) (errno : ℕ) (w : Walk NodeVerdict) → (right ≡ true → Along w) → Along (errs_if (not right) errno w)
  unless-wrong right errno w h = if-wrong (not right) errno w (λ e. h (holds right e))

  either : (b : Bool) (w u : Walk NodeVerdict) → Along w → Along u → Along (cond b w u)
  either true w u h k = h
  either false w u h k = k

  on-file : (next : OnFile) → ((generation size moment : ℕ) → Along (next generation size moment)) → (look : Look) → Along (if_file next look)
  on-file next h (Look.File generation size moment) = h generation size moment
  on-file next h Look.Folder = tt
  on-file next h Look.Missing = tt

  file-at : (path : List ℕ) (next : OnFile) → At path → ((generation size moment : ℕ) → Along (next generation size moment)) → Along (at_file path next)
  file-at path next n h = (n, on-file next h)

  file-of : (name : FileName) (next : OnFile) → Open name → ((generation size moment : ℕ) → Along (next generation size moment)) → Along (at_name name next)
  file-of name next n h = (inr n, on-file next h)

  on-handle : (handle : Option Handle) (next : OnHandle) →
      ((file : OpenFile) → handle ≡ Some (Handle.File file.name file.node file.document file.strict file.read file.write) → Along (next file)) → Along (by_file_handle handle next)
  on-handle None next h = tt
  on-handle (Some (Handle.File name node document strict reads writes)) next h = h (open_file_of name node document strict reads writes) refl
  on-handle (Some (Handle.Folder node names)) next h = tt

  folder-found : (r : NodeRequest) (o : Option ℕ) → Along (found_folder r o)
  folder-found r None = tt
  folder-found r (Some node) = tt

  own-found : (r : NodeRequest) (node : ℕ) (d : Document) (may_write : Bool) (look : Look) → Along (found_document r node d may_write look)
  own-found r node d may_write (Look.File generation size moment) = tt
  own-found r node d may_write Look.Folder = either d.folder (told (NodeAnswers.Entry (attr_of_folder (on_node r node) may_write))) (errs enoent) tt tt
  own-found r node d may_write Look.Missing = tt

  get_attr-file : (reach : Reaching) (r : NodeRequest) (file : OpenFile) → (reaches reach file ≡ true → Open file.name) → Along (get_attr_open reach r file)
  get_attr-file reach r file n =
      unless-wrong (reaches reach file) eacces _ (λ e. file-of file.name (tells_file (on_node r file.node) (may_write_now reach file)) (n e) (λ generation size moment. tt))

  set_attr-file : (r : NodeRequest) (a : SetsAttr) (name : FileName) (may_write : Bool) (size moment : ℕ) → May (Named name) → Along (set_attr_of r a name may_write size moment)
  set_attr-file r a name may_write size moment n =
      either (sets_size a.valid) _ _ (if-wrong (not may_write) eacces _ (λ e. if-wrong _ efbig (resize r a name may_write) (λ f. n))) tt

  set_attr-opened : (reach : Reaching) (r : NodeRequest) (a : SetsAttr) (file : OpenFile) → (reaches reach file ≡ true → Open file.name) → Along (set_attr_open reach r a file)
  set_attr-opened reach r a file n =
      unless-wrong (reaches reach file) eacces _ (λ e. file-of file.name (set_attr_of_open reach r a file) (n e) (λ generation size moment.
      if-wrong (sets_size a.valid && not file.write) ebadf _ (λ f. set_attr-file (on_node r file.node) a file.name (may_write_now reach file) size moment (inr (n e)))))

  open-name : (r : NodeRequest) (flags : ℕ) (room : Room) (d : Document) (name : FileName) → May (Named name) → Along (open_name r flags room d name)
  open-name r flags room d name n = either (truncates flags) _ _ n tt

  create-there : (r : NodeRequest) (flags : ℕ) (room : Room) (made : Made) → At made.path → (look : Look) → Along (create_there r flags room made look)
  create-there r flags room made n (Look.File generation size moment) = tt
  create-there r flags room made n Look.Folder = tt
  create-there r flags room made n Look.Missing = n

  pub read-along : (reach : Reaching) (bytes : FileName → List ℕ) (offset size : ℕ) (handle : Option Handle) → Opening handle (may_read_now reach) → Along (read reach bytes offset size handle)
  read-along reach bytes offset size handle h =
      if-wrong (nat_lt read_limit size) einval _ (λ e. on-handle handle (read_open reach bytes offset size) (λ file is.
      if-wrong (not file.read) ebadf _ (λ f. unless-wrong (may_read_now reach file) eacces _ (λ g. inr (h file is g)))))

  write-some : (limit offset : ℕ) (content : List ℕ) (name : FileName) → Open name → Along (write_content limit name offset content)
  write-some limit offset [] name n = tt
  write-some limit offset (b ∷ bs) name n =
      let done : ℕ → NodeVerdict = λ now. changes (Writes name offset (b ∷ bs) now) (NodeAnswers.Written (length (b ∷ bs))) in
      if-wrong (nat_lt limit (offset + length (b ∷ bs))) efbig (Ends (Changes name) done (Errs enoent)) (λ e. inr n)

  pub write-along : (reach : Reaching) (limit offset : ℕ) (content : List ℕ) (handle : Option Handle) → Opening handle (may_write_now reach) → Along (write reach limit offset content handle)
  write-along reach limit offset content handle h =
      if-wrong (nat_lt write_limit (length content)) einval _ (λ e. on-handle handle (write_open reach limit offset content) (λ file is.
      if-wrong (not file.write) ebadf _ (λ f. unless-wrong (may_write_now reach file) eacces _ (λ g. write-some limit offset content file.name (h file is g)))))

  pub flush-along : (handle : Option Handle) → Along (flush handle)
  flush-along handle = on-handle handle _ (λ file is. tt)

  pub fsync-along : (handle : Option Handle) → Opening handle (λ file. true) → Along (fsync handle)
  fsync-along handle h = on-handle handle fsync_open (λ file is. inr (h file is refl))

  pub release-along : (fh : ℕ) (handle : Option Handle) → Along (release fh handle)
  release-along fh handle = on-handle handle _ (λ file is. tt)

  read_dir-names : (offset size : ℕ) (handle : Option Handle) → Along (read_names offset size handle)
  read_dir-names offset size None = tt
  read_dir-names offset size (Some (Handle.File name node document strict reads writes)) = tt
  read_dir-names offset size (Some (Handle.Folder node names)) = tt

  pub read_dir-along : (offset size : ℕ) (handle : Option Handle) → Along (read_dir offset size handle)
  read_dir-along offset size handle = if-wrong (nat_lt read_limit size) einval _ (λ e. read_dir-names offset size handle)

  pub release_dir-along : (fh : ℕ) (handle : Option Handle) → Along (release_dir fh handle)
  release_dir-along fh None = tt
  release_dir-along fh (Some (Handle.File name node document strict reads writes)) = tt
  release_dir-along fh (Some (Handle.Folder node names)) = tt

  -- ---- what is seen at a node

  -- of the folders whose names are looked at, too
  -- a file of a path at which it may be asked
  abbrev pub AtIts : FileName → Type 0
  AtIts name = At name.path

  module _ (Beneath : List ℕ → Type 0) (Of : Document → Type 0) (itself : (path : List ℕ) → Beneath path → At path) (child : (path name p : List ℕ) → Beneath path → named_child path name ≡ Some p → At p) where
    below-look : (view : ℕ) (at : Spot) (file : Spot → OnFile) (folder : Folder → Walk NodeVerdict) → ((generation size moment : ℕ) → Along (file at generation size moment)) →
        Along (folder (Exported view at.document at.path at.may_write)) → (look : Look) → Along (by_look view at file folder look)
    below-look view at file folder h k (Look.File generation size moment) = h generation size moment
    below-look view at file folder h k Look.Folder = k
    below-look view at file folder h k Look.Missing = tt

    on-place : (sight : Option Sight) (file : Spot → OnFile) (folder : Folder → Walk NodeVerdict) → SightOn At Beneath AtIts Of sight →
        ((at : Spot) → At at.path → (generation size moment : ℕ) → Along (file at generation size moment)) →
        ((f : Folder) → FolderOn At Beneath AtIts Of f → Along (folder f)) → Along (by_place sight file folder)
    on-place None file folder n h k = tt
    on-place (Some (SightOfFile d may_write)) file folder n h k = file-at d.path (file (spot d d.path may_write)) n (h (spot d d.path may_write) n)
    on-place (Some (SightOfTemp d name may_write)) file folder n h k = (inl n, on-file (file (spot d name.path may_write)) (h (spot d name.path may_write) n))
    on-place (Some (SightBelow view d path may_write)) file folder n h k =
        (itself path n, below-look view (spot d path may_write) file folder (h (spot d path may_write) (itself path n)) (k (Exported view d path may_write) n))
    on-place (Some (SightOfFolder f)) file folder n h k = k f n

    found-below : (r : NodeRequest) (namings : List Naming) (naming : Naming) (may_write : Bool) (look : Look) → Along (found_child r namings naming may_write look)
    found-below r namings naming may_write (Look.File generation size moment) = if-wrong (lacks_number namings naming) emfile _ (λ e. tt)
    found-below r namings naming may_write Look.Folder = if-wrong (lacks_number namings naming) emfile _ (λ e. tt)
    found-below r namings naming may_write Look.Missing = tt

    lookup-below : (r : NodeRequest) (namings : List Naming) (view : ℕ) (d : Document) (may_write : Bool) (o : Option (List ℕ)) → ((p : List ℕ) → o ≡ Some p → At p) → Along (lookup_child r namings view d may_write o)
    lookup-below r namings view d may_write None h = tt
    lookup-below r namings view d may_write (Some p) h = (h p refl, found-below r namings (naming_in view d p) may_write)

    -- a temporary that is found in the folder of a document is such a file
    abbrev pub FoundAt : List OwnTemp → Type 0
    FoundAt temps = (d : Document) → Of d → (view : ℕ) (name : List ℕ) → TempAt At (found_temp temps view d.id name)

    temp-found : (r : NodeRequest) (view : ℕ) (may_write : Bool) (o : Option OwnTemp) → TempAt At o → Along (found_own r view may_write o)
    temp-found r view may_write None n = tt
    temp-found r view may_write (Some t) n = (inl n, on-file (entry_of_file r (temp_node view t.k) may_write) (λ generation size moment. tt))

    lookup-folder : (r : NodeRequest) (namings : List Naming) (temps : List OwnTemp) → FoundAt temps → (name : List ℕ) (f : Folder) → FolderOn At Beneath AtIts Of f → Along (lookup_in r namings temps name f)
    lookup-folder r namings temps known name (RootOf view numbers has_views) n = folder-found r (named_in_root view numbers has_views name)
    lookup-folder r namings temps known name (Views applications) n = folder-found r (named_in_views applications name)
    lookup-folder r namings temps known name (FolderOf view d may_write) n =
        either (is_same name (name_of d.path)) (Looks (AtPath d.path) (found_document r (file_node view d.id.number) d may_write)) (found_own r view may_write (found_temp temps view d.id name))
        (n.0, own-found r (file_node view d.id.number) d may_write) (temp-found r view may_write (found_temp temps view d.id name) (known d n.1 view name))
    lookup-folder r namings temps known name (Exported view d path may_write) n = lookup-below r namings view d may_write (named_child path name) (λ p e. child path name p n e)

    pub lookup-along : (r : NodeRequest) (namings : List Naming) (temps : List OwnTemp) → FoundAt temps → (name : List ℕ) (sight : Option Sight) → SightOn At Beneath AtIts Of sight → Along (lookup r namings temps name sight)
    lookup-along r namings temps known name sight n =
        if-wrong (is_too_long name) enametoolong _ (λ e. on-place sight (no_file enotdir) (lookup_in r namings temps name) n (λ at m generation size moment. tt) (lookup-folder r namings temps known name))

    get_attr-place : (r : NodeRequest) (sight : Option Sight) → SightOn At Beneath AtIts Of sight → Along (get_attr_by_place r sight)
    get_attr-place r sight n = on-place sight (λ at. tells_file r at.may_write) (tells_folder r) n (λ at m generation size moment. tt) (λ f m. tt)

    get_attr-handle : (reach : Reaching) (r : NodeRequest) (sight : Option Sight) (handle : Option Handle) → SightOn At Beneath AtIts Of sight → Opening handle (reaches reach) → Along (get_attr_by_handle reach r sight handle)
    get_attr-handle reach r sight None n h = tt
    get_attr-handle reach r sight (Some (Handle.File name node document strict reads writes)) n h =
        let file : OpenFile = open_file_of name node document strict reads writes in
        get_attr-file reach r file (h file refl)
    get_attr-handle reach r sight (Some (Handle.Folder node names)) n h = get_attr-place r sight n

    pub get_attr-along : (reach : Reaching) (r : NodeRequest) (flags : ℕ) (sight : Option Sight) (handle : Option Handle) → SightOn At Beneath AtIts Of sight → Opening handle (reaches reach) → Along (get_attr reach r flags sight handle)
    get_attr-along reach r flags sight handle n h = either (names_handle flags) (get_attr_by_handle reach r sight handle) (get_attr_by_place r sight) (get_attr-handle reach r sight handle n h) (get_attr-place r sight n)

    pub set_attr-along : (reach : Reaching) (r : NodeRequest) (a : SetsAttr) (sight : Option Sight) (handle : Option Handle) → SightOn At Beneath AtIts Of sight → Opening handle (reaches reach) → Along (set_attr reach r a sight handle)
    set_attr-along reach r a sight handle n h =
        if-wrong (sets_owner_or_mode a.valid) eperm _ (λ e.
        either (sets_by_handle a.valid) (by_file_handle handle (set_attr_open reach r a)) (by_place sight (set_attr_at r a) (set_attr_of_folder r a))
        (on-handle handle (set_attr_open reach r a) (λ file is. set_attr-opened reach r a file (h file is)))
        (on-place sight (set_attr_at r a) (set_attr_of_folder r a) n
        (λ at m generation size moment. set_attr-file r a (name_at at generation) at.may_write size moment (inl m))
        (λ f m. if-wrong (sets_size a.valid) eisdir _ (λ e. tt))))

    pub open-along : (r : NodeRequest) (flags : ℕ) (sight : Option Sight) (room : Room) → SightOn At Beneath AtIts Of sight → Along (open_node r flags sight room)
    open-along r flags sight room n =
        if-wrong (has_no_mode flags) einval _ (λ e. on-place sight (open_file r flags room) open_folder n
        (λ at m generation size moment.
        if-wrong (opens_to_write flags && not at.may_write) eacces _ (λ e. if-wrong room.full emfile _ (λ f. open-name r flags room at.document (name_at at generation) (inl m))))
        (λ f m. tt))

    create-below : (r : NodeRequest) (flags : ℕ) (room : Room) (namings : List Naming) (view : ℕ) (d : Document) (may_write : Bool) (o : Option (List ℕ)) → ((p : List ℕ) → o ≡ Some p → At p) → Along (create_child r flags room namings view d may_write o)
    create-below r flags room namings view d may_write None h = tt
    create-below r flags room namings view d may_write (Some p) h =
        let made : Made = child_made namings d (naming_in view d p) in
        if-wrong (not may_write) eacces _ (λ e. if-wrong (room.full || lacks_number namings (naming_in view d p)) emfile _ (λ f.
        (h p refl, create-there r flags room made (h p refl))))

    create-own : (r : NodeRequest) (flags : ℕ) (room : Room) (view : ℕ) (d : Document) (may_write : Bool) → At d.path → Along (create_own r flags room view d may_write)
    create-own r flags room view d may_write n = if-wrong (not may_write) eacces _ (λ f. if-wrong room.full emfile _ (λ g. (n, create-there r flags room (own_made view d) n)))

    -- the new file has the path of the document
    create-temp : (r : NodeRequest) (name : List ℕ) (flags : ℕ) (room : Room) (temps : SeatTemps) (view : ℕ) (d : Document) (may_write : Bool) → At d.path → Along (create_temp r name flags room temps view d may_write)
    create-temp r name flags room temps view d may_write n =
        if-wrong (is_dots name) eacces _ (λ e. if-wrong (not may_write) eacces _ (λ f. if-wrong (is_some (found_temp temps.temps view d.id name)) eexist _ (λ g. if-wrong (room.full || lacks_temp temps) emfile _ (λ h. inl n))))

    create-folder : (r : NodeRequest) (name : List ℕ) (flags : ℕ) (room : Room) (namings : List Naming) (temps : SeatTemps) (f : Folder) → FolderOn At Beneath AtIts Of f → Along (create_in r name flags room namings temps f)
    create-folder r name flags room namings temps (RootOf view numbers has_views) n = tt
    create-folder r name flags room namings temps (Views applications) n = tt
    create-folder r name flags room namings temps (FolderOf view d may_write) n =
        either (is_same name (name_of d.path)) (create_own r flags room view d may_write) (create_other r name flags room temps view d may_write) (create-own r flags room view d may_write n.0)
        (if-wrong d.folder eacces (create_temp r name flags room temps view d may_write) (λ e. create-temp r name flags room temps view d may_write n.0))
    create-folder r name flags room namings temps (Exported view d path may_write) n = create-below r flags room namings view d may_write (named_child path name) (λ p e. child path name p n e)

    pub create-along : (r : NodeRequest) (name : List ℕ) (flags : ℕ) (sight : Option Sight) (room : Room) (namings : List Naming) (temps : SeatTemps) → SightOn At Beneath AtIts Of sight → Along (create r name flags sight room namings temps)
    create-along r name flags sight room namings temps n =
        if-wrong (has_no_mode flags) einval _ (λ e. if-wrong (is_too_long name) enametoolong _ (λ f.
        on-place sight (no_file enotdir) (create_in r name flags room namings temps) n (λ at m generation size moment. tt) (create-folder r name flags room namings temps)))

    open_dir-folder : (r : NodeRequest) (room : Room) (temps : List OwnTemp) (f : Folder) → FolderOn At Beneath AtIts Of f → Along (open_found r room temps f)
    open_dir-folder r room temps (RootOf view numbers has_views) n = tt
    open_dir-folder r room temps (Views applications) n = tt
    open_dir-folder r room temps (FolderOf view d may_write) n = (n.0, λ look. tt)
    open_dir-folder r room temps (Exported view d path may_write) n = itself path n

    pub open_dir-along : (r : NodeRequest) (sight : Option Sight) (room : Room) (temps : List OwnTemp) → SightOn At Beneath AtIts Of sight → Along (open_dir r sight room temps)
    open_dir-along r sight room temps n =
        on-place sight (no_file enotdir) (open_dir_in r room temps) n (λ at m generation size moment. tt) (λ f m. if-wrong room.full emfile _ (λ e. open_dir-folder r room temps f m))

    pub access-along : (mask : ℕ) (sight : Option Sight) → SightOn At Beneath AtIts Of sight → Along (access mask sight)
    access-along mask sight n =
        if-wrong (nat_lt 7 mask) einval _ (λ e. on-place sight (access_file mask) (access_folder mask) n
        (λ at m generation size moment. if-wrong (executes mask || writes_to mask && not at.may_write) eacces (told NodeAnswers.Empty) (λ f. tt))
        (λ f m. if-wrong (writes_to mask && not (is_writable f)) eacces (told NodeAnswers.Empty) (λ g. tt)))

    -- ---- temporaries get other names, and are gone

    abbrev HomeOf : Option Home → Type 0
    HomeOf None = Unit {0}
    HomeOf (Some h) = Of h.document

    home-of : (f : Folder) → FolderOn At Beneath AtIts Of f → HomeOf (home_of f)
    home-of (RootOf view numbers has_views) n = tt
    home-of (Views applications) n = tt
    home-of (FolderOf view d may_write) n = elim d.folder as (λ b. HomeOf (cond b None (Some (home view d may_write)))) [ true ↦ tt | false ↦ n.1 ]
    home-of (Exported view d path may_write) n = tt

    renamed-temp : (h : Home) (name : List ℕ) (o : Option OwnTemp) → TempAt At o → Along (rename_temp h name o)
    renamed-temp h name None n = tt
    renamed-temp h name (Some t) n =
        if-wrong (not h.may_write) eacces _ (λ e. if-wrong (is_dots name) eacces _ (λ f.
        either (is_own_name h name) (Ends (Turns t.temp.file) (λ now. saved t) (Errs enoent)) (Answers (changes_temps (Renames t.k t.temp name) NodeAnswers.Empty)) (inl n) tt))

    renamed-homes : (call : RenameCall) (temps : List OwnTemp) → FoundAt temps → (first second : Option Home) → HomeOf first → Along (rename_homes call temps first second)
    renamed-homes call temps known None second n = tt
    renamed-homes call temps known (Some first) None n = tt
    renamed-homes call temps known (Some first) (Some second) n =
        if-wrong (not (same_home first second)) exdev _ (λ e. if-wrong (is_own_name first call.old_name) eperm _ (λ f.
        renamed-temp first call.new_name (temp_at temps first call.old_name) (known first.document n first.view call.old_name)))

    pub rename-along : (call : RenameCall) (temps : List OwnTemp) → FoundAt temps → (sight new_sight : Option Sight) → SightOn At Beneath AtIts Of sight → SightOn At Beneath AtIts Of new_sight → Along (rename call temps sight new_sight)
    rename-along call temps known sight new_sight n m =
        if-wrong (not (call.flags == 0)) einval _ (λ e. if-wrong (are_too_long call) enametoolong _ (λ f.
        on-place sight (λ at generation size moment. with_seen new_sight (rename_in call temps AFile)) (λ first. with_seen new_sight (rename_in call temps (AFolder first))) n
        (λ at k generation size moment.
        on-place new_sight (λ to generation size moment. rename_in call temps AFile AFile) (λ second. rename_in call temps AFile (AFolder second)) m (λ to k generation size moment. tt) (λ second k. tt))
        (λ first h.
        on-place new_sight (λ to generation size moment. rename_in call temps (AFolder first) AFile) (λ second. rename_in call temps (AFolder first) (AFolder second)) m (λ to k generation size moment. tt)
        (λ second k. renamed-homes call temps known (home_of first) (home_of second) (home-of first h)))))

    unlinked-temp : (h : Home) (o : Option OwnTemp) → Along (unlink_temp h o)
    unlinked-temp h None = tt
    unlinked-temp h (Some t) = if-wrong (not h.may_write) eacces _ (λ e. tt)

    unlinked-at : (name : List ℕ) (temps : List OwnTemp) (o : Option Home) → Along (unlink_at name temps o)
    unlinked-at name temps None = tt
    unlinked-at name temps (Some h) = if-wrong (is_own_name h name) eperm _ (λ e. unlinked-temp h (temp_at temps h name))

    pub unlink-along : (name : List ℕ) (temps : List OwnTemp) (sight : Option Sight) → SightOn At Beneath AtIts Of sight → Along (unlink name temps sight)
    unlink-along name temps sight n =
        if-wrong (is_too_long name) enametoolong _ (λ e. on-place sight (no_file enotdir) (unlink_in name temps) n (λ at m generation size moment. tt) (λ f m. unlinked-at name temps (home_of f)))
