-- Along each walk of a request on a node, over a tree that tells its files: it looks at paths that are named alone, and
-- at files that are known, and what it then does can be done there.
use Rattle.std.proofs.Common.{◌≡◌, ℕ, ◌+◌, ◌==◌, nat_lt, List, [], ◌∷◌, length, Bool, true, false, not, ◌&&◌, ◌||◌, cond, Option, Some, None, is_some, refl, sym, subst}
use Rattle.file_generations.specs.Generations.{Held, is_held}
use Rattle.portal_base.specs.Names.{is_same, name_of, named_child}
use Rattle.portal_base.specs.declared.files.ChildName.{ChildName}
use Rattle.portal_base.specs.declared.files.FileName.{FileName}
use Rattle.portal_base.specs.declared.files.Look.{Look}
use Rattle.portal_model.specs.declared.handle.Handle.{Handle}
use Rattle.portal_model.specs.declared.naming.Naming.{Naming}
use Rattle.portal_model.specs.declared.reply.Attr.{Attr}
use Rattle.portal_model.specs.declared.reply.NodeAnswer.{NodeAnswer}
use Rattle.portal_model.specs.declared.reply.NodeAnswer.TheVariants as NodeAnswers
use Rattle.portal_model.specs.declared.request.NodeOp.{NodeOp}
use Rattle.portal_model.specs.declared.request.NodeRequest.{NodeRequest}
use Rattle.portal_model.specs.declared.state.Document.{Document}
use Rattle.portal_model.specs.declared.temporary.OwnTemp.{OwnTemp}
use Rattle.portal_model.specs.declared.temporary.Temp.{Temp}
use Rattle.portal_model.specs.Access.{access, access_file, access_folder, executes, writes_to}
use Rattle.portal_model.specs.Attributes.{attr_of_file, attr_of_folder, is_writable, on_node}
use Rattle.portal_model.specs.Content.{has_room, is_folder, look_at}
use Rattle.portal_model.specs.Create.{Made, add_temp, child_made, create, create_at, create_child, create_in, create_other, create_own, create_temp, create_there, next_file, next_temp_node, own_made, temp_made}
use Rattle.portal_model.specs.Errno.{eacces, ebadf, eexist, efbig, eisdir, einval, emfile, enametoolong, enoent, enotdir, eperm, exdev}
use Rattle.portal_model.specs.Fsync.{fsync_open}
use Rattle.portal_model.specs.GetAttr.{get_attr, get_attr_by_handle, get_attr_by_place, get_attr_open, names_handle, tells_file, tells_folder}
use Rattle.portal_model.specs.Lookup.{entry_named, entry_of_file, found_child, found_document, found_folder, found_own, lookup, lookup_child, lookup_in, named_in_root, named_in_views, naming_in, node_of_naming}
use Rattle.portal_model.specs.Node.{NodeFacts, node_walk}
use Rattle.portal_model.specs.NodeVerdict.{FileChange, FilesStay, Writes, Resizes, Creates, Adds, Stands, HandleChange, HandlesStay, NameChange, NamesStay, Names, Temps, Opens, Closes, NodeDoing, NodeVerdict, Errs, Yields, OnFile, OnHandle, Room, Spot, at_file, at_name, by_file_handle, by_look, by_place, changes, changes_temps, errs, errs_if, if_file, is_too_long, name_at, names_path, no_file, spot, told, is_dots}
use Rattle.portal_model.specs.Open.{has_no_mode, open_file, open_folder, open_name, open_node, opens_to_write, truncates}
use Rattle.portal_model.specs.OpenDir.{open_dir, open_dir_in, open_found}
use Rattle.portal_model.specs.Place.{Exported, Folder, FolderOf, RootOf, Views, Sight, SightBelow, SightOfFile, SightOfFolder, SightOfTemp, file_node, temp_node}
use Rattle.portal_model.specs.Reach.{OpenFile, Reaching, may_read_now, may_write_now, open_file_of, reaches}
use Rattle.portal_model.specs.Read.{read, read_open}
use Rattle.portal_model.specs.ReadDir.{read_names}
use Rattle.portal_model.specs.ReleaseDir.{release_dir}
use Rattle.portal_model.specs.Rename.{AFile, AFolder, Home, RenameCall, are_too_long, home, home_of, is_own_name, rename, rename_call, rename_homes, rename_in, rename_temp, rename_to, same_home, saved, temp_at, with_seen}
use Rattle.portal_model.specs.SeatNames.{Begins, Drops, Renames, SeatTemps, found_temp, lacks_number, lacks_temp}
use Rattle.portal_model.specs.SetAttr.{SetsAttr, resize, set_attr, set_attr_at, set_attr_of, set_attr_of_folder, set_attr_of_open, set_attr_open, sets_by_handle, sets_owner_or_mode, sets_size}
use Rattle.portal_model.specs.Unlink.{unlink, unlink_at, unlink_in, unlink_temp}
use Rattle.portal_model.specs.Walk.{Walk, Answers, Looks, Ends, Lists, Target, AtPath, Named, LastCall, Uses, Changes, Makes, Freshens, Turns, Gives, is_found, listed_by, shown_at, walked_with}
use Rattle.portal_model.specs.Write.{write, write_content, write_open}
use Rattle.portal_model.proofs.DocumentChanges.{first_of_both}
use Rattle.app_world.proofs.NamedPaths.{FolderOn, HandleOn, SightOn}

-- ---- what is done

module _ (tree : Held) (Known New : FileName → Type 0) where
  -- the file is there that is changed, and a place for the one that is made; one that is added has a name that is new, and
  -- one that becomes present is known
  abbrev pub CanChange : FileChange → Type 0
  CanChange FilesStay = Unit {0}
  CanChange (Writes name offset content now) = is_held tree name ≡ true
  CanChange (Resizes name size now) = is_held tree name ≡ true
  CanChange (Creates path now) = (look_at tree.present path ≡ Look.Missing) × (has_room tree.present path ≡ true)
  CanChange (Adds name now) = New name
  CanChange (Stands name) = Known name × (is_held tree name ≡ true)

  -- an opened file is known
  abbrev pub OpensOn : HandleChange → Type 0
  OpensOn HandlesStay = Unit {0}
  OpensOn (Opens handle) = HandleOn Known (Some handle)
  OpensOn (Closes fh) = Unit {0}

  -- a temporary begins with a name that is new
  abbrev pub BeginsNew : NameChange → Type 0
  BeginsNew NamesStay = Unit {0}
  BeginsNew (Names naming) = Unit {0}
  BeginsNew (Temps (Begins temp)) = New temp.file
  BeginsNew (Temps (Drops k)) = Unit {0}
  BeginsNew (Temps (Renames k temp name)) = Unit {0}

  pub record CanDo (d : NodeDoing) : Type 0 where
    pub file : CanChange d.file
    pub handle : OpensOn d.handle
    pub names : BeginsNew d.names

  abbrev pub CanYield : NodeVerdict → Type 0
  CanYield (Errs errno) = Unit {0}
  CanYield (Yields d) = CanDo d

  abbrev pub CanBe : Option NodeVerdict → Type 0
  CanBe None = Unit {0}
  CanBe (Some v) = CanYield v

-- ---- walks

module _ (tree : Held) (Known New : FileName → Type 0) (Agrees : Target → Type 0) (Finds : LastCall → Type 0) (Listed : List ℕ → Type 0) where
  abbrev Can : NodeVerdict → Type 0
  Can v = CanYield tree Known New v

  abbrev pub Along : Walk NodeVerdict → Type 0
  Along (Answers v) = Can v
  Along (Looks target next) = Agrees target × Along (next (shown_at tree target))
  Along (Ends call done missing) = Finds call × ((is_found tree call ≡ true → (now : ℕ) → Can (done now)) × Can missing)
  Along (Lists path done missing) = Listed path × (((names : List ChildName) → Can (done names)) × Can missing)

  by_names : (listed : Option (List ChildName)) (done : List ChildName → NodeVerdict) (missing : NodeVerdict) → ((names : List ChildName) → Can (done names)) → Can missing → Can (listed_by done missing listed)
  by_names None done missing h k = k
  by_names (Some names) done missing h k = h names

  -- what is given leads to what can be done
  pub given-can : (w : Walk NodeVerdict) (now : ℕ) (listed : Option (List ChildName)) (looks : List Look) (failed : Bool) → Gives (Some tree) w looks failed → Along w → CanBe tree Known New (walked_with w now listed looks failed)
  given-can (Answers v) now listed looks failed g h = h
  given-can (Looks target next) now listed [] failed g h = tt
  given-can (Looks target next) now listed (look ∷ looks) failed g h =
      subst (λ (l : Look). CanBe tree Known New (walked_with (next l) now listed looks failed)) (sym g.0)
      (given-can (next (shown_at tree target)) now listed looks failed (subst (λ (l : Look). Gives (Some tree) (next l) looks failed) g.0 g.1) h.1)
  given-can (Ends call done missing) now listed [] true g h = tt
  given-can (Ends call done missing) now listed [] false g h = h.1.0 (sym g) now
  given-can (Ends call done missing) now listed (look ∷ looks) failed g h = h.1.1
  given-can (Lists path done missing) now listed looks true g h = tt
  given-can (Lists path done missing) now listed looks false g h = by_names listed done missing h.1.0 h.1.1

  module _ (On Beneath : List ℕ → Type 0) (Of : Document → Type 0) where
    -- the name that the next temporary at a path gets is new, and can be made there
    abbrev pub Fresh : FileName → Type 0
    Fresh name = Finds (Freshens name) × (Known name × New name)

    abbrev pub FreshOn : SeatTemps → Type 0
    FreshOn temps = (path : List ℕ) → On path → Fresh (record { path = path; generation = temps.next path })

    -- a temporary that is found in the folder of a document is known
    abbrev pub KnownTemp : Option OwnTemp → Type 0
    KnownTemp None = Unit {0}
    KnownTemp (Some t) = Known t.temp.file

    abbrev pub FoundOn : List OwnTemp → Type 0
    FoundOn temps = (d : Document) → Of d → (view : ℕ) (name : List ℕ) → KnownTemp (found_temp temps view d.id name)

    -- what is needed of the paths and the names, told once
    pub record Grounds : Type 0 where
      pub itself : (path : List ℕ) → Beneath path → On path
      pub child : (path name p : List ℕ) → Beneath path → named_child path name ≡ Some p → On p
      pub lists : (path : List ℕ) → Beneath path → Listed path
      pub at_path : (path : List ℕ) → On path → Agrees (AtPath path)
      pub at_named : (name : FileName) → Known name → Agrees (Named name)
      pub uses : (name : FileName) → Known name → Finds (Uses name)
      pub alters : (name : FileName) → Known name → Finds (Changes name)
      pub makes : (path : List ℕ) → On path → look_at tree.present path ≡ Look.Missing → Finds (Makes path)
      pub turns : (name : FileName) → Known name → Finds (Turns name)
      -- the file that stands at a path is known, and the first one of a path where nothing stands
      pub standing : (path : List ℕ) → On path → (generation size moment : ℕ) → look_at tree.present path ≡ Look.File generation size moment → Known (record { path = path; generation = generation })
      pub absent : (path : List ℕ) → On path → look_at tree.present path ≡ Look.Missing → Known (record { path = path; generation = 0 })
      -- what is shown for a name has the generation of it
      pub named_still : (name : FileName) → Known name → (generation size moment : ℕ) → shown_at tree (Named name) ≡ Look.File generation size moment → Known (record { path = name.path; generation = generation })

    module _ (g : Grounds) where
      -- what tells alone
      still : {answer : NodeAnswer} → CanDo tree Known New (record { answer = answer; file = FilesStay; handle = HandlesStay; names = NamesStay })
      still = record { file = tt; handle = tt; names = tt }

      if-wrong : (wrong : Bool) (errno : ℕ) (w : Walk NodeVerdict) → Along w → Along (errs_if wrong errno w)
      if-wrong true errno w h = tt
      if-wrong false errno w h = h

      either : (b : Bool) (w u : Walk NodeVerdict) → Along w → Along u → Along (cond b w u)
      either true w u h k = h
      either false w u h k = k

      -- a file that stands at a path, and one of a name
      abbrev pub AtFile : List ℕ → OnFile → Type 0
      AtFile path next = (generation size moment : ℕ) → Known (record { path = path; generation = generation }) → Along (next generation size moment)

      on-file : (next : OnFile) (look : Look) → ((generation size moment : ℕ) → look ≡ Look.File generation size moment → Along (next generation size moment)) → Along (if_file next look)
      on-file next (Look.File generation size moment) h = h generation size moment refl
      on-file next Look.Folder h = tt
      on-file next Look.Missing h = tt

      file-at : (path : List ℕ) (next : OnFile) → On path → AtFile path next → Along (at_file path next)
      file-at path next n h = (g.at_path path n, on-file next (shown_at tree (AtPath path)) (λ generation size moment e. h generation size moment (g.standing path n generation size moment e)))

      file-of : (name : FileName) (next : OnFile) → Known name → ((generation size moment : ℕ) → Along (next generation size moment)) → Along (at_name name next)
      file-of name next n h = (g.at_named name n, on-file next (shown_at tree (Named name)) (λ generation size moment e. h generation size moment))

      file-named : (name : FileName) (next : OnFile) → Known name → AtFile name.path next → Along (at_name name next)
      file-named name next n h = (g.at_named name n, on-file next (shown_at tree (Named name)) (λ generation size moment e. h generation size moment (g.named_still name n generation size moment e)))

      on-look : (view : ℕ) (at : Spot) (file : Spot → OnFile) (folder : Folder → Walk NodeVerdict) (look : Look) → ((generation size moment : ℕ) → look ≡ Look.File generation size moment → Along (file at generation size moment)) →
          Along (folder (Exported view at.document at.path at.may_write)) → Along (by_look view at file folder look)
      on-look view at file folder (Look.File generation size moment) h k = h generation size moment refl
      on-look view at file folder Look.Folder h k = k
      on-look view at file folder Look.Missing h k = tt

      on-place : (sight : Option Sight) (file : Spot → OnFile) (folder : Folder → Walk NodeVerdict) → SightOn On Beneath Known Of sight → ((at : Spot) → AtFile at.path (file at)) →
          ((f : Folder) → FolderOn On Beneath Known Of f → Along (folder f)) → Along (by_place sight file folder)
      on-place None file folder n h k = tt
      on-place (Some (SightOfFile d may_write)) file folder n h k = file-at d.path (file (spot d d.path may_write)) n (h (spot d d.path may_write))
      on-place (Some (SightOfTemp d name may_write)) file folder n h k = file-named name (file (spot d name.path may_write)) n (h (spot d name.path may_write))
      on-place (Some (SightBelow view d path may_write)) file folder n h k = (
        g.at_path path (g.itself path n),
        on-look view (spot d path may_write) file folder (shown_at tree (AtPath path))
            (λ generation size moment e. h (spot d path may_write) generation size moment (g.standing path (g.itself path n) generation size moment e))
            (k (Exported view d path may_write) n),
      )
      on-place (Some (SightOfFolder f)) file folder n h k = k f n

      on-handle : (handle : Option Handle) (next : OnHandle) → HandleOn Known handle → ((file : OpenFile) → Known file.name → Along (next file)) → Along (by_file_handle handle next)
      on-handle None next n h = tt
      on-handle (Some (Handle.File name node document strict read write)) next n h = h (open_file_of name node document strict read write) n
      on-handle (Some (Handle.Folder node names)) next n h = tt

      -- ---- each request

      folder-found : (r : NodeRequest) (o : Option ℕ) → Along (found_folder r o)
      folder-found r None = tt
      folder-found r (Some node) = still

      document-found : (r : NodeRequest) (node : ℕ) (d : Document) (may_write : Bool) (look : Look) → Along (found_document r node d may_write look)
      document-found r node d may_write (Look.File generation size moment) = still
      document-found r node d may_write Look.Folder = either d.folder (told _) (errs _) still tt
      document-found r node d may_write Look.Missing = tt

      own-found : (r : NodeRequest) (view : ℕ) (may_write : Bool) (o : Option OwnTemp) → KnownTemp o → Along (found_own r view may_write o)
      own-found r view may_write None n = tt
      own-found r view may_write (Some t) n = file-of t.temp.file (entry_of_file r (temp_node view t.k) may_write) n (λ generation size moment. still)

      entry-below : (namings : List Naming) (naming : Naming) (attr : Attr) → Along (entry_named namings naming attr)
      entry-below namings naming attr = if-wrong (lacks_number namings naming) emfile (Answers (names_path naming (NodeAnswers.Entry attr))) (record { file = tt; handle = tt; names = tt })

      child-found : (r : NodeRequest) (namings : List Naming) (naming : Naming) (may_write : Bool) (look : Look) → Along (found_child r namings naming may_write look)
      child-found r namings naming may_write (Look.File generation size moment) = entry-below namings naming (attr_of_file (on_node r (node_of_naming namings naming)) may_write size moment)
      child-found r namings naming may_write Look.Folder = entry-below namings naming (attr_of_folder (on_node r (node_of_naming namings naming)) may_write)
      child-found r namings naming may_write Look.Missing = tt

      lookup-below : (r : NodeRequest) (namings : List Naming) (view : ℕ) (d : Document) (may_write : Bool) (path name : List ℕ) (o : Option (List ℕ)) → Beneath path → named_child path name ≡ o → Along (lookup_child r namings view d may_write o)
      lookup-below r namings view d may_write path name None n e = tt
      lookup-below r namings view d may_write path name (Some p) n e = (g.at_path p (g.child path name p n e), child-found r namings (naming_in view d p) may_write (shown_at tree (AtPath p)))

      lookup-folder : (r : NodeRequest) (namings : List Naming) (temps : List OwnTemp) → FoundOn temps → (name : List ℕ) (f : Folder) → FolderOn On Beneath Known Of f → Along (lookup_in r namings temps name f)
      lookup-folder r namings temps known name (RootOf view numbers has_views) n = folder-found r (named_in_root view numbers has_views name)
      lookup-folder r namings temps known name (Views applications) n = folder-found r (named_in_views applications name)
      lookup-folder r namings temps known name (FolderOf view d may_write) n =
          either (is_same name (name_of d.path)) (Looks (AtPath d.path) (found_document r (file_node view d.id.number) d may_write)) (found_own r view may_write (found_temp temps view d.id name))
          (g.at_path d.path n.0, document-found r (file_node view d.id.number) d may_write (shown_at tree (AtPath d.path)))
          (own-found r view may_write (found_temp temps view d.id name) (known d n.1 view name))
      lookup-folder r namings temps known name (Exported view d path may_write) n = lookup-below r namings view d may_write path name (named_child path name) n refl

      lookup-along : (r : NodeRequest) (namings : List Naming) (temps : List OwnTemp) → FoundOn temps → (name : List ℕ) (sight : Option Sight) → SightOn On Beneath Known Of sight → Along (lookup r namings temps name sight)
      lookup-along r namings temps known name sight n =
          if-wrong (is_too_long name) enametoolong _ (on-place sight (no_file enotdir) (lookup_in r namings temps name) n (λ at generation size moment k. tt) (lookup-folder r namings temps known name))

      get_attr-place : (r : NodeRequest) (sight : Option Sight) → SightOn On Beneath Known Of sight → Along (get_attr_by_place r sight)
      get_attr-place r sight n = on-place sight (λ at. tells_file r at.may_write) (tells_folder r) n (λ at generation size moment k. still) (λ f k. still)

      get_attr-file : (reach : Reaching) (r : NodeRequest) (file : OpenFile) → Known file.name → Along (get_attr_open reach r file)
      get_attr-file reach r file n =
          if-wrong (not (reaches reach file)) eacces _ (file-of file.name (tells_file (on_node r file.node) (may_write_now reach file)) n (λ generation size moment. still))

      get_attr-handle : (reach : Reaching) (r : NodeRequest) (sight : Option Sight) (handle : Option Handle) → SightOn On Beneath Known Of sight → HandleOn Known handle → Along (get_attr_by_handle reach r sight handle)
      get_attr-handle reach r sight None n h = tt
      get_attr-handle reach r sight (Some (Handle.File name node document strict read write)) n h = get_attr-file reach r (open_file_of name node document strict read write) h
      get_attr-handle reach r sight (Some (Handle.Folder node names)) n h = get_attr-place r sight n

      get_attr-along : (reach : Reaching) (r : NodeRequest) (flags : ℕ) (sight : Option Sight) (handle : Option Handle) → SightOn On Beneath Known Of sight → HandleOn Known handle → Along (get_attr reach r flags sight handle)
      get_attr-along reach r flags sight handle n h = either (names_handle flags) (get_attr_by_handle reach r sight handle) (get_attr_by_place r sight) (get_attr-handle reach r sight handle n h) (get_attr-place r sight n)

      resized-along : (r : NodeRequest) (a : SetsAttr) (name : FileName) (may_write : Bool) → Known name → Along (resize r a name may_write)
      resized-along r a name may_write n = (g.alters name n, ((λ found now. record { file = found; handle = tt; names = tt }), tt))

      set_attr-file : (r : NodeRequest) (a : SetsAttr) (name : FileName) (may_write : Bool) (size moment : ℕ) → Known name → Along (set_attr_of r a name may_write size moment)
      set_attr-file r a name may_write size moment n =
          either (sets_size a.valid) _ _ (if-wrong (not may_write) eacces _ (if-wrong _ efbig (resize r a name may_write) (resized-along r a name may_write n))) still

      set_attr-opened : (reach : Reaching) (r : NodeRequest) (a : SetsAttr) (file : OpenFile) → Known file.name → Along (set_attr_open reach r a file)
      set_attr-opened reach r a file n =
          if-wrong (not (reaches reach file)) eacces _ (file-of file.name (set_attr_of_open reach r a file) n (λ generation size moment.
          if-wrong (sets_size a.valid && not file.write) ebadf _ (set_attr-file (on_node r file.node) a file.name (may_write_now reach file) size moment n)))

      set_attr-along : (reach : Reaching) (r : NodeRequest) (a : SetsAttr) (sight : Option Sight) (handle : Option Handle) → SightOn On Beneath Known Of sight → HandleOn Known handle → Along (set_attr reach r a sight handle)
      set_attr-along reach r a sight handle n h =
          if-wrong (sets_owner_or_mode a.valid) eperm _
          (either (sets_by_handle a.valid) (by_file_handle handle (set_attr_open reach r a)) (by_place sight (set_attr_at r a) (set_attr_of_folder r a))
          (on-handle handle (set_attr_open reach r a) h (set_attr-opened reach r a))
          (on-place sight (set_attr_at r a) (set_attr_of_folder r a) n
          (λ at generation size moment k. set_attr-file r a (name_at at generation) at.may_write size moment k)
          (λ f k. if-wrong (sets_size a.valid) eisdir _ still)))

      open-name : (r : NodeRequest) (flags : ℕ) (room : Room) (d : Document) (name : FileName) → Known name → Along (open_name r flags room d name)
      open-name r flags room d name n =
          either (truncates flags) _ _ (g.alters name n, ((λ found now. record { file = found; handle = n; names = tt }), tt)) (record { file = tt; handle = n; names = tt })

      open-along : (r : NodeRequest) (flags : ℕ) (sight : Option Sight) (room : Room) → SightOn On Beneath Known Of sight → Along (open_node r flags sight room)
      open-along r flags sight room n =
          if-wrong (has_no_mode flags) einval _
          (on-place sight (open_file r flags room) open_folder n
          (λ at generation size moment k.
          if-wrong (opens_to_write flags && not at.may_write) eacces _ (if-wrong room.full emfile _ (open-name r flags room at.document (name_at at generation) k)))
          (λ f k. tt))

      -- how what is named changes, where no temporary begins
      abbrev pub BeginsNone : NameChange → Type 0
      BeginsNone change = BeginsNew tree Known New change

      create-there : (r : NodeRequest) (flags : ℕ) (room : Room) (made : Made) → On made.path → BeginsNone made.names → (look : Look) → look_at tree.present made.path ≡ look → Along (create_there r flags room made look)
      create-there r flags room made n b (Look.File generation size moment) e = tt
      create-there r flags room made n b Look.Folder e = tt
      create-there r flags room made n b Look.Missing e = (g.makes made.path n e, ((λ found now. record { file = (e, found); handle = g.absent made.path n e; names = b }), tt))

      create-below : (r : NodeRequest) (namings : List Naming) (name : List ℕ) (flags : ℕ) (room : Room) (view : ℕ) (d : Document) (may_write : Bool) (path : List ℕ) (o : Option (List ℕ)) → Beneath path → named_child path name ≡ o → Along (create_child r flags room namings view d may_write o)
      create-below r namings name flags room view d may_write path None n e = tt
      create-below r namings name flags room view d may_write path (Some p) n e =
          let made : Made = child_made namings d (naming_in view d p) in
          if-wrong (not may_write) eacces _ (if-wrong (room.full || lacks_number namings (naming_in view d p)) emfile (create_at r flags room made)
          (g.at_path p (g.child path name p n e), create-there r flags room made (g.child path name p n e) tt (look_at tree.present p) refl))

      create-own : (r : NodeRequest) (flags : ℕ) (room : Room) (view : ℕ) (d : Document) (may_write : Bool) → On d.path → Along (create_own r flags room view d may_write)
      create-own r flags room view d may_write n =
          if-wrong (not may_write) eacces _ (if-wrong room.full emfile (create_at r flags room (own_made view d))
          (g.at_path d.path n, create-there r flags room (own_made view d) n tt (look_at tree.present d.path) refl))

      temp-added : (r : NodeRequest) (flags : ℕ) (room : Room) (node : ℕ) (d : Document) (temp : Temp) → Fresh temp.file → Along (add_temp r flags room node d temp)
      temp-added r flags room node d temp h = (h.0, ((λ found now. record { file = h.1.1; handle = h.1.0; names = h.1.1 }), tt))

      create-temp : (r : NodeRequest) (name : List ℕ) (flags : ℕ) (room : Room) (temps : SeatTemps) → FreshOn temps → (view : ℕ) (d : Document) (may_write : Bool) → On d.path → Along (create_temp r name flags room temps view d may_write)
      create-temp r name flags room temps fresh view d may_write n =
          if-wrong (is_dots name) eacces _ (if-wrong (not may_write) eacces _ (if-wrong (is_some (found_temp temps.temps view d.id name)) eexist _ (if-wrong (room.full || lacks_temp temps) emfile _
          (temp-added r flags room (next_temp_node temps view) d (temp_made view d name (next_file temps d)) (fresh d.path n)))))

      create-folder : (r : NodeRequest) (namings : List Naming) (temps : SeatTemps) → FreshOn temps → (name : List ℕ) (flags : ℕ) (room : Room) (f : Folder) → FolderOn On Beneath Known Of f → Along (create_in r name flags room namings temps f)
      create-folder r namings temps fresh name flags room (RootOf view numbers has_views) n = tt
      create-folder r namings temps fresh name flags room (Views applications) n = tt
      create-folder r namings temps fresh name flags room (FolderOf view d may_write) n =
          either (is_same name (name_of d.path)) (create_own r flags room view d may_write) (create_other r name flags room temps view d may_write)
          (create-own r flags room view d may_write n.0)
          (if-wrong d.folder eacces (create_temp r name flags room temps view d may_write) (create-temp r name flags room temps fresh view d may_write n.0))
      create-folder r namings temps fresh name flags room (Exported view d path may_write) n = create-below r namings name flags room view d may_write path (named_child path name) n refl

      create-along : (r : NodeRequest) (namings : List Naming) (temps : SeatTemps) → FreshOn temps → (name : List ℕ) (flags : ℕ) (sight : Option Sight) (room : Room) → SightOn On Beneath Known Of sight → Along (create r name flags sight room namings temps)
      create-along r namings temps fresh name flags sight room n =
          if-wrong (has_no_mode flags) einval _ (if-wrong (is_too_long name) enametoolong _
          (on-place sight (no_file enotdir) (create_in r name flags room namings temps) n (λ at generation size moment k. tt) (create-folder r namings temps fresh name flags room)))

      read-along : (reach : Reaching) (bytes : FileName → List ℕ) (offset size : ℕ) (handle : Option Handle) → HandleOn Known handle → Along (read reach bytes offset size handle)
      read-along reach bytes offset size handle h =
          if-wrong _ einval _ (on-handle handle (read_open reach bytes offset size) h (λ file n.
          if-wrong (not file.read) ebadf _ (if-wrong (not (may_read_now reach file)) eacces _ (g.uses file.name n, ((λ found now. still), tt)))))

      write-some : (limit offset : ℕ) (content : List ℕ) (name : FileName) → Known name → Along (write_content limit name offset content)
      write-some limit offset [] name n = still
      write-some limit offset (b ∷ bs) name n =
          let done : ℕ → NodeVerdict = λ now. changes (Writes name offset (b ∷ bs) now) (NodeAnswers.Written (length (b ∷ bs))) in
          let ends : Along (Ends (Changes name) done (Errs enoent)) = (g.alters name n, ((λ found now. record { file = found; handle = tt; names = tt }), tt)) in
          if-wrong (nat_lt limit (offset + length (b ∷ bs))) efbig (Ends (Changes name) done (Errs enoent)) ends

      write-along : (reach : Reaching) (limit offset : ℕ) (content : List ℕ) (handle : Option Handle) → HandleOn Known handle → Along (write reach limit offset content handle)
      write-along reach limit offset content handle h =
          if-wrong _ einval _ (on-handle handle (write_open reach limit offset content) h (λ file n.
          if-wrong (not file.write) ebadf _ (if-wrong (not (may_write_now reach file)) eacces _ (write-some limit offset content file.name n))))

      open_dir-folder : (r : NodeRequest) (room : Room) (temps : List OwnTemp) (f : Folder) → FolderOn On Beneath Known Of f → Along (open_found r room temps f)
      open_dir-folder r room temps (RootOf view numbers has_views) n = record { file = tt; handle = tt; names = tt }
      open_dir-folder r room temps (Views applications) n = record { file = tt; handle = tt; names = tt }
      open_dir-folder r room temps (FolderOf view d may_write) n = (g.at_path d.path n.0, record { file = tt; handle = tt; names = tt })
      open_dir-folder r room temps (Exported view d path may_write) n = (g.lists path n, ((λ names. record { file = tt; handle = tt; names = tt }), tt))

      open_dir-along : (r : NodeRequest) (sight : Option Sight) (room : Room) (temps : List OwnTemp) → SightOn On Beneath Known Of sight → Along (open_dir r sight room temps)
      open_dir-along r sight room temps n =
          on-place sight (no_file enotdir) (open_dir_in r room temps) n (λ at generation size moment k. tt) (λ f k. if-wrong room.full emfile _ (open_dir-folder r room temps f k))

      read_dir-names : (offset size : ℕ) (handle : Option Handle) → Along (read_names offset size handle)
      read_dir-names offset size None = tt
      read_dir-names offset size (Some (Handle.File name node document strict read write)) = tt
      read_dir-names offset size (Some (Handle.Folder node names)) = still

      release_dir-along : (fh : ℕ) (handle : Option Handle) → Along (release_dir fh handle)
      release_dir-along fh None = tt
      release_dir-along fh (Some (Handle.File name node document strict read write)) = tt
      release_dir-along fh (Some (Handle.Folder node names)) = record { file = tt; handle = tt; names = tt }

      access-along : (mask : ℕ) (sight : Option Sight) → SightOn On Beneath Known Of sight → Along (access mask sight)
      access-along mask sight n =
          if-wrong (nat_lt 7 mask) einval _ (on-place sight (access_file mask) (access_folder mask) n
          (λ at generation size moment k. if-wrong (executes mask || writes_to mask && not at.may_write) eacces (told NodeAnswers.Empty) (still {answer = NodeAnswers.Empty}))
          (λ f k. if-wrong (writes_to mask && not (is_writable f)) eacces (told NodeAnswers.Empty) (still {answer = NodeAnswers.Empty})))

      -- ---- temporaries get other names, and are gone

      abbrev HomeOn : Option Home → Type 0
      HomeOn None = Unit {0}
      HomeOn (Some h) = Of h.document

      home-on : (f : Folder) → FolderOn On Beneath Known Of f → HomeOn (home_of f)
      home-on (RootOf view numbers has_views) n = tt
      home-on (Views applications) n = tt
      home-on (FolderOf view d may_write) n = elim d.folder as (λ b. HomeOn (cond b None (Some (home view d may_write)))) [ true ↦ tt | false ↦ n.1 ]
      home-on (Exported view d path may_write) n = tt

      renamed-to : (h : Home) (name : List ℕ) (t : OwnTemp) → Known t.temp.file → Along (rename_to h name t)
      renamed-to h name t n =
          either (is_own_name h name) (Ends (Turns t.temp.file) (λ now. saved t) (Errs enoent)) (Answers (changes_temps (Renames t.k t.temp name) NodeAnswers.Empty))
          (g.turns t.temp.file n, ((λ found now. record { file = (n, first_of_both (is_held tree t.temp.file) (not (is_folder tree.present t.temp.file.path)) found); handle = tt; names = tt }), tt))
          (record { file = tt; handle = tt; names = tt })

      renamed-temp : (h : Home) (name : List ℕ) (o : Option OwnTemp) → KnownTemp o → Along (rename_temp h name o)
      renamed-temp h name None n = tt
      renamed-temp h name (Some t) n = if-wrong (not h.may_write) eacces _ (if-wrong (is_dots name) eacces _ (renamed-to h name t n))

      renamed-homes : (call : RenameCall) (temps : List OwnTemp) → FoundOn temps → (first second : Option Home) → HomeOn first → Along (rename_homes call temps first second)
      renamed-homes call temps known None second n = tt
      renamed-homes call temps known (Some first) None n = tt
      renamed-homes call temps known (Some first) (Some second) n =
          if-wrong (not (same_home first second)) exdev _ (if-wrong (is_own_name first call.old_name) eperm _
          (renamed-temp first call.new_name (temp_at temps first call.old_name) (known first.document n first.view call.old_name)))

      rename-along : (call : RenameCall) (temps : List OwnTemp) → FoundOn temps → (sight new_sight : Option Sight) → SightOn On Beneath Known Of sight → SightOn On Beneath Known Of new_sight → Along (rename call temps sight new_sight)
      rename-along call temps known sight new_sight n m =
          if-wrong (not (call.flags == 0)) einval _ (if-wrong (are_too_long call) enametoolong _
          (on-place sight (λ at generation size moment. with_seen new_sight (rename_in call temps AFile)) (λ first. with_seen new_sight (rename_in call temps (AFolder first))) n
          (λ at generation size moment k.
          on-place new_sight (λ to generation size moment. rename_in call temps AFile AFile) (λ second. rename_in call temps AFile (AFolder second)) m (λ to generation size moment k. tt) (λ second k. tt))
          (λ first f.
          on-place new_sight (λ to generation size moment. rename_in call temps (AFolder first) AFile) (λ second. rename_in call temps (AFolder first) (AFolder second)) m (λ to generation size moment k. tt)
          (λ second k. renamed-homes call temps known (home_of first) (home_of second) (home-on first f)))))

      unlinked-temp : (h : Home) (o : Option OwnTemp) → Along (unlink_temp h o)
      unlinked-temp h None = tt
      unlinked-temp h (Some t) = if-wrong (not h.may_write) eacces _ (record { file = tt; handle = tt; names = tt })

      unlinked-at : (name : List ℕ) (temps : List OwnTemp) (o : Option Home) → Along (unlink_at name temps o)
      unlinked-at name temps None = tt
      unlinked-at name temps (Some h) = if-wrong (is_own_name h name) eperm _ (unlinked-temp h (temp_at temps h name))

      unlink-along : (name : List ℕ) (temps : List OwnTemp) (sight : Option Sight) → SightOn On Beneath Known Of sight → Along (unlink name temps sight)
      unlink-along name temps sight n =
          if-wrong (is_too_long name) enametoolong _ (on-place sight (no_file enotdir) (unlink_in name temps) n (λ at generation size moment k. tt) (λ f k. unlinked-at name temps (home_of f)))

      pub walk-along : (f : NodeFacts) (r : NodeRequest) (op : NodeOp) → SightOn On Beneath Known Of f.sight → ((node : ℕ) → SightOn On Beneath Known Of (f.sight_of node)) → ((fh : ℕ) → HandleOn Known (f.handle fh)) →
          FreshOn f.temps → FoundOn f.temps.temps → Along (node_walk f r op)
      walk-along f r (NodeOp.Lookup name) n m h fresh known = lookup-along r f.namings f.temps.temps known name f.sight n
      walk-along f r (NodeOp.Forget count) n m h fresh known = still
      walk-along f r (NodeOp.BatchForget nodes) n m h fresh known = still
      walk-along f r (NodeOp.GetAttr flags fh) n m h fresh known = get_attr-along f.reach r flags f.sight (f.handle fh) n (h fh)
      walk-along f r (NodeOp.SetAttr valid fh size) n m h fresh known = set_attr-along f.reach r (record { valid = valid; size = size; limit = f.file_limit }) f.sight (f.handle fh) n (h fh)
      walk-along f r (NodeOp.Open flags) n m h fresh known = open-along r flags f.sight f.room n
      walk-along f r (NodeOp.Create name flags) n m h fresh known = create-along r f.namings f.temps fresh name flags f.sight f.room n
      walk-along f r (NodeOp.Read fh offset size) n m h fresh known = read-along f.reach f.bytes offset size (f.handle fh) (h fh)
      walk-along f r (NodeOp.Write fh offset content) n m h fresh known = write-along f.reach f.file_limit offset content (f.handle fh) (h fh)
      walk-along f r (NodeOp.Flush fh) n m h fresh known = on-handle (f.handle fh) _ (h fh) (λ file k. still)
      walk-along f r (NodeOp.Fsync fh) n m h fresh known = on-handle (f.handle fh) fsync_open (h fh) (λ file k. (g.uses file.name k, ((λ found now. still), tt)))
      walk-along f r (NodeOp.Release fh) n m h fresh known = on-handle (f.handle fh) _ (h fh) (λ file k. record { file = tt; handle = tt; names = tt })
      walk-along f r NodeOp.OpenDir n m h fresh known = open_dir-along r f.sight f.room f.temps.temps n
      walk-along f r (NodeOp.ReadDir fh offset size) n m h fresh known = if-wrong _ einval _ (read_dir-names offset size (f.handle fh))
      walk-along f r (NodeOp.ReleaseDir fh) n m h fresh known = release_dir-along fh (f.handle fh)
      walk-along f r (NodeOp.Access mask) n m h fresh known = access-along mask f.sight n
      walk-along f r (NodeOp.Rename new_parent flags old_name new_name) n m h fresh known = rename-along (rename_call flags old_name new_name) f.temps.temps known f.sight (f.sight_of new_parent) n (m new_parent)
      walk-along f r (NodeOp.Unlink name) n m h fresh known = unlink-along name f.temps.temps f.sight n

-- ---- where nothing is asked of what is looked at

abbrev pub AnyPath : List ℕ → Type 0
AnyPath path = Unit {0}

abbrev pub AnyName : FileName → Type 0
AnyName name = Unit {0}

abbrev pub AnyTarget : Target → Type 0
AnyTarget target = Unit {0}

abbrev pub AnyCall : LastCall → Type 0
AnyCall call = Unit {0}

abbrev pub AnyDocument : Document → Type 0
AnyDocument d = Unit {0}

any-sight : (sight : Option Sight) → SightOn AnyPath AnyPath AnyName AnyDocument sight
any-sight None = tt
any-sight (Some (SightOfFile d may_write)) = tt
any-sight (Some (SightOfTemp d name may_write)) = tt
any-sight (Some (SightBelow view d path may_write)) = tt
any-sight (Some (SightOfFolder (RootOf view numbers has_views))) = tt
any-sight (Some (SightOfFolder (Views applications))) = tt
any-sight (Some (SightOfFolder (FolderOf view d may_write))) = (tt, tt)
any-sight (Some (SightOfFolder (Exported view d path may_write))) = tt

any-handle : (handle : Option Handle) → HandleOn AnyName handle
any-handle None = tt
any-handle (Some (Handle.File name node document strict read write)) = tt
any-handle (Some (Handle.Folder node names)) = tt

module _ (tree : Held) (New : FileName → Type 0) where
  any-temp : (o : Option OwnTemp) → KnownTemp tree AnyName New AnyTarget AnyCall AnyPath AnyPath AnyPath AnyDocument o
  any-temp None = tt
  any-temp (Some t) = tt

  any-grounds : Grounds tree AnyName New AnyTarget AnyCall AnyPath AnyPath AnyPath AnyDocument
  any-grounds = record {
    itself = λ path h. tt;
    child = λ path name p h e. tt;
    lists = λ path h. tt;
    at_path = λ path h. tt;
    at_named = λ name h. tt;
    uses = λ name h. tt;
    alters = λ name h. tt;
    makes = λ path h e. tt;
    turns = λ name h. tt;
    standing = λ path h generation size moment e. tt;
    absent = λ path h e. tt;
    named_still = λ name h generation size moment e. tt;
  }

  -- what is done can be done, where a name that a temporary gets is new
  pub all-along : (f : NodeFacts) (r : NodeRequest) (op : NodeOp) → ((path : List ℕ) → New (record { path = path; generation = f.temps.next path })) → Along tree AnyName New AnyTarget AnyCall AnyPath (node_walk f r op)
  all-along f r op new =
      walk-along tree AnyName New AnyTarget AnyCall AnyPath AnyPath AnyPath AnyDocument any-grounds f r op (any-sight f.sight) (λ node. any-sight (f.sight_of node)) (λ fh. any-handle (f.handle fh))
      (λ path h. (tt, (tt, new path))) (λ d h view name. any-temp (found_temp f.temps.temps view d.id name))
