-- What a request on a node does to open handles: it opens one where it is answered a number, and
-- closes one only where it is a release of it.
use Rattle.std.proofs.Common.{◌≡◌, ℕ, ◌+◌, ◌==◌, nat_lt, List, [], ◌∷◌, length, Bool, true, false, not, ◌&&◌, ◌||◌, cond, Option, Some, None, is_some, refl, arith}
use Rattle.std.proofs.lemmas.Bool.Decides.{nat_tests}
use Rattle.file_generations.specs.Generations.{Held}
use Rattle.portal_base.specs.Names.{is_same, name_of, named_child}
use Rattle.portal_base.specs.declared.files.FileName.{FileName}
use Rattle.portal_base.specs.declared.files.Look.{Look}
use Rattle.portal_model.specs.declared.handle.Handle.{Handle}
use Rattle.portal_model.specs.declared.naming.Naming.{Naming}
use Rattle.portal_model.specs.declared.reply.NodeAnswer.{NodeAnswer}
use Rattle.portal_model.specs.declared.request.NodeOp.{NodeOp}
use Rattle.portal_model.specs.declared.request.NodeRequest.{NodeRequest}
use Rattle.portal_model.specs.declared.state.Document.{Document}
use Rattle.portal_model.specs.declared.temporary.OwnTemp.{OwnTemp}
use Rattle.portal_model.specs.Access.{access, access_file, access_folder, executes, writes_to}
use Rattle.portal_model.specs.Attributes.{attr_of_file, attr_of_folder, on_node, is_writable}
use Rattle.portal_model.specs.Create.{add_temp, create, create_in, create_other, create_own, create_temp, create_there, Made, child_made, create_at, create_child, next_file, next_temp_node, own_made, temp_made}
use Rattle.portal_model.specs.Errno.{eacces, ebadf, eexist, efbig, einval, eisdir, emfile, enametoolong, enoent, enotdir, eperm, exdev}
use Rattle.portal_model.specs.Fsync.{fsync_open}
use Rattle.portal_model.specs.GetAttr.{get_attr_by_handle, get_attr_by_place, get_attr_open, names_handle, tells_file, tells_folder}
use Rattle.portal_model.specs.Lookup.{entry_of_file, found_folder, found_own, lookup_in, named_in_root, named_in_views, found_child, found_document, lookup_child, naming_in}
use Rattle.portal_model.specs.Node.{NodeFacts, node_walk}
use Rattle.portal_model.specs.NodeVerdict.{NodeDoing, NodeVerdict, FilesStay, Resizes, HandleChange, HandlesStay, Opens, Closes, Errs, at_name, by_file_handle, by_place, changes_temps, errs, errs_if, is_dots, is_too_long, next_handle, no_file, told, name_at}
use Rattle.portal_model.specs.Open.{file_handle, has_no_mode, open_file, open_folder, open_name, open_node, opened_file, opens_to_write, truncates}
use Rattle.portal_model.specs.OpenDir.{open_dir, open_dir_in, open_found}
use Rattle.portal_model.specs.Place.{Folder, RootOf, Views, FolderOf, file_node, Sight, Exported, temp_node}
use Rattle.portal_model.specs.Reach.{OpenFile, may_read_now, may_write_now, open_file_of, reaches}
use Rattle.portal_model.specs.Read.{read, read_limit, read_open}
use Rattle.portal_model.specs.ReadDir.{read_names}
use Rattle.portal_model.specs.ReleaseDir.{release_dir}
use Rattle.portal_model.specs.Rename.{AFile, AFolder, Home, RenameCall, are_too_long, home_of, is_own_name, rename, rename_at, rename_call, rename_homes, rename_in, rename_temp, same_home, saved, temp_at, with_seen}
use Rattle.portal_model.specs.SeatNames.{Renames, found_temp, lacks_number, lacks_temp}
use Rattle.portal_model.specs.SetAttr.{SetsAttr, resize, set_attr, set_attr_at, set_attr_of, set_attr_of_folder, set_attr_of_open, set_attr_open, sets_by_handle, sets_owner_or_mode, sets_size}
use Rattle.portal_model.specs.Unlink.{unlink, unlink_at, unlink_in, unlink_temp}
use Rattle.portal_model.specs.Walk.{Walk, Answers, Looks, Ends, AtPath, Changes, Turns}
use Rattle.portal_model.specs.Write.{write, write_content, write_limit, write_open}
use Rattle.portal_model.proofs.NodeWalks.{OnNode, at_name-on, by_file_handle-on, by_place-on, errs_if-on}
use Rattle.file_laws.specs.KeptHandles.{number_told, releases}

-- the number by which a handle is opened
abbrev pub number_opened : ℕ → HandleChange → Option ℕ
number_opened next HandlesStay = None
number_opened next (Opens handle) = Some next
number_opened next (Closes fh) = None

abbrev pub MayClose : NodeOp → HandleChange → Type 0
MayClose op HandlesStay = Unit {0}
MayClose op (Opens handle) = Unit {0}
MayClose op (Closes fh) = releases fh op ≡ true

abbrev pub Fits : ℕ → NodeOp → NodeDoing → Type 0
Fits next op d = (number_told d.answer ≡ number_opened next d.handle) × MayClose op d.handle

module _ (tree : Option Held) (f : NodeFacts) (r : NodeRequest) (op : NodeOp) where
  abbrev P : NodeDoing → Type 0
  P = Fits (next_handle f.room) op

  abbrev On : Walk NodeVerdict → Type 0
  On = OnNode tree P

  found-fits : (o : Option ℕ) → On (found_folder r o)
  found-fits None = tt
  found-fits (Some node) = (refl, tt)

  own-fits : (node : ℕ) (d : Document) (may_write : Bool) (look : Look) → On (found_document r node d may_write look)
  own-fits node d may_write (Look.File g s m) = (refl, tt)
  own-fits node d may_write Look.Folder = elim d.folder as (λ b. On (cond b (told (NodeAnswer.Entry (attr_of_folder (on_node r node) may_write))) (errs enoent))) [ true ↦ (refl, tt) | false ↦ tt ]
  own-fits node d may_write Look.Missing = tt

  child-fits : (namings : List Naming) (naming : Naming) (may_write : Bool) (look : Look) → On (found_child r namings naming may_write look)
  child-fits namings naming may_write (Look.File g s m) = errs_if-on tree P (lacks_number namings naming) emfile _ (λ e. (refl, tt))
  child-fits namings naming may_write Look.Folder = errs_if-on tree P (lacks_number namings naming) emfile _ (λ e. (refl, tt))
  child-fits namings naming may_write Look.Missing = tt

  below-fits : (namings : List Naming) (view : ℕ) (d : Document) (may_write : Bool) (path : Option (List ℕ)) → On (lookup_child r namings view d may_write path)
  below-fits namings view d may_write None = tt
  below-fits namings view d may_write (Some path) = λ look shown. child-fits namings (naming_in view d path) may_write look

  temp-fits : (view : ℕ) (may_write : Bool) (o : Option OwnTemp) → On (found_own r view may_write o)
  temp-fits view may_write None = tt
  temp-fits view may_write (Some t) = at_name-on tree P t.temp.file (entry_of_file r (temp_node view t.k) may_write) (λ g s m. (refl, tt))

  lookup-fits : (name : List ℕ) (folder : Folder) → On (lookup_in r f.namings f.temps.temps name folder)
  lookup-fits name (RootOf view numbers has_views) = found-fits (named_in_root view numbers has_views name)
  lookup-fits name (Views applications) = found-fits (named_in_views applications name)
  lookup-fits name (FolderOf view d may_write) = elim (is_same name (name_of d.path)) as (λ b. On (cond b (Looks (AtPath d.path) (found_document r (file_node view d.id.number) d may_write)) (found_own r view may_write (found_temp f.temps.temps view d.id name)))) [
    | true ↦ λ look shown. own-fits (file_node view d.id.number) d may_write look
    | false ↦ temp-fits view may_write (found_temp f.temps.temps view d.id name)
  ]
  lookup-fits name (Exported view d path may_write) = below-fits f.namings view d may_write (named_child path name)

  attr-fits : (sight : Option Sight) → On (get_attr_by_place r sight)
  attr-fits sight = by_place-on tree P sight (λ at. tells_file r at.may_write) (tells_folder r) (λ at g s m. (refl, tt)) (λ folder e. (refl, tt))

  open-attr-fits : (file : OpenFile) → On (get_attr_open f.reach r file)
  open-attr-fits file = errs_if-on tree P (not (reaches f.reach file)) eacces _ (λ e. at_name-on tree P file.name (tells_file (on_node r file.node) (may_write_now f.reach file)) (λ g s m. (refl, tt)))

  handle-attr-fits : (sight : Option Sight) (handle : Option Handle) → On (get_attr_by_handle f.reach r sight handle)
  handle-attr-fits sight None = tt
  handle-attr-fits sight (Some (Handle.File name node document strict read write)) = open-attr-fits (open_file_of name node document strict read write)
  handle-attr-fits sight (Some (Handle.Folder node names)) = attr-fits sight

  get_attr-fits : (b : Bool) (sight : Option Sight) (handle : Option Handle) → On (cond b (get_attr_by_handle f.reach r sight handle) (get_attr_by_place r sight))
  get_attr-fits true sight handle = handle-attr-fits sight handle
  get_attr-fits false sight handle = attr-fits sight

  size-fits : (q : NodeRequest) (a : SetsAttr) (name : FileName) (may_write : Bool) (size moment : ℕ) → On (set_attr_of q a name may_write size moment)
  size-fits q a name may_write size moment = elim (sets_size a.valid) as (λ b. On (cond b (errs_if (not may_write) eacces (errs_if (nat_lt a.limit a.size) efbig (resize q a name may_write))) (told (NodeAnswer.Attr (attr_of_file q may_write size moment))))) [
    | true ↦
        errs_if-on tree P (not may_write) eacces (errs_if (nat_lt a.limit a.size) efbig (resize q a name may_write)) (λ e.
        errs_if-on tree P (nat_lt a.limit a.size) efbig (resize q a name may_write) (λ k. ((λ now found. (refl, tt)), tt)))
    | false ↦ (refl, tt)
  ]

  folder-size-fits : (a : SetsAttr) (folder : Folder) → On (set_attr_of_folder r a folder)
  folder-size-fits a folder = errs_if-on tree P (sets_size a.valid) eisdir (told (NodeAnswer.Attr (attr_of_folder r (is_writable folder)))) (λ e. (refl, tt))

  open-size-fits : (a : SetsAttr) (file : OpenFile) → On (set_attr_open f.reach r a file)
  open-size-fits a file =
      errs_if-on tree P (not (reaches f.reach file)) eacces (at_name file.name (set_attr_of_open f.reach r a file)) (λ e.
      at_name-on tree P file.name (set_attr_of_open f.reach r a file) (λ g s m.
      errs_if-on tree P (sets_size a.valid && not file.write) ebadf (set_attr_of (on_node r file.node) a file.name (may_write_now f.reach file) s m) (λ k.
      size-fits (on_node r file.node) a file.name (may_write_now f.reach file) s m)))

  set_attr-fits : (a : SetsAttr) (sight : Option Sight) (handle : Option Handle) → On (set_attr f.reach r a sight handle)
  set_attr-fits a sight handle =
      errs_if-on tree P (sets_owner_or_mode a.valid) eperm (cond (sets_by_handle a.valid) (by_file_handle handle (set_attr_open f.reach r a)) (by_place sight (set_attr_at r a) (set_attr_of_folder r a))) (λ e.
      elim (sets_by_handle a.valid) as (λ b. On (cond b (by_file_handle handle (set_attr_open f.reach r a)) (by_place sight (set_attr_at r a) (set_attr_of_folder r a)))) [
        | true ↦ by_file_handle-on tree P handle (set_attr_open f.reach r a) (open-size-fits a)
        | false ↦ by_place-on tree P sight (set_attr_at r a) (set_attr_of_folder r a) (λ at g s m. size-fits r a (name_at at g) at.may_write s m) (λ folder e. folder-size-fits a folder)
      ])

  open-name-fits : (flags : ℕ) (d : Document) (name : FileName) → On (open_name r flags f.room d name)
  open-name-fits flags d name = elim (truncates flags) as (λ b. On (cond b (Ends (Changes name) (λ now. opened_file f.room (file_handle d name r.node flags) (Resizes name 0 now)) (Errs enoent)) (Answers (opened_file f.room (file_handle d name r.node flags) FilesStay)))) [
    | true ↦ ((λ now found. (refl, tt)), tt)
    | false ↦ (refl, tt)
  ]

  open-fits : (flags : ℕ) (sight : Option Sight) → On (open_node r flags sight f.room)
  open-fits flags sight =
      errs_if-on tree P (has_no_mode flags) einval (by_place sight (open_file r flags f.room) open_folder) (λ e.
      by_place-on tree P sight (open_file r flags f.room) open_folder (λ at g s m.
      errs_if-on tree P (opens_to_write flags && not at.may_write) eacces (errs_if f.room.full emfile (open_name r flags f.room at.document (name_at at g))) (λ k.
      errs_if-on tree P f.room.full emfile (open_name r flags f.room at.document (name_at at g)) (λ n. open-name-fits flags at.document (name_at at g)))) (λ folder k. tt))

  there-fits : (flags : ℕ) (made : Made) (look : Look) → On (create_there r flags f.room made look)
  there-fits flags made (Look.File g s m) = tt
  there-fits flags made Look.Folder = tt
  there-fits flags made Look.Missing = ((λ now found. (refl, tt)), tt)

  create-child-fits : (flags view : ℕ) (d : Document) (may_write : Bool) (path : Option (List ℕ)) → On (create_child r flags f.room f.namings view d may_write path)
  create-child-fits flags view d may_write None = tt
  create-child-fits flags view d may_write (Some path) =
      let naming = naming_in view d path in
      let there = create_at r flags f.room (child_made f.namings d naming) in
      errs_if-on tree P (not may_write) eacces (errs_if (f.room.full || lacks_number f.namings naming) emfile there) (λ a.
      errs_if-on tree P (f.room.full || lacks_number f.namings naming) emfile there (λ b. λ look shown. there-fits flags (child_made f.namings d naming) look))

  create-own-fits : (flags view : ℕ) (d : Document) (may_write : Bool) → On (create_own r flags f.room view d may_write)
  create-own-fits flags view d may_write =
      let there = create_at r flags f.room (own_made view d) in
      errs_if-on tree P (not may_write) eacces (errs_if f.room.full emfile there) (λ b.
      errs_if-on tree P f.room.full emfile there (λ e. λ look shown. there-fits flags (own_made view d) look))

  create-temp-fits : (name : List ℕ) (flags view : ℕ) (d : Document) (may_write : Bool) → On (create_temp r name flags f.room f.temps view d may_write)
  create-temp-fits name flags view d may_write =
      let last = add_temp r flags f.room (next_temp_node f.temps view) d (temp_made view d name (next_file f.temps d)) in
      let third = errs_if (f.room.full || lacks_temp f.temps) emfile last in
      let second = errs_if (is_some (found_temp f.temps.temps view d.id name)) eexist third in
      let first = errs_if (not may_write) eacces second in
      errs_if-on tree P (is_dots name) eacces first (λ a.
      errs_if-on tree P (not may_write) eacces second (λ b.
      errs_if-on tree P (is_some (found_temp f.temps.temps view d.id name)) eexist third (λ c.
      errs_if-on tree P (f.room.full || lacks_temp f.temps) emfile last (λ e. ((λ now found. (refl, tt)), tt)))))

  create-in-fits : (name : List ℕ) (flags : ℕ) (folder : Folder) → On (create_in r name flags f.room f.namings f.temps folder)
  create-in-fits name flags (RootOf view numbers has_views) = tt
  create-in-fits name flags (Views applications) = tt
  create-in-fits name flags (FolderOf view d may_write) = elim (is_same name (name_of d.path)) as (λ b. On (cond b (create_own r flags f.room view d may_write) (create_other r name flags f.room f.temps view d may_write))) [
    | true ↦ create-own-fits flags view d may_write
    | false ↦ errs_if-on tree P d.folder eacces (create_temp r name flags f.room f.temps view d may_write) (λ e. create-temp-fits name flags view d may_write)
  ]
  create-in-fits name flags (Exported view d path may_write) = create-child-fits flags view d may_write (named_child path name)

  create-fits : (name : List ℕ) (flags : ℕ) (sight : Option Sight) → On (create r name flags sight f.room f.namings f.temps)
  create-fits name flags sight =
      let place = by_place sight (no_file enotdir) (create_in r name flags f.room f.namings f.temps) in
      errs_if-on tree P (has_no_mode flags) einval (errs_if (is_too_long name) enametoolong place) (λ a.
      errs_if-on tree P (is_too_long name) enametoolong place (λ b.
      by_place-on tree P sight (no_file enotdir) (create_in r name flags f.room f.namings f.temps) (λ at g s m. tt) (λ folder e. create-in-fits name flags folder)))

  found-dir-fits : (folder : Folder) → On (open_found r f.room f.temps.temps folder)
  found-dir-fits (RootOf view numbers has_views) = (refl, tt)
  found-dir-fits (Views applications) = (refl, tt)
  found-dir-fits (FolderOf view d may_write) = λ look shown. (refl, tt)
  found-dir-fits (Exported view d path may_write) = ((λ names. (refl, tt)), tt)

  open_dir-fits : (sight : Option Sight) → On (open_dir r sight f.room f.temps.temps)
  open_dir-fits sight = by_place-on tree P sight (no_file enotdir) (open_dir_in r f.room f.temps.temps) (λ at g s m. tt)
      (λ folder k. errs_if-on tree P f.room.full emfile (open_found r f.room f.temps.temps folder) (λ e. found-dir-fits folder))

  read-fits : (offset size : ℕ) (handle : Option Handle) → On (read f.reach f.bytes offset size handle)
  read-fits offset size handle =
      errs_if-on tree P (nat_lt read_limit size) einval (by_file_handle handle (read_open f.reach f.bytes offset size)) (λ e.
      by_file_handle-on tree P handle (read_open f.reach f.bytes offset size) (λ file.
      errs_if-on tree P (not file.read) ebadf _ (λ k.
      errs_if-on tree P (not (may_read_now f.reach file)) eacces _ (λ n. ((λ now found. (refl, tt)), tt)))))

  content-fits : (limit : ℕ) (name : FileName) (offset : ℕ) (content : List ℕ) → On (write_content limit name offset content)
  content-fits limit name offset [] = (refl, tt)
  content-fits limit name offset (b ∷ bs) = errs_if-on tree P (nat_lt limit (offset + length (b ∷ bs))) efbig _ (λ e. ((λ now found. (refl, tt)), tt))

  write-fits : (limit offset : ℕ) (content : List ℕ) (handle : Option Handle) → On (write f.reach limit offset content handle)
  write-fits limit offset content handle =
      errs_if-on tree P (nat_lt write_limit (length content)) einval (by_file_handle handle (write_open f.reach limit offset content)) (λ e.
      by_file_handle-on tree P handle (write_open f.reach limit offset content) (λ file.
      errs_if-on tree P (not file.write) ebadf (errs_if (not (may_write_now f.reach file)) eacces (write_content limit file.name offset content)) (λ k.
      errs_if-on tree P (not (may_write_now f.reach file)) eacces (write_content limit file.name offset content) (λ n. content-fits limit file.name offset content))))

  names-fits : (offset size : ℕ) (handle : Option Handle) → On (read_names offset size handle)
  names-fits offset size None = tt
  names-fits offset size (Some (Handle.File name node document strict read write)) = tt
  names-fits offset size (Some (Handle.Folder node names)) = (refl, tt)

  release_dir-fits : (fh : ℕ) → releases fh op ≡ true → (handle : Option Handle) → On (release_dir fh handle)
  release_dir-fits fh h None = tt
  release_dir-fits fh h (Some (Handle.File name node document strict read write)) = tt
  release_dir-fits fh h (Some (Handle.Folder node names)) = (refl, h)

  access-fits : (mask : ℕ) (sight : Option Sight) → On (access mask sight)
  access-fits mask sight =
      errs_if-on tree P (nat_lt 7 mask) einval (by_place sight (access_file mask) (access_folder mask)) (λ e.
      by_place-on tree P sight (access_file mask) (access_folder mask)
      (λ at g s m. errs_if-on tree P (executes mask || writes_to mask && not at.may_write) eacces (told NodeAnswer.Empty) (λ k. (refl, tt)))
      (λ folder h. errs_if-on tree P (writes_to mask && not (is_writable folder)) eacces (told NodeAnswer.Empty) (λ k. (refl, tt))))

  -- ---- temporaries get other names, and are gone

  module _ (call : RenameCall) where
    temp-renamed : (h : Home) (o : Option OwnTemp) → On (rename_temp h call.new_name o)
    temp-renamed h None = tt
    temp-renamed h (Some t) =
        errs_if-on tree P (not h.may_write) eacces _ (λ a.
        errs_if-on tree P (is_dots call.new_name) eacces _ (λ b.
        elim (is_own_name h call.new_name) as (λ c. On (cond c (Ends (Turns t.temp.file) (λ now. saved t) (Errs enoent)) (Answers (changes_temps (Renames t.k t.temp call.new_name) NodeAnswer.Empty)))) [
          | true ↦ ((λ now found. (refl, tt)), tt)
          | false ↦ (refl, tt)
        ]))

    homes-renamed : (first second : Option Home) → On (rename_homes call f.temps.temps first second)
    homes-renamed None second = tt
    homes-renamed (Some first) None = tt
    homes-renamed (Some first) (Some second) =
        errs_if-on tree P (not (same_home first second)) exdev (rename_at call f.temps.temps first) (λ a.
        errs_if-on tree P (is_own_name first call.old_name) eperm (rename_temp first call.new_name (temp_at f.temps.temps first call.old_name)) (λ b.
        temp-renamed first (temp_at f.temps.temps first call.old_name)))

    file-first : (new_sight : Option Sight) → On (with_seen new_sight (rename_in call f.temps.temps AFile))
    file-first new_sight =
        by_place-on tree P new_sight (λ at g s m. rename_in call f.temps.temps AFile AFile) (λ second. rename_in call f.temps.temps AFile (AFolder second)) (λ at g s m. tt) (λ second e. tt)

    folder-first : (first : Folder) (new_sight : Option Sight) → On (with_seen new_sight (rename_in call f.temps.temps (AFolder first)))
    folder-first first new_sight =
        by_place-on tree P new_sight (λ at g s m. rename_in call f.temps.temps (AFolder first) AFile) (λ second. rename_in call f.temps.temps (AFolder first) (AFolder second)) (λ at g s m. tt)
        (λ second e. homes-renamed (home_of first) (home_of second))

    rename-fits : (sight new_sight : Option Sight) → On (rename call f.temps.temps sight new_sight)
    rename-fits sight new_sight =
        let place = with_seen sight (λ first. with_seen new_sight (rename_in call f.temps.temps first)) in
        errs_if-on tree P (not (call.flags == 0)) einval (errs_if (are_too_long call) enametoolong place) (λ a.
        errs_if-on tree P (are_too_long call) enametoolong place (λ b.
        by_place-on tree P sight (λ at g s m. with_seen new_sight (rename_in call f.temps.temps AFile)) (λ first. with_seen new_sight (rename_in call f.temps.temps (AFolder first)))
        (λ at g s m. file-first new_sight) (λ first e. folder-first first new_sight)))

  temp-unlinked : (h : Home) (o : Option OwnTemp) → On (unlink_temp h o)
  temp-unlinked h None = tt
  temp-unlinked h (Some t) = errs_if-on tree P (not h.may_write) eacces _ (λ e. (refl, tt))

  home-unlinked : (name : List ℕ) (o : Option Home) → On (unlink_at name f.temps.temps o)
  home-unlinked name None = tt
  home-unlinked name (Some h) = errs_if-on tree P (is_own_name h name) eperm (unlink_temp h (temp_at f.temps.temps h name)) (λ e. temp-unlinked h (temp_at f.temps.temps h name))

  unlink-fits : (name : List ℕ) (sight : Option Sight) → On (unlink name f.temps.temps sight)
  unlink-fits name sight =
      errs_if-on tree P (is_too_long name) enametoolong (by_place sight (no_file enotdir) (unlink_in name f.temps.temps)) (λ e.
      by_place-on tree P sight (no_file enotdir) (unlink_in name f.temps.temps) (λ at g s m. tt) (λ folder k. home-unlinked name (home_of folder)))

same-number : (n : ℕ) → (n == n) ≡ true
same-number n = grind (arith, nat_tests)

pub walk-fits : (tree : Option Held) (f : NodeFacts) (r : NodeRequest) (op : NodeOp) → OnNode tree (Fits (next_handle f.room) op) (node_walk f r op)
walk-fits t f r (NodeOp.Lookup name) =
    errs_if-on t (Fits (next_handle f.room) (NodeOp.Lookup name)) (is_too_long name) enametoolong (by_place f.sight (no_file enotdir) (lookup_in r f.namings f.temps.temps name)) (λ e.
    by_place-on t (Fits (next_handle f.room) (NodeOp.Lookup name)) f.sight (no_file enotdir) (lookup_in r f.namings f.temps.temps name) (λ at g s m. tt) (λ folder k. lookup-fits t f r (NodeOp.Lookup name) name folder))
walk-fits t f r (NodeOp.Forget count) = (refl, tt)
walk-fits t f r (NodeOp.BatchForget nodes) = (refl, tt)
walk-fits t f r (NodeOp.GetAttr flags fh) = get_attr-fits t f r (NodeOp.GetAttr flags fh) (names_handle flags) f.sight (f.handle fh)
walk-fits t f r (NodeOp.SetAttr valid fh size) = set_attr-fits t f r (NodeOp.SetAttr valid fh size) (record { valid = valid; size = size; limit = f.file_limit }) f.sight (f.handle fh)
walk-fits t f r (NodeOp.Open flags) = open-fits t f r (NodeOp.Open flags) flags f.sight
walk-fits t f r (NodeOp.Create name flags) = create-fits t f r (NodeOp.Create name flags) name flags f.sight
walk-fits t f r (NodeOp.Read fh offset size) = read-fits t f r (NodeOp.Read fh offset size) offset size (f.handle fh)
walk-fits t f r (NodeOp.Write fh offset content) = write-fits t f r (NodeOp.Write fh offset content) f.file_limit offset content (f.handle fh)
walk-fits t f r (NodeOp.Flush fh) = by_file_handle-on t (Fits (next_handle f.room) (NodeOp.Flush fh)) (f.handle fh) _ (λ file. (refl, tt))
walk-fits t f r (NodeOp.Fsync fh) = by_file_handle-on t (Fits (next_handle f.room) (NodeOp.Fsync fh)) (f.handle fh) fsync_open (λ file. ((λ now found. (refl, tt)), tt))
walk-fits t f r (NodeOp.Release fh) = by_file_handle-on t (Fits (next_handle f.room) (NodeOp.Release fh)) (f.handle fh) _ (λ file. (refl, same-number fh))
walk-fits t f r NodeOp.OpenDir = open_dir-fits t f r NodeOp.OpenDir f.sight
walk-fits t f r (NodeOp.ReadDir fh offset size) =
    errs_if-on t (Fits (next_handle f.room) (NodeOp.ReadDir fh offset size)) (nat_lt read_limit size) einval (read_names offset size (f.handle fh)) (λ e. names-fits t f r (NodeOp.ReadDir fh offset size) offset size (f.handle fh))
walk-fits t f r (NodeOp.ReleaseDir fh) = release_dir-fits t f r (NodeOp.ReleaseDir fh) fh (same-number fh) (f.handle fh)
walk-fits t f r (NodeOp.Access mask) = access-fits t f r (NodeOp.Access mask) mask f.sight
walk-fits t f r (NodeOp.Rename new_parent flags old_name new_name) = rename-fits t f r (NodeOp.Rename new_parent flags old_name new_name) (rename_call flags old_name new_name) f.sight (f.sight_of new_parent)
walk-fits t f r (NodeOp.Unlink name) = unlink-fits t f r (NodeOp.Unlink name) name f.sight
