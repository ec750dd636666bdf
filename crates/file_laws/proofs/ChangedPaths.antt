-- A request on a node that is done changes the file that the law tells, and no other.
use Rattle.std.proofs.Common.{◌≡◌, ℕ, ◌+◌, ◌==◌, nat_lt, List, [], ◌∷◌, length, Bool, true, false, not, ◌&&◌, ◌||◌, cond, Option, Some, None, is_some, refl, sym, ap, subst, ◌∙◌}
use Rattle.file_generations.specs.Generations.{Held, all_held}
use Rattle.portal_base.specs.Content.{content_of, file_at, file_named, has_room, is_folder, look_at, look_of}
use Rattle.portal_base.specs.Names.{is_same, name_of, named_child}
use Rattle.portal_base.specs.declared.files.File.{File}
use Rattle.portal_base.specs.declared.files.FileName.{FileName}
use Rattle.portal_base.specs.declared.files.Look.{Look}
use Rattle.portal_model.specs.declared.handle.Handle.{Handle}
use Rattle.portal_model.specs.declared.naming.Naming.{Naming}
use Rattle.portal_model.specs.declared.reply.NodeAnswer.{NodeAnswer}
use Rattle.portal_model.specs.declared.request.NodeOp.{NodeOp}
use Rattle.portal_model.specs.declared.request.NodeRequest.{NodeRequest}
use Rattle.portal_model.specs.declared.state.Document.{Document}
use Rattle.portal_model.specs.declared.temporary.OwnTemp.{OwnTemp}
use Rattle.portal_model.specs.Access.{access, access_file, access_folder, executes, writes_to}
use Rattle.portal_model.specs.Attributes.{attr_of_file, attr_of_folder, on_node, is_writable}
use Rattle.portal_model.specs.Create.{add_temp, create, create_in, create_other, create_own, create_temp, create_there, Made, child_made, create_at as make_at, create_child, next_file, next_temp_node, own_made, temp_made}
use Rattle.portal_model.specs.Errno.{eacces, ebadf, eexist, efbig, einval, eisdir, emfile, enametoolong, enoent, enotdir, eperm, exdev}
use Rattle.portal_model.specs.Fsync.{fsync_open}
use Rattle.portal_model.specs.GetAttr.{get_attr_by_handle, get_attr_by_place, get_attr_open, names_handle, tells_file, tells_folder}
use Rattle.portal_model.specs.Lookup.{entry_of_file, found_folder, found_own, lookup_in, named_in_root, named_in_views, found_child, found_document, lookup_child, naming_in}
use Rattle.portal_model.specs.Node.{NodeFacts, node_walk}
use Rattle.portal_model.specs.NodeVerdict.{FileChange, FilesStay, Writes, Resizes, Creates, Adds, Stands, NodeDoing, Errs, OnFile, at_file, at_name, by_file_handle, by_place, changes_temps, errs, errs_if, if_file, is_dots, is_too_long, no_file, told, Spot, by_look, name_at, spot}
use Rattle.portal_model.specs.Open.{file_handle, has_no_mode, open_file, open_folder, open_name, open_node, opened_file, opens_to_write, truncates}
use Rattle.portal_model.specs.OpenDir.{open_dir, open_dir_in, open_found}
use Rattle.portal_model.specs.Place.{Folder, RootOf, Views, FolderOf, file_node, Sight, SightOfFile, SightOfFolder, SightOfTemp, Exported, SightBelow, temp_node}
use Rattle.portal_model.specs.Reach.{OpenFile, may_read_now, may_write_now, open_file_of, reaches}
use Rattle.portal_model.specs.Read.{read, read_limit, read_open}
use Rattle.portal_model.specs.ReadDir.{read_names}
use Rattle.portal_model.specs.ReleaseDir.{release_dir}
use Rattle.portal_model.specs.Rename.{AFile, AFolder, Home, RenameCall, are_too_long, home, home_of, is_own_name, rename, rename_at, rename_call, rename_homes, rename_in, rename_temp, same_home, saved, temp_at, with_seen}
use Rattle.portal_model.specs.SeatNames.{Renames, found_temp, lacks_number, lacks_temp}
use Rattle.portal_model.specs.SetAttr.{SetsAttr, resize, set_attr, set_attr_at, set_attr_of, set_attr_of_folder, set_attr_of_open, set_attr_open, sets_by_handle, sets_owner_or_mode, sets_size}
use Rattle.portal_model.specs.Unlink.{unlink, unlink_at, unlink_in, unlink_temp}
use Rattle.portal_model.specs.Walk.{Walk, Answers, Looks, Ends, AtPath, Changes, Named, Turns, look_of_file, shown_at}
use Rattle.portal_model.specs.NodeVerdict.{NodeVerdict}
use Rattle.portal_model.specs.Write.{write, write_content, write_limit, write_open}
use Rattle.portal_model.proofs.ListLookups.{found_passes, is_same-eq}
use Rattle.portal_model.proofs.NodeWalks.{OnNode, at_file-on, at_name-on, by_file_handle-on, by_place-on, errs_if-on}
use Rattle.app_world.proofs.HeldFiles.{found-name}
use Rattle.file_laws.specs.Touches.{Changed, OfName, AtPath as MadeAt, Present, change_of, changed_if, file_of_open, file_of_sight, has_bytes, made_in_folder, made_in_sight, name_of_present, option_named, path_made, present_at, saved_in_folder, saved_in_sight, temp_saved}

-- what is changed; a write of no bytes changes nothing, and of a file that is added nobody else is told
abbrev pub changed_by : FileChange → Option Changed
changed_by FilesStay = None
changed_by (Writes name offset [] now) = None
changed_by (Writes name offset (b ∷ bs) now) = Some (OfName name)
changed_by (Resizes name size now) = Some (OfName name)
changed_by (Creates path now) = Some (MadeAt path)
changed_by (Adds name now) = None
changed_by (Stands name) = Some (Present name)

abbrev pub ChangesTo : Option Changed → NodeDoing → Type 0
ChangesTo change d = changed_by d.file ≡ change

-- ---- the file that a look shows

-- the file that stands at a path has the generation that the look tells
standing-file : (files : List File) (path : List ℕ) (generation size moment : ℕ) → look_at files path ≡ Look.File generation size moment → present_at files path ≡ Some (record { path = path; generation = generation })
standing-file files path generation size moment e = step (file_at files path) refl (is_folder files path) e
  where
    step : (o : Option File) → file_at files path ≡ o → (b : Bool) → look_of (content_of o b (has_room files path)) ≡ Look.File generation size moment → name_of_present o ≡ Some (record { path = path; generation = generation })
    step None k true h = cc
    step None k false h = cc
    step (Some g) k b h =
        let number : g.generation ≡ generation = cc in
        let here : g.path ≡ path = is_same-eq g.path path (found_passes (λ (x : File). is_same x.path path) files g k) in
        λ i. Some (record { path = here i; generation = number i })

-- and so has the file of a name
named-file : (files : List File) (name : FileName) (o : Option File) → file_named files name ≡ o → (generation size moment : ℕ) → look_of_file o ≡ Look.File generation size moment → name ≡ record { path = name.path; generation = generation }
named-file files name None f generation size moment h = cc
named-file files name (Some g) f generation size moment h =
    let number : g.generation ≡ generation = cc in
    λ i. record { path = name.path; generation = (ap (λ (n : FileName). n.generation) (sym (found-name files name g f)) ∙ number) i }

module _ (held : Held) (f : NodeFacts) (r : NodeRequest) where
  abbrev tree : Option Held
  tree = Some held

  abbrev At : Option Changed → Walk NodeVerdict → Type 0
  At change w = OnNode tree (ChangesTo change) w

  -- ---- requests that change no file

  abbrev P : NodeDoing → Type 0
  P = ChangesTo None

  abbrev Still : Walk NodeVerdict → Type 0
  Still = OnNode tree P

  found-still : (o : Option ℕ) → Still (found_folder r o)
  found-still None = tt
  found-still (Some node) = refl

  own-still : (node : ℕ) (d : Document) (may_write : Bool) (look : Look) → Still (found_document r node d may_write look)
  own-still node d may_write (Look.File g s m) = refl
  own-still node d may_write Look.Folder = elim d.folder as (λ b. Still (cond b (told (NodeAnswer.Entry (attr_of_folder (on_node r node) may_write))) (errs enoent))) [ true ↦ refl | false ↦ tt ]
  own-still node d may_write Look.Missing = tt

  child-still : (namings : List Naming) (naming : Naming) (may_write : Bool) (look : Look) → Still (found_child r namings naming may_write look)
  child-still namings naming may_write (Look.File g s m) = errs_if-on tree P (lacks_number namings naming) emfile _ (λ e. refl)
  child-still namings naming may_write Look.Folder = errs_if-on tree P (lacks_number namings naming) emfile _ (λ e. refl)
  child-still namings naming may_write Look.Missing = tt

  below-still : (namings : List Naming) (view : ℕ) (d : Document) (may_write : Bool) (path : Option (List ℕ)) → Still (lookup_child r namings view d may_write path)
  below-still namings view d may_write None = tt
  below-still namings view d may_write (Some path) = λ look shown. child-still namings (naming_in view d path) may_write look

  temp-still : (view : ℕ) (may_write : Bool) (o : Option OwnTemp) → Still (found_own r view may_write o)
  temp-still view may_write None = tt
  temp-still view may_write (Some t) = at_name-on tree P t.temp.file (entry_of_file r (temp_node view t.k) may_write) (λ g s m. refl)

  lookup-still : (name : List ℕ) (folder : Folder) → Still (lookup_in r f.namings f.temps.temps name folder)
  lookup-still name (RootOf view numbers has_views) = found-still (named_in_root view numbers has_views name)
  lookup-still name (Views applications) = found-still (named_in_views applications name)
  lookup-still name (FolderOf view d may_write) = elim (is_same name (name_of d.path)) as (λ b. Still (cond b (Looks (AtPath d.path) (found_document r (file_node view d.id.number) d may_write)) (found_own r view may_write (found_temp f.temps.temps view d.id name)))) [
    | true ↦ λ look shown. own-still (file_node view d.id.number) d may_write look
    | false ↦ temp-still view may_write (found_temp f.temps.temps view d.id name)
  ]
  lookup-still name (Exported view d path may_write) = below-still f.namings view d may_write (named_child path name)

  attr-still : (sight : Option Sight) → Still (get_attr_by_place r sight)
  attr-still sight = by_place-on tree P sight (λ at. tells_file r at.may_write) (tells_folder r) (λ at g s m. refl) (λ folder e. refl)

  open-attr-still : (file : OpenFile) → Still (get_attr_open f.reach r file)
  open-attr-still file = errs_if-on tree P (not (reaches f.reach file)) eacces _ (λ e. at_name-on tree P file.name (tells_file (on_node r file.node) (may_write_now f.reach file)) (λ g s m. refl))

  handle-attr-still : (sight : Option Sight) (handle : Option Handle) → Still (get_attr_by_handle f.reach r sight handle)
  handle-attr-still sight None = tt
  handle-attr-still sight (Some (Handle.File name node document strict read write)) = open-attr-still (open_file_of name node document strict read write)
  handle-attr-still sight (Some (Handle.Folder node names)) = attr-still sight

  get_attr-still : (b : Bool) (sight : Option Sight) (handle : Option Handle) → Still (cond b (get_attr_by_handle f.reach r sight handle) (get_attr_by_place r sight))
  get_attr-still true sight handle = handle-attr-still sight handle
  get_attr-still false sight handle = attr-still sight

  found-dir-still : (folder : Folder) → Still (open_found r f.room f.temps.temps folder)
  found-dir-still (RootOf view numbers has_views) = refl
  found-dir-still (Views applications) = refl
  found-dir-still (FolderOf view d may_write) = λ look shown. refl
  found-dir-still (Exported view d path may_write) = ((λ names. refl), tt)

  open_dir-still : (sight : Option Sight) → Still (open_dir r sight f.room f.temps.temps)
  open_dir-still sight = by_place-on tree P sight (no_file enotdir) (open_dir_in r f.room f.temps.temps) (λ at g s m. tt)
      (λ folder k. errs_if-on tree P f.room.full emfile (open_found r f.room f.temps.temps folder) (λ e. found-dir-still folder))

  read-still : (offset size : ℕ) (handle : Option Handle) → Still (read f.reach f.bytes offset size handle)
  read-still offset size handle =
      errs_if-on tree P (nat_lt read_limit size) einval (by_file_handle handle (read_open f.reach f.bytes offset size)) (λ e.
      by_file_handle-on tree P handle (read_open f.reach f.bytes offset size) (λ file.
      errs_if-on tree P (not file.read) ebadf _ (λ k.
      errs_if-on tree P (not (may_read_now f.reach file)) eacces _ (λ n. ((λ now found. refl), tt)))))

  names-still : (offset size : ℕ) (handle : Option Handle) → Still (read_names offset size handle)
  names-still offset size None = tt
  names-still offset size (Some (Handle.File name node document strict read write)) = tt
  names-still offset size (Some (Handle.Folder node names)) = refl

  release_dir-still : (fh : ℕ) (handle : Option Handle) → Still (release_dir fh handle)
  release_dir-still fh None = tt
  release_dir-still fh (Some (Handle.File name node document strict read write)) = tt
  release_dir-still fh (Some (Handle.Folder node names)) = refl

  access-still : (mask : ℕ) (sight : Option Sight) → Still (access mask sight)
  access-still mask sight =
      errs_if-on tree P (nat_lt 7 mask) einval (by_place sight (access_file mask) (access_folder mask)) (λ e.
      by_place-on tree P sight (access_file mask) (access_folder mask)
      (λ at g s m. errs_if-on tree P (executes mask || writes_to mask && not at.may_write) eacces (told NodeAnswer.Empty) (λ k. refl))
      (λ folder h. errs_if-on tree P (writes_to mask && not (is_writable folder)) eacces (told NodeAnswer.Empty) (λ k. refl)))

  -- ---- at the file that a look shows

  on-standing : (b : Bool) (path : List ℕ) (next : OnFile) → ((g s m : ℕ) → At (changed_if b (Some (OfName (record { path = path; generation = g })))) (next g s m)) → (look : Look) → look ≡ look_at held.present path →
      At (changed_if b (option_named (present_at held.present path))) (if_file next look)
  on-standing b path next h (Look.File g s m) e =
      subst (λ (o : Option FileName). At (changed_if b (option_named o)) (next g s m)) (sym (standing-file held.present path g s m (sym e))) (h g s m)
  on-standing b path next h Look.Folder e = tt
  on-standing b path next h Look.Missing e = tt

  on-named : (b : Bool) (name : FileName) (next : OnFile) → ((g s m : ℕ) → At (changed_if b (Some (OfName (record { path = name.path; generation = g })))) (next g s m)) → (look : Look) → look ≡ shown_at held (Named name) →
      At (changed_if b (Some (OfName name))) (if_file next look)
  on-named b name next h (Look.File g s m) e =
      subst (λ (n : FileName). At (changed_if b (Some (OfName n))) (next g s m)) (sym (named-file (all_held held) name (file_named (all_held held) name) refl g s m (sym e))) (h g s m)
  on-named b name next h Look.Folder e = tt
  on-named b name next h Look.Missing e = tt

  on-below : (b : Bool) (view : ℕ) (at : Spot) (file : Spot → OnFile) (folder : Folder → Walk NodeVerdict) → ((g s m : ℕ) → At (changed_if b (Some (OfName (name_at at g)))) (file at g s m)) →
      ((o : Option FileName) → At (changed_if b (option_named o)) (folder (Exported view at.document at.path at.may_write))) → (look : Look) → look ≡ look_at held.present at.path →
      At (changed_if b (option_named (present_at held.present at.path))) (by_look view at file folder look)
  on-below b view at file folder h k (Look.File g s m) e =
      subst (λ (o : Option FileName). At (changed_if b (option_named o)) (file at g s m)) (sym (standing-file held.present at.path g s m (sym e))) (h g s m)
  on-below b view at file folder h k Look.Folder e = k (present_at held.present at.path)
  on-below b view at file folder h k Look.Missing e = tt

  -- ---- a length that is set

  size-at : (q : NodeRequest) (a : SetsAttr) (name : FileName) (may_write : Bool) (size moment : ℕ) → At (changed_if (sets_size a.valid) (Some (OfName name))) (set_attr_of q a name may_write size moment)
  size-at q a name may_write size moment = elim (sets_size a.valid) as (λ b. At (changed_if b (Some (OfName name))) (cond b (errs_if (not may_write) eacces (errs_if (nat_lt a.limit a.size) efbig (resize q a name may_write))) (told (NodeAnswer.Attr (attr_of_file q may_write size moment))))) [
    | true ↦
        errs_if-on tree (ChangesTo (Some (OfName name))) (not may_write) eacces (errs_if (nat_lt a.limit a.size) efbig (resize q a name may_write)) (λ e.
        errs_if-on tree (ChangesTo (Some (OfName name))) (nat_lt a.limit a.size) efbig (resize q a name may_write) (λ k. ((λ now found. refl), tt)))
    | false ↦ refl
  ]

  size-of-open : (a : SetsAttr) (file : OpenFile) → At (changed_if (sets_size a.valid) (Some (OfName file.name))) (set_attr_open f.reach r a file)
  size-of-open a file =
      let Q : NodeDoing → Type 0 = ChangesTo (changed_if (sets_size a.valid) (Some (OfName file.name))) in
      errs_if-on tree Q (not (reaches f.reach file)) eacces (at_name file.name (set_attr_of_open f.reach r a file)) (λ e.
      at_name-on tree Q file.name (set_attr_of_open f.reach r a file) (λ g s m.
      errs_if-on tree Q (sets_size a.valid && not file.write) ebadf (set_attr_of (on_node r file.node) a file.name (may_write_now f.reach file) s m) (λ k.
      size-at (on_node r file.node) a file.name (may_write_now f.reach file) s m)))

  size-open : (a : SetsAttr) (handle : Option Handle) → At (changed_if (sets_size a.valid) (option_named (file_of_open handle))) (by_file_handle handle (set_attr_open f.reach r a))
  size-open a None = tt
  size-open a (Some (Handle.File name node document strict read write)) = size-of-open a (open_file_of name node document strict read write)
  size-open a (Some (Handle.Folder node names)) = tt

  size-folder : (a : SetsAttr) (folder : Folder) (o : Option FileName) → At (changed_if (sets_size a.valid) (option_named o)) (set_attr_of_folder r a folder)
  size-folder a folder o = elim (sets_size a.valid) as (λ b. At (changed_if b (option_named o)) (errs_if b eisdir (told (NodeAnswer.Attr (attr_of_folder r (is_writable folder)))))) [ true ↦ tt | false ↦ refl ]

  size-place : (a : SetsAttr) (sight : Option Sight) → At (changed_if (sets_size a.valid) (option_named (file_of_sight held.present sight))) (by_place sight (set_attr_at r a) (set_attr_of_folder r a))
  size-place a None = tt
  size-place a (Some (SightOfFile d w)) = on-standing (sets_size a.valid) d.path (set_attr_at r a (spot d d.path w)) (λ g s m. size-at r a (name_at (spot d d.path w) g) w s m)
  size-place a (Some (SightOfTemp d name w)) = on-named (sets_size a.valid) name (set_attr_at r a (spot d name.path w)) (λ g s m. size-at r a (name_at (spot d name.path w) g) w s m)
  size-place a (Some (SightBelow view d path w)) =
      on-below (sets_size a.valid) view (spot d path w) (set_attr_at r a) (set_attr_of_folder r a) (λ g s m. size-at r a (name_at (spot d path w) g) w s m) (λ o. size-folder a (Exported view d path w) o)
  size-place a (Some (SightOfFolder folder)) = size-folder a folder None

  set_attr-at : (a : SetsAttr) (sight : Option Sight) (handle : Option Handle) → At (changed_if (sets_size a.valid) (option_named (cond (sets_by_handle a.valid) (file_of_open handle) (file_of_sight held.present sight)))) (set_attr f.reach r a sight handle)
  set_attr-at a sight handle =
      errs_if-on tree (ChangesTo (changed_if (sets_size a.valid) (option_named (cond (sets_by_handle a.valid) (file_of_open handle) (file_of_sight held.present sight))))) (sets_owner_or_mode a.valid) eperm (cond (sets_by_handle a.valid) (by_file_handle handle (set_attr_open f.reach r a)) (by_place sight (set_attr_at r a) (set_attr_of_folder r a))) (λ e.
      elim (sets_by_handle a.valid) as (λ b. At (changed_if (sets_size a.valid) (option_named (cond b (file_of_open handle) (file_of_sight held.present sight)))) (cond b (by_file_handle handle (set_attr_open f.reach r a)) (by_place sight (set_attr_at r a) (set_attr_of_folder r a)))) [
        | true ↦ size-open a handle
        | false ↦ size-place a sight
      ])

  -- ---- a file that is opened

  open-name-at : (flags : ℕ) (d : Document) (name : FileName) → At (changed_if (truncates flags) (Some (OfName name))) (open_name r flags f.room d name)
  open-name-at flags d name = elim (truncates flags) as (λ b. At (changed_if b (Some (OfName name))) (cond b (Ends (Changes name) (λ now. opened_file f.room (file_handle d name r.node flags) (Resizes name 0 now)) (Errs enoent)) (Answers (opened_file f.room (file_handle d name r.node flags) FilesStay)))) [
    | true ↦ ((λ now found. refl), tt)
    | false ↦ refl
  ]

  open-spot : (flags : ℕ) (at : Spot) (g s m : ℕ) → At (changed_if (truncates flags) (Some (OfName (name_at at g)))) (open_file r flags f.room at g s m)
  open-spot flags at g s m =
      let Q : NodeDoing → Type 0 = ChangesTo (changed_if (truncates flags) (Some (OfName (name_at at g)))) in
      errs_if-on tree Q (opens_to_write flags && not at.may_write) eacces (errs_if f.room.full emfile (open_name r flags f.room at.document (name_at at g))) (λ k.
      errs_if-on tree Q f.room.full emfile (open_name r flags f.room at.document (name_at at g)) (λ n. open-name-at flags at.document (name_at at g)))

  open-place : (flags : ℕ) (sight : Option Sight) → At (changed_if (truncates flags) (option_named (file_of_sight held.present sight))) (by_place sight (open_file r flags f.room) open_folder)
  open-place flags None = tt
  open-place flags (Some (SightOfFile d w)) = on-standing (truncates flags) d.path (open_file r flags f.room (spot d d.path w)) (open-spot flags (spot d d.path w))
  open-place flags (Some (SightOfTemp d name w)) = on-named (truncates flags) name (open_file r flags f.room (spot d name.path w)) (open-spot flags (spot d name.path w))
  open-place flags (Some (SightBelow view d path w)) = on-below (truncates flags) view (spot d path w) (open_file r flags f.room) open_folder (open-spot flags (spot d path w)) (λ o. tt)
  open-place flags (Some (SightOfFolder folder)) = tt

  open-at : (flags : ℕ) (sight : Option Sight) → At (changed_if (truncates flags) (option_named (file_of_sight held.present sight))) (open_node r flags sight f.room)
  open-at flags sight =
      errs_if-on tree (ChangesTo (changed_if (truncates flags) (option_named (file_of_sight held.present sight)))) (has_no_mode flags) einval (by_place sight (open_file r flags f.room) open_folder) (λ e. open-place flags sight)

  -- ---- a file that is made

  there-at : (flags : ℕ) (made : Made) (look : Look) → At (Some (MadeAt made.path)) (create_there r flags f.room made look)
  there-at flags made (Look.File g s m) = tt
  there-at flags made Look.Folder = tt
  there-at flags made Look.Missing = ((λ now found. refl), tt)

  create-child-at : (flags view : ℕ) (d : Document) (may_write : Bool) (path : Option (List ℕ)) → At (path_made path) (create_child r flags f.room f.namings view d may_write path)
  create-child-at flags view d may_write None = tt
  create-child-at flags view d may_write (Some path) =
      let Q : NodeDoing → Type 0 = ChangesTo (Some (MadeAt path)) in
      let naming = naming_in view d path in
      let there = make_at r flags f.room (child_made f.namings d naming) in
      errs_if-on tree Q (not may_write) eacces (errs_if (f.room.full || lacks_number f.namings naming) emfile there) (λ a.
      errs_if-on tree Q (f.room.full || lacks_number f.namings naming) emfile there (λ b. λ look shown. there-at flags (child_made f.namings d naming) look))

  create-own-at : (flags view : ℕ) (d : Document) (may_write : Bool) → At (Some (MadeAt d.path)) (create_own r flags f.room view d may_write)
  create-own-at flags view d may_write =
      let Q : NodeDoing → Type 0 = ChangesTo (Some (MadeAt d.path)) in
      let there = make_at r flags f.room (own_made view d) in
      errs_if-on tree Q (not may_write) eacces (errs_if f.room.full emfile there) (λ b.
      errs_if-on tree Q f.room.full emfile there (λ e. λ look shown. there-at flags (own_made view d) look))

  -- of a temporary that is made nobody else is told
  create-temp-still : (name : List ℕ) (flags view : ℕ) (d : Document) (may_write : Bool) → Still (create_temp r name flags f.room f.temps view d may_write)
  create-temp-still name flags view d may_write =
      let last = add_temp r flags f.room (next_temp_node f.temps view) d (temp_made view d name (next_file f.temps d)) in
      let third = errs_if (f.room.full || lacks_temp f.temps) emfile last in
      let second = errs_if (is_some (found_temp f.temps.temps view d.id name)) eexist third in
      let first = errs_if (not may_write) eacces second in
      errs_if-on tree P (is_dots name) eacces first (λ a.
      errs_if-on tree P (not may_write) eacces second (λ b.
      errs_if-on tree P (is_some (found_temp f.temps.temps view d.id name)) eexist third (λ c.
      errs_if-on tree P (f.room.full || lacks_temp f.temps) emfile last (λ e. ((λ now found. refl), tt)))))

  create-in-at : (name : List ℕ) (flags : ℕ) (folder : Folder) → At (made_in_folder name folder) (create_in r name flags f.room f.namings f.temps folder)
  create-in-at name flags (RootOf view numbers has_views) = tt
  create-in-at name flags (Views applications) = tt
  create-in-at name flags (FolderOf view d may_write) = elim (is_same name (name_of d.path)) as (λ b. At (cond b (Some (MadeAt d.path)) None) (cond b (create_own r flags f.room view d may_write) (create_other r name flags f.room f.temps view d may_write))) [
    | true ↦ create-own-at flags view d may_write
    | false ↦ errs_if-on tree P d.folder eacces (create_temp r name flags f.room f.temps view d may_write) (λ e. create-temp-still name flags view d may_write)
  ]
  create-in-at name flags (Exported view d path may_write) = create-child-at flags view d may_write (named_child path name)

  create-below : (name : List ℕ) (flags view : ℕ) (at : Spot) (look : Look) → At (path_made (named_child at.path name)) (by_look view at (no_file enotdir) (create_in r name flags f.room f.namings f.temps) look)
  create-below name flags view at (Look.File g s m) = tt
  create-below name flags view at Look.Folder = create-in-at name flags (Exported view at.document at.path at.may_write)
  create-below name flags view at Look.Missing = tt

  create-place : (name : List ℕ) (flags : ℕ) (sight : Option Sight) → At (made_in_sight name sight) (by_place sight (no_file enotdir) (create_in r name flags f.room f.namings f.temps))
  create-place name flags None = tt
  create-place name flags (Some (SightOfFile d w)) = at_file-on tree P d.path (no_file enotdir (spot d d.path w)) (λ g s m. tt)
  create-place name flags (Some (SightOfTemp d file w)) = at_name-on tree P file (no_file enotdir (spot d file.path w)) (λ g s m. tt)
  create-place name flags (Some (SightBelow view d path w)) = λ look shown. create-below name flags view (spot d path w) look
  create-place name flags (Some (SightOfFolder folder)) = create-in-at name flags folder

  create-at : (name : List ℕ) (flags : ℕ) (sight : Option Sight) → At (made_in_sight name sight) (create r name flags sight f.room f.namings f.temps)
  create-at name flags sight =
      let place = by_place sight (no_file enotdir) (create_in r name flags f.room f.namings f.temps) in
      errs_if-on tree (ChangesTo (made_in_sight name sight)) (has_no_mode flags) einval (errs_if (is_too_long name) enametoolong place) (λ a.
      errs_if-on tree (ChangesTo (made_in_sight name sight)) (is_too_long name) enametoolong place (λ b. create-place name flags sight))

  -- ---- a file that is written

  content-at : (limit : ℕ) (name : FileName) (offset : ℕ) (content : List ℕ) → At (changed_if (has_bytes content) (Some (OfName name))) (write_content limit name offset content)
  content-at limit name offset [] = refl
  content-at limit name offset (b ∷ bs) = errs_if-on tree (ChangesTo (Some (OfName name))) (nat_lt limit (offset + length (b ∷ bs))) efbig _ (λ e. ((λ now found. refl), tt))

  write-open-at : (limit offset : ℕ) (content : List ℕ) (handle : Option Handle) → At (changed_if (has_bytes content) (option_named (file_of_open handle))) (by_file_handle handle (write_open f.reach limit offset content))
  write-open-at limit offset content None = tt
  write-open-at limit offset content (Some (Handle.File name node document strict may_read may_write)) =
      let Q : NodeDoing → Type 0 = ChangesTo (changed_if (has_bytes content) (Some (OfName name))) in
      let may : Bool = may_write_now f.reach (open_file_of name node document strict may_read may_write) in
      errs_if-on tree Q (not may_write) ebadf (errs_if (not may) eacces (write_content limit name offset content)) (λ k.
      errs_if-on tree Q (not may) eacces (write_content limit name offset content) (λ n. content-at limit name offset content))
  write-open-at limit offset content (Some (Handle.Folder node names)) = tt

  write-at : (limit offset : ℕ) (content : List ℕ) (handle : Option Handle) → At (changed_if (has_bytes content) (option_named (file_of_open handle))) (write f.reach limit offset content handle)
  write-at limit offset content handle =
      errs_if-on tree (ChangesTo (changed_if (has_bytes content) (option_named (file_of_open handle)))) (nat_lt write_limit (length content)) einval (by_file_handle handle (write_open f.reach limit offset content)) (λ e. write-open-at limit offset content handle)

  -- ---- a temporary that becomes the document's file, or is gone

  module _ (call : RenameCall) where
    abbrev temps : List OwnTemp
    temps = f.temps.temps

    temp-renamed : (view : ℕ) (d : Document) (may_write : Bool) (o : Option OwnTemp) → At (cond (is_same call.new_name (name_of d.path)) (temp_saved o) None) (rename_temp (home view d may_write) call.new_name o)
    temp-renamed view d may_write None = tt
    temp-renamed view d may_write (Some t) =
        let Q : NodeDoing → Type 0 = ChangesTo (cond (is_same call.new_name (name_of d.path)) (temp_saved (Some t)) None) in
        errs_if-on tree Q (not may_write) eacces _ (λ a.
        errs_if-on tree Q (is_dots call.new_name) eacces _ (λ b.
        elim (is_same call.new_name (name_of d.path)) as (λ c. At (cond c (temp_saved (Some t)) None) (cond c (Ends (Turns t.temp.file) (λ now. saved t) (Errs enoent)) (Answers (changes_temps (Renames t.k t.temp call.new_name) NodeAnswer.Empty)))) [
          | true ↦ ((λ now found. refl), tt)
          | false ↦ refl
        ]))

    home-renamed : (view : ℕ) (d : Document) (may_write : Bool) (second : Option Home) → At (saved_in_folder temps call.old_name call.new_name (FolderOf view d may_write)) (rename_homes call temps (Some (home view d may_write)) second)
    home-renamed view d may_write None = tt
    home-renamed view d may_write (Some second) =
        let Q : NodeDoing → Type 0 = ChangesTo (saved_in_folder temps call.old_name call.new_name (FolderOf view d may_write)) in
        let first : Home = home view d may_write in
        errs_if-on tree Q (not (same_home first second)) exdev (rename_at call temps first) (λ a.
        errs_if-on tree Q (is_own_name first call.old_name) eperm (rename_temp first call.new_name (temp_at temps first call.old_name)) (λ b.
        temp-renamed view d may_write (found_temp temps view d.id call.old_name)))

    folder-renamed : (first : Folder) (second : Option Home) → At (saved_in_folder temps call.old_name call.new_name first) (rename_homes call temps (home_of first) second)
    folder-renamed (RootOf view numbers has_views) second = tt
    folder-renamed (Views applications) second = tt
    folder-renamed (FolderOf view d may_write) second = elim d.folder as (λ b. At (saved_in_folder temps call.old_name call.new_name (FolderOf view d may_write)) (rename_homes call temps (cond b None (Some (home view d may_write))) second)) [
      | true ↦ tt
      | false ↦ home-renamed view d may_write second
    ]
    folder-renamed (Exported view d path may_write) second = tt

    -- whatever is seen at the second node
    file-first : (change : Option Changed) (new_sight : Option Sight) → At change (with_seen new_sight (rename_in call temps AFile))
    file-first change new_sight =
        by_place-on tree (ChangesTo change) new_sight (λ at g s m. rename_in call temps AFile AFile) (λ second. rename_in call temps AFile (AFolder second)) (λ at g s m. tt) (λ second e. tt)

    folder-first : (first : Folder) (new_sight : Option Sight) → At (saved_in_folder temps call.old_name call.new_name first) (with_seen new_sight (rename_in call temps (AFolder first)))
    folder-first first new_sight =
        by_place-on tree (ChangesTo (saved_in_folder temps call.old_name call.new_name first)) new_sight (λ at g s m. rename_in call temps (AFolder first) AFile) (λ second. rename_in call temps (AFolder first) (AFolder second)) (λ at g s m. tt)
        (λ second e. folder-renamed first (home_of second))

    below-first : (view : ℕ) (at : Spot) (new_sight : Option Sight) (look : Look) →
        At None (by_look view at (λ to g s m. with_seen new_sight (rename_in call temps AFile)) (λ first. with_seen new_sight (rename_in call temps (AFolder first))) look)
    below-first view at new_sight (Look.File g s m) = file-first None new_sight
    below-first view at new_sight Look.Folder = folder-first (Exported view at.document at.path at.may_write) new_sight
    below-first view at new_sight Look.Missing = tt

    rename-place : (sight new_sight : Option Sight) → At (saved_in_sight temps call.old_name call.new_name sight) (with_seen sight (λ first. with_seen new_sight (rename_in call temps first)))
    rename-place None new_sight = tt
    rename-place (Some (SightOfFile d w)) new_sight = at_file-on tree P d.path (λ g s m. with_seen new_sight (rename_in call temps AFile)) (λ g s m. file-first None new_sight)
    rename-place (Some (SightOfTemp d name w)) new_sight = at_name-on tree P name (λ g s m. with_seen new_sight (rename_in call temps AFile)) (λ g s m. file-first None new_sight)
    rename-place (Some (SightBelow view d path w)) new_sight = λ look shown. below-first view (spot d path w) new_sight look
    rename-place (Some (SightOfFolder first)) new_sight = folder-first first new_sight

    rename-on : (sight new_sight : Option Sight) → At (saved_in_sight temps call.old_name call.new_name sight) (rename call temps sight new_sight)
    rename-on sight new_sight =
        let Q : NodeDoing → Type 0 = ChangesTo (saved_in_sight temps call.old_name call.new_name sight) in
        let place = with_seen sight (λ first. with_seen new_sight (rename_in call temps first)) in
        errs_if-on tree Q (not (call.flags == 0)) einval (errs_if (are_too_long call) enametoolong place) (λ a.
        errs_if-on tree Q (are_too_long call) enametoolong place (λ b. rename-place sight new_sight))

  temp-unlinked : (h : Home) (o : Option OwnTemp) → Still (unlink_temp h o)
  temp-unlinked h None = tt
  temp-unlinked h (Some t) = errs_if-on tree P (not h.may_write) eacces _ (λ e. refl)

  home-unlinked : (name : List ℕ) (o : Option Home) → Still (unlink_at name f.temps.temps o)
  home-unlinked name None = tt
  home-unlinked name (Some h) = errs_if-on tree P (is_own_name h name) eperm (unlink_temp h (temp_at f.temps.temps h name)) (λ e. temp-unlinked h (temp_at f.temps.temps h name))

  unlink-still : (name : List ℕ) (sight : Option Sight) → Still (unlink name f.temps.temps sight)
  unlink-still name sight =
      errs_if-on tree P (is_too_long name) enametoolong (by_place sight (no_file enotdir) (unlink_in name f.temps.temps)) (λ e.
      by_place-on tree P sight (no_file enotdir) (unlink_in name f.temps.temps) (λ at g s m. tt) (λ folder k. home-unlinked name (home_of folder)))

  -- ---- each request

  pub walk-change : (op : NodeOp) → OnNode tree (ChangesTo (change_of held.present f op)) (node_walk f r op)
  walk-change (NodeOp.Lookup name) =
      errs_if-on tree P (is_too_long name) enametoolong (by_place f.sight (no_file enotdir) (lookup_in r f.namings f.temps.temps name)) (λ e.
      by_place-on tree P f.sight (no_file enotdir) (lookup_in r f.namings f.temps.temps name) (λ at g s m. tt) (λ folder k. lookup-still name folder))
  walk-change (NodeOp.Forget count) = refl
  walk-change (NodeOp.BatchForget nodes) = refl
  walk-change (NodeOp.GetAttr flags fh) = get_attr-still (names_handle flags) f.sight (f.handle fh)
  walk-change (NodeOp.SetAttr valid fh size) = set_attr-at (record { valid = valid; size = size; limit = f.file_limit }) f.sight (f.handle fh)
  walk-change (NodeOp.Open flags) = open-at flags f.sight
  walk-change (NodeOp.Create name flags) = create-at name flags f.sight
  walk-change (NodeOp.Read fh offset size) = read-still offset size (f.handle fh)
  walk-change (NodeOp.Write fh offset content) = write-at f.file_limit offset content (f.handle fh)
  walk-change (NodeOp.Flush fh) = by_file_handle-on tree P (f.handle fh) _ (λ file. refl)
  walk-change (NodeOp.Fsync fh) = by_file_handle-on tree P (f.handle fh) fsync_open (λ file. ((λ now found. refl), tt))
  walk-change (NodeOp.Release fh) = by_file_handle-on tree P (f.handle fh) _ (λ file. refl)
  walk-change NodeOp.OpenDir = open_dir-still f.sight
  walk-change (NodeOp.ReadDir fh offset size) = errs_if-on tree P (nat_lt read_limit size) einval (read_names offset size (f.handle fh)) (λ e. names-still offset size (f.handle fh))
  walk-change (NodeOp.ReleaseDir fh) = release_dir-still fh (f.handle fh)
  walk-change (NodeOp.Access mask) = access-still mask f.sight
  walk-change (NodeOp.Rename new_parent flags old_name new_name) = rename-on (rename_call flags old_name new_name) f.sight (f.sight_of new_parent)
  walk-change (NodeOp.Unlink name) = unlink-still name f.sight
