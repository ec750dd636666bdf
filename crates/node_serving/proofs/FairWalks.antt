-- What a request on a node comes to is fair: it is no EIO, which is the answer where a call of the tree failed, and it answers the number of a handle exactly where it opens one, the next one.
use Rattle.std.proofs.Common.{◌≡◌, ℕ, ◌+◌, ◌==◌, nat_lt, length, List, [], ◌∷◌, Bool, true, false, not, ◌&&◌, ◌||◌, cond, Option, Some, None, is_some, refl}
use Rattle.portal_base.specs.Names.{is_same, name_of, named_child}
use Rattle.portal_base.specs.declared.files.ChildName.{ChildName}
use Rattle.portal_base.specs.declared.files.FileName.{FileName}
use Rattle.portal_base.specs.declared.files.Look.{Look}
use Rattle.portal_model.specs.declared.handle.Handle.{Handle}
use Rattle.portal_model.specs.declared.naming.Naming.{Naming}
use Rattle.portal_model.specs.declared.reply.Answer.{Answer}
use Rattle.portal_model.specs.declared.reply.NodeAnswer.TheVariants as NodeAnswer
use Rattle.portal_model.specs.declared.request.NodeOp.{NodeOp}
use Rattle.portal_model.specs.declared.request.NodeRequest.{NodeRequest}
use Rattle.portal_model.specs.declared.state.Document.{Document}
use Rattle.portal_model.specs.declared.temporary.OwnTemp.{OwnTemp}
use Rattle.portal_model.specs.declared.temporary.Temp.{Temp}
use Rattle.portal_model.specs.Access.{access_file, access_folder, executes, writes_to}
use Rattle.portal_model.specs.Attributes.{attr_of_file, attr_of_folder, is_writable, on_node}
use Rattle.portal_model.specs.Create.{Made, add_temp, child_made, create_at, create_child, create_in, create_other, create_own, create_there, next_file, next_temp_node, own_made, temp_made}
use Rattle.portal_model.specs.Errno.{eacces, ebadf, eexist, efbig, einval, eio, eisdir, emfile, enametoolong, enoent, enotdir, eperm, exdev}
use Rattle.portal_model.specs.Fsync.{fsync_open}
use Rattle.portal_model.specs.GetAttr.{get_attr_by_handle, get_attr_by_place, get_attr_open, names_handle, tells_file, tells_folder}
use Rattle.portal_model.specs.Lookup.{entry_of_file, found_child, found_document, found_folder, found_own, lookup_child, lookup_in, named_in_root, named_in_views, naming_in, node_of_naming}
use Rattle.portal_model.specs.Node.{NodeFacts, node_walk}
use Rattle.portal_model.specs.NodeVerdict.{NodeVerdict, FilesStay, Resizes, HandleChange, HandlesStay, Opens, Closes, next_handle, Errs, Yields, OnFile, OnHandle, Room, Spot, at_name, by_file_handle, by_look, by_place, changes_temps, errs, errs_if, if_file, is_dots, is_too_long, name_at, names_path, no_file, spot, told}
use Rattle.portal_model.specs.Open.{file_handle, has_no_mode, open_file, open_folder, open_name, opened_file, opens_to_write, truncates}
use Rattle.portal_model.specs.OpenDir.{open_dir_in, open_found}
use Rattle.portal_model.specs.Place.{Exported, Folder, RootOf, Views, FolderOf, Sight, SightBelow, SightOfFile, SightOfFolder, SightOfTemp, file_node, temp_node}
use Rattle.portal_model.specs.Reach.{OpenFile, Reaching, may_read_now, may_write_now, open_file_of, reaches}
use Rattle.portal_model.specs.Read.{read_limit, read_name, read_open}
use Rattle.portal_model.specs.ReadDir.{read_names}
use Rattle.portal_model.specs.Release.{closed}
use Rattle.portal_model.specs.ReleaseDir.{release_dir}
use Rattle.portal_model.specs.Rename.{AFile, AFolder, Home, RenameCall, Seen, are_too_long, home_of, is_own_name, rename_at, rename_call, rename_homes, rename_in, rename_temp, rename_to, same_home, saved, temp_at, with_seen}
use Rattle.portal_model.specs.SeatNames.{Drops, Renames, SeatTemps, found_temp, lacks_number, lacks_temp}
use Rattle.portal_model.specs.SetAttr.{SetsAttr, resize, set_attr_at, set_attr_of, set_attr_of_folder, set_attr_of_open, set_attr_open, sets_by_handle, sets_owner_or_mode, sets_size}
use Rattle.portal_model.specs.Unlink.{unlink_at, unlink_in, unlink_temp}
use Rattle.portal_model.specs.Walk.{Walk, Answers, Looks, Ends, Lists, AtPath, Changes, Turns}
use Rattle.portal_model.specs.Write.{write_content, write_limit, write_open}
use Rattle.node_serving.specs.Numbered.{handle_given}

-- the number that a change of the handles gives
abbrev pub number_of : Room → HandleChange → Option ℕ
number_of room HandlesStay = None
number_of room (Opens handle) = Some (next_handle room)
number_of room (Closes fh) = None

abbrev pub IsFair : Room → NodeVerdict → Type 0
IsFair room (Errs errno) = (errno == eio) ≡ false
IsFair room (Yields d) = handle_given (Answer.Node d.answer) ≡ number_of room d.handle

abbrev pub Fair : Room → Walk NodeVerdict → Type 0
Fair room (Answers v) = IsFair room v
Fair room (Looks target next) = (look : Look) → Fair room (next look)
Fair room (Ends call done missing) = ((now : ℕ) → IsFair room (done now)) × IsFair room missing
Fair room (Lists path done missing) = ((names : List ChildName) → IsFair room (done names)) × IsFair room missing

module _ (room : Room) where
  -- ---- parts of a walk

  refused : (b : Bool) (errno : ℕ) (w : Walk NodeVerdict) → (errno == eio) ≡ false → Fair room w → Fair room (errs_if b errno w)
  refused true errno w e h = e
  refused false errno w e h = h

  either : (b : Bool) (w u : Walk NodeVerdict) → Fair room w → Fair room u → Fair room (cond b w u)
  either true w u h k = h
  either false w u h k = k

  looked : (next : OnFile) → ((generation size moment : ℕ) → Fair room (next generation size moment)) → (look : Look) → Fair room (if_file next look)
  looked next h (Look.File generation size moment) = h generation size moment
  looked next h Look.Folder = refl
  looked next h Look.Missing = refl

  at_look : (view : ℕ) (at : Spot) (file : Spot → OnFile) (folder : Folder → Walk NodeVerdict) → ((generation size moment : ℕ) → Fair room (file at generation size moment)) →
      ((f : Folder) → Fair room (folder f)) → (look : Look) → Fair room (by_look view at file folder look)
  at_look view at file folder h k (Look.File generation size moment) = h generation size moment
  at_look view at file folder h k Look.Folder = k (Exported view at.document at.path at.may_write)
  at_look view at file folder h k Look.Missing = refl

  placed : (sight : Option Sight) (file : Spot → OnFile) (folder : Folder → Walk NodeVerdict) → ((at : Spot) (generation size moment : ℕ) → Fair room (file at generation size moment)) →
      ((f : Folder) → Fair room (folder f)) → Fair room (by_place sight file folder)
  placed None file folder h k = refl
  placed (Some (SightOfFile d may_write)) file folder h k = looked (file (spot d d.path may_write)) (h (spot d d.path may_write))
  placed (Some (SightOfTemp d name may_write)) file folder h k = looked (file (spot d name.path may_write)) (h (spot d name.path may_write))
  placed (Some (SightBelow view d path may_write)) file folder h k = at_look view (spot d path may_write) file folder (h (spot d path may_write)) k
  placed (Some (SightOfFolder f)) file folder h k = k f

  handled : (handle : Option Handle) (next : OnHandle) → ((file : OpenFile) → Fair room (next file)) → Fair room (by_file_handle handle next)
  handled None next h = refl
  handled (Some (Handle.File name node document strict read write)) next h = h (open_file_of name node document strict read write)
  handled (Some (Handle.Folder node names)) next h = refl

  -- ---- each request

  module _ (r : NodeRequest) where
    found : (o : Option ℕ) → Fair room (found_folder r o)
    found None = refl
    found (Some node) = refl

    own_found : (node : ℕ) (d : Document) (may_write : Bool) (look : Look) → Fair room (found_document r node d may_write look)
    own_found node d may_write (Look.File g s m) = refl
    own_found node d may_write Look.Folder = either d.folder (told (NodeAnswer.Entry (attr_of_folder (on_node r node) may_write))) (errs enoent) refl refl
    own_found node d may_write Look.Missing = refl

    child_found : (namings : List Naming) (naming : Naming) (may_write : Bool) (look : Look) → Fair room (found_child r namings naming may_write look)
    child_found namings naming may_write (Look.File g s m) = refused (lacks_number namings naming) emfile (Answers (names_path naming (NodeAnswer.Entry (attr_of_file (on_node r (node_of_naming namings naming)) may_write s m)))) refl refl
    child_found namings naming may_write Look.Folder = refused (lacks_number namings naming) emfile (Answers (names_path naming (NodeAnswer.Entry (attr_of_folder (on_node r (node_of_naming namings naming)) may_write)))) refl refl
    child_found namings naming may_write Look.Missing = refl

    child : (namings : List Naming) (view : ℕ) (d : Document) (may_write : Bool) (path : Option (List ℕ)) → Fair room (lookup_child r namings view d may_write path)
    child namings view d may_write None = refl
    child namings view d may_write (Some path) = λ look. child_found namings (naming_in view d path) may_write look

    own_temp : (view : ℕ) (may_write : Bool) (o : Option OwnTemp) → Fair room (found_own r view may_write o)
    own_temp view may_write None = refl
    own_temp view may_write (Some t) = looked (entry_of_file r (temp_node view t.k) may_write) (λ g s m. refl)

    in_folder : (namings : List Naming) (temps : List OwnTemp) (name : List ℕ) (folder : Folder) → Fair room (lookup_in r namings temps name folder)
    in_folder namings temps name (RootOf view numbers has_views) = found (named_in_root view numbers has_views name)
    in_folder namings temps name (Views applications) = found (named_in_views applications name)
    in_folder namings temps name (FolderOf view d may_write) =
        either (is_same name (name_of d.path)) (Looks (AtPath d.path) (found_document r (file_node view d.id.number) d may_write)) (found_own r view may_write (found_temp temps view d.id name))
        (own_found (file_node view d.id.number) d may_write) (own_temp view may_write (found_temp temps view d.id name))
    in_folder namings temps name (Exported view d path may_write) = child namings view d may_write (named_child path name)

    attr_at : (sight : Option Sight) → Fair room (get_attr_by_place r sight)
    attr_at sight = placed sight (λ at. tells_file r at.may_write) (tells_folder r) (λ at g s m. refl) (λ f. refl)

    attr_open : (reach : Reaching) (file : OpenFile) → Fair room (get_attr_open reach r file)
    attr_open reach file =
        refused (not (reaches reach file)) eacces (at_name file.name (tells_file (on_node r file.node) (may_write_now reach file))) refl
        (looked (tells_file (on_node r file.node) (may_write_now reach file)) (λ g s m. refl))

    attr_by : (reach : Reaching) (sight : Option Sight) (handle : Option Handle) → Fair room (get_attr_by_handle reach r sight handle)
    attr_by reach sight None = refl
    attr_by reach sight (Some (Handle.File name node document strict read write)) = attr_open reach (open_file_of name node document strict read write)
    attr_by reach sight (Some (Handle.Folder node names)) = attr_at sight

    size_of : (q : NodeRequest) (a : SetsAttr) (name : FileName) (may_write : Bool) (size moment : ℕ) → Fair room (set_attr_of q a name may_write size moment)
    size_of q a name may_write size moment =
        either (sets_size a.valid) (errs_if (not may_write) eacces (errs_if (nat_lt a.limit a.size) efbig (resize q a name may_write))) (told (NodeAnswer.Attr (attr_of_file q may_write size moment)))
        (refused (not may_write) eacces (errs_if (nat_lt a.limit a.size) efbig (resize q a name may_write)) refl
        (refused (nat_lt a.limit a.size) efbig (resize q a name may_write) refl ((λ now. refl), refl))) refl

    size_open : (reach : Reaching) (a : SetsAttr) (file : OpenFile) → Fair room (set_attr_open reach r a file)
    size_open reach a file =
        refused (not (reaches reach file)) eacces (at_name file.name (set_attr_of_open reach r a file)) refl
        (looked (set_attr_of_open reach r a file) (λ g s m. refused (sets_size a.valid && not file.write) ebadf (set_attr_of (on_node r file.node) a file.name (may_write_now reach file) s m) refl
        (size_of (on_node r file.node) a file.name (may_write_now reach file) s m)))

    sized : (reach : Reaching) (a : SetsAttr) (sight : Option Sight) (handle : Option Handle) → Fair room (cond (sets_by_handle a.valid) (by_file_handle handle (set_attr_open reach r a)) (by_place sight (set_attr_at r a) (set_attr_of_folder r a)))
    sized reach a sight handle =
        either (sets_by_handle a.valid) (by_file_handle handle (set_attr_open reach r a)) (by_place sight (set_attr_at r a) (set_attr_of_folder r a))
        (handled handle (set_attr_open reach r a) (size_open reach a))
        (placed sight (set_attr_at r a) (set_attr_of_folder r a) (λ at g s m. size_of r a (name_at at g) at.may_write s m)
        (λ f. refused (sets_size a.valid) eisdir (told (NodeAnswer.Attr (attr_of_folder r (is_writable f)))) refl refl))

    name_opened : (flags : ℕ) (d : Document) (name : FileName) → Fair room (open_name r flags room d name)
    name_opened flags d name =
        either (truncates flags) (Ends (Changes name) (λ now. opened_file room (file_handle d name r.node flags) (Resizes name 0 now)) (Errs enoent)) (Answers (opened_file room (file_handle d name r.node flags) FilesStay))
        ((λ now. refl), refl) refl

    file_opened : (flags : ℕ) (at : Spot) (g s m : ℕ) → Fair room (open_file r flags room at g s m)
    file_opened flags at g s m =
        refused (opens_to_write flags && not at.may_write) eacces (errs_if room.full emfile (open_name r flags room at.document (name_at at g))) refl
        (refused room.full emfile (open_name r flags room at.document (name_at at g)) refl (name_opened flags at.document (name_at at g)))

    made_there : (flags : ℕ) (made : Made) (look : Look) → Fair room (create_there r flags room made look)
    made_there flags made (Look.File g s m) = refl
    made_there flags made Look.Folder = refl
    made_there flags made Look.Missing = ((λ now. refl), refl)

    made_child : (flags : ℕ) (namings : List Naming) (view : ℕ) (d : Document) (w : Bool) (path : Option (List ℕ)) → Fair room (create_child r flags room namings view d w path)
    made_child flags namings view d w None = refl
    made_child flags namings view d w (Some path) =
        let naming = naming_in view d path in
        let made = child_made namings d naming in
        refused (not w) eacces (errs_if (room.full || lacks_number namings naming) emfile (create_at r flags room made)) refl
        (refused (room.full || lacks_number namings naming) emfile (create_at r flags room made) refl (made_there flags made))

    made_own : (flags view : ℕ) (d : Document) (w : Bool) → Fair room (create_own r flags room view d w)
    made_own flags view d w =
        let looks : Walk NodeVerdict = create_at r flags room (own_made view d) in
        refused (not w) eacces (errs_if room.full emfile looks) refl
        (refused room.full emfile looks refl (made_there flags (own_made view d)))

    added : (flags node : ℕ) (d : Document) (temp : Temp) → Fair room (add_temp r flags room node d temp)
    added flags node d temp = ((λ now. refl), refl)

    made_other : (temps : SeatTemps) (name : List ℕ) (flags view : ℕ) (d : Document) (w : Bool) → Fair room (create_other r name flags room temps view d w)
    made_other temps name flags view d w =
        let temp : Temp = temp_made view d name (next_file temps d) in
        let adds : Walk NodeVerdict = add_temp r flags room (next_temp_node temps view) d temp in
        let spared : Walk NodeVerdict = errs_if (room.full || lacks_temp temps) emfile adds in
        let new : Walk NodeVerdict = errs_if (is_some (found_temp temps.temps view d.id name)) eexist spared in
        let may : Walk NodeVerdict = errs_if (not w) eacces new in
        refused d.folder eacces (errs_if (is_dots name) eacces may) refl
        (refused (is_dots name) eacces may refl
        (refused (not w) eacces new refl
        (refused (is_some (found_temp temps.temps view d.id name)) eexist spared refl
        (refused (room.full || lacks_temp temps) emfile adds refl (added flags (next_temp_node temps view) d temp)))))

    made_in : (namings : List Naming) (temps : SeatTemps) (name : List ℕ) (flags : ℕ) (folder : Folder) → Fair room (create_in r name flags room namings temps folder)
    made_in namings temps name flags (RootOf view numbers has_views) = refl
    made_in namings temps name flags (Views applications) = refl
    made_in namings temps name flags (FolderOf view d w) =
        either (is_same name (name_of d.path)) (create_own r flags room view d w) (create_other r name flags room temps view d w) (made_own flags view d w) (made_other temps name flags view d w)
    made_in namings temps name flags (Exported view d path w) = made_child flags namings view d w (named_child path name)

    folder_opened : (temps : List OwnTemp) (folder : Folder) → Fair room (open_found r room temps folder)
    folder_opened temps (RootOf view numbers has_views) = refl
    folder_opened temps (Views applications) = refl
    folder_opened temps (FolderOf view d w) = λ look. refl
    folder_opened temps (Exported view d path w) = ((λ names. refl), refl)

    -- a RENAME
    renamed_to : (h : Home) (name : List ℕ) (t : OwnTemp) → Fair room (rename_to h name t)
    renamed_to h name t =
        either (is_own_name h name) (Ends (Turns t.temp.file) (λ now. saved t) (Errs enoent)) (Answers (changes_temps (Renames t.k t.temp name) NodeAnswer.Empty)) ((λ now. refl), refl) refl

    renamed : (h : Home) (name : List ℕ) (o : Option OwnTemp) → Fair room (rename_temp h name o)
    renamed h name None = refl
    renamed h name (Some t) =
        refused (not h.may_write) eacces (errs_if (is_dots name) eacces (rename_to h name t)) refl
        (refused (is_dots name) eacces (rename_to h name t) refl (renamed_to h name t))

    renamed_at : (call : RenameCall) (temps : List OwnTemp) (h : Home) → Fair room (rename_at call temps h)
    renamed_at call temps h =
        let t : Option OwnTemp = temp_at temps h call.old_name in
        refused (is_own_name h call.old_name) eperm (rename_temp h call.new_name t) refl (renamed h call.new_name t)

    renamed_homes : (call : RenameCall) (temps : List OwnTemp) (first second : Option Home) → Fair room (rename_homes call temps first second)
    renamed_homes call temps None second = refl
    renamed_homes call temps (Some first) None = refl
    renamed_homes call temps (Some first) (Some second) = refused (not (same_home first second)) exdev (rename_at call temps first) refl (renamed_at call temps first)

    renamed_in : (call : RenameCall) (temps : List OwnTemp) (first second : Seen) → Fair room (rename_in call temps first second)
    renamed_in call temps AFile second = refl
    renamed_in call temps (AFolder first) AFile = refl
    renamed_in call temps (AFolder first) (AFolder second) = renamed_homes call temps (home_of first) (home_of second)

    seen_at : (sight : Option Sight) (next : Seen → Walk NodeVerdict) → ((seen : Seen) → Fair room (next seen)) → Fair room (with_seen sight next)
    seen_at sight next h = placed sight (λ at g s m. next AFile) (λ folder. next (AFolder folder)) (λ at g s m. h AFile) (λ folder. h (AFolder folder))

    -- an UNLINK
    unlinked : (h : Home) (o : Option OwnTemp) → Fair room (unlink_temp h o)
    unlinked h None = refl
    unlinked h (Some t) = refused (not h.may_write) eacces (Answers (changes_temps (Drops t.k) NodeAnswer.Empty)) refl refl

    unlinked_at : (name : List ℕ) (temps : List OwnTemp) (h : Option Home) → Fair room (unlink_at name temps h)
    unlinked_at name temps None = refl
    unlinked_at name temps (Some h) =
        let t : Option OwnTemp = temp_at temps h name in
        refused (is_own_name h name) eperm (unlink_temp h t) refl (unlinked h t)

    written_to : (limit offset : ℕ) (content : List ℕ) (name : FileName) → Fair room (write_content limit name offset content)
    written_to limit offset [] name = refl
    written_to limit offset (b ∷ bs) name = refused (nat_lt limit (offset + length (b ∷ bs))) efbig _ refl ((λ now. refl), refl)

    names_read : (offset size : ℕ) (handle : Option Handle) → Fair room (read_names offset size handle)
    names_read offset size None = refl
    names_read offset size (Some (Handle.File name node document strict read write)) = refl
    names_read offset size (Some (Handle.Folder node names)) = refl

    folder_released : (fh : ℕ) (handle : Option Handle) → Fair room (release_dir fh handle)
    folder_released fh None = refl
    folder_released fh (Some (Handle.File name node document strict read write)) = refl
    folder_released fh (Some (Handle.Folder node names)) = refl

    abbrev facts : Option Sight → (ℕ → Option Sight) → (ℕ → Option Handle) → Reaching → (FileName → List ℕ) → List Naming → SeatTemps → ℕ → NodeFacts
    facts sight sights handle reach bytes namings temps limit = record { sight = sight; sight_of = sights; handle = handle; reach = reach; bytes = bytes; room = room; namings = namings; temps = temps; file_limit = limit }

    fair : (sight : Option Sight) (sights : ℕ → Option Sight) (handle : ℕ → Option Handle) (reach : Reaching) (bytes : FileName → List ℕ) (namings : List Naming) (temps : SeatTemps) (limit : ℕ) (op : NodeOp) → Fair room (node_walk (facts sight sights handle reach bytes namings temps limit) r op)
    fair sight sights handle reach bytes namings temps limit (NodeOp.Lookup name) = refused (is_too_long name) enametoolong (by_place sight (no_file enotdir) (lookup_in r namings temps.temps name)) refl (placed sight (no_file enotdir) (lookup_in r namings temps.temps name) (λ at g s m. refl) (in_folder namings temps.temps name))
    fair sight sights handle reach bytes namings temps limit (NodeOp.Forget count) = refl
    fair sight sights handle reach bytes namings temps limit (NodeOp.BatchForget nodes) = refl
    fair sight sights handle reach bytes namings temps limit (NodeOp.GetAttr flags fh) = either (names_handle flags) (get_attr_by_handle reach r sight (handle fh)) (get_attr_by_place r sight) (attr_by reach sight (handle fh)) (attr_at sight)
    fair sight sights handle reach bytes namings temps limit (NodeOp.SetAttr valid fh size) =
        let a : SetsAttr = record { valid = valid; size = size; limit = limit } in
        refused (sets_owner_or_mode valid) eperm (cond (sets_by_handle valid) (by_file_handle (handle fh) (set_attr_open reach r a)) (by_place sight (set_attr_at r a) (set_attr_of_folder r a))) refl (sized reach a sight (handle fh))
    fair sight sights handle reach bytes namings temps limit (NodeOp.Open flags) = refused (has_no_mode flags) einval (by_place sight (open_file r flags room) open_folder) refl (placed sight (open_file r flags room) open_folder (file_opened flags) (λ folder. refl))
    fair sight sights handle reach bytes namings temps limit (NodeOp.Create name flags) =
        let there : Walk NodeVerdict = by_place sight (no_file enotdir) (create_in r name flags room namings temps) in
        refused (has_no_mode flags) einval (errs_if (is_too_long name) enametoolong there) refl
        (refused (is_too_long name) enametoolong there refl (placed sight (no_file enotdir) (create_in r name flags room namings temps) (λ at g s m. refl) (made_in namings temps name flags)))
    fair sight sights handle reach bytes namings temps limit (NodeOp.Read fh offset size) =
        refused (nat_lt read_limit size) einval (by_file_handle (handle fh) (read_open reach bytes offset size)) refl
        (handled (handle fh) (read_open reach bytes offset size) (λ file. refused (not file.read) ebadf (errs_if (not (may_read_now reach file)) eacces (read_name bytes offset size file.name)) refl
        (refused (not (may_read_now reach file)) eacces (read_name bytes offset size file.name) refl ((λ now. refl), refl))))
    fair sight sights handle reach bytes namings temps limit (NodeOp.Write fh offset content) =
        refused (nat_lt write_limit (length content)) einval (by_file_handle (handle fh) (write_open reach limit offset content)) refl
        (handled (handle fh) (write_open reach limit offset content) (λ file. refused (not file.write) ebadf (errs_if (not (may_write_now reach file)) eacces (write_content limit file.name offset content)) refl
        (refused (not (may_write_now reach file)) eacces (write_content limit file.name offset content) refl (written_to limit offset content file.name))))
    fair sight sights handle reach bytes namings temps limit (NodeOp.Flush fh) = handled (handle fh) (λ file. told NodeAnswer.Empty) (λ file. refl)
    fair sight sights handle reach bytes namings temps limit (NodeOp.Fsync fh) = handled (handle fh) fsync_open (λ file. ((λ now. refl), refl))
    fair sight sights handle reach bytes namings temps limit (NodeOp.Release fh) = handled (handle fh) (λ file. Answers (closed fh)) (λ file. refl)
    fair sight sights handle reach bytes namings temps limit NodeOp.OpenDir = placed sight (no_file enotdir) (open_dir_in r room temps.temps) (λ at g s m. refl) (λ folder. refused room.full emfile (open_found r room temps.temps folder) refl (folder_opened temps.temps folder))
    fair sight sights handle reach bytes namings temps limit (NodeOp.ReadDir fh offset size) = refused (nat_lt read_limit size) einval (read_names offset size (handle fh)) refl (names_read offset size (handle fh))
    fair sight sights handle reach bytes namings temps limit (NodeOp.ReleaseDir fh) = folder_released fh (handle fh)
    fair sight sights handle reach bytes namings temps limit (NodeOp.Access mask) =
        refused (nat_lt 7 mask) einval (by_place sight (access_file mask) (access_folder mask)) refl
        (placed sight (access_file mask) (access_folder mask) (λ at g s m. refused (executes mask || writes_to mask && not at.may_write) eacces (told NodeAnswer.Empty) refl refl) (λ folder. refused (writes_to mask && not (is_writable folder)) eacces (told NodeAnswer.Empty) refl refl))
    fair sight sights handle reach bytes namings temps limit (NodeOp.Rename new_parent flags old_name new_name) =
        let call : RenameCall = rename_call flags old_name new_name in
        let next : Seen → Walk NodeVerdict = λ first. with_seen (sights new_parent) (rename_in call temps.temps first) in
        let there : Walk NodeVerdict = with_seen sight next in
        refused (not (flags == 0)) einval (errs_if (are_too_long call) enametoolong there) refl
        (refused (are_too_long call) enametoolong there refl
        (seen_at sight next (λ first. seen_at (sights new_parent) (rename_in call temps.temps first) (renamed_in call temps.temps first))))
    fair sight sights handle reach bytes namings temps limit (NodeOp.Unlink name) =
        refused (is_too_long name) enametoolong (by_place sight (no_file enotdir) (unlink_in name temps.temps)) refl
        (placed sight (no_file enotdir) (unlink_in name temps.temps) (λ at g s m. refl) (λ folder. unlinked_at name temps.temps (home_of folder)))

pub fair-walk : (f : NodeFacts) (r : NodeRequest) (op : NodeOp) → Fair f.room (node_walk f r op)
fair-walk f r op = fair f.room r f.sight f.sight_of f.handle f.reach f.bytes f.namings f.temps f.file_limit op
