-- How a request on a node changes the files, where it is done.
use Rattle.std.proofs.Common.{◌≡◌, ◌+◌, ℕ, List, [], ◌∷◌, length, nat_lt, Bool, true, false, not, ◌&&◌, ◌||◌, ◌==◌, cond, Option, Some, None, is_some, refl, sym, ap, subst}
use Rattle.portal_base.specs.Names.{is_same, name_of, named_child}
use Rattle.portal_base.specs.declared.files.ChildName.{ChildName}
use Rattle.portal_base.specs.declared.files.FileName.{FileName}
use Rattle.portal_base.specs.declared.files.Look.{Look}
use Rattle.portal_model.specs.declared.handle.Handle.{Handle}
use Rattle.portal_model.specs.declared.naming.Naming.{Naming}
use Rattle.portal_model.specs.declared.reply.NodeAnswer.TheVariants as NodeAnswer
use Rattle.portal_model.specs.declared.request.NodeOp.{NodeOp}
use Rattle.portal_model.specs.declared.request.NodeRequest.{NodeRequest}
use Rattle.portal_model.specs.declared.state.Document.{Document}
use Rattle.portal_model.specs.declared.temporary.OwnTemp.{OwnTemp}
use Rattle.portal_model.specs.declared.temporary.Temp.{Temp}
use Rattle.portal_model.specs.Access.{access, access_file, access_folder, executes, writes_to as asks_to_write}
use Rattle.portal_model.specs.Attributes.{attr_of_file, attr_of_folder, is_writable, on_node}
use Rattle.portal_model.specs.Create.{Made, add_temp, child_made, create, create_at, create_child, create_in, create_other, create_own, created, created_temp, next_file, next_temp_node, own_made, temp_made}
use Rattle.portal_model.specs.Errno.{eacces, ebadf, eexist, efbig, einval, eisdir, emfile, enametoolong, enoent, enotdir, eperm, exdev}
use Rattle.portal_model.specs.Flush.{flush}
use Rattle.portal_model.specs.Fsync.{fsync, fsync_open}
use Rattle.portal_model.specs.GetAttr.{get_attr, get_attr_by_handle, get_attr_by_place, get_attr_open, names_handle, tells_file, tells_folder}
use Rattle.portal_model.specs.Lookup.{entry_of_file, found_child, found_document, found_folder, found_own, lookup, lookup_child, lookup_in, named_in_root, named_in_views, naming_in}
use Rattle.portal_model.specs.Node.{NodeFacts, node_walk}
use Rattle.portal_model.specs.NodeVerdict.{Adds, Creates, FileChange, FilesStay, NodeVerdict, Errs, OnFile, OnHandle, Resizes, Room, Spot, Writes, Yields, at_name, by_file_handle, by_look, by_place, changes, changes_temps, errs, errs_if, if_file, is_dots, is_too_long, no_file, spot, told}
use Rattle.portal_model.specs.Open.{file_handle, has_no_mode, open_file, open_folder, open_name, open_node, opened_file, opens_to_write, truncates}
use Rattle.portal_model.specs.OpenDir.{open_dir, open_dir_in, open_found}
use Rattle.portal_model.specs.Place.{Exported, FolderOf, RootOf, Views, Folder, Sight, SightBelow, SightOfFile, SightOfFolder, SightOfTemp, file_node, temp_node}
use Rattle.portal_model.specs.Reach.{OpenFile, Reaching, may_read_now, may_write_now, open_file_of, reaches}
use Rattle.portal_model.specs.Read.{read, read_limit, read_name, read_open}
use Rattle.portal_model.specs.ReadDir.{read_dir, read_names}
use Rattle.portal_model.specs.Release.{release}
use Rattle.portal_model.specs.ReleaseDir.{release_dir}
use Rattle.portal_model.specs.Rename.{AFile, AFolder, Home, RenameCall, are_too_long, home, home_of, is_own_name, rename, rename_at, rename_call, rename_homes, rename_in, rename_temp, same_home, saved, temp_at, with_seen}
use Rattle.portal_model.specs.SeatNames.{Renames, SeatTemps, found_temp, lacks_number, lacks_temp}
use Rattle.portal_model.specs.SetAttr.{SetsAttr, resize, set_attr, set_attr_at, set_attr_of, set_attr_of_folder, set_attr_of_open, set_attr_open, sets_by_handle, sets_owner_or_mode, sets_size}
use Rattle.portal_model.specs.Walk as walk
use Rattle.portal_model.specs.Unlink.{unlink, unlink_at, unlink_in, unlink_temp}
use Rattle.portal_model.specs.Walk.{Answers, AtPath, Ends, Freshens, LastCall, Lists, Looks, Makes, Turns, Walk, generation_reached, listed_by, walked_with}
use Rattle.portal_model.specs.Write.{write, write_content, write_limit, write_open}
use Rattle.trace_items.specs.FilesChanged.{Circumstance, adds, attributes_set, creates, document_of_folder, file_change, file_open, file_shown_at, made_in, opened, path_of_below, path_of_file, renamed, resizes, stands, view_of_folder, writes_to, written}

-- where something is done, it changes the files so
abbrev pub Changes : FileChange → Option NodeVerdict → Type 0
Changes change None = Unit {0}
Changes change (Some (Errs errno)) = Unit {0}
Changes change (Some (Yields d)) = d.file ≡ change

-- a check that refuses
checked : (change : FileChange) (wrong : Bool) (errno : ℕ) (w : Walk NodeVerdict) (now : ℕ) (listed : Option (List ChildName)) (looks : List Look) (failed : Bool) → Changes change (walked_with w now listed looks failed) → Changes change (walked_with (errs_if wrong errno w) now listed looks failed)
checked change true errno w now listed looks failed h = tt
checked change false errno w now listed looks failed h = h

-- a last call, where the file isn't there ENOENT
ends : (change : FileChange) (call : LastCall) (done : ℕ → NodeVerdict) (now : ℕ) (listed : Option (List ChildName)) (looks : List Look) (failed : Bool) → Changes change (Some (done now)) → Changes change (walked_with (Ends call done (Errs enoent)) now listed looks failed)
ends change call done now listed [] true h = tt
ends change call done now listed [] false h = h
ends change call done now listed (look ∷ looks) failed h = tt

-- ---- WRITE

-- what is written to the file of a name
abbrev written_to : FileName → ℕ → List ℕ → ℕ → FileChange
written_to name offset [] now = FilesStay
written_to name offset (b ∷ bs) now = Writes name offset (b ∷ bs) now

write-content : (limit : ℕ) (name : FileName) (offset : ℕ) (content : List ℕ) (now : ℕ) (listed : Option (List ChildName)) (looks : List Look) (failed : Bool) →
    Changes (written_to name offset content now) (walked_with (write_content limit name offset content) now listed looks failed)
write-content limit name offset [] now listed looks failed = refl
write-content limit name offset (b ∷ bs) now listed looks failed =
    let done : ℕ → NodeVerdict = λ moment. changes (Writes name offset (b ∷ bs) moment) (NodeAnswer.Written (length (b ∷ bs))) in
    checked (Writes name offset (b ∷ bs) now) (nat_lt limit (offset + length (b ∷ bs))) efbig (Ends (walk.Changes name) done (Errs enoent)) now listed looks failed
    (ends (Writes name offset (b ∷ bs) now) (walk.Changes name) done now listed looks failed refl)

write-file : (reach : Reaching) (limit offset : ℕ) (content : List ℕ) (file : OpenFile) (now : ℕ) (listed : Option (List ChildName)) (looks : List Look) (failed : Bool) →
    Changes (written_to file.name offset content now) (walked_with (write_open reach limit offset content file) now listed looks failed)
write-file reach limit offset content file now listed looks failed =
    let change : FileChange = written_to file.name offset content now in
    let w : Walk NodeVerdict = write_content limit file.name offset content in
    checked change (not file.write) ebadf (errs_if (not (may_write_now reach file)) eacces w) now listed looks failed
    (checked change (not (may_write_now reach file)) eacces w now listed looks failed (write-content limit file.name offset content now listed looks failed))

-- by the handle of a file
written-by : (offset : ℕ) (content : List ℕ) (h : Handle) (name : FileName) (now : ℕ) → file_open (Some h) ≡ Some name → written_to name offset content now ≡ written offset content (Some h) now
written-by offset [] h name now e = refl
written-by offset (b ∷ bs) h name now e = ap (λ (o : Option FileName). writes_to o offset (b ∷ bs) now) (sym e)

write-handle : (reach : Reaching) (limit offset : ℕ) (content : List ℕ) (handle : Option Handle) (now : ℕ) (listed : Option (List ChildName)) (looks : List Look) (failed : Bool) → Changes (written offset content handle now) (walked_with (by_file_handle handle (write_open reach limit offset content)) now listed looks failed)
write-handle reach limit offset content None now listed looks failed = tt
write-handle reach limit offset content (Some (Handle.File name node document strict read may)) now listed looks failed =
    let file : OpenFile = open_file_of name node document strict read may in
    subst (λ (change : FileChange). Changes change (walked_with (write_open reach limit offset content file) now listed looks failed))
    (written-by offset content (Handle.File name node document strict read may) name now refl)
    (write-file reach limit offset content file now listed looks failed)
write-handle reach limit offset content (Some (Handle.Folder node names)) now listed looks failed = tt

write-changes : (reach : Reaching) (limit offset : ℕ) (content : List ℕ) (handle : Option Handle) (now : ℕ) (listed : Option (List ChildName)) (looks : List Look) (failed : Bool) → Changes (written offset content handle now) (walked_with (write reach limit offset content handle) now listed looks failed)
write-changes reach limit offset content handle now listed looks failed =
    checked (written offset content handle now) (nat_lt write_limit (length content)) einval (by_file_handle handle (write_open reach limit offset content)) now listed looks failed
    (write-handle reach limit offset content handle now listed looks failed)

-- ---- OPEN

open-name : (r : NodeRequest) (flags : ℕ) (room : Room) (d : Document) (name : FileName) (now : ℕ) (listed : Option (List ChildName)) (looks : List Look) (failed : Bool) → Changes (cond (truncates flags) (Resizes name 0 now) FilesStay) (walked_with (open_name r flags room d name) now listed looks failed)
open-name r flags room d name now listed looks failed = by_truncation (truncates flags)
  where
    by_truncation : (b : Bool) → Changes (cond b (Resizes name 0 now) FilesStay)
        (walked_with
        (cond b
        (Ends (walk.Changes name) (λ moment. opened_file room (file_handle d name r.node flags) (Resizes name 0 moment)) (Errs enoent))
        (Answers (opened_file room (file_handle d name r.node flags) FilesStay)))
        now listed looks failed)
    by_truncation true = ends (Resizes name 0 now) (walk.Changes name) (λ moment. opened_file room (file_handle d name r.node flags) (Resizes name 0 moment)) now listed looks failed refl
    by_truncation false = refl

open-file : (r : NodeRequest) (flags : ℕ) (room : Room) (d : Document) (path : List ℕ) (may : Bool) (g now : ℕ) (listed : Option (List ChildName)) (looks : List Look) (failed : Bool) →
    Changes (cond (truncates flags) (Resizes (record { path = path; generation = g }) 0 now) FilesStay)
    (walked_with (errs_if (opens_to_write flags && not may) eacces (errs_if room.full emfile (open_name r flags room d (record { path = path; generation = g })))) now listed looks failed)
open-file r flags room d path may g now listed looks failed =
    let name : FileName = record { path = path; generation = g } in
    let o : FileChange = cond (truncates flags) (Resizes name 0 now) FilesStay in
    checked o (opens_to_write flags && not may) eacces (errs_if room.full emfile (open_name r flags room d name)) now listed looks failed
    (checked o room.full emfile (open_name r flags room d name) now listed looks failed (open-name r flags room d name now listed looks failed))

open-place : (r : NodeRequest) (flags : ℕ) (room : Room) (sight : Option Sight) → (now : ℕ) (listed : Option (List ChildName)) (looks : List Look) (failed : Bool) → Changes (opened flags sight looks now) (walked_with (by_place sight (open_file r flags room) open_folder) now listed looks failed)
open-place r flags room None now listed looks failed = tt
open-place r flags room (Some (SightOfFolder f)) now listed looks failed = tt
open-place r flags room (Some (SightOfTemp d name may)) now listed [] failed = tt
open-place r flags room (Some (SightOfTemp d name may)) now listed (Look.Folder ∷ looks) failed = tt
open-place r flags room (Some (SightOfTemp d name may)) now listed (Look.Missing ∷ looks) failed = tt
open-place r flags room (Some (SightOfTemp d name may)) now listed (Look.File g size moment ∷ looks) failed = open-file r flags room d name.path may g now listed looks failed
open-place r flags room (Some (SightBelow view d path may)) now listed [] failed = tt
open-place r flags room (Some (SightBelow view d path may)) now listed (Look.Folder ∷ looks) failed = tt
open-place r flags room (Some (SightBelow view d path may)) now listed (Look.Missing ∷ looks) failed = tt
open-place r flags room (Some (SightBelow view d path may)) now listed (Look.File g size moment ∷ looks) failed = open-file r flags room d path may g now listed looks failed
open-place r flags room (Some (SightOfFile d may)) now listed [] failed = tt
open-place r flags room (Some (SightOfFile d may)) now listed (Look.Folder ∷ looks) failed = tt
open-place r flags room (Some (SightOfFile d may)) now listed (Look.Missing ∷ looks) failed = tt
open-place r flags room (Some (SightOfFile d may)) now listed (Look.File g size moment ∷ looks) failed = open-file r flags room d d.path may g now listed looks failed

open-changes : (r : NodeRequest) (flags : ℕ) (sight : Option Sight) (room : Room) → (now : ℕ) (listed : Option (List ChildName)) (looks : List Look) (failed : Bool) → Changes (opened flags sight looks now) (walked_with (open_node r flags sight room) now listed looks failed)
open-changes r flags sight room now listed looks failed =
    checked (opened flags sight looks now) (has_no_mode flags) einval (by_place sight (open_file r flags room) open_folder) now listed looks failed
    (open-place r flags room sight now listed looks failed)

-- ---- SETATTR

attr-of : (r : NodeRequest) (a : SetsAttr) (name : FileName) (may : Bool) (size moment now : ℕ) (listed : Option (List ChildName)) (looks : List Look) (failed : Bool) → Changes (cond (sets_size a.valid) (Resizes name a.size now) FilesStay) (walked_with (set_attr_of r a name may size moment) now listed looks failed)
attr-of r a name may size moment now listed looks failed = by_size (sets_size a.valid)
  where
    by_size : (b : Bool) → Changes (cond b (Resizes name a.size now) FilesStay)
        (walked_with (cond b (errs_if (not may) eacces (errs_if (nat_lt a.limit a.size) efbig (resize r a name may))) (told (NodeAnswer.Attr (attr_of_file r may size moment)))) now listed looks failed)
    by_size true =
        checked (Resizes name a.size now) (not may) eacces (errs_if (nat_lt a.limit a.size) efbig (resize r a name may)) now listed looks failed
        (checked (Resizes name a.size now) (nat_lt a.limit a.size) efbig (resize r a name may) now listed looks failed
        (ends (Resizes name a.size now) (walk.Changes name) (λ m. changes (Resizes name a.size m) (NodeAnswer.Attr (attr_of_file r may a.size m))) now listed looks failed refl))
    by_size false = refl

attr-looked : (reach : Reaching) (r : NodeRequest) (a : SetsAttr) (file : OpenFile) (now : ℕ) (listed : Option (List ChildName)) (looks : List Look) (failed : Bool) → Changes (cond (sets_size a.valid) (Resizes file.name a.size now) FilesStay) (walked_with (at_name file.name (set_attr_of_open reach r a file)) now listed looks failed)
attr-looked reach r a file now listed [] failed = tt
attr-looked reach r a file now listed (Look.Folder ∷ looks) failed = tt
attr-looked reach r a file now listed (Look.Missing ∷ looks) failed = tt
attr-looked reach r a file now listed (Look.File g size moment ∷ looks) failed =
    checked (cond (sets_size a.valid) (Resizes file.name a.size now) FilesStay) (sets_size a.valid && not file.write) ebadf
    (set_attr_of (on_node r file.node) a file.name (may_write_now reach file) size moment) now listed looks failed
    (attr-of (on_node r file.node) a file.name (may_write_now reach file) size moment now listed looks failed)

attr-open : (reach : Reaching) (r : NodeRequest) (a : SetsAttr) (handle : Option Handle) (now : ℕ) (listed : Option (List ChildName)) (looks : List Look) (failed : Bool) → Changes (cond (sets_size a.valid) (resizes (file_open handle) a.size now) FilesStay) (walked_with (by_file_handle handle (set_attr_open reach r a)) now listed looks failed)
attr-open reach r a None now listed looks failed = tt
attr-open reach r a (Some (Handle.Folder node names)) now listed looks failed = tt
attr-open reach r a (Some (Handle.File name node document strict read may)) now listed looks failed =
    let file : OpenFile = open_file_of name node document strict read may in
    checked (cond (sets_size a.valid) (Resizes name a.size now) FilesStay) (not (reaches reach file)) eacces (at_name name (set_attr_of_open reach r a file)) now listed looks failed
    (attr-looked reach r a file now listed looks failed)

attr-folder : (r : NodeRequest) (a : SetsAttr) (f : Folder) (now : ℕ) (listed : Option (List ChildName)) (looks : List Look) (failed : Bool) → Changes (cond (sets_size a.valid) FilesStay FilesStay) (walked_with (set_attr_of_folder r a f) now listed looks failed)
attr-folder r a f now listed looks failed = by_size (sets_size a.valid)
  where
    by_size : (b : Bool) → Changes (cond b FilesStay FilesStay) (walked_with (errs_if b eisdir (told (NodeAnswer.Attr (attr_of_folder r (is_writable f))))) now listed looks failed)
    by_size true = tt
    by_size false = refl

attr-place : (r : NodeRequest) (a : SetsAttr) (sight : Option Sight) → (now : ℕ) (listed : Option (List ChildName)) (looks : List Look) (failed : Bool) →
    Changes (cond (sets_size a.valid) (resizes (file_shown_at (path_of_file sight) looks) a.size now) FilesStay) (walked_with (by_place sight (set_attr_at r a) (set_attr_of_folder r a)) now listed looks failed)
attr-place r a None now listed looks failed = tt
attr-place r a (Some (SightOfFolder f)) now listed looks failed = attr-folder r a f now listed looks failed
attr-place r a (Some (SightOfTemp d name may)) now listed [] failed = tt
attr-place r a (Some (SightOfTemp d name may)) now listed (Look.Folder ∷ looks) failed = tt
attr-place r a (Some (SightOfTemp d name may)) now listed (Look.Missing ∷ looks) failed = tt
attr-place r a (Some (SightOfTemp d name may)) now listed (Look.File g size moment ∷ looks) failed =
    attr-of r a (record { path = name.path; generation = g }) may size moment now listed looks failed
attr-place r a (Some (SightBelow view d path may)) now listed [] failed = tt
attr-place r a (Some (SightBelow view d path may)) now listed (Look.Folder ∷ looks) failed = attr-folder r a (Exported view d path may) now listed looks failed
attr-place r a (Some (SightBelow view d path may)) now listed (Look.Missing ∷ looks) failed = tt
attr-place r a (Some (SightBelow view d path may)) now listed (Look.File g size moment ∷ looks) failed =
    attr-of r a (record { path = path; generation = g }) may size moment now listed looks failed
attr-place r a (Some (SightOfFile d may)) now listed [] failed = tt
attr-place r a (Some (SightOfFile d may)) now listed (Look.Folder ∷ looks) failed = tt
attr-place r a (Some (SightOfFile d may)) now listed (Look.Missing ∷ looks) failed = tt
attr-place r a (Some (SightOfFile d may)) now listed (Look.File g size moment ∷ looks) failed =
    attr-of r a (record { path = d.path; generation = g }) may size moment now listed looks failed

set_attr-changes : (reach : Reaching) (r : NodeRequest) (a : SetsAttr) (sight : Option Sight) (handle : Option Handle) → (now : ℕ) (listed : Option (List ChildName)) (looks : List Look) (failed : Bool) →
    Changes (attributes_set a.valid a.size sight handle looks now) (walked_with (set_attr reach r a sight handle) now listed looks failed)
set_attr-changes reach r a sight handle now listed looks failed =
    checked (attributes_set a.valid a.size sight handle looks now) (sets_owner_or_mode a.valid) eperm
    (cond (sets_by_handle a.valid) (by_file_handle handle (set_attr_open reach r a)) (by_place sight (set_attr_at r a) (set_attr_of_folder r a))) now listed looks failed
    (by_way (sets_by_handle a.valid))
  where
    by_way : (b : Bool) → Changes (cond (sets_size a.valid) (resizes (cond b (file_open handle) (file_shown_at (path_of_file sight) looks)) a.size now) FilesStay)
        (walked_with (cond b (by_file_handle handle (set_attr_open reach r a)) (by_place sight (set_attr_at r a) (set_attr_of_folder r a))) now listed looks failed)
    by_way true = attr-open reach r a handle now listed looks failed
    by_way false = attr-place r a sight now listed looks failed

-- ---- CREATE

create-there : (r : NodeRequest) (flags : ℕ) (room : Room) (made : Made) (now : ℕ) (listed : Option (List ChildName)) (looks : List Look) (failed : Bool) →
    Changes (creates (Some made.path) now) (walked_with (create_at r flags room made) now listed looks failed)
create-there r flags room made now listed [] failed = tt
create-there r flags room made now listed (Look.File g size moment ∷ looks) failed = tt
create-there r flags room made now listed (Look.Folder ∷ looks) failed = tt
create-there r flags room made now listed (Look.Missing ∷ looks) failed = ends (creates (Some made.path) now) (Makes made.path) (created r flags room made) now listed looks failed refl

-- at an exported folder and below it
create-below : (r : NodeRequest) (flags : ℕ) (room : Room) (namings : List Naming) (view : ℕ) (d : Document) (may : Bool) (path : Option (List ℕ)) (now : ℕ) (listed : Option (List ChildName)) (looks : List Look) (failed : Bool) →
    Changes (creates path now) (walked_with (create_child r flags room namings view d may path) now listed looks failed)
create-below r flags room namings view d may None now listed looks failed = tt
create-below r flags room namings view d may (Some path) now listed looks failed =
    let change : FileChange = creates (Some path) now in
    let naming : Naming = naming_in view d path in
    let w : Walk NodeVerdict = create_at r flags room (child_made namings d naming) in
    checked change (not may) eacces (errs_if (room.full || lacks_number namings naming) emfile w) now listed looks failed
    (checked change (room.full || lacks_number namings naming) emfile w now listed looks failed (create-there r flags room (child_made namings d naming) now listed looks failed))

-- the document's own file in its folder
create-file : (r : NodeRequest) (flags : ℕ) (room : Room) (view : ℕ) (d : Document) (may : Bool) (now : ℕ) (listed : Option (List ChildName)) (looks : List Look) (failed : Bool) →
    Changes (Creates d.path now) (walked_with (create_own r flags room view d may) now listed looks failed)
create-file r flags room view d may now listed looks failed =
    let w : Walk NodeVerdict = create_at r flags room (own_made view d) in
    checked (Creates d.path now) (not may) eacces (errs_if room.full emfile w) now listed looks failed
    (checked (Creates d.path now) room.full emfile w now listed looks failed (create-there r flags room (own_made view d) now listed looks failed))

-- a check that refuses, and the generation that is reached behind it
reached : (change : FileChange) (wrong : Bool) (errno : ℕ) (w : Walk NodeVerdict) (generation : Option ℕ) (now : ℕ) (listed : Option (List ChildName)) (looks : List Look) (failed : Bool) → generation ≡ generation_reached (errs_if wrong errno w) looks →
    (generation ≡ generation_reached w looks → Changes change (walked_with w now listed looks failed)) → Changes change (walked_with (errs_if wrong errno w) now listed looks failed)
reached change true errno w generation now listed looks failed e h = tt
reached change false errno w generation now listed looks failed e h = h e

-- a temporary, by the generation that was given
add-last : (r : NodeRequest) (flags : ℕ) (room : Room) (node : ℕ) (d : Document) (temp : Temp) (generation : Option ℕ) (now : ℕ) (listed : Option (List ChildName)) (looks : List Look) (failed : Bool) → generation ≡ Some temp.file.generation →
    Changes (adds temp.file.path generation now) (walked_with (add_temp r flags room node d temp) now listed looks failed)
add-last r flags room node d temp generation now listed looks failed e =
    subst (λ (o : Option ℕ). Changes (adds temp.file.path o now) (walked_with (add_temp r flags room node d temp) now listed looks failed)) (sym e)
    (ends (Adds temp.file now) (Freshens temp.file) (created_temp r flags room node d temp) now listed looks failed refl)

create-beside : (r : NodeRequest) (name : List ℕ) (flags : ℕ) (room : Room) (temps : SeatTemps) (view : ℕ) (d : Document) (may : Bool) (generation : Option ℕ) (now : ℕ) (listed : Option (List ChildName)) (looks : List Look) (failed : Bool) →
    generation ≡ generation_reached (create_other r name flags room temps view d may) looks → Changes (adds d.path generation now) (walked_with (create_other r name flags room temps view d may) now listed looks failed)
create-beside r name flags room temps view d may generation now listed looks failed e =
    let change : FileChange = adds d.path generation now in
    let temp : Temp = temp_made view d name (next_file temps d) in
    let fifth : Walk NodeVerdict = add_temp r flags room (next_temp_node temps view) d temp in
    let fourth : Walk NodeVerdict = errs_if (room.full || lacks_temp temps) emfile fifth in
    let third : Walk NodeVerdict = errs_if (is_some (found_temp temps.temps view d.id name)) eexist fourth in
    let second : Walk NodeVerdict = errs_if (not may) eacces third in
    let first : Walk NodeVerdict = errs_if (is_dots name) eacces second in
    reached change d.folder eacces first generation now listed looks failed e (λ a.
    reached change (is_dots name) eacces second generation now listed looks failed a (λ b.
    reached change (not may) eacces third generation now listed looks failed b (λ c.
    reached change (is_some (found_temp temps.temps view d.id name)) eexist fourth generation now listed looks failed c (λ g.
    reached change (room.full || lacks_temp temps) emfile fifth generation now listed looks failed g (λ h.
    add-last r flags room (next_temp_node temps view) d temp generation now listed looks failed h)))))

create-in : (r : NodeRequest) (name : List ℕ) (flags : ℕ) (room : Room) (namings : List Naming) (temps : SeatTemps) (f : Folder) (generation : Option ℕ) → (now : ℕ) (listed : Option (List ChildName)) (looks : List Look) (failed : Bool) →
    generation ≡ generation_reached (create_in r name flags room namings temps f) looks →
    Changes (made_in name generation (document_of_folder (Some (SightOfFolder f))) (path_of_below (Some (SightOfFolder f))) now) (walked_with (create_in r name flags room namings temps f) now listed looks failed)
create-in r name flags room namings temps (RootOf view numbers has_views) generation now listed looks failed e = tt
create-in r name flags room namings temps (Views applications) generation now listed looks failed e = tt
create-in r name flags room namings temps (FolderOf view d may) generation now listed looks failed e = by_name (is_same name (name_of d.path)) e
  where
    by_name : (b : Bool) → generation ≡ generation_reached (cond b (create_own r flags room view d may) (create_other r name flags room temps view d may)) looks →
        Changes (cond b (Creates d.path now) (adds d.path generation now)) (walked_with (cond b (create_own r flags room view d may) (create_other r name flags room temps view d may)) now listed looks failed)
    by_name true k = create-file r flags room view d may now listed looks failed
    by_name false k = create-beside r name flags room temps view d may generation now listed looks failed k
create-in r name flags room namings temps (Exported view d path may) generation now listed looks failed e = create-below r flags room namings view d may (named_child path name) now listed looks failed

create-place : (r : NodeRequest) (name : List ℕ) (flags : ℕ) (sight : Option Sight) (room : Room) (namings : List Naming) (temps : SeatTemps) (generation : Option ℕ) → (now : ℕ) (listed : Option (List ChildName)) (looks : List Look) (failed : Bool) →
    generation ≡ generation_reached (by_place sight (no_file enotdir) (create_in r name flags room namings temps)) looks →
    Changes (made_in name generation (document_of_folder sight) (path_of_below sight) now) (walked_with (by_place sight (no_file enotdir) (create_in r name flags room namings temps)) now listed looks failed)
create-place r name flags None room namings temps generation now listed looks failed e = tt
create-place r name flags (Some (SightOfFolder f)) room namings temps generation now listed looks failed e = create-in r name flags room namings temps f generation now listed looks failed e
create-place r name flags (Some (SightBelow view d path may)) room namings temps generation now listed [] failed e = tt
create-place r name flags (Some (SightBelow view d path may)) room namings temps generation now listed (Look.File g size moment ∷ looks) failed e = tt
create-place r name flags (Some (SightBelow view d path may)) room namings temps generation now listed (Look.Folder ∷ looks) failed e = create-in r name flags room namings temps (Exported view d path may) generation now listed looks failed e
create-place r name flags (Some (SightBelow view d path may)) room namings temps generation now listed (Look.Missing ∷ looks) failed e = tt
create-place r name flags (Some (SightOfFile d may)) room namings temps generation now listed [] failed e = tt
create-place r name flags (Some (SightOfFile d may)) room namings temps generation now listed (Look.File g size moment ∷ looks) failed e = tt
create-place r name flags (Some (SightOfFile d may)) room namings temps generation now listed (Look.Folder ∷ looks) failed e = tt
create-place r name flags (Some (SightOfFile d may)) room namings temps generation now listed (Look.Missing ∷ looks) failed e = tt
create-place r name flags (Some (SightOfTemp d file may)) room namings temps generation now listed [] failed e = tt
create-place r name flags (Some (SightOfTemp d file may)) room namings temps generation now listed (Look.File g size moment ∷ looks) failed e = tt
create-place r name flags (Some (SightOfTemp d file may)) room namings temps generation now listed (Look.Folder ∷ looks) failed e = tt
create-place r name flags (Some (SightOfTemp d file may)) room namings temps generation now listed (Look.Missing ∷ looks) failed e = tt

create-changes : (r : NodeRequest) (name : List ℕ) (flags : ℕ) (sight : Option Sight) (room : Room) (namings : List Naming) (temps : SeatTemps) (generation : Option ℕ) → (now : ℕ) (listed : Option (List ChildName)) (looks : List Look) (failed : Bool) →
    generation ≡ generation_reached (create r name flags sight room namings temps) looks →
    Changes (made_in name generation (document_of_folder sight) (path_of_below sight) now) (walked_with (create r name flags sight room namings temps) now listed looks failed)
create-changes r name flags sight room namings temps generation now listed looks failed e =
    let change : FileChange = made_in name generation (document_of_folder sight) (path_of_below sight) now in
    let w : Walk NodeVerdict = by_place sight (no_file enotdir) (create_in r name flags room namings temps) in
    reached change (has_no_mode flags) einval (errs_if (is_too_long name) enametoolong w) generation now listed looks failed e (λ a.
    reached change (is_too_long name) enametoolong w generation now listed looks failed a (λ b.
    create-place r name flags sight room namings temps generation now listed looks failed b))

-- ---- where the moment doesn't matter

abbrev Leaves : FileChange → NodeVerdict → Type 0
Leaves change (Errs errno) = Unit {0}
Leaves change (Yields d) = d.file ≡ change

-- however it goes on, the files change so
abbrev Goes : FileChange → Walk NodeVerdict → Type 0
Goes change (Answers v) = Leaves change v
Goes change (Looks target next) = (look : Look) → Goes change (next look)
Goes change (Ends call done missing) = ((now : ℕ) → Leaves change (done now)) × Leaves change missing
Goes change (Lists path done missing) = ((names : List ChildName) → Leaves change (done names)) × Leaves change missing

module _ (change : FileChange) where
  leaves-changes : (v : NodeVerdict) → Leaves change v → Changes change (Some v)
  leaves-changes (Errs errno) h = tt
  leaves-changes (Yields d) h = h

  leaves-listed : (listed : Option (List ChildName)) (done : List ChildName → NodeVerdict) (missing : NodeVerdict) → ((names : List ChildName) → Leaves change (done names)) → Leaves change missing → Changes change (Some (listed_by done missing listed))
  leaves-listed None done missing h k = leaves-changes missing k
  leaves-listed (Some names) done missing h k = leaves-changes (done names) (h names)

  goes-walked : (w : Walk NodeVerdict) (now : ℕ) (listed : Option (List ChildName)) (looks : List Look) (failed : Bool) → Goes change w → Changes change (walked_with w now listed looks failed)
  goes-walked (Answers v) now listed looks failed h = leaves-changes v h
  goes-walked (Looks target next) now listed [] failed h = tt
  goes-walked (Looks target next) now listed (look ∷ looks) failed h = goes-walked (next look) now listed looks failed (h look)
  goes-walked (Ends call done missing) now listed [] true h = tt
  goes-walked (Ends call done missing) now listed [] false h = leaves-changes (done now) (h.0 now)
  goes-walked (Ends call done missing) now listed (look ∷ looks) failed h = leaves-changes missing h.1
  goes-walked (Lists path done missing) now listed looks true h = tt
  goes-walked (Lists path done missing) now listed looks false h = leaves-listed listed done missing h.0 h.1

  if-goes : (wrong : Bool) (errno : ℕ) (w : Walk NodeVerdict) → Goes change w → Goes change (errs_if wrong errno w)
  if-goes true errno w h = tt
  if-goes false errno w h = h

  file-goes : (next : OnFile) → ((generation size moment : ℕ) → Goes change (next generation size moment)) → (look : Look) → Goes change (if_file next look)
  file-goes next h (Look.File generation size moment) = h generation size moment
  file-goes next h Look.Folder = tt
  file-goes next h Look.Missing = tt

  below-goes : (view : ℕ) (at : Spot) (file : Spot → OnFile) (folder : Folder → Walk NodeVerdict) →
      ((generation size moment : ℕ) → Goes change (file at generation size moment)) → Goes change (folder (Exported view at.document at.path at.may_write)) → (look : Look) → Goes change (by_look view at file folder look)
  below-goes view at file folder h k (Look.File generation size moment) = h generation size moment
  below-goes view at file folder h k Look.Folder = k
  below-goes view at file folder h k Look.Missing = tt

  place-goes : (sight : Option Sight) (file : Spot → OnFile) (folder : Folder → Walk NodeVerdict) →
      ((at : Spot) (generation size moment : ℕ) → Goes change (file at generation size moment)) → ((f : Folder) → Goes change (folder f)) → Goes change (by_place sight file folder)
  place-goes None file folder h k = tt
  place-goes (Some (SightOfFile d may)) file folder h k = file-goes (file (spot d d.path may)) (h (spot d d.path may))
  place-goes (Some (SightOfTemp d name may)) file folder h k = file-goes (file (spot d name.path may)) (h (spot d name.path may))
  place-goes (Some (SightBelow view d path may)) file folder h k = below-goes view (spot d path may) file folder (h (spot d path may)) (k (Exported view d path may))
  place-goes (Some (SightOfFolder f)) file folder h k = k f

-- ---- RENAME

module _ (call : RenameCall) (temps : List OwnTemp) where
  temp-goes : (view : ℕ) (d : Document) (may : Bool) (o : Option OwnTemp) → Goes (cond (is_same call.new_name (name_of d.path)) (stands o) FilesStay) (rename_temp (home view d may) call.new_name o)
  temp-goes view d may None = tt
  temp-goes view d may (Some t) =
      let change : FileChange = cond (is_same call.new_name (name_of d.path)) (stands (Some t)) FilesStay in
      if-goes change (not may) eacces _ (if-goes change (is_dots call.new_name) eacces _ (by_name (is_same call.new_name (name_of d.path))))
    where
      by_name : (b : Bool) → Goes (cond b (stands (Some t)) FilesStay) (cond b (Ends (Turns t.temp.file) (λ now. saved t) (Errs enoent)) (Answers (changes_temps (Renames t.k t.temp call.new_name) NodeAnswer.Empty)))
      by_name true = ((λ now. refl), tt)
      by_name false = refl

  home-goes : (view : ℕ) (d : Document) (may : Bool) (second : Option Home) → Goes (renamed call.old_name call.new_name temps view (Some d)) (rename_homes call temps (Some (home view d may)) second)
  home-goes view d may None = tt
  home-goes view d may (Some second) =
      let change : FileChange = renamed call.old_name call.new_name temps view (Some d) in
      let first : Home = home view d may in
      if-goes change (not (same_home first second)) exdev (rename_at call temps first)
      (if-goes change (is_own_name first call.old_name) eperm (rename_temp first call.new_name (temp_at temps first call.old_name)) (temp-goes view d may (found_temp temps view d.id call.old_name)))

  folder-goes : (first : Folder) (second : Option Home) → Goes (renamed call.old_name call.new_name temps (view_of_folder (Some (SightOfFolder first))) (document_of_folder (Some (SightOfFolder first)))) (rename_homes call temps (home_of first) second)
  folder-goes (RootOf view numbers has_views) second = tt
  folder-goes (Views applications) second = tt
  folder-goes (FolderOf view d may) second = by_kind d.folder
    where
      by_kind : (b : Bool) → Goes (renamed call.old_name call.new_name temps view (Some d)) (rename_homes call temps (cond b None (Some (home view d may))) second)
      by_kind true = tt
      by_kind false = home-goes view d may second
  folder-goes (Exported view d path may) second = tt

  -- whatever is seen at the second node
  file-first : (change : FileChange) (new_sight : Option Sight) → Goes change (with_seen new_sight (rename_in call temps AFile))
  file-first change new_sight = place-goes change new_sight (λ at g s m. rename_in call temps AFile AFile) (λ second. rename_in call temps AFile (AFolder second)) (λ at g s m. tt) (λ second. tt)

  folder-first : (first : Folder) (new_sight : Option Sight) → Goes (renamed call.old_name call.new_name temps (view_of_folder (Some (SightOfFolder first))) (document_of_folder (Some (SightOfFolder first)))) (with_seen new_sight (rename_in call temps (AFolder first)))
  folder-first first new_sight =
      place-goes _ new_sight (λ at g s m. rename_in call temps (AFolder first) AFile) (λ second. rename_in call temps (AFolder first) (AFolder second)) (λ at g s m. tt) (λ second. folder-goes first (home_of second))

  rename-place : (sight new_sight : Option Sight) → Goes (renamed call.old_name call.new_name temps (view_of_folder sight) (document_of_folder sight)) (with_seen sight (λ first. with_seen new_sight (rename_in call temps first)))
  rename-place None new_sight = tt
  rename-place (Some (SightOfFile d may)) new_sight = file-goes FilesStay (λ g s m. with_seen new_sight (rename_in call temps AFile)) (λ g s m. file-first FilesStay new_sight)
  rename-place (Some (SightOfTemp d name may)) new_sight = file-goes FilesStay (λ g s m. with_seen new_sight (rename_in call temps AFile)) (λ g s m. file-first FilesStay new_sight)
  rename-place (Some (SightBelow view d path may)) new_sight =
      below-goes FilesStay view (spot d path may) (λ at g s m. with_seen new_sight (rename_in call temps AFile)) (λ first. with_seen new_sight (rename_in call temps (AFolder first))) (λ g s m. file-first FilesStay new_sight) (folder-first (Exported view d path may) new_sight)
  rename-place (Some (SightOfFolder first)) new_sight = folder-first first new_sight

  rename-goes : (sight new_sight : Option Sight) → Goes (renamed call.old_name call.new_name temps (view_of_folder sight) (document_of_folder sight)) (rename call temps sight new_sight)
  rename-goes sight new_sight =
      let change : FileChange = renamed call.old_name call.new_name temps (view_of_folder sight) (document_of_folder sight) in
      let place : Walk NodeVerdict = with_seen sight (λ first. with_seen new_sight (rename_in call temps first)) in
      if-goes change (not (call.flags == 0)) einval (errs_if (are_too_long call) enametoolong place) (if-goes change (are_too_long call) enametoolong place (rename-place sight new_sight))

-- ---- the other requests

abbrev Stays : Walk NodeVerdict → Type 0
Stays w = Goes FilesStay w

stays-walked : (w : Walk NodeVerdict) (now : ℕ) (listed : Option (List ChildName)) (looks : List Look) (failed : Bool) → Stays w → Changes FilesStay (walked_with w now listed looks failed)
stays-walked w now listed looks failed h = goes-walked FilesStay w now listed looks failed h

if-stays : (wrong : Bool) (errno : ℕ) (w : Walk NodeVerdict) → Stays w → Stays (errs_if wrong errno w)
if-stays wrong errno w h = if-goes FilesStay wrong errno w h

either-stays : (b : Bool) (w u : Walk NodeVerdict) → Stays w → Stays u → Stays (cond b w u)
either-stays true w u h k = h
either-stays false w u h k = k

file-stays : (next : OnFile) → ((generation size moment : ℕ) → Stays (next generation size moment)) → (look : Look) → Stays (if_file next look)
file-stays next h look = file-goes FilesStay next h look

place-stays : (sight : Option Sight) (file : Spot → OnFile) (folder : Folder → Walk NodeVerdict) →
    ((at : Spot) (generation size moment : ℕ) → Stays (file at generation size moment)) → ((f : Folder) → Stays (folder f)) → Stays (by_place sight file folder)
place-stays sight file folder h k = place-goes FilesStay sight file folder h k

handle-stays : (handle : Option Handle) (next : OnHandle) → ((file : OpenFile) → Stays (next file)) → Stays (by_file_handle handle next)
handle-stays None next h = tt
handle-stays (Some (Handle.File name node document strict read write)) next h = h (open_file_of name node document strict read write)
handle-stays (Some (Handle.Folder node names)) next h = tt

found-stays : (r : NodeRequest) (o : Option ℕ) → Stays (found_folder r o)
found-stays r None = tt
found-stays r (Some node) = refl

document-stays : (r : NodeRequest) (node : ℕ) (d : Document) (may : Bool) (look : Look) → Stays (found_document r node d may look)
document-stays r node d may (Look.File generation size moment) = refl
document-stays r node d may Look.Folder = either-stays d.folder (told (NodeAnswer.Entry (attr_of_folder (on_node r node) may))) (errs enoent) refl tt
document-stays r node d may Look.Missing = tt

child-stays : (r : NodeRequest) (namings : List Naming) (naming : Naming) (may : Bool) (look : Look) → Stays (found_child r namings naming may look)
child-stays r namings naming may (Look.File generation size moment) = if-stays (lacks_number namings naming) emfile _ refl
child-stays r namings naming may Look.Folder = if-stays (lacks_number namings naming) emfile _ refl
child-stays r namings naming may Look.Missing = tt

lookup-below : (r : NodeRequest) (namings : List Naming) (view : ℕ) (d : Document) (may : Bool) (path : Option (List ℕ)) → Stays (lookup_child r namings view d may path)
lookup-below r namings view d may None = tt
lookup-below r namings view d may (Some path) = λ look. child-stays r namings (naming_in view d path) may look

temp-stays : (r : NodeRequest) (view : ℕ) (may : Bool) (o : Option OwnTemp) → Stays (found_own r view may o)
temp-stays r view may None = tt
temp-stays r view may (Some t) = file-stays (entry_of_file r (temp_node view t.k) may) (λ generation size moment. refl)

lookup-folder : (r : NodeRequest) (namings : List Naming) (temps : List OwnTemp) (name : List ℕ) (f : Folder) → Stays (lookup_in r namings temps name f)
lookup-folder r namings temps name (RootOf view numbers has_views) = found-stays r (named_in_root view numbers has_views name)
lookup-folder r namings temps name (Views applications) = found-stays r (named_in_views applications name)
lookup-folder r namings temps name (FolderOf view d may) =
    let node : ℕ = file_node view d.id.number in
    either-stays (is_same name (name_of d.path)) (Looks (AtPath d.path) (found_document r node d may)) (found_own r view may (found_temp temps view d.id name)) (λ look. document-stays r node d may look)
    (temp-stays r view may (found_temp temps view d.id name))
lookup-folder r namings temps name (Exported view d path may) = lookup-below r namings view d may (named_child path name)

lookup-stays : (r : NodeRequest) (namings : List Naming) (temps : List OwnTemp) (name : List ℕ) (sight : Option Sight) → Stays (lookup r namings temps name sight)
lookup-stays r namings temps name sight =
    if-stays (is_too_long name) enametoolong (by_place sight (no_file enotdir) (lookup_in r namings temps name))
    (place-stays sight (no_file enotdir) (lookup_in r namings temps name) (λ at generation size moment. tt) (lookup-folder r namings temps name))

attr-by-place : (r : NodeRequest) (sight : Option Sight) → Stays (get_attr_by_place r sight)
attr-by-place r sight = place-stays sight (λ at. tells_file r at.may_write) (tells_folder r) (λ at generation size moment. refl) (λ f. refl)

attr-of-open : (reach : Reaching) (r : NodeRequest) (file : OpenFile) → Stays (get_attr_open reach r file)
attr-of-open reach r file =
    let tells : OnFile = tells_file (on_node r file.node) (may_write_now reach file) in
    if-stays (not (reaches reach file)) eacces (at_name file.name tells) (file-stays tells (λ generation size moment. refl))

attr-by-handle : (reach : Reaching) (r : NodeRequest) (sight : Option Sight) (handle : Option Handle) → Stays (get_attr_by_handle reach r sight handle)
attr-by-handle reach r sight None = tt
attr-by-handle reach r sight (Some (Handle.File name node document strict read write)) = attr-of-open reach r (open_file_of name node document strict read write)
attr-by-handle reach r sight (Some (Handle.Folder node names)) = attr-by-place r sight

get_attr-stays : (reach : Reaching) (r : NodeRequest) (flags : ℕ) (sight : Option Sight) (handle : Option Handle) → Stays (get_attr reach r flags sight handle)
get_attr-stays reach r flags sight handle =
    either-stays (names_handle flags) (get_attr_by_handle reach r sight handle) (get_attr_by_place r sight) (attr-by-handle reach r sight handle) (attr-by-place r sight)

read-open : (reach : Reaching) (bytes : FileName → List ℕ) (offset size : ℕ) (file : OpenFile) → Stays (read_open reach bytes offset size file)
read-open reach bytes offset size file =
    let w : Walk NodeVerdict = read_name bytes offset size file.name in
    if-stays (not file.read) ebadf (errs_if (not (may_read_now reach file)) eacces w) (if-stays (not (may_read_now reach file)) eacces w ((λ now. refl), tt))

read-stays : (reach : Reaching) (bytes : FileName → List ℕ) (offset size : ℕ) (handle : Option Handle) → Stays (read reach bytes offset size handle)
read-stays reach bytes offset size handle =
    if-stays (nat_lt read_limit size) einval (by_file_handle handle (read_open reach bytes offset size))
    (handle-stays handle (read_open reach bytes offset size) (read-open reach bytes offset size))

open-found : (r : NodeRequest) (room : Room) (temps : List OwnTemp) (f : Folder) → Stays (open_found r room temps f)
open-found r room temps (RootOf view numbers has_views) = refl
open-found r room temps (Views applications) = refl
open-found r room temps (FolderOf view d may) = λ look. refl
open-found r room temps (Exported view d path may) = ((λ names. refl), tt)

open_dir-stays : (r : NodeRequest) (sight : Option Sight) (room : Room) (temps : List OwnTemp) → Stays (open_dir r sight room temps)
open_dir-stays r sight room temps =
    place-stays sight (no_file enotdir) (open_dir_in r room temps) (λ at generation size moment. tt) (λ f. if-stays room.full emfile (open_found r room temps f) (open-found r room temps f))

names-stay : (offset size : ℕ) (handle : Option Handle) → Stays (read_names offset size handle)
names-stay offset size None = tt
names-stay offset size (Some (Handle.File name node document strict read write)) = tt
names-stay offset size (Some (Handle.Folder node names)) = refl

release_dir-stays : (fh : ℕ) (handle : Option Handle) → Stays (release_dir fh handle)
release_dir-stays fh None = tt
release_dir-stays fh (Some (Handle.File name node document strict read write)) = tt
release_dir-stays fh (Some (Handle.Folder node names)) = refl

access-stays : (mask : ℕ) (sight : Option Sight) → Stays (access mask sight)
access-stays mask sight =
    if-stays (nat_lt 7 mask) einval (by_place sight (access_file mask) (access_folder mask))
    (place-stays sight (access_file mask) (access_folder mask)
    (λ at generation size moment. if-stays (executes mask || asks_to_write mask && not at.may_write) eacces (told NodeAnswer.Empty) refl)
    (λ f. if-stays (asks_to_write mask && not (is_writable f)) eacces (told NodeAnswer.Empty) refl))

unlinked-temp : (h : Home) (o : Option OwnTemp) → Stays (unlink_temp h o)
unlinked-temp h None = tt
unlinked-temp h (Some t) = if-stays (not h.may_write) eacces _ refl

unlinked-at : (name : List ℕ) (temps : List OwnTemp) (o : Option Home) → Stays (unlink_at name temps o)
unlinked-at name temps None = tt
unlinked-at name temps (Some h) = if-stays (is_own_name h name) eperm (unlink_temp h (temp_at temps h name)) (unlinked-temp h (temp_at temps h name))

unlink-stays : (name : List ℕ) (temps : List OwnTemp) (sight : Option Sight) → Stays (unlink name temps sight)
unlink-stays name temps sight =
    if-stays (is_too_long name) enametoolong (by_place sight (no_file enotdir) (unlink_in name temps))
    (place-stays sight (no_file enotdir) (unlink_in name temps) (λ at generation size moment. tt) (λ f. unlinked-at name temps (home_of f)))

-- ---- each request

-- what the request was given, and what its connection has
abbrev pub around : NodeFacts → List Look → ℕ → Option ℕ → Circumstance
around f looks now generation = record { sight = f.sight; handle = f.handle; temps = f.temps.temps; looks = looks; now = now; generation = generation }

pub node-changes : (f : NodeFacts) (r : NodeRequest) (op : NodeOp) (generation : Option ℕ) → (now : ℕ) (listed : Option (List ChildName)) (looks : List Look) (failed : Bool) → generation ≡ generation_reached (node_walk f r op) looks →
    Changes (file_change (around f looks now generation) op) (walked_with (node_walk f r op) now listed looks failed)
node-changes f r (NodeOp.Write fh offset content) g now listed looks failed e = write-changes f.reach f.file_limit offset content (f.handle fh) now listed looks failed
node-changes f r (NodeOp.SetAttr valid fh size) g now listed looks failed e =
    set_attr-changes f.reach r (record { valid = valid; size = size; limit = f.file_limit }) f.sight (f.handle fh) now listed looks failed
node-changes f r (NodeOp.Open flags) g now listed looks failed e = open-changes r flags f.sight f.room now listed looks failed
node-changes f r (NodeOp.Create name flags) g now listed looks failed e = create-changes r name flags f.sight f.room f.namings f.temps g now listed looks failed e
node-changes f r (NodeOp.Lookup name) g now listed looks failed e = stays-walked (lookup r f.namings f.temps.temps name f.sight) now listed looks failed (lookup-stays r f.namings f.temps.temps name f.sight)
node-changes f r (NodeOp.Forget count) g now listed looks failed e = refl
node-changes f r (NodeOp.BatchForget nodes) g now listed looks failed e = refl
node-changes f r (NodeOp.GetAttr flags fh) g now listed looks failed e = stays-walked (get_attr f.reach r flags f.sight (f.handle fh)) now listed looks failed (get_attr-stays f.reach r flags f.sight (f.handle fh))
node-changes f r (NodeOp.Read fh offset size) g now listed looks failed e = stays-walked (read f.reach f.bytes offset size (f.handle fh)) now listed looks failed (read-stays f.reach f.bytes offset size (f.handle fh))
node-changes f r (NodeOp.Flush fh) g now listed looks failed e = stays-walked (flush (f.handle fh)) now listed looks failed (handle-stays (f.handle fh) _ (λ file. refl))
node-changes f r (NodeOp.Fsync fh) g now listed looks failed e = stays-walked (fsync (f.handle fh)) now listed looks failed (handle-stays (f.handle fh) fsync_open (λ file. ((λ moment. refl), tt)))
node-changes f r (NodeOp.Release fh) g now listed looks failed e = stays-walked (release fh (f.handle fh)) now listed looks failed (handle-stays (f.handle fh) _ (λ file. refl))
node-changes f r NodeOp.OpenDir g now listed looks failed e = stays-walked (open_dir r f.sight f.room f.temps.temps) now listed looks failed (open_dir-stays r f.sight f.room f.temps.temps)
node-changes f r (NodeOp.ReadDir fh offset size) g now listed looks failed e =
    stays-walked (read_dir offset size (f.handle fh)) now listed looks failed (if-stays (nat_lt read_limit size) einval (read_names offset size (f.handle fh)) (names-stay offset size (f.handle fh)))
node-changes f r (NodeOp.ReleaseDir fh) g now listed looks failed e = stays-walked (release_dir fh (f.handle fh)) now listed looks failed (release_dir-stays fh (f.handle fh))
node-changes f r (NodeOp.Access mask) g now listed looks failed e = stays-walked (access mask f.sight) now listed looks failed (access-stays mask f.sight)
node-changes f r (NodeOp.Rename new_parent flags old_name new_name) g now listed looks failed e =
    goes-walked (renamed old_name new_name f.temps.temps (view_of_folder f.sight) (document_of_folder f.sight)) (rename (rename_call flags old_name new_name) f.temps.temps f.sight (f.sight_of new_parent)) now listed looks failed
    (rename-goes (rename_call flags old_name new_name) f.temps.temps f.sight (f.sight_of new_parent))
node-changes f r (NodeOp.Unlink name) g now listed looks failed e = stays-walked (unlink name f.temps.temps f.sight) now listed looks failed (unlink-stays name f.temps.temps f.sight)
