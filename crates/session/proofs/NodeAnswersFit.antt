-- What a request on a node is answered has room behind the header of a frame.
use Rattle.std.proofs.Common.{◌≡◌, ℕ, ◌+◌, ◌≤◌, List, [], ◌∷◌, length, drop, Bool, true, false, not, ◌&&◌, ◌||◌, cond, Option, Some, None, refl, arith, length-take}
use Rattle.std.specs.Prelude.{◌==◌, is_some, nat_lt}
use Rattle.std.proofs.lemmas.Bool.Decides.{nat_tests}
use Rattle.portal_base.specs.Names.{is_same, name_of, named_child}
use Rattle.portal_base.specs.FileChanges.{bytes_from}
use Rattle.portal_base.specs.declared.files.FileName.{FileName}
use Rattle.portal_base.specs.declared.files.ChildName.{ChildName}
use Rattle.portal_base.specs.declared.files.Look.{Look}
use Rattle.portal_model.specs.declared.handle.Handle.{Handle}
use Rattle.portal_model.specs.declared.naming.Naming.{Naming}
use Rattle.portal_model.specs.declared.reply.NodeAnswer.{NodeAnswer}
use Rattle.portal_model.specs.declared.request.NodeOp.{NodeOp}
use Rattle.portal_model.specs.declared.request.NodeRequest.{NodeRequest}
use Rattle.portal_model.specs.declared.state.Document.{Document}
use Rattle.portal_model.specs.declared.temporary.OwnTemp.{OwnTemp}
use Rattle.portal_model.specs.Access.{access, access_file, access_folder, executes, writes_to}
use Rattle.portal_model.specs.Attributes.{attr_of_file, attr_of_folder, is_writable, on_node}
use Rattle.portal_model.specs.Create.{Made, add_temp, child_made, create, create_at, create_child, create_in, create_other, create_own, create_temp, create_there, next_file, next_temp_node, own_made, temp_made}
use Rattle.portal_model.specs.Errno.{eacces, ebadf, eexist, efbig, einval, eisdir, emfile, enametoolong, enoent, enotdir, eperm, exdev}
use Rattle.portal_model.specs.Fsync.{fsync_open}
use Rattle.portal_model.specs.GetAttr.{get_attr, get_attr_by_handle, get_attr_by_place, get_attr_open, names_handle, tells_file, tells_folder}
use Rattle.portal_model.specs.Lookup.{entry_of_file, found_child, found_document, found_folder, found_own, lookup, lookup_child, lookup_in, named_in_root, named_in_views, naming_in, node_of_naming}
use Rattle.portal_model.specs.Node.{NodeFacts, node_walk}
use Rattle.portal_model.specs.NodeVerdict.{NodeVerdict, FilesStay, Resizes, Writes, Errs, Yields, OnFile, OnHandle, Room, Spot, at_name, by_file_handle, by_look, by_place, changes, changes_temps, errs, errs_if, if_file, is_dots, is_too_long, name_at, names_path, no_file, spot, tells, told}
use Rattle.portal_model.specs.Open.{file_handle, has_no_mode, open_file, open_folder, open_name, open_node, opened_file, opens_to_write, truncates}
use Rattle.portal_model.specs.OpenDir.{open_dir, open_dir_in, open_found}
use Rattle.portal_model.specs.Place.{Exported, Folder, RootOf, Views, FolderOf, file_node, temp_node, Sight, SightBelow, SightOfFile, SightOfFolder, SightOfTemp}
use Rattle.portal_model.specs.Reach.{OpenFile, Reaching, may_read_now, may_write_now, open_file_of, reaches}
use Rattle.portal_model.specs.Read.{read, read_limit, read_name, read_open}
use Rattle.portal_model.specs.ReadDir.{read_dir, read_names}
use Rattle.portal_model.specs.Release.{closed}
use Rattle.portal_model.specs.ReleaseDir.{release_dir}
use Rattle.portal_model.specs.Rename.{AFile, AFolder, Home, RenameCall, Seen, are_too_long, home_of, is_own_name, rename, rename_at, rename_call, rename_homes, rename_in, rename_temp, rename_to, same_home, saved, temp_at, with_seen}
use Rattle.portal_model.specs.SeatNames.{Drops, Renames, SeatTemps, found_temp, lacks_number, lacks_temp}
use Rattle.portal_model.specs.SetAttr.{SetsAttr, resize, set_attr, set_attr_at, set_attr_of, set_attr_of_folder, set_attr_of_open, set_attr_open, sets_by_handle, sets_owner_or_mode, sets_size}
use Rattle.portal_model.specs.Unlink.{unlink, unlink_at, unlink_in, unlink_temp}
use Rattle.portal_model.specs.Walk.{Walk, Answers, Looks, Ends, Lists, AtPath, Changes, Turns, walked_with}
use Rattle.portal_model.specs.Write.{write, write_content, write_limit, write_open}
use Rattle.session.specs.FrameLengths.{longest_struct, room_for}

-- a content or the names of a folder take no more than was asked for, which may not be too much;
-- a struct no more than the longest
abbrev pub Short : ℕ → NodeAnswer → Type 0
Short room (NodeAnswer.Content content) = (length content ≤ room) × (room ≤ read_limit)
Short room (NodeAnswer.Names names offset size) = (size ≤ room) × (room ≤ read_limit)
Short room NodeAnswer.Empty = Unit {0}
Short room NodeAnswer.Quiet = Unit {0}
Short room (NodeAnswer.Error errno) = Unit {0}
Short room answered = longest_struct ≤ room

-- ---- walks

module _ (room : ℕ) where
  abbrev pub IfYields : NodeVerdict → Type 0
  IfYields (Errs errno) = Unit {0}
  IfYields (Yields d) = Short room d.answer

  abbrev pub OnWalk : Walk NodeVerdict → Type 0
  OnWalk (Answers v) = IfYields v
  OnWalk (Looks target next) = (look : Look) → OnWalk (next look)
  OnWalk (Ends call done missing) = ((now : ℕ) → IfYields (done now)) × IfYields missing
  OnWalk (Lists path done missing) = ((names : List ChildName) → IfYields (done names)) × IfYields missing

  abbrev pub IfMet : Option NodeVerdict → Type 0
  IfMet None = Unit {0}
  IfMet (Some v) = IfYields v

  pub on_walked : (w : Walk NodeVerdict) (now : ℕ) (listed : Option (List ChildName)) (looks : List Look) (failed : Bool) → OnWalk w → IfMet (walked_with w now listed looks failed)
  on_walked (Answers v) now listed looks failed h = h
  on_walked (Looks target next) now listed [] failed h = tt
  on_walked (Looks target next) now listed (look ∷ looks) failed h = on_walked (next look) now listed looks failed (h look)
  on_walked (Ends call done missing) now listed [] true h = tt
  on_walked (Ends call done missing) now listed [] false h = h.0 now
  on_walked (Ends call done missing) now listed (look ∷ looks) failed h = h.1
  on_walked (Lists path done missing) now listed looks true h = tt
  on_walked (Lists path done missing) now None looks false h = h.1
  on_walked (Lists path done missing) now (Some names) looks false h = h.0 names

  on_cond : (b : Bool) (v w : Walk NodeVerdict) → OnWalk v → OnWalk w → OnWalk (cond b v w)
  on_cond true v w h k = h
  on_cond false v w h k = k

  on_errs_if : (b : Bool) (errno : ℕ) (w : Walk NodeVerdict) → (b ≡ false → OnWalk w) → OnWalk (errs_if b errno w)
  on_errs_if true errno w h = tt
  on_errs_if false errno w h = h refl

  on_look : (next : OnFile) → ((generation size moment : ℕ) → OnWalk (next generation size moment)) → (look : Look) → OnWalk (if_file next look)
  on_look next h (Look.File generation size moment) = h generation size moment
  on_look next h Look.Folder = tt
  on_look next h Look.Missing = tt

  on_below : (view : ℕ) (at : Spot) (file : Spot → OnFile) (folder : Folder → Walk NodeVerdict) → ((generation size moment : ℕ) → OnWalk (file at generation size moment)) →
      ((f : Folder) → OnWalk (folder f)) → (look : Look) → OnWalk (by_look view at file folder look)
  on_below view at file folder h k (Look.File generation size moment) = h generation size moment
  on_below view at file folder h k Look.Folder = k (Exported view at.document at.path at.may_write)
  on_below view at file folder h k Look.Missing = tt

  on_place : (sight : Option Sight) (file : Spot → OnFile) (folder : Folder → Walk NodeVerdict) →
      ((at : Spot) (generation size moment : ℕ) → OnWalk (file at generation size moment)) →
      ((f : Folder) → OnWalk (folder f)) → OnWalk (by_place sight file folder)
  on_place None file folder h k = tt
  on_place (Some (SightOfFile d may_write)) file folder h k = on_look (file (spot d d.path may_write)) (h (spot d d.path may_write))
  on_place (Some (SightOfTemp d name may_write)) file folder h k = on_look (file (spot d name.path may_write)) (h (spot d name.path may_write))
  on_place (Some (SightBelow view d path may_write)) file folder h k = on_below view (spot d path may_write) file folder (h (spot d path may_write)) k
  on_place (Some (SightOfFolder f)) file folder h k = k f

  on_handle : (handle : Option Handle) (next : OnHandle) → ((file : OpenFile) → OnWalk (next file)) → OnWalk (by_file_handle handle next)
  on_handle None next h = tt
  on_handle (Some (Handle.File name node document strict read write)) next h = h (open_file_of name node document strict read write)
  on_handle (Some (Handle.Folder node names)) next h = tt

-- ---- requests that are answered by a struct

abbrev On : Walk NodeVerdict → Type 0
On = OnWalk longest_struct

least : longest_struct ≤ longest_struct
least = omega arith

found_fits : (r : NodeRequest) (o : Option ℕ) → On (found_folder r o)
found_fits r None = tt
found_fits r (Some node) = least

own_fits : (r : NodeRequest) (node : ℕ) (d : Document) (may_write : Bool) (look : Look) → On (found_document r node d may_write look)
own_fits r node d may_write (Look.File g s m) = least
own_fits r node d may_write Look.Folder = on_cond longest_struct d.folder (told (NodeAnswer.Entry (attr_of_folder (on_node r node) may_write))) (errs enoent) least tt
own_fits r node d may_write Look.Missing = tt

child_fits : (r : NodeRequest) (namings : List Naming) (naming : Naming) (may_write : Bool) (look : Look) → On (found_child r namings naming may_write look)
child_fits r namings naming may_write (Look.File g s m) = on_errs_if longest_struct (lacks_number namings naming) emfile (Answers (names_path naming (NodeAnswer.Entry (attr_of_file (on_node r (node_of_naming namings naming)) may_write s m)))) (λ e. least)
child_fits r namings naming may_write Look.Folder = on_errs_if longest_struct (lacks_number namings naming) emfile (Answers (names_path naming (NodeAnswer.Entry (attr_of_folder (on_node r (node_of_naming namings naming)) may_write)))) (λ e. least)
child_fits r namings naming may_write Look.Missing = tt

below_fits : (r : NodeRequest) (namings : List Naming) (view : ℕ) (d : Document) (may_write : Bool) (path : Option (List ℕ)) → On (lookup_child r namings view d may_write path)
below_fits r namings view d may_write None = tt
below_fits r namings view d may_write (Some path) = λ look. child_fits r namings (naming_in view d path) may_write look

temp_fits : (r : NodeRequest) (view : ℕ) (may_write : Bool) (t : Option OwnTemp) → On (found_own r view may_write t)
temp_fits r view may_write None = tt
temp_fits r view may_write (Some t) = on_look longest_struct (entry_of_file r (temp_node view t.k) may_write) (λ g s m. least)

lookup_in_fits : (r : NodeRequest) (namings : List Naming) (temps : List OwnTemp) (name : List ℕ) (folder : Folder) → On (lookup_in r namings temps name folder)
lookup_in_fits r namings temps name (RootOf view numbers has_views) = found_fits r (named_in_root view numbers has_views name)
lookup_in_fits r namings temps name (Views applications) = found_fits r (named_in_views applications name)
lookup_in_fits r namings temps name (FolderOf view d may_write) =
    let temp : Option OwnTemp = found_temp temps view d.id name in
    on_cond longest_struct (is_same name (name_of d.path)) (Looks (AtPath d.path) (found_document r (file_node view d.id.number) d may_write)) (found_own r view may_write temp)
    (own_fits r (file_node view d.id.number) d may_write) (temp_fits r view may_write temp)
lookup_in_fits r namings temps name (Exported view d path may_write) = below_fits r namings view d may_write (named_child path name)

lookup_fits : (r : NodeRequest) (namings : List Naming) (temps : List OwnTemp) (name : List ℕ) (sight : Option Sight) → On (lookup r namings temps name sight)
lookup_fits r namings temps name sight =
    on_errs_if longest_struct (is_too_long name) enametoolong (by_place sight (no_file enotdir) (lookup_in r namings temps name)) (λ e.
    on_place longest_struct sight (no_file enotdir) (lookup_in r namings temps name) (λ at g s m. tt) (lookup_in_fits r namings temps name))

place_fits : (r : NodeRequest) (sight : Option Sight) → On (get_attr_by_place r sight)
place_fits r sight = on_place longest_struct sight (λ at. tells_file r at.may_write) (tells_folder r) (λ at g s m. least) (λ folder. least)

open_attr_fits : (reach : Reaching) (r : NodeRequest) (file : OpenFile) → On (get_attr_open reach r file)
open_attr_fits reach r file =
    let tells : OnFile = tells_file (on_node r file.node) (may_write_now reach file) in
    on_errs_if longest_struct (not (reaches reach file)) eacces (at_name file.name tells) (λ e. on_look longest_struct tells (λ g s m. least))

handle_fits : (reach : Reaching) (r : NodeRequest) (sight : Option Sight) (handle : Option Handle) → On (get_attr_by_handle reach r sight handle)
handle_fits reach r sight None = tt
handle_fits reach r sight (Some (Handle.File name node document strict read write)) = open_attr_fits reach r (open_file_of name node document strict read write)
handle_fits reach r sight (Some (Handle.Folder node names)) = place_fits r sight

get_attr_fits : (reach : Reaching) (r : NodeRequest) (flags : ℕ) (sight : Option Sight) (handle : Option Handle) → On (get_attr reach r flags sight handle)
get_attr_fits reach r flags sight handle =
    on_cond longest_struct (names_handle flags) (get_attr_by_handle reach r sight handle) (get_attr_by_place r sight) (handle_fits reach r sight handle) (place_fits r sight)

size_fits : (r : NodeRequest) (a : SetsAttr) (name : FileName) (may_write : Bool) (size moment : ℕ) → On (set_attr_of r a name may_write size moment)
size_fits r a name may_write size moment =
    let within : Walk NodeVerdict = errs_if (nat_lt a.limit a.size) efbig (resize r a name may_write) in
    on_cond longest_struct (sets_size a.valid) (errs_if (not may_write) eacces within) (told (NodeAnswer.Attr (attr_of_file r may_write size moment)))
    (on_errs_if longest_struct (not may_write) eacces within (λ e.
    on_errs_if longest_struct (nat_lt a.limit a.size) efbig (resize r a name may_write) (λ k. ((λ now. least), tt)))) least

set_open_fits : (reach : Reaching) (r : NodeRequest) (a : SetsAttr) (file : OpenFile) → On (set_attr_open reach r a file)
set_open_fits reach r a file =
    let on : NodeRequest = on_node r file.node in
    on_errs_if longest_struct (not (reaches reach file)) eacces (at_name file.name (set_attr_of_open reach r a file)) (λ e.
    on_look longest_struct (set_attr_of_open reach r a file) (λ g s m.
    on_errs_if longest_struct (sets_size a.valid && not file.write) ebadf (set_attr_of on a file.name (may_write_now reach file) s m) (λ k.
    size_fits on a file.name (may_write_now reach file) s m)))

set_attr_fits : (reach : Reaching) (r : NodeRequest) (a : SetsAttr) (sight : Option Sight) (handle : Option Handle) → On (set_attr reach r a sight handle)
set_attr_fits reach r a sight handle =
    let by_handle : Walk NodeVerdict = by_file_handle handle (set_attr_open reach r a) in
    let at_place : Walk NodeVerdict = by_place sight (set_attr_at r a) (set_attr_of_folder r a) in
    on_errs_if longest_struct (sets_owner_or_mode a.valid) eperm (cond (sets_by_handle a.valid) by_handle at_place) (λ e.
    on_cond longest_struct (sets_by_handle a.valid) by_handle at_place
    (on_handle longest_struct handle (set_attr_open reach r a) (set_open_fits reach r a))
    (on_place longest_struct sight (set_attr_at r a) (set_attr_of_folder r a)
    (λ at g s m. size_fits r a (name_at at g) at.may_write s m)
    (λ folder. on_errs_if longest_struct (sets_size a.valid) eisdir (told (NodeAnswer.Attr (attr_of_folder r (is_writable folder)))) (λ k. least))))

open_name_fits : (r : NodeRequest) (flags : ℕ) (room : Room) (d : Document) (name : FileName) → On (open_name r flags room d name)
open_name_fits r flags room d name =
    on_cond longest_struct (truncates flags)
    (Ends (Changes name) (λ now. opened_file room (file_handle d name r.node flags) (Resizes name 0 now)) (Errs enoent))
    (Answers (opened_file room (file_handle d name r.node flags) FilesStay)) ((λ now. least), tt) least

open_fits : (r : NodeRequest) (flags : ℕ) (sight : Option Sight) (room : Room) → On (open_node r flags sight room)
open_fits r flags sight room =
    on_errs_if longest_struct (has_no_mode flags) einval (by_place sight (open_file r flags room) open_folder) (λ e.
    on_place longest_struct sight (open_file r flags room) open_folder (λ at g s m.
    on_errs_if longest_struct (opens_to_write flags && not at.may_write) eacces (errs_if room.full emfile (open_name r flags room at.document (name_at at g))) (λ k.
    on_errs_if longest_struct room.full emfile (open_name r flags room at.document (name_at at g)) (λ l. open_name_fits r flags room at.document (name_at at g)))) (λ folder. tt))

there_fits : (r : NodeRequest) (flags : ℕ) (room : Room) (made : Made) (look : Look) → On (create_there r flags room made look)
there_fits r flags room made (Look.File generation size moment) = tt
there_fits r flags room made Look.Folder = tt
there_fits r flags room made Look.Missing = ((λ now. least), tt)

create_child_fits : (r : NodeRequest) (flags : ℕ) (room : Room) (namings : List Naming) (view : ℕ) (d : Document) (may_write : Bool) (path : Option (List ℕ)) → On (create_child r flags room namings view d may_write path)
create_child_fits r flags room namings view d may_write None = tt
create_child_fits r flags room namings view d may_write (Some path) =
    let naming = naming_in view d path in
    let made = child_made namings d naming in
    on_errs_if longest_struct (not may_write) eacces (errs_if (room.full || lacks_number namings naming) emfile (create_at r flags room made)) (λ e.
    on_errs_if longest_struct (room.full || lacks_number namings naming) emfile (create_at r flags room made) (λ k. there_fits r flags room made))

create_own_fits : (r : NodeRequest) (flags : ℕ) (room : Room) (view : ℕ) (d : Document) (may_write : Bool) → On (create_own r flags room view d may_write)
create_own_fits r flags room view d may_write =
    let made : Walk NodeVerdict = create_at r flags room (own_made view d) in
    on_errs_if longest_struct (not may_write) eacces (errs_if room.full emfile made) (λ e.
    on_errs_if longest_struct room.full emfile made (λ k. there_fits r flags room (own_made view d)))

create_other_fits : (r : NodeRequest) (name : List ℕ) (flags : ℕ) (room : Room) (temps : SeatTemps) (view : ℕ) (d : Document) (may_write : Bool) → On (create_other r name flags room temps view d may_write)
create_other_fits r name flags room temps view d may_write =
    let made : Walk NodeVerdict = add_temp r flags room (next_temp_node temps view) d (temp_made view d name (next_file temps d)) in
    let free : Walk NodeVerdict = errs_if (room.full || lacks_temp temps) emfile made in
    let new : Walk NodeVerdict = errs_if (is_some (found_temp temps.temps view d.id name)) eexist free in
    on_errs_if longest_struct d.folder eacces (create_temp r name flags room temps view d may_write) (λ e.
    on_errs_if longest_struct (is_dots name) eacces (errs_if (not may_write) eacces new) (λ k.
    on_errs_if longest_struct (not may_write) eacces new (λ l.
    on_errs_if longest_struct (is_some (found_temp temps.temps view d.id name)) eexist free (λ m.
    on_errs_if longest_struct (room.full || lacks_temp temps) emfile made (λ n. ((λ now. least), tt))))))

create_in_fits : (r : NodeRequest) (name : List ℕ) (flags : ℕ) (room : Room) (namings : List Naming) (temps : SeatTemps) (folder : Folder) → On (create_in r name flags room namings temps folder)
create_in_fits r name flags room namings temps (RootOf view numbers has_views) = tt
create_in_fits r name flags room namings temps (Views applications) = tt
create_in_fits r name flags room namings temps (Exported view d path may_write) = create_child_fits r flags room namings view d may_write (named_child path name)
create_in_fits r name flags room namings temps (FolderOf view d may_write) =
    on_cond longest_struct (is_same name (name_of d.path)) (create_own r flags room view d may_write) (create_other r name flags room temps view d may_write)
    (create_own_fits r flags room view d may_write) (create_other_fits r name flags room temps view d may_write)

create_fits : (r : NodeRequest) (name : List ℕ) (flags : ℕ) (sight : Option Sight) (room : Room) (namings : List Naming) (temps : SeatTemps) → On (create r name flags sight room namings temps)
create_fits r name flags sight room namings temps =
    let placed : Walk NodeVerdict = by_place sight (no_file enotdir) (create_in r name flags room namings temps) in
    on_errs_if longest_struct (has_no_mode flags) einval (errs_if (is_too_long name) enametoolong placed) (λ e.
    on_errs_if longest_struct (is_too_long name) enametoolong placed (λ k.
    on_place longest_struct sight (no_file enotdir) (create_in r name flags room namings temps) (λ at g s m. tt) (create_in_fits r name flags room namings temps)))

-- a RENAME and an UNLINK are answered by the header alone
rename_to_fits : (h : Home) (name : List ℕ) (t : OwnTemp) → On (rename_to h name t)
rename_to_fits h name t =
    on_cond longest_struct (is_own_name h name) (Ends (Turns t.temp.file) (λ now. saved t) (Errs enoent)) (Answers (changes_temps (Renames t.k t.temp name) NodeAnswer.Empty)) ((λ now. tt), tt) tt

rename_temp_fits : (h : Home) (name : List ℕ) (t : Option OwnTemp) → On (rename_temp h name t)
rename_temp_fits h name None = tt
rename_temp_fits h name (Some t) =
    on_errs_if longest_struct (not h.may_write) eacces (errs_if (is_dots name) eacces (rename_to h name t)) (λ e.
    on_errs_if longest_struct (is_dots name) eacces (rename_to h name t) (λ k. rename_to_fits h name t))

rename_homes_fit : (call : RenameCall) (temps : List OwnTemp) (first second : Option Home) → On (rename_homes call temps first second)
rename_homes_fit call temps None second = tt
rename_homes_fit call temps (Some first) None = tt
rename_homes_fit call temps (Some first) (Some second) =
    let temp : Option OwnTemp = temp_at temps first call.old_name in
    on_errs_if longest_struct (not (same_home first second)) exdev (rename_at call temps first) (λ e.
    on_errs_if longest_struct (is_own_name first call.old_name) eperm (rename_temp first call.new_name temp) (λ k. rename_temp_fits first call.new_name temp))

rename_in_fits : (call : RenameCall) (temps : List OwnTemp) (first second : Seen) → On (rename_in call temps first second)
rename_in_fits call temps AFile second = tt
rename_in_fits call temps (AFolder first) AFile = tt
rename_in_fits call temps (AFolder first) (AFolder second) = rename_homes_fit call temps (home_of first) (home_of second)

seen_fits : (sight : Option Sight) (next : Seen → Walk NodeVerdict) → ((seen : Seen) → On (next seen)) → On (with_seen sight next)
seen_fits sight next h =
    on_place longest_struct sight (λ at g s m. next AFile) (λ folder. next (AFolder folder)) (λ at g s m. h AFile) (λ folder. h (AFolder folder))

rename_fits : (call : RenameCall) (temps : List OwnTemp) (sight new_sight : Option Sight) → On (rename call temps sight new_sight)
rename_fits call temps sight new_sight =
    let to : Seen → Walk NodeVerdict = λ first. with_seen new_sight (rename_in call temps first) in
    on_errs_if longest_struct (not (call.flags == 0)) einval (errs_if (are_too_long call) enametoolong (with_seen sight to)) (λ e.
    on_errs_if longest_struct (are_too_long call) enametoolong (with_seen sight to) (λ k.
    seen_fits sight to (λ first. seen_fits new_sight (rename_in call temps first) (rename_in_fits call temps first))))

unlink_temp_fits : (h : Home) (t : Option OwnTemp) → On (unlink_temp h t)
unlink_temp_fits h None = tt
unlink_temp_fits h (Some t) = on_errs_if longest_struct (not h.may_write) eacces (Answers (changes_temps (Drops t.k) NodeAnswer.Empty)) (λ e. tt)

unlink_at_fits : (name : List ℕ) (temps : List OwnTemp) (h : Option Home) → On (unlink_at name temps h)
unlink_at_fits name temps None = tt
unlink_at_fits name temps (Some h) = on_errs_if longest_struct (is_own_name h name) eperm (unlink_temp h (temp_at temps h name)) (λ e. unlink_temp_fits h (temp_at temps h name))

unlink_fits : (name : List ℕ) (temps : List OwnTemp) (sight : Option Sight) → On (unlink name temps sight)
unlink_fits name temps sight =
    on_errs_if longest_struct (is_too_long name) enametoolong (by_place sight (no_file enotdir) (unlink_in name temps)) (λ e.
    on_place longest_struct sight (no_file enotdir) (unlink_in name temps) (λ at g s m. tt) (λ folder. unlink_at_fits name temps (home_of folder)))

content_fits : (limit : ℕ) (name : FileName) (offset : ℕ) (content : List ℕ) → On (write_content limit name offset content)
content_fits limit name offset [] = least
content_fits limit name offset (b ∷ bs) =
    on_errs_if longest_struct (nat_lt limit (offset + length (b ∷ bs))) efbig
    (Ends (Changes name) (λ now. changes (Writes name offset (b ∷ bs) now) (NodeAnswer.Written (length (b ∷ bs)))) (Errs enoent)) (λ e. ((λ now. least), tt))

write_fits : (reach : Reaching) (limit offset : ℕ) (content : List ℕ) (handle : Option Handle) → On (write reach limit offset content handle)
write_fits reach limit offset content handle =
    on_errs_if longest_struct (nat_lt write_limit (length content)) einval (by_file_handle handle (write_open reach limit offset content)) (λ e.
    on_handle longest_struct handle (write_open reach limit offset content) (λ file.
    let now : Walk NodeVerdict = write_content limit file.name offset content in
    on_errs_if longest_struct (not file.write) ebadf (errs_if (not (may_write_now reach file)) eacces now) (λ k.
    on_errs_if longest_struct (not (may_write_now reach file)) eacces now (λ l. content_fits limit file.name offset content))))

found_names_fit : (r : NodeRequest) (room : Room) (temps : List OwnTemp) (folder : Folder) → On (open_found r room temps folder)
found_names_fit r room temps (RootOf view numbers has_views) = least
found_names_fit r room temps (Views applications) = least
found_names_fit r room temps (FolderOf view d may_write) = λ look. least
found_names_fit r room temps (Exported view d path may_write) = ((λ names. least), tt)

open_dir_fits : (r : NodeRequest) (sight : Option Sight) (room : Room) (temps : List OwnTemp) → On (open_dir r sight room temps)
open_dir_fits r sight room temps =
    on_place longest_struct sight (no_file enotdir) (open_dir_in r room temps) (λ at g s m. tt) (λ folder.
    on_errs_if longest_struct room.full emfile (open_found r room temps folder) (λ e. found_names_fit r room temps folder))

release_dir_fits : (fh : ℕ) (handle : Option Handle) → On (release_dir fh handle)
release_dir_fits fh None = tt
release_dir_fits fh (Some (Handle.File name node document strict read write)) = tt
release_dir_fits fh (Some (Handle.Folder node names)) = tt

access_fits : (mask : ℕ) (sight : Option Sight) → On (access mask sight)
access_fits mask sight =
    on_errs_if longest_struct (nat_lt 7 mask) einval (by_place sight (access_file mask) (access_folder mask)) (λ e.
    on_place longest_struct sight (access_file mask) (access_folder mask)
    (λ at g s m. on_errs_if longest_struct (executes mask || writes_to mask && not at.may_write) eacces (told NodeAnswer.Empty) (λ k. tt))
    (λ folder. on_errs_if longest_struct (writes_to mask && not (is_writable folder)) eacces (told NodeAnswer.Empty) (λ k. tt)))

-- ---- requests that say how much is told

within : (size : ℕ) → nat_lt read_limit size ≡ false → size ≤ read_limit
within size h = grind (arith, nat_tests)

part_fits : (bytes : List ℕ) (offset size : ℕ) → size ≤ read_limit → Short size (NodeAnswer.Content (bytes_from bytes offset size))
part_fits bytes offset size h = let part = length-take size (drop offset bytes) in (omega (arith, part), h)

name_fits : (bytes : FileName → List ℕ) (offset size : ℕ) (name : FileName) → size ≤ read_limit → OnWalk size (read_name bytes offset size name)
name_fits bytes offset size name h = ((λ now. part_fits (bytes name) offset size h), tt)

read_fits : (reach : Reaching) (bytes : FileName → List ℕ) (offset size : ℕ) (handle : Option Handle) → OnWalk size (read reach bytes offset size handle)
read_fits reach bytes offset size handle =
    on_errs_if size (nat_lt read_limit size) einval (by_file_handle handle (read_open reach bytes offset size)) (λ e.
    on_handle size handle (read_open reach bytes offset size) (λ file.
    let now : Walk NodeVerdict = read_name bytes offset size file.name in
    on_errs_if size (not file.read) ebadf (errs_if (not (may_read_now reach file)) eacces now) (λ k.
    on_errs_if size (not (may_read_now reach file)) eacces now (λ l. name_fits bytes offset size file.name (within size e)))))

names_fit : (offset size : ℕ) (handle : Option Handle) → size ≤ read_limit → OnWalk size (read_names offset size handle)
names_fit offset size None h = tt
names_fit offset size (Some (Handle.File name node document strict read write)) h = tt
names_fit offset size (Some (Handle.Folder node names)) h = (omega arith, h)

read_dir_fits : (offset size : ℕ) (handle : Option Handle) → OnWalk size (read_dir offset size handle)
read_dir_fits offset size handle =
    on_errs_if size (nat_lt read_limit size) einval (read_names offset size handle) (λ e. names_fit offset size handle (within size e))

-- ---- all of them

pub walk_fits : (f : NodeFacts) (r : NodeRequest) (o : NodeOp) → OnWalk (room_for o) (node_walk f r o)
walk_fits f r (NodeOp.Lookup name) = lookup_fits r f.namings f.temps.temps name f.sight
walk_fits f r (NodeOp.Forget count) = tt
walk_fits f r (NodeOp.BatchForget nodes) = tt
walk_fits f r (NodeOp.GetAttr flags fh) = get_attr_fits f.reach r flags f.sight (f.handle fh)
walk_fits f r (NodeOp.SetAttr valid fh size) = set_attr_fits f.reach r (record { valid = valid; size = size; limit = f.file_limit }) f.sight (f.handle fh)
walk_fits f r (NodeOp.Open flags) = open_fits r flags f.sight f.room
walk_fits f r (NodeOp.Create name flags) = create_fits r name flags f.sight f.room f.namings f.temps
walk_fits f r (NodeOp.Read fh offset size) = read_fits f.reach f.bytes offset size (f.handle fh)
walk_fits f r (NodeOp.Write fh offset content) = write_fits f.reach f.file_limit offset content (f.handle fh)
walk_fits f r (NodeOp.Flush fh) = on_handle longest_struct (f.handle fh) (λ file. told NodeAnswer.Empty) (λ file. tt)
walk_fits f r (NodeOp.Fsync fh) = on_handle longest_struct (f.handle fh) fsync_open (λ file. ((λ now. tt), tt))
walk_fits f r (NodeOp.Release fh) = on_handle longest_struct (f.handle fh) (λ file. Answers (closed fh)) (λ file. tt)
walk_fits f r NodeOp.OpenDir = open_dir_fits r f.sight f.room f.temps.temps
walk_fits f r (NodeOp.ReadDir fh offset size) = read_dir_fits offset size (f.handle fh)
walk_fits f r (NodeOp.ReleaseDir fh) = release_dir_fits fh (f.handle fh)
walk_fits f r (NodeOp.Access mask) = access_fits mask f.sight
walk_fits f r (NodeOp.Rename new_parent flags old_name new_name) = rename_fits (rename_call flags old_name new_name) f.temps.temps f.sight (f.sight_of new_parent)
walk_fits f r (NodeOp.Unlink name) = unlink_fits name f.temps.temps f.sight
