-- Which requests change no temporary and take no generation, and which name nothing below exported folders.
use Rattle.std.proofs.Common.{◌≡◌, ◌==◌, ◌||◌, ℕ, List, Bool, true, not, Option, Some, None, is_some, refl}
use Rattle.portal_base.specs.Names.{is_same, name_of, named_child}
use Rattle.portal_base.specs.declared.files.Look.{Look}
use Rattle.portal_model.specs.declared.naming.Naming.{Naming}
use Rattle.portal_model.specs.declared.reply.NodeAnswer.TheVariants as NodeAnswer
use Rattle.portal_model.specs.declared.request.NodeRequest.{NodeRequest}
use Rattle.portal_model.specs.declared.state.Document.{Document}
use Rattle.portal_model.specs.declared.temporary.OwnTemp.{OwnTemp}
use Rattle.portal_model.specs.declared.temporary.Temp.{Temp}
use Rattle.portal_model.specs.Attributes.{attr_of_file, attr_of_folder, on_node}
use Rattle.portal_model.specs.Create.{Made, add_temp, child_made, create, create_at, create_child, create_in, create_other, create_own, create_there, created, next_file, next_temp_node, own_made, temp_made}
use Rattle.portal_model.specs.Errno.{eacces, eexist, einval, emfile, enametoolong, enoent, enotdir, eperm, exdev}
use Rattle.portal_model.specs.Lookup.{entry_of_file, found_child, found_document, found_folder, found_own, lookup, lookup_child, lookup_in, named_in_root, named_in_views, naming_in, node_of_naming}
use Rattle.portal_model.specs.NodeVerdict.{NodeVerdict, Errs, Room, by_look, by_place, changes_temps, errs, errs_if, is_dots, is_too_long, names_path, no_file, spot, told}
use Rattle.portal_model.specs.Open.{has_no_mode}
use Rattle.portal_model.specs.Place.{Exported, Folder, RootOf, Views, FolderOf, Sight, SightBelow, SightOfFolder, file_node, temp_node}
use Rattle.portal_model.specs.Rename.{AFile, AFolder, Home, RenameCall, Seen, are_too_long, home_of, is_own_name, rename, rename_at, rename_homes, rename_in, rename_temp, rename_to, same_home, saved, temp_at, with_seen}
use Rattle.portal_model.specs.SeatNames.{Drops, Renames, SeatTemps, found_temp, lacks_number, lacks_temp}
use Rattle.portal_model.specs.Unlink.{unlink, unlink_at, unlink_in, unlink_temp}
use Rattle.portal_model.specs.Walk.{Walk, Answers, AtPath, Ends, Looks, Turns}
use Rattle.file_ops.proofs.EachEnd.{Each, either, looked, placed, refused, spares_names, spares_temps}

same-temps : (errno : ℕ) → spares_temps (Errs errno) ≡ true
same-temps errno = refl

same-names : (errno : ℕ) → spares_names (Errs errno) ≡ true
same-names errno = refl

abbrev LeavesTemps : Walk NodeVerdict → Type 0
LeavesTemps w = Each spares_temps w

abbrev NamesNothing : Walk NodeVerdict → Type 0
NamesNothing w = Each spares_names w

-- ---- LOOKUP

module _ (r : NodeRequest) where
  found : (o : Option ℕ) → LeavesTemps (found_folder r o)
  found None = refl
  found (Some node) = refl

  own_found : (node : ℕ) (d : Document) (may_write : Bool) (look : Look) → LeavesTemps (found_document r node d may_write look)
  own_found node d may_write (Look.File g s m) = refl
  own_found node d may_write Look.Folder = either spares_temps same-temps d.folder (told (NodeAnswer.Entry (attr_of_folder (on_node r node) may_write))) (errs enoent) refl refl
  own_found node d may_write Look.Missing = refl

  own_temp : (view : ℕ) (may_write : Bool) (o : Option OwnTemp) → LeavesTemps (found_own r view may_write o)
  own_temp view may_write None = refl
  own_temp view may_write (Some t) = looked spares_temps same-temps (entry_of_file r (temp_node view t.k) may_write) (λ g s m. refl)

  child_found : (namings : List Naming) (naming : Naming) (may_write : Bool) (look : Look) → LeavesTemps (found_child r namings naming may_write look)
  child_found namings naming may_write (Look.File g s m) =
      refused spares_temps same-temps (lacks_number namings naming) emfile (Answers (names_path naming (NodeAnswer.Entry (attr_of_file (on_node r (node_of_naming namings naming)) may_write s m)))) refl
  child_found namings naming may_write Look.Folder =
      refused spares_temps same-temps (lacks_number namings naming) emfile (Answers (names_path naming (NodeAnswer.Entry (attr_of_folder (on_node r (node_of_naming namings naming)) may_write)))) refl
  child_found namings naming may_write Look.Missing = refl

  child : (namings : List Naming) (view : ℕ) (d : Document) (may_write : Bool) (path : Option (List ℕ)) → LeavesTemps (lookup_child r namings view d may_write path)
  child namings view d may_write None = refl
  child namings view d may_write (Some path) = λ look. child_found namings (naming_in view d path) may_write look

  in_folder : (namings : List Naming) (temps : List OwnTemp) (name : List ℕ) (folder : Folder) → LeavesTemps (lookup_in r namings temps name folder)
  in_folder namings temps name (RootOf view numbers has_views) = found (named_in_root view numbers has_views name)
  in_folder namings temps name (Views applications) = found (named_in_views applications name)
  in_folder namings temps name (FolderOf view d may_write) =
      either spares_temps same-temps (is_same name (name_of d.path)) (Looks (AtPath d.path) (found_document r (file_node view d.id.number) d may_write)) (found_own r view may_write (found_temp temps view d.id name))
      (own_found (file_node view d.id.number) d may_write) (own_temp view may_write (found_temp temps view d.id name))
  in_folder namings temps name (Exported view d path may_write) = child namings view d may_write (named_child path name)

  pub lookup-leaves : (namings : List Naming) (temps : List OwnTemp) (name : List ℕ) (sight : Option Sight) → Each spares_temps (lookup r namings temps name sight)
  lookup-leaves namings temps name sight =
      refused spares_temps same-temps (is_too_long name) enametoolong (by_place sight (no_file enotdir) (lookup_in r namings temps name))
      (placed spares_temps same-temps sight (no_file enotdir) (lookup_in r namings temps name) (λ at g s m. refl) (in_folder namings temps name))

  -- ---- CREATE

  made_there : (flags : ℕ) (room : Room) (made : Made) → ((now : ℕ) → spares_temps (created r flags room made now) ≡ true) → (look : Look) → LeavesTemps (create_there r flags room made look)
  made_there flags room made h (Look.File g s m) = refl
  made_there flags room made h Look.Folder = refl
  made_there flags room made h Look.Missing = (h, refl)

  pub own-leaves : (flags : ℕ) (room : Room) (view : ℕ) (d : Document) (may : Bool) → Each spares_temps (create_own r flags room view d may)
  own-leaves flags room view d may =
      let looks : Walk NodeVerdict = create_at r flags room (own_made view d) in
      refused spares_temps same-temps (not may) eacces (errs_if room.full emfile looks)
      (refused spares_temps same-temps room.full emfile looks (made_there flags room (own_made view d) (λ now. refl)))

  made_child : (flags : ℕ) (room : Room) (namings : List Naming) (view : ℕ) (d : Document) (w : Bool) (path : Option (List ℕ)) → LeavesTemps (create_child r flags room namings view d w path)
  made_child flags room namings view d w None = refl
  made_child flags room namings view d w (Some path) =
      let naming : Naming = naming_in view d path in
      let made : Made = child_made namings d naming in
      refused spares_temps same-temps (not w) eacces (errs_if (room.full || lacks_number namings naming) emfile (create_at r flags room made))
      (refused spares_temps same-temps (room.full || lacks_number namings naming) emfile (create_at r flags room made) (made_there flags room made (λ now. refl)))

  below : (name : List ℕ) (flags : ℕ) (room : Room) (namings : List Naming) (temps : SeatTemps) (view : ℕ) (d : Document) (path : List ℕ) (w : Bool) (look : Look) → LeavesTemps (by_look view (spot d path w) (no_file enotdir) (create_in r name flags room namings temps) look)
  below name flags room namings temps view d path w (Look.File g s m) = refl
  below name flags room namings temps view d path w Look.Folder = made_child flags room namings view d w (named_child path name)
  below name flags room namings temps view d path w Look.Missing = refl

  -- below a folder that is a document
  pub create-leaves : (name : List ℕ) (flags : ℕ) (room : Room) (namings : List Naming) (temps : SeatTemps) (view : ℕ) (d : Document) (path : List ℕ) (w : Bool) → Each spares_temps (create r name flags (Some (SightBelow view d path w)) room namings temps)
  create-leaves name flags room namings temps view d path w =
      let there : Walk NodeVerdict = by_place (Some (SightBelow view d path w)) (no_file enotdir) (create_in r name flags room namings temps) in
      refused spares_temps same-temps (has_no_mode flags) einval (errs_if (is_too_long name) enametoolong there)
      (refused spares_temps same-temps (is_too_long name) enametoolong there (below name flags room namings temps view d path w))

  -- in the folder of a document nothing is named
  there_names : (flags : ℕ) (room : Room) (view : ℕ) (d : Document) (look : Look) → NamesNothing (create_there r flags room (own_made view d) look)
  there_names flags room view d (Look.File g s m) = refl
  there_names flags room view d Look.Folder = refl
  there_names flags room view d Look.Missing = ((λ now. refl), refl)

  own_names : (flags : ℕ) (room : Room) (view : ℕ) (d : Document) (may : Bool) → NamesNothing (create_own r flags room view d may)
  own_names flags room view d may =
      let looks : Walk NodeVerdict = create_at r flags room (own_made view d) in
      refused spares_names same-names (not may) eacces (errs_if room.full emfile looks)
      (refused spares_names same-names room.full emfile looks (there_names flags room view d))

  added_names : (flags : ℕ) (room : Room) (node : ℕ) (d : Document) (temp : Temp) → NamesNothing (add_temp r flags room node d temp)
  added_names flags room node d temp = ((λ now. refl), refl)

  other_names : (name : List ℕ) (flags : ℕ) (room : Room) (temps : SeatTemps) (view : ℕ) (d : Document) (w : Bool) → NamesNothing (create_other r name flags room temps view d w)
  other_names name flags room temps view d w =
      let temp : Temp = temp_made view d name (next_file temps d) in
      let adds : Walk NodeVerdict = add_temp r flags room (next_temp_node temps view) d temp in
      let spared : Walk NodeVerdict = errs_if (room.full || lacks_temp temps) emfile adds in
      let new : Walk NodeVerdict = errs_if (is_some (found_temp temps.temps view d.id name)) eexist spared in
      let may : Walk NodeVerdict = errs_if (not w) eacces new in
      refused spares_names same-names d.folder eacces (errs_if (is_dots name) eacces may)
      (refused spares_names same-names (is_dots name) eacces may
      (refused spares_names same-names (not w) eacces new
      (refused spares_names same-names (is_some (found_temp temps.temps view d.id name)) eexist spared
      (refused spares_names same-names (room.full || lacks_temp temps) emfile adds (added_names flags room (next_temp_node temps view) d temp)))))

  pub create-names : (name : List ℕ) (flags : ℕ) (room : Room) (namings : List Naming) (temps : SeatTemps) (view : ℕ) (d : Document) (w : Bool) → Each spares_names (create r name flags (Some (SightOfFolder (FolderOf view d w))) room namings temps)
  create-names name flags room namings temps view d w =
      let there : Walk NodeVerdict = create_in r name flags room namings temps (FolderOf view d w) in
      refused spares_names same-names (has_no_mode flags) einval (errs_if (is_too_long name) enametoolong there)
      (refused spares_names same-names (is_too_long name) enametoolong there
      (either spares_names same-names (is_same name (name_of d.path)) (create_own r flags room view d w) (create_other r name flags room temps view d w) (own_names flags room view d w) (other_names name flags room temps view d w)))

-- ---- RENAME

renamed_to : (h : Home) (name : List ℕ) (t : OwnTemp) → NamesNothing (rename_to h name t)
renamed_to h name t =
    either spares_names same-names (is_own_name h name) (Ends (Turns t.temp.file) (λ now. saved t) (Errs enoent)) (Answers (changes_temps (Renames t.k t.temp name) NodeAnswer.Empty)) ((λ now. refl), refl) refl

renamed : (h : Home) (name : List ℕ) (o : Option OwnTemp) → NamesNothing (rename_temp h name o)
renamed h name None = refl
renamed h name (Some t) =
    refused spares_names same-names (not h.may_write) eacces (errs_if (is_dots name) eacces (rename_to h name t))
    (refused spares_names same-names (is_dots name) eacces (rename_to h name t) (renamed_to h name t))

renamed_at : (call : RenameCall) (temps : List OwnTemp) (h : Home) → NamesNothing (rename_at call temps h)
renamed_at call temps h =
    let t : Option OwnTemp = temp_at temps h call.old_name in
    refused spares_names same-names (is_own_name h call.old_name) eperm (rename_temp h call.new_name t) (renamed h call.new_name t)

renamed_homes : (call : RenameCall) (temps : List OwnTemp) (first second : Option Home) → NamesNothing (rename_homes call temps first second)
renamed_homes call temps None second = refl
renamed_homes call temps (Some first) None = refl
renamed_homes call temps (Some first) (Some second) = refused spares_names same-names (not (same_home first second)) exdev (rename_at call temps first) (renamed_at call temps first)

renamed_in : (call : RenameCall) (temps : List OwnTemp) (first second : Seen) → NamesNothing (rename_in call temps first second)
renamed_in call temps AFile second = refl
renamed_in call temps (AFolder first) AFile = refl
renamed_in call temps (AFolder first) (AFolder second) = renamed_homes call temps (home_of first) (home_of second)

seen_at : (sight : Option Sight) (next : Seen → Walk NodeVerdict) → ((seen : Seen) → NamesNothing (next seen)) → NamesNothing (with_seen sight next)
seen_at sight next h = placed spares_names same-names sight (λ at g s m. next AFile) (λ folder. next (AFolder folder)) (λ at g s m. h AFile) (λ folder. h (AFolder folder))

pub rename-names : (call : RenameCall) (temps : List OwnTemp) (sight new_sight : Option Sight) → Each spares_names (rename call temps sight new_sight)
rename-names call temps sight new_sight =
    let next : Seen → Walk NodeVerdict = λ first. with_seen new_sight (rename_in call temps first) in
    refused spares_names same-names (not (call.flags == 0)) einval (errs_if (are_too_long call) enametoolong (with_seen sight next))
    (refused spares_names same-names (are_too_long call) enametoolong (with_seen sight next)
    (seen_at sight next (λ first. seen_at new_sight (rename_in call temps first) (renamed_in call temps first))))

-- ---- UNLINK

unlinked : (h : Home) (o : Option OwnTemp) → NamesNothing (unlink_temp h o)
unlinked h None = refl
unlinked h (Some t) = refused spares_names same-names (not h.may_write) eacces (Answers (changes_temps (Drops t.k) NodeAnswer.Empty)) refl

unlinked_at : (name : List ℕ) (temps : List OwnTemp) (h : Option Home) → NamesNothing (unlink_at name temps h)
unlinked_at name temps None = refl
unlinked_at name temps (Some h) =
    let t : Option OwnTemp = temp_at temps h name in
    refused spares_names same-names (is_own_name h name) eperm (unlink_temp h t) (unlinked h t)

pub unlink-names : (name : List ℕ) (temps : List OwnTemp) (sight : Option Sight) → Each spares_names (unlink name temps sight)
unlink-names name temps sight =
    refused spares_names same-names (is_too_long name) enametoolong (by_place sight (no_file enotdir) (unlink_in name temps))
    (placed spares_names same-names sight (no_file enotdir) (unlink_in name temps) (λ at g s m. refl) (λ folder. unlinked_at name temps (home_of folder)))
