-- A request on a node leaves a valid state valid.
use Rattle.std.proofs.Common.{◌≡◌, ◌<◌, ℕ, zero, suc, ◌+◌, ◌-◌, ◌*◌, ◌^◌, ◌==◌, nat_eq, nat_lt, ◌≤◌, length, List, [], ◌∷◌, ◌++◌, map, Bool, true, false, not, ◌&&◌, ◌||◌, cond, Option, Some, None, refl, sym, ap, subst, ◌∙◌, arith, is_some, nat_le}
use Rattle.std.specs.List.{list_all, list_any, position_or_len, IsDistinct, slice_get, find}
use Rattle.std.specs.Option.{option_map}
use Rattle.std.proofs.Math.Nat.{div-eq_of_lt}
use Rattle.std.proofs.lemmas.Bool.Decides.{nat_tests}
use Rattle.std.proofs.lemmas.List.Folds.{list_all-append}
use Rattle.portal_base.specs.Content.{file_named, has_room, is_above, is_folder, is_named, paths_of, content_of, file_at, look_of}
use Rattle.portal_base.specs.FileChanges.{new_file, resized, written, change_named}
use Rattle.file_generations.specs.Generations.{Held, all_held}
use Rattle.portal_base.specs.Names.{child_of, is_host_path, is_same, name_of, named_child, root}
use Rattle.portal_base.specs.declared.files.File.{File}
use Rattle.portal_base.specs.declared.files.FileName.{FileName}
use Rattle.portal_base.specs.declared.files.Look.{Look}
use Rattle.portal_base.specs.declared.names.doc_id.DocId.{DocId}
use Rattle.portal_base.specs.declared.who.Who.{Who}
use Rattle.portal_model.specs.declared.entry.Given.{Given}
use Rattle.portal_model.specs.declared.handle.Handle.{Handle}
use Rattle.portal_model.specs.declared.handle.OpenHandle.{OpenHandle}
use Rattle.portal_model.specs.declared.naming.Naming.{Naming}
use Rattle.portal_model.specs.declared.opening.TakenGeneration.{TakenGeneration}
use Rattle.portal_model.specs.declared.place.Place.{Place}
use Rattle.portal_model.specs.declared.request.NodeOp.{NodeOp}
use Rattle.portal_model.specs.declared.request.NodeRequest.{NodeRequest}
use Rattle.portal_model.specs.declared.rights.Right.TheVariants.{Read, Write}
use Rattle.portal_model.specs.declared.state.Connection.{Connection}
use Rattle.portal_model.specs.declared.state.Document.{Document}
use Rattle.portal_model.specs.declared.temporary.OwnTemp.{OwnTemp}
use Rattle.portal_model.specs.declared.temporary.Temp.{Temp}
use Rattle.portal_model.specs.declared.reply.Attr.{Attr}
use Rattle.portal_model.specs.declared.reply.NodeAnswer.{NodeAnswer}
use Rattle.portal_model.specs.Access.{access, access_file, access_folder, executes, writes_to}
use Rattle.portal_model.specs.Attributes.{attr_of_file, attr_of_folder, is_writable, on_node}
use Rattle.portal_model.specs.Bus.{is_tree, moment_given}
use Rattle.portal_model.specs.Create.{child_made, create, create_at, create_child, create_in, create_there, own_made, add_temp, create_other, create_own, create_temp, next_file, next_temp_node, temp_made}
use Rattle.portal_model.specs.Errno.{eacces, ebadf, efbig, einval, eisdir, emfile, enametoolong, enoent, enotdir, eperm, eexist, exdev}
use Rattle.portal_model.specs.Fsync.{fsync_open}
use Rattle.portal_model.specs.GetAttr.{get_attr_by_handle, get_attr_by_place, get_attr_open, names_handle, tells_file, tells_folder}
use Rattle.portal_model.specs.Lookup.{entry_named, found_child, found_document, found_folder, lookup_child, lookup_in, named_in_root, named_in_views, naming_in, node_of_naming, entry_of_file, found_own}
use Rattle.portal_model.specs.Node.{NodeFacts, connections_after, connections_named, counted, files_after, handles_after, is_full, named_on, new_handle, node_answer, node_done, node_given, node_walk, facts_of, room_of, settled_on_node, walk_on_node, taken_after, temps_changed, temps_seen, with_temps}
use Rattle.portal_model.specs.NodeOutside.{LawfulNode}
use Rattle.portal_model.specs.NodeVerdict.{NodeDoing, NodeVerdict, FileChange, FilesStay, Writes, Resizes, Creates, HandleChange, HandlesStay, NameChange, NamesStay, Names, Opens, Closes, Errs, Yields, Room, at_name, by_file_handle, by_look, by_place, errs, errs_if, is_too_long, name_at, names_path, no_file, spot, told, Adds, Stands, Temps, changes_temps, if_file, is_dots}
use Rattle.portal_model.specs.Open.{file_handle, has_no_mode, open_file, open_folder, open_name, open_node, opened_file, opens_to_write, truncates}
use Rattle.portal_model.specs.OpenDir.{open_dir, open_dir_in, open_found}
use Rattle.portal_model.specs.Outside.{files_told}
use Rattle.portal_model.specs.Place.{Folder, RootOf, Views, FolderOf, Exported, file_node, Sight, SightOfFile, SightBelow, SightOfFolder, id_of_node, kind_of_node, named_node, naming_on, place_from_one, place_named, place_of_kind_0, seen_by, sight_at, sight_at_path, sight_below, sight_of_document, sight_of_folder, sight_of_naming, sight_of_place, sight_of_root, sight_on, subject_of, view_of_node, SightOfTemp, sight_of_own_temp, sight_of_temp, temp_node, temp_on}
use Rattle.portal_model.specs.Reach.{OpenFile, may_read_now, may_write_now, open_file_of, reaches}
use Rattle.portal_model.specs.Read.{read, read_limit, read_open}
use Rattle.portal_model.specs.ReadDir.{read_names}
use Rattle.portal_model.specs.ReleaseDir.{release_dir}
use Rattle.portal_model.specs.Rename.{Home, RenameCall, Seen, AFile, AFolder, are_too_long, home_of, is_own_name, rename, rename_at, rename_call, rename_homes, rename_in, rename_temp, rename_to, same_home, saved, temp_at, with_seen}
use Rattle.portal_model.specs.SeatNames.{is_named_before, lacks_number, naming_of, namings_limit, number_of_naming, same_naming, with_naming, Drops, Renames, SeatTemps, TempChange, are_temps_full, found_temp, lacks_temp, last_taken, last_temp, next_generation, own_temp, temp_of}
use Rattle.portal_model.specs.SetAttr.{SetsAttr, resize, set_attr, set_attr_at, set_attr_of, set_attr_of_folder, set_attr_of_open, set_attr_open, sets_by_handle, sets_owner_or_mode, sets_size}
use Rattle.portal_model.specs.SoundGenerations.{SoundGenerations, has_taken_handle, has_taken_temps, is_taken, is_taken_by, is_taken_file, is_taken_temp}
use Rattle.portal_model.specs.SoundNames.{SoundNamings, is_placed_naming, is_sound_naming, SoundTemps, is_later_file, is_placed_temp, is_sound_temp, is_viewed_temp}
use Rattle.portal_model.specs.State.{State, connection_of, document_of, handles_of, is_handle, is_host, is_mount, who_has, held_in}
use Rattle.portal_model.specs.Unlink.{unlink, unlink_at, unlink_in, unlink_temp}
use Rattle.portal_model.specs.Valid.{Valid, has_host_path, has_identifier, has_made_document, has_own_node, is_made, is_of_made, is_own_node, is_sound_connection, is_sound_folder}
use Rattle.portal_model.specs.Walk.{Walk, Answers, Looks, Ends, AtPath, Changes, IsFound, IsShown, Makes, Freshens, Turns, Named, look_of_file}
use Rattle.portal_model.specs.Write.{write, write_content, write_limit, write_open}
use Rattle.portal_base.proofs.PathsAbove.{above-more, first-same, rest-below, slash-first, slash-is}
use Rattle.portal_model.proofs.DistinctItems.{list_all-filter, list_all-weaken}
use Rattle.portal_model.proofs.DocumentChanges.{both, first_of_both, second_of_both}
use Rattle.portal_model.proofs.FilesValid.{changed-paths, files-sound, missing-is, put-paths, sound-paths, SoundPaths, written-path, written-generation}
use Rattle.portal_model.proofs.GenerationsValid.{Covers, Stood, added-generations, changed-generations, covers-put, covers-same, folder-grown, made-generations, turned-generations, untold-generations}
use Rattle.portal_model.proofs.ListLookups.{found_in_all, found_passes, is_same-eq, is_same-refl, nat_is}
use Rattle.portal_model.proofs.NamesValid.{names-found, names-mapped, names-named}
use Rattle.portal_model.proofs.NodeWalks.{IfMet, OnNode, SeenAs, at_name-on, by_file_handle-on, by_place-on, errs_if-on, on-given}
use Rattle.portal_model.proofs.OpenHandles.{Alike, closed-handles, mapped-handles, opened-handles}
use Rattle.portal_model.proofs.Queues.{AtSeat, found-at, seats}
use Rattle.portal_model.proofs.SeatsValid.{ChangeFine, HasTemps, TempTaken, counted_same, named_temps, seats-mapped, temps-changed, temps-found, temps-named, within-changed, within-named}
use Rattle.portal_model.proofs.SoundParts.{AreSoundNames, SoundConnections, SoundFiles, SoundHandles, Valid-open, valid-files, valid-handles, AreSoundTemps, SoundSeats, valid-seats}
use Rattle.portal_model.proofs.TakenValid.{IsNext, added-taken, after-differ, after-taken, handles-taken, temps-taken}

-- ---- what a request on a node does

-- who asks, the numbers of made documents, those that are live, whether the tree tells its files, and the generations that
-- were taken
pub record Asking : Type 0 where
  pub who : Who
  pub made : List DocId
  pub documents : List Document
  pub told : Bool
  pub taken : List TakenGeneration

abbrev pub asking_in : State → Who → Asking
asking_in s who = record { who = who; made = s.made; documents = s.documents; told = s.told; taken = s.taken }

-- a handle on a path of the host and of a document that was made, in a view of who asks; of a generation that was taken as
-- the files are then
pub record HandleSound (a : Asking) (file : FileChange) (handle : Handle) : Type 0 where
  pub host : has_host_path handle ≡ true
  pub made : has_made_document a.made handle ≡ true
  pub own : has_own_node a.who handle ≡ true
  pub within : is_taken_by a.told (taken_after file a.taken) handle ≡ true

-- such a handle is opened, and only where there is a place left for one
abbrev pub HandleFine : Asking → Room → FileChange → HandleChange → Type 0
HandleFine a room file HandlesStay = Unit {0}
HandleFine a room file (Opens handle) = (room.full ≡ false) × HandleSound a file handle
HandleFine a room file (Closes fh) = Unit {0}

-- a file is made only where nothing is and the parent is a folder, and beside the present ones only the next of its path;
-- and one becomes the present one where that may be
abbrev pub FileFine : Asking → Option Held → FileChange → Type 0
FileFine a tree FilesStay = Unit {0}
FileFine a tree (Writes name offset content now) = Unit {0}
FileFine a tree (Resizes name size now) = Unit {0}
FileFine a tree (Creates path now) = IsShown tree (AtPath path) Look.Missing × IsFound tree (Makes path) true × (is_host_path path ≡ true)
FileFine a tree (Adds name now) = IsFound tree (Freshens name) true × (is_host_path name.path ≡ true) × (name.generation ≡ next_generation a.taken name.path)
FileFine a tree (Stands name) = IsFound tree (Turns name) true

-- a path is named below a folder that is a live document, and only where there is a number for it; and a temporary is sound
-- that is made
abbrev pub NamesFine : Asking → FileChange → List Naming → SeatTemps → NameChange → Type 0
NamesFine a file namings temps NamesStay = Unit {0}
NamesFine a file namings temps (Names n) = (is_sound_naming a.made a.documents n ≡ true) × (lacks_number namings n ≡ false)
NamesFine a file namings temps (Temps change) = ChangeFine a.made a.documents a.who temps.added temps.temps change × TempTaken a.told (taken_after file a.taken) change

abbrev pub Fine : Asking → Option Held → Room → List Naming → SeatTemps → NodeDoing → Type 0
Fine a tree room namings temps d = HandleFine a room d.file d.handle × FileFine a tree d.file × NamesFine a d.file namings temps d.names

-- a document at a node: its path is one on the host, it was made, and the node is in a view of who asks
pub record IsSoundFile (a : Asking) (node : ℕ) (d : Document) : Type 0 where
  pub host : is_host_path d.path ≡ true
  pub made : is_made a.made d.id.number ≡ true
  pub own : is_own_node a.who node ≡ true

-- a view that who asks may look into
abbrev pub is_own_view : Who → ℕ → Bool
is_own_view Who.Host view = true
is_own_view (Who.App app) view = view == 0

-- a path at or below a folder that is a live document, in such a view
pub record IsSoundBelow (a : Asking) (view : ℕ) (d : Document) (path : List ℕ) : Type 0 where
  pub host : is_host_path path ≡ true
  pub made : is_made a.made d.id.number ≡ true
  pub viewed : is_own_view a.who view ≡ true
  pub live : document_of a.documents d.id.number ≡ Some d
  pub folder : d.folder ≡ true
  pub named : is_same d.path root ≡ false
  pub below : (is_same path d.path || is_above d.path path) ≡ true

-- a temporary at a node: its path is one on the host, its document was made, the node is in a view of who asks, and its
-- generation was taken
pub record IsSoundTemp (a : Asking) (node : ℕ) (d : Document) (name : FileName) : Type 0 where
  pub host : is_host_path name.path ≡ true
  pub made : is_made a.made d.id.number ≡ true
  pub own : is_own_node a.who node ≡ true
  pub within : is_taken a.told a.taken name ≡ true

-- the folder of a document that is live, in such a view
pub record IsSoundHome (a : Asking) (view : ℕ) (d : Document) : Type 0 where
  pub file : IsSoundFile a (file_node view d.id.number) d
  pub viewed : is_own_view a.who view ≡ true
  pub live : document_of a.documents d.id.number ≡ Some d

abbrev pub IsSoundFolder : Asking → Folder → Type 0
IsSoundFolder a (RootOf view numbers has_views) = Unit {0}
IsSoundFolder a (Views applications) = Unit {0}
IsSoundFolder a (FolderOf view d may_write) = IsSoundHome a view d
IsSoundFolder a (Exported view d path may_write) = IsSoundBelow a view d path

abbrev pub IsSoundSight : Asking → ℕ → Option Sight → Type 0
IsSoundSight a node None = Unit {0}
IsSoundSight a node (Some (SightOfFile d may_write)) = IsSoundFile a node d
IsSoundSight a node (Some (SightOfTemp d name may_write)) = IsSoundTemp a node d name
IsSoundSight a node (Some (SightBelow view d path may_write)) = IsSoundBelow a view d path × (is_own_node a.who node ≡ true)
IsSoundSight a node (Some (SightOfFolder f)) = IsSoundFolder a f

sound_folder : (a : Asking) (node : ℕ) (sight : Option Sight) (f : Folder) → SeenAs sight f → IsSoundSight a node sight → IsSoundFolder a f
sound_folder a node None f e h = absurd e
sound_folder a node (Some (SightOfFile d may_write)) f e h = absurd e
sound_folder a node (Some (SightOfTemp d name may_write)) f e h = absurd e
sound_folder a node (Some (SightBelow view d path may_write)) f e h = subst (IsSoundFolder a) e h.0
sound_folder a node (Some (SightOfFolder folder)) f e h = subst (IsSoundFolder a) e h

-- ---- a name below an exported folder

above_grown : (q p more : List ℕ) → is_above q p ≡ true → is_above q (p ++ more) ≡ true
above_grown [] [] more h = cc
above_grown [] (b ∷ bs) more h = slash-is b (bs ++ more) (slash-first b bs h)
above_grown (a ∷ ps) [] more h = cc
above_grown (a ∷ ps) (b ∷ bs) more h = above-more a b ps (bs ++ more) (first-same a b ps bs h) (above_grown ps bs more (rest-below a b ps bs h))

above_itself : (q more : List ℕ) → is_above q (q ++ 47 ∷ more) ≡ true
above_itself [] more = slash-is 47 more refl
above_itself (a ∷ ps) more = above-more a a ps (ps ++ 47 ∷ more) refl (above_itself ps more)

pub child_above : (folder path name : List ℕ) → is_same folder root ≡ false → (is_same path folder || is_above folder path) ≡ true → is_above folder (child_of path name) ≡ true
unfolding child_of
child_above folder path name n h = step (is_same path folder) (is_same path root) refl refl h
  where
    step : (b c : Bool) → is_same path folder ≡ b → is_same path root ≡ c → (b || is_above folder path) ≡ true → is_above folder (cond c (path ++ name) (path ++ 47 ∷ name)) ≡ true
    step true true e r k = let no : true ≡ false = sym r ∙ (ap (λ (x : List ℕ). is_same x root) (is_same-eq path folder e) ∙ n) in cc
    step true false e r k = subst (λ (x : List ℕ). is_above x (path ++ 47 ∷ name) ≡ true) (is_same-eq path folder e) (above_itself path name)
    step false true e r k = above_grown folder path name k
    step false false e r k = above_grown folder path (47 ∷ name) k

pub child_is : (path name p : List ℕ) → named_child path name ≡ Some p → (is_host_path p ≡ true) × (child_of path name ≡ p)
child_is path name p e = step (is_host_path (child_of path name)) refl e
  where
    step : (b : Bool) → is_host_path (child_of path name) ≡ b → cond b (Some (child_of path name)) None ≡ Some p → (is_host_path p ≡ true) × (child_of path name ≡ p)
    step true h k = let same : child_of path name ≡ p = cc in (ap is_host_path (sym same) ∙ h, same)
    step false h k = cc

sound_child : (a : Asking) (view : ℕ) (d : Document) (path name p : List ℕ) → IsSoundBelow a view d path → named_child path name ≡ Some p → is_sound_naming a.made a.documents (naming_in view d p) ≡ true
sound_child a view d path name p h e =
    let child = child_is path name p e in
    let above : is_above d.path p ≡ true = subst (λ (x : List ℕ). is_above d.path x ≡ true) child.1 (child_above d.path path name h.named h.below) in
    let placed : is_placed_naming (document_of a.documents d.id.number) (naming_in view d p) ≡ true =
    ap (λ (o : Option Document). is_placed_naming o (naming_in view d p)) h.live ∙ both d.folder (is_above d.path p) h.folder above in
    both (is_made a.made d.id.number) (is_host_path p && is_placed_naming (document_of a.documents d.id.number) (naming_in view d p)) h.made
    (both (is_host_path p) (is_placed_naming (document_of a.documents d.id.number) (naming_in view d p)) child.0 placed)

-- ---- the numbers of names

is_named_by : {X : Type 0} (p : X → Bool) (xs : List X) → list_any p xs ≡ true → position_or_len p xs + 1 ≤ length xs
is_named_by p [] h = cc
is_named_by p (x ∷ xs) h = step (p x) h (is_named_by p xs)
  where
    step : (b : Bool) → (b || list_any p xs) ≡ true → (list_any p xs ≡ true → position_or_len p xs + 1 ≤ length xs) → cond (not b) (1 + position_or_len p xs) 0 + 1 ≤ length (x ∷ xs)
    step true k f = omega arith
    step false k f = let l = f k in omega arith

is_at_most : {X : Type 0} (p : X → Bool) (xs : List X) → position_or_len p xs ≤ length xs
is_at_most p [] = omega arith
is_at_most p (x ∷ xs) = step (p x) (is_at_most p xs)
  where
    step : (b : Bool) → position_or_len p xs ≤ length xs → cond (not b) (1 + position_or_len p xs) 0 ≤ length (x ∷ xs)
    step true l = omega arith
    step false l = omega arith

room_left : (n limit : ℕ) → not (nat_lt n limit) ≡ false → n + 1 ≤ limit
room_left n limit h = grind (arith, nat_tests)

number_within : (ns : List Naming) (n : Naming) → length ns ≤ namings_limit → lacks_number ns n ≡ false → number_of_naming ns n ≤ namings_limit
number_within ns n few h = step (is_named_before ns n) refl h
  where
    step : (b : Bool) → is_named_before ns n ≡ b → (not b && not (nat_lt (length ns) namings_limit)) ≡ false → position_or_len (same_naming n) ns + 1 ≤ namings_limit
    step true e k = let l = is_named_by (same_naming n) ns e in omega arith
    step false e k =
        let l = is_at_most (same_naming n) ns in
        let m = room_left (length ns) namings_limit k in
        omega arith

named-of-view-0 : (k : ℕ) → k ≤ namings_limit → (view_of_node (named_node 0 k) == 0) ≡ true
named-of-view-0 k l =
    let least : 0 * 2 ^ 36 + (4 * 2 ^ 32 + k) < 2 ^ 36 = grind arith in
    let view : view_of_node (named_node 0 k) ≡ 0 = div-eq_of_lt least in
    ap (λ (n : ℕ). n == 0) view

own_named : (who : Who) (view k : ℕ) → is_own_view who view ≡ true → k ≤ namings_limit → is_own_node who (named_node view k) ≡ true
own_named Who.Host view k h l = refl
own_named (Who.App app) view k h l = subst (λ (v : ℕ). (view_of_node (named_node v k) == 0) ≡ true) (sym (nat_is view 0 h)) (named-of-view-0 k l)

-- the node of a temporary in an application's own view
temp-of-view-0 : (k : ℕ) → k ≤ last_temp → (view_of_node (temp_node 0 k) == 0) ≡ true
temp-of-view-0 k l =
    let least : 0 * 2 ^ 36 + (5 * 2 ^ 32 + k) < 2 ^ 36 = grind arith in
    let view : view_of_node (temp_node 0 k) ≡ 0 = div-eq_of_lt least in
    ap (λ (n : ℕ). n == 0) view

own_temp_node : (who : Who) (view k : ℕ) → is_own_view who view ≡ true → k ≤ last_temp → is_own_node who (temp_node view k) ≡ true
own_temp_node Who.Host view k h l = refl
own_temp_node (Who.App app) view k h l = subst (λ (v : ℕ). (view_of_node (temp_node v k) == 0) ≡ true) (sym (nat_is view 0 h)) (temp-of-view-0 k l)

-- ---- what a look shows of the generations that were taken

abbrev pub file_name : List ℕ → ℕ → FileName
file_name path generation = record { path = path; generation = generation }

-- a look for a name shows the file of that name
shown_file : (name : FileName) (o : Option File) (g size moment : ℕ) → ((x : File) → o ≡ Some x → is_named name x ≡ true) → Look.File g size moment ≡ look_of_file o → g ≡ name.generation
shown_file name None g size moment n e = cc
shown_file name (Some x) g size moment n e =
    let same : g ≡ x.generation = cc in
    same ∙ nat_is x.generation name.generation (second_of_both (is_same x.path name.path) (x.generation == name.generation) (n x refl))

shown-name : (tree : Option Held) (name : FileName) (g size moment : ℕ) → IsShown tree (Named name) (Look.File g size moment) → g ≡ name.generation
shown-name None name g size moment shown = shown
shown-name (Some held) name g size moment shown = shown_file name (file_named (all_held held) name) g size moment (λ x e. found_passes (is_named name) (all_held held) x e) shown

-- the present files are of generations that were taken
abbrev pub PresentTaken : Asking → Option Held → Type 0
PresentTaken a tree = (path : List ℕ) (g size moment : ℕ) → IsShown tree (AtPath path) (Look.File g size moment) → is_taken a.told a.taken (file_name path g) ≡ true

first_taken : (told : Bool) (taken : List TakenGeneration) (path : List ℕ) → is_taken told taken (file_name path 0) ≡ true
first_taken false taken path = refl
first_taken true taken path = least (last_taken taken path)
  where
    least : (n : ℕ) → nat_le 0 n ≡ true
    least n = grind (arith, nat_tests)

-- what a request knows of the temporaries of its connection
pub record TempsKnown (a : Asking) (temps : SeatTemps) : Type 0 where
  pub next : (path : List ℕ) → temps.next path ≡ next_generation a.taken path

module _ (asking : Asking) (tree : Option Held) (f : NodeFacts) (r : NodeRequest) (few : length f.namings ≤ namings_limit) (present : PresentTaken asking tree) (known : TempsKnown asking f.temps) where
  abbrev P : NodeDoing → Type 0
  P = Fine asking tree f.room f.namings f.temps

  abbrev On : Walk NodeVerdict → Type 0
  On = OnNode tree P

  found-fine : (o : Option ℕ) → On (found_folder r o)
  found-fine None = tt
  found-fine (Some node) = (tt, tt, tt)

  document-fine : (node : ℕ) (d : Document) (may_write : Bool) (look : Look) → On (found_document r node d may_write look)
  document-fine node d may_write (Look.File g size moment) = (tt, tt, tt)
  document-fine node d may_write Look.Folder = elim d.folder as (λ b. On (cond b (told (NodeAnswer.Entry (attr_of_folder (on_node r node) may_write))) (errs enoent))) [
    | true ↦ (tt, tt, tt)
    | false ↦ tt
  ]
  document-fine node d may_write Look.Missing = tt

  entry-fine : (naming : Naming) (attr : Attr) → is_sound_naming asking.made asking.documents naming ≡ true → On (entry_named f.namings naming attr)
  entry-fine naming attr sound = errs_if-on tree P (lacks_number f.namings naming) emfile (Answers (names_path naming (NodeAnswer.Entry attr))) (λ e. (tt, tt, (sound, e)))

  child-fine : (naming : Naming) (may_write : Bool) (look : Look) → is_sound_naming asking.made asking.documents naming ≡ true → On (found_child r f.namings naming may_write look)
  child-fine naming may_write (Look.File g size moment) sound = entry-fine naming (attr_of_file (on_node r (node_of_naming f.namings naming)) may_write size moment) sound
  child-fine naming may_write Look.Folder sound = entry-fine naming (attr_of_folder (on_node r (node_of_naming f.namings naming)) may_write) sound
  child-fine naming may_write Look.Missing sound = tt

  below-fine : (view : ℕ) (d : Document) (may_write : Bool) (path name : List ℕ) (o : Option (List ℕ)) → IsSoundBelow asking view d path → named_child path name ≡ o → On (lookup_child r f.namings view d may_write o)
  below-fine view d may_write path name None h e = tt
  below-fine view d may_write path name (Some p) h e = λ look shown. child-fine (naming_in view d p) may_write look (sound_child asking view d path name p h e)

  own-fine : (view : ℕ) (may_write : Bool) (o : Option OwnTemp) → On (found_own r view may_write o)
  own-fine view may_write None = tt
  own-fine view may_write (Some t) = at_name-on tree P t.temp.file (entry_of_file r (temp_node view t.k) may_write) (λ g s m. (tt, tt, tt))

  lookup-fine : (name : List ℕ) (folder : Folder) → IsSoundFolder asking folder → On (lookup_in r f.namings f.temps.temps name folder)
  lookup-fine name (RootOf view numbers has_views) h = found-fine (named_in_root view numbers has_views name)
  lookup-fine name (Views applications) h = found-fine (named_in_views applications name)
  lookup-fine name (FolderOf view d may_write) h = elim (is_same name (name_of d.path)) as (λ b. On (cond b (Looks (AtPath d.path) (found_document r (file_node view d.id.number) d may_write)) (found_own r view may_write (found_temp f.temps.temps view d.id name)))) [
    | true ↦ λ look shown. document-fine (file_node view d.id.number) d may_write look
    | false ↦ own-fine view may_write (found_temp f.temps.temps view d.id name)
  ]
  lookup-fine name (Exported view d path may_write) h = below-fine view d may_write path name (named_child path name) h refl

  attr-fine : (sight : Option Sight) → On (get_attr_by_place r sight)
  attr-fine sight = by_place-on tree P sight (λ at. tells_file r at.may_write) (tells_folder r) (λ at g s m. (tt, tt, tt)) (λ folder e. (tt, tt, tt))

  open-attr-fine : (file : OpenFile) → On (get_attr_open f.reach r file)
  open-attr-fine file = errs_if-on tree P (not (reaches f.reach file)) eacces _ (λ e. at_name-on tree P file.name (tells_file (on_node r file.node) (may_write_now f.reach file)) (λ g s m. (tt, tt, tt)))

  handle-attr-fine : (sight : Option Sight) (handle : Option Handle) → On (get_attr_by_handle f.reach r sight handle)
  handle-attr-fine sight None = tt
  handle-attr-fine sight (Some (Handle.File name node document strict read write)) = open-attr-fine (open_file_of name node document strict read write)
  handle-attr-fine sight (Some (Handle.Folder node names)) = attr-fine sight

  get_attr-fine : (b : Bool) (sight : Option Sight) (handle : Option Handle) → On (cond b (get_attr_by_handle f.reach r sight handle) (get_attr_by_place r sight))
  get_attr-fine true sight handle = handle-attr-fine sight handle
  get_attr-fine false sight handle = attr-fine sight

  size-fine : (q : NodeRequest) (a : SetsAttr) (name : FileName) (may_write : Bool) (size moment : ℕ) → On (set_attr_of q a name may_write size moment)
  size-fine q a name may_write size moment = elim (sets_size a.valid) as (λ b. On (cond b (errs_if (not may_write) eacces (errs_if (nat_lt a.limit a.size) efbig (resize q a name may_write))) (told (NodeAnswer.Attr (attr_of_file q may_write size moment))))) [
    | true ↦
        errs_if-on tree P (not may_write) eacces (errs_if (nat_lt a.limit a.size) efbig (resize q a name may_write)) (λ e.
        errs_if-on tree P (nat_lt a.limit a.size) efbig (resize q a name may_write) (λ k. ((λ now found. (tt, tt, tt)), tt)))
    | false ↦ (tt, tt, tt)
  ]

  folder-size-fine : (a : SetsAttr) (folder : Folder) → On (set_attr_of_folder r a folder)
  folder-size-fine a folder = errs_if-on tree P (sets_size a.valid) eisdir (told (NodeAnswer.Attr (attr_of_folder r (is_writable folder)))) (λ e. (tt, tt, tt))

  open-size-fine : (a : SetsAttr) (file : OpenFile) → On (set_attr_open f.reach r a file)
  open-size-fine a file =
      errs_if-on tree P (not (reaches f.reach file)) eacces (at_name file.name (set_attr_of_open f.reach r a file)) (λ e.
      at_name-on tree P file.name (set_attr_of_open f.reach r a file) (λ g s m.
      errs_if-on tree P (sets_size a.valid && not file.write) ebadf (set_attr_of (on_node r file.node) a file.name (may_write_now f.reach file) s m) (λ k.
      size-fine (on_node r file.node) a file.name (may_write_now f.reach file) s m)))

  set_attr-fine : (a : SetsAttr) (sight : Option Sight) (handle : Option Handle) → On (set_attr f.reach r a sight handle)
  set_attr-fine a sight handle =
      errs_if-on tree P (sets_owner_or_mode a.valid) eperm (cond (sets_by_handle a.valid) (by_file_handle handle (set_attr_open f.reach r a)) (by_place sight (set_attr_at r a) (set_attr_of_folder r a))) (λ e.
      elim (sets_by_handle a.valid) as (λ b. On (cond b (by_file_handle handle (set_attr_open f.reach r a)) (by_place sight (set_attr_at r a) (set_attr_of_folder r a)))) [
        | true ↦ by_file_handle-on tree P handle (set_attr_open f.reach r a) (open-size-fine a)
        | false ↦ by_place-on tree P sight (set_attr_at r a) (set_attr_of_folder r a) (λ at g s m. size-fine r a (name_at at g) at.may_write s m) (λ folder e. folder-size-fine a folder)
      ])

  open-name-fine : (flags : ℕ) (d : Document) (name : FileName) → f.room.full ≡ false → IsSoundTemp asking r.node d name → On (open_name r flags f.room d name)
  open-name-fine flags d name e h = elim (truncates flags) as (λ b. On (cond b (Ends (Changes name) (λ now. opened_file f.room (file_handle d name r.node flags) (Resizes name 0 now)) (Errs enoent)) (Answers (opened_file f.room (file_handle d name r.node flags) FilesStay)))) [
    | true ↦ ((λ now found. ((e, record { host = h.host; made = h.made; own = h.own; within = h.within }), tt, tt)), tt)
    | false ↦ ((e, record { host = h.host; made = h.made; own = h.own; within = h.within }), tt, tt)
  ]

  open-file-fine : (flags : ℕ) (d : Document) (path : List ℕ) (w : Bool) (g s m : ℕ) → IsSoundTemp asking r.node d (file_name path g) → On (open_file r flags f.room (spot d path w) g s m)
  open-file-fine flags d path w g s m h =
      let name : FileName = file_name path g in
      errs_if-on tree P (opens_to_write flags && not w) eacces (errs_if f.room.full emfile (open_name r flags f.room d name)) (λ k.
      errs_if-on tree P f.room.full emfile (open_name r flags f.room d name) (λ n. open-name-fine flags d name n h))

  file-look : (d : Document) (w : Bool) (flags : ℕ) → IsSoundFile asking r.node d → (look : Look) → IsShown tree (AtPath d.path) look → On (if_file (open_file r flags f.room (spot d d.path w)) look)
  file-look d w flags h (Look.File g s m) shown = open-file-fine flags d d.path w g s m (record { host = h.host; made = h.made; own = h.own; within = present d.path g s m shown })
  file-look d w flags h Look.Folder shown = tt
  file-look d w flags h Look.Missing shown = tt

  temp-look : (d : Document) (name : FileName) (w : Bool) (flags : ℕ) → IsSoundTemp asking r.node d name → (look : Look) → IsShown tree (Named name) look → On (if_file (open_file r flags f.room (spot d name.path w)) look)
  temp-look d name w flags h (Look.File g s m) shown =
      let same : g ≡ name.generation = shown-name tree name g s m shown in
      open-file-fine flags d name.path w g s m
      (record { host = h.host; made = h.made; own = h.own; within = ap (λ (n : ℕ). is_taken asking.told asking.taken (file_name name.path n)) same ∙ h.within })
  temp-look d name w flags h Look.Folder shown = tt
  temp-look d name w flags h Look.Missing shown = tt

  below-look : (view : ℕ) (d : Document) (path : List ℕ) (w : Bool) (flags : ℕ) → IsSoundBelow asking view d path × (is_own_node asking.who r.node ≡ true) → (look : Look) → IsShown tree (AtPath path) look → On (by_look view (spot d path w) (open_file r flags f.room) open_folder look)
  below-look view d path w flags h (Look.File g s m) shown = open-file-fine flags d path w g s m (record { host = h.0.host; made = h.0.made; own = h.1; within = present path g s m shown })
  below-look view d path w flags h Look.Folder shown = tt
  below-look view d path w flags h Look.Missing shown = tt

  open-place-fine : (flags : ℕ) (sight : Option Sight) → IsSoundSight asking r.node sight → On (by_place sight (open_file r flags f.room) open_folder)
  open-place-fine flags None h = tt
  open-place-fine flags (Some (SightOfFile d w)) h = λ look shown. file-look d w flags h look shown
  open-place-fine flags (Some (SightOfTemp d name w)) h = λ look shown. temp-look d name w flags h look shown
  open-place-fine flags (Some (SightBelow view d path w)) h = λ look shown. below-look view d path w flags h look shown
  open-place-fine flags (Some (SightOfFolder folder)) h = tt

  open-fine : (flags : ℕ) (sight : Option Sight) → IsSoundSight asking r.node sight → On (open_node r flags sight f.room)
  open-fine flags sight h = errs_if-on tree P (has_no_mode flags) einval (by_place sight (open_file r flags f.room) open_folder) (λ e. open-place-fine flags sight h)

  there-fine : (flags : ℕ) (view : ℕ) (d : Document) → f.room.full ≡ false → IsSoundFile asking (file_node view d.id.number) d → (look : Look) → IsShown tree (AtPath d.path) look → On (create_there r flags f.room (own_made view d) look)
  there-fine flags view d e sound (Look.File g s m) shown = tt
  there-fine flags view d e sound Look.Folder shown = tt
  there-fine flags view d e sound Look.Missing shown =
      ((λ now found. ((e, record { host = sound.host; made = sound.made; own = sound.own; within = first_taken asking.told asking.taken d.path }), (shown, found, sound.host), tt)), tt)

  made-fine : (flags : ℕ) (d : Document) (naming : Naming) → f.room.full ≡ false → is_made asking.made d.id.number ≡ true → is_own_view asking.who naming.view ≡ true → is_host_path naming.path ≡ true → is_sound_naming asking.made asking.documents naming ≡ true → lacks_number f.namings naming ≡ false →
      (look : Look) → IsShown tree (AtPath naming.path) look → On (create_there r flags f.room (child_made f.namings d naming) look)
  made-fine flags d naming e made viewed host sound lacks (Look.File g s m) shown = tt
  made-fine flags d naming e made viewed host sound lacks Look.Folder shown = tt
  made-fine flags d naming e made viewed host sound lacks Look.Missing shown =
      let own = own_named asking.who naming.view (number_of_naming f.namings naming) viewed (number_within f.namings naming few lacks) in
      ((λ now found. ((e, record { host = host; made = made; own = own; within = first_taken asking.told asking.taken naming.path }), (shown, found, host), (sound, lacks))), tt)

  neither-first : (a b : Bool) → (a || b) ≡ false → a ≡ false
  neither-first true b h = h
  neither-first false b h = refl

  neither-second : (a b : Bool) → (a || b) ≡ false → b ≡ false
  neither-second true b h = cc
  neither-second false b h = h

  create-below-fine : (flags view : ℕ) (d : Document) (may_write : Bool) (path name : List ℕ) (o : Option (List ℕ)) → IsSoundBelow asking view d path → named_child path name ≡ o → On (create_child r flags f.room f.namings view d may_write o)
  create-below-fine flags view d may_write path name None h e = tt
  create-below-fine flags view d may_write path name (Some p) h e =
      let naming : Naming = naming_in view d p in
      let there = create_at r flags f.room (child_made f.namings d naming) in
      errs_if-on tree P (not may_write) eacces (errs_if (f.room.full || lacks_number f.namings naming) emfile there) (λ w.
      errs_if-on tree P (f.room.full || lacks_number f.namings naming) emfile there (λ k.
      λ look shown. made-fine flags d naming (neither-first f.room.full (lacks_number f.namings naming) k) h.made h.viewed (child_is path name p e).0 (sound_child asking view d path name p h e) (neither-second f.room.full (lacks_number f.namings naming) k) look shown))

  create-own-fine : (flags view : ℕ) (d : Document) (may_write : Bool) → IsSoundFile asking (file_node view d.id.number) d → On (create_own r flags f.room view d may_write)
  create-own-fine flags view d may_write h =
      let there = create_at r flags f.room (own_made view d) in
      errs_if-on tree P (not may_write) eacces (errs_if f.room.full emfile there) (λ b.
      errs_if-on tree P f.room.full emfile there (λ e. λ look shown. there-fine flags view d e h look shown))

  not-false : (b : Bool) → not b ≡ false → b ≡ true
  not-false true e = refl
  not-false false e = cc

  -- the number of the next temporary
  numbered : (added : ℕ) → (nat_lt 0 (added + 1) && nat_le (added + 1) (added + 1)) ≡ true
  numbered added = grind (arith, nat_tests)

  next-number : (added : ℕ) → nat_lt added last_temp ≡ true → added + 1 ≤ last_temp
  next-number added h = grind (arith, nat_tests)

  later-one : (last g : ℕ) → g ≡ last + 1 → nat_lt 0 g ≡ true
  later-one last g e = grind (arith, nat_tests)

  viewed-as : (who : Who) (temp : Temp) → is_own_view who temp.view ≡ true → is_viewed_temp who temp ≡ true
  viewed-as Who.Host temp h = refl
  viewed-as (Who.App app) temp h = h

  -- a temporary of the next generation is sound
  next-temp : (view : ℕ) (d : Document) (name : List ℕ) → IsSoundHome asking view d → d.folder ≡ false → is_sound_temp asking.made asking.documents asking.who (f.temps.added + 1) (own_temp (f.temps.added + 1) (temp_made view d name (next_file f.temps d))) ≡ true
  next-temp view d name h folder =
      let temp : Temp = temp_made view d name (next_file f.temps d) in
      let placed : Bool = is_placed_temp (document_of asking.documents d.id.number) temp in
      let beyond : Bool = is_viewed_temp asking.who temp && is_later_file temp.file in
      let there : placed ≡ true = ap (λ (o : Option Document). is_placed_temp o temp) h.live ∙ both (not d.folder) (is_same d.path d.path) (ap not folder) (is_same-refl d.path) in
      let later : is_later_file temp.file ≡ true = both (is_host_path d.path) (nat_lt 0 (f.temps.next d.path)) h.file.host (later-one (last_taken asking.taken d.path) (f.temps.next d.path) (known.next d.path)) in
      both (nat_lt 0 (f.temps.added + 1) && nat_le (f.temps.added + 1) (f.temps.added + 1)) (is_made asking.made d.id.number && (placed && beyond)) (numbered f.temps.added)
      (both (is_made asking.made d.id.number) (placed && beyond) h.file.made
      (both placed beyond there (both (is_viewed_temp asking.who temp) (is_later_file temp.file) (viewed-as asking.who temp h.viewed) later)))

  add-temp-fine : (flags view : ℕ) (d : Document) (name : List ℕ) → f.room.full ≡ false → IsSoundHome asking view d → d.folder ≡ false → lacks_temp f.temps ≡ false → On (add_temp r flags f.room (next_temp_node f.temps view) d (temp_made view d name (next_file f.temps d)))
  add-temp-fine flags view d name e h folder lacks =
      let few-enough : are_temps_full f.temps.temps ≡ false = neither-first (are_temps_full f.temps.temps) (not (nat_lt f.temps.added last_temp)) lacks in
      let number : nat_lt f.temps.added last_temp ≡ true = not-false (nat_lt f.temps.added last_temp) (neither-second (are_temps_full f.temps.temps) (not (nat_lt f.temps.added last_temp)) lacks) in
      let own : is_own_node asking.who (next_temp_node f.temps view) ≡ true = own_temp_node asking.who view (f.temps.added + 1) h.viewed (next-number f.temps.added number) in (
        (λ now found. (
          (e, record { host = h.file.host; made = h.file.made; own = own; within = added-taken asking.told asking.taken (next_file f.temps d) now }),
          (found, h.file.host, known.next d.path),
          ((next-temp view d name h folder, few-enough, number), added-taken asking.told asking.taken (next_file f.temps d) now),
        )),
        tt,
      )

  create-temp-fine : (name : List ℕ) (flags view : ℕ) (d : Document) (may_write : Bool) → IsSoundHome asking view d → d.folder ≡ false → On (create_temp r name flags f.room f.temps view d may_write)
  create-temp-fine name flags view d may_write h folder =
      let made = add_temp r flags f.room (next_temp_node f.temps view) d (temp_made view d name (next_file f.temps d)) in
      let placed = errs_if (f.room.full || lacks_temp f.temps) emfile made in
      let new = errs_if (is_some (found_temp f.temps.temps view d.id name)) eexist placed in
      errs_if-on tree P (is_dots name) eacces (errs_if (not may_write) eacces new) (λ a.
      errs_if-on tree P (not may_write) eacces new (λ b.
      errs_if-on tree P (is_some (found_temp f.temps.temps view d.id name)) eexist placed (λ n.
      errs_if-on tree P (f.room.full || lacks_temp f.temps) emfile made (λ k.
      add-temp-fine flags view d name (neither-first f.room.full (lacks_temp f.temps) k) h folder (neither-second f.room.full (lacks_temp f.temps) k)))))

  create-in-fine : (name : List ℕ) (flags : ℕ) (folder : Folder) → IsSoundFolder asking folder → On (create_in r name flags f.room f.namings f.temps folder)
  create-in-fine name flags (RootOf view numbers has_views) h = tt
  create-in-fine name flags (Views applications) h = tt
  create-in-fine name flags (FolderOf view d may_write) h = elim (is_same name (name_of d.path)) as (λ b. On (cond b (create_own r flags f.room view d may_write) (create_other r name flags f.room f.temps view d may_write))) [
    | true ↦ create-own-fine flags view d may_write h.file
    | false ↦ errs_if-on tree P d.folder eacces (create_temp r name flags f.room f.temps view d may_write) (λ k. create-temp-fine name flags view d may_write h k)
  ]
  create-in-fine name flags (Exported view d path may_write) h = create-below-fine flags view d may_write path name (named_child path name) h refl

  create-fine : (name : List ℕ) (flags : ℕ) (sight : Option Sight) → IsSoundSight asking r.node sight → On (create r name flags sight f.room f.namings f.temps)
  create-fine name flags sight h =
      let place = by_place sight (no_file enotdir) (create_in r name flags f.room f.namings f.temps) in
      errs_if-on tree P (has_no_mode flags) einval (errs_if (is_too_long name) enametoolong place) (λ a.
      errs_if-on tree P (is_too_long name) enametoolong place (λ b.
      by_place-on tree P sight (no_file enotdir) (create_in r name flags f.room f.namings f.temps) (λ at g s m. tt)
      (λ folder e. create-in-fine name flags folder (sound_folder asking r.node sight folder e h))))

  -- ---- temporaries get other names

  rename-to-fine : (h : Home) (name : List ℕ) (t : OwnTemp) → On (rename_to h name t)
  rename-to-fine h name t = elim (is_own_name h name) as (λ b. On (cond b (Ends (Turns t.temp.file) (λ now. saved t) (Errs enoent)) (Answers (changes_temps (Renames t.k t.temp name) NodeAnswer.Empty)))) [
    | true ↦ ((λ now found. (tt, found, (tt, tt))), tt)
    | false ↦ (tt, tt, (tt, tt))
  ]

  rename-temp-fine : (h : Home) (name : List ℕ) (o : Option OwnTemp) → On (rename_temp h name o)
  rename-temp-fine h name None = tt
  rename-temp-fine h name (Some t) =
      errs_if-on tree P (not h.may_write) eacces (errs_if (is_dots name) eacces (rename_to h name t)) (λ a.
      errs_if-on tree P (is_dots name) eacces (rename_to h name t) (λ b. rename-to-fine h name t))

  rename-homes-fine : (call : RenameCall) (o p : Option Home) → On (rename_homes call f.temps.temps o p)
  rename-homes-fine call None p = tt
  rename-homes-fine call (Some first) None = tt
  rename-homes-fine call (Some first) (Some second) =
      let named = rename_temp first call.new_name (temp_at f.temps.temps first call.old_name) in
      errs_if-on tree P (not (same_home first second)) exdev (rename_at call f.temps.temps first) (λ a.
      errs_if-on tree P (is_own_name first call.old_name) eperm named (λ b. rename-temp-fine first call.new_name (temp_at f.temps.temps first call.old_name)))

  rename-in-fine : (call : RenameCall) (first second : Seen) → On (rename_in call f.temps.temps first second)
  rename-in-fine call AFile second = tt
  rename-in-fine call (AFolder first) AFile = tt
  rename-in-fine call (AFolder first) (AFolder second) = rename-homes-fine call (home_of first) (home_of second)

  with-seen-fine : (sight : Option Sight) (next : Seen → Walk NodeVerdict) → ((seen : Seen) → On (next seen)) → On (with_seen sight next)
  with-seen-fine sight next h = by_place-on tree P sight (λ at generation size moment. next AFile) (λ folder. next (AFolder folder)) (λ at g s m. h AFile) (λ folder e. h (AFolder folder))

  rename-fine : (call : RenameCall) (sight new_sight : Option Sight) → On (rename call f.temps.temps sight new_sight)
  rename-fine call sight new_sight =
      let seen = with_seen sight (λ first. with_seen new_sight (rename_in call f.temps.temps first)) in
      errs_if-on tree P (not (call.flags == 0)) einval (errs_if (are_too_long call) enametoolong seen) (λ a.
      errs_if-on tree P (are_too_long call) enametoolong seen (λ b.
      with-seen-fine sight (λ first. with_seen new_sight (rename_in call f.temps.temps first)) (λ first.
      with-seen-fine new_sight (rename_in call f.temps.temps first) (rename-in-fine call first))))

  unlink-temp-fine : (h : Home) (o : Option OwnTemp) → On (unlink_temp h o)
  unlink-temp-fine h None = tt
  unlink-temp-fine h (Some t) = errs_if-on tree P (not h.may_write) eacces (Answers (changes_temps (Drops t.k) NodeAnswer.Empty)) (λ a. (tt, tt, (tt, tt)))

  unlink-at-fine : (name : List ℕ) (o : Option Home) → On (unlink_at name f.temps.temps o)
  unlink-at-fine name None = tt
  unlink-at-fine name (Some h) = errs_if-on tree P (is_own_name h name) eperm (unlink_temp h (temp_at f.temps.temps h name)) (λ a. unlink-temp-fine h (temp_at f.temps.temps h name))

  unlink-fine : (name : List ℕ) (sight : Option Sight) → On (unlink name f.temps.temps sight)
  unlink-fine name sight =
      errs_if-on tree P (is_too_long name) enametoolong (by_place sight (no_file enotdir) (unlink_in name f.temps.temps)) (λ a.
      by_place-on tree P sight (no_file enotdir) (unlink_in name f.temps.temps) (λ at g s m. tt) (λ folder e. unlink-at-fine name (home_of folder)))

  -- ---- folders

  found-dir-fine : (folder : Folder) → f.room.full ≡ false → On (open_found r f.room f.temps.temps folder)
  found-dir-fine (RootOf view numbers has_views) e = ((e, record { host = refl; made = refl; own = refl; within = refl }), tt, tt)
  found-dir-fine (Views applications) e = ((e, record { host = refl; made = refl; own = refl; within = refl }), tt, tt)
  found-dir-fine (FolderOf view d may_write) e = λ look shown. ((e, record { host = refl; made = refl; own = refl; within = refl }), tt, tt)
  found-dir-fine (Exported view d path may_write) e = ((λ names. ((e, record { host = refl; made = refl; own = refl; within = refl }), tt, tt)), tt)

  open_dir-fine : (sight : Option Sight) → On (open_dir r sight f.room f.temps.temps)
  open_dir-fine sight = by_place-on tree P sight (no_file enotdir) (open_dir_in r f.room f.temps.temps) (λ at g s m. tt)
      (λ folder k. errs_if-on tree P f.room.full emfile (open_found r f.room f.temps.temps folder) (λ e. found-dir-fine folder e))

  read-fine : (offset size : ℕ) (handle : Option Handle) → On (read f.reach f.bytes offset size handle)
  read-fine offset size handle =
      errs_if-on tree P (nat_lt read_limit size) einval (by_file_handle handle (read_open f.reach f.bytes offset size)) (λ e.
      by_file_handle-on tree P handle (read_open f.reach f.bytes offset size) (λ file.
      errs_if-on tree P (not file.read) ebadf _ (λ k.
      errs_if-on tree P (not (may_read_now f.reach file)) eacces _ (λ n. ((λ now found. (tt, tt, tt)), tt)))))

  content-fine : (limit : ℕ) (name : FileName) (offset : ℕ) (content : List ℕ) → On (write_content limit name offset content)
  content-fine limit name offset [] = (tt, tt, tt)
  content-fine limit name offset (b ∷ bs) = errs_if-on tree P (nat_lt limit (offset + length (b ∷ bs))) efbig _ (λ e. ((λ now found. (tt, tt, tt)), tt))

  write-fine : (limit offset : ℕ) (content : List ℕ) (handle : Option Handle) → On (write f.reach limit offset content handle)
  write-fine limit offset content handle =
      errs_if-on tree P (nat_lt write_limit (length content)) einval (by_file_handle handle (write_open f.reach limit offset content)) (λ e.
      by_file_handle-on tree P handle (write_open f.reach limit offset content) (λ file.
      errs_if-on tree P (not file.write) ebadf (errs_if (not (may_write_now f.reach file)) eacces (write_content limit file.name offset content)) (λ k.
      errs_if-on tree P (not (may_write_now f.reach file)) eacces (write_content limit file.name offset content) (λ n. content-fine limit file.name offset content))))

  names-fine : (offset size : ℕ) (handle : Option Handle) → On (read_names offset size handle)
  names-fine offset size None = tt
  names-fine offset size (Some (Handle.File name node document strict read write)) = tt
  names-fine offset size (Some (Handle.Folder node names)) = (tt, tt, tt)

  release_dir-fine : (fh : ℕ) (handle : Option Handle) → On (release_dir fh handle)
  release_dir-fine fh None = tt
  release_dir-fine fh (Some (Handle.File name node document strict read write)) = tt
  release_dir-fine fh (Some (Handle.Folder node names)) = (tt, tt, tt)

  access-fine : (mask : ℕ) (sight : Option Sight) → On (access mask sight)
  access-fine mask sight =
      errs_if-on tree P (nat_lt 7 mask) einval (by_place sight (access_file mask) (access_folder mask)) (λ e.
      by_place-on tree P sight (access_file mask) (access_folder mask)
      (λ at g s m. errs_if-on tree P (executes mask || writes_to mask && not at.may_write) eacces (told NodeAnswer.Empty) (λ k. (tt, tt, tt)))
      (λ folder h. errs_if-on tree P (writes_to mask && not (is_writable folder)) eacces (told NodeAnswer.Empty) (λ k. (tt, tt, tt))))

  pub walk-fine : IsSoundSight asking r.node f.sight → (op : NodeOp) → On (node_walk f r op)
  walk-fine h (NodeOp.Lookup name) = errs_if-on tree P (is_too_long name) enametoolong (by_place f.sight (no_file enotdir) (lookup_in r f.namings f.temps.temps name)) (λ e.
      by_place-on tree P f.sight (no_file enotdir) (lookup_in r f.namings f.temps.temps name) (λ at g s m. tt)
      (λ folder k. lookup-fine name folder (sound_folder asking r.node f.sight folder k h)))
  walk-fine h (NodeOp.Forget count) = (tt, tt, tt)
  walk-fine h (NodeOp.BatchForget nodes) = (tt, tt, tt)
  walk-fine h (NodeOp.GetAttr flags fh) = get_attr-fine (names_handle flags) f.sight (f.handle fh)
  walk-fine h (NodeOp.SetAttr valid fh size) = set_attr-fine (record { valid = valid; size = size; limit = f.file_limit }) f.sight (f.handle fh)
  walk-fine h (NodeOp.Open flags) = open-fine flags f.sight h
  walk-fine h (NodeOp.Create name flags) = create-fine name flags f.sight h
  walk-fine h (NodeOp.Read fh offset size) = read-fine offset size (f.handle fh)
  walk-fine h (NodeOp.Write fh offset content) = write-fine f.file_limit offset content (f.handle fh)
  walk-fine h (NodeOp.Flush fh) = by_file_handle-on tree P (f.handle fh) _ (λ file. (tt, tt, tt))
  walk-fine h (NodeOp.Fsync fh) = by_file_handle-on tree P (f.handle fh) fsync_open (λ file. ((λ now found. (tt, tt, tt)), tt))
  walk-fine h (NodeOp.Release fh) = by_file_handle-on tree P (f.handle fh) _ (λ file. (tt, tt, tt))
  walk-fine h NodeOp.OpenDir = open_dir-fine f.sight
  walk-fine h (NodeOp.ReadDir fh offset size) = errs_if-on tree P (nat_lt read_limit size) einval (read_names offset size (f.handle fh)) (λ e. names-fine offset size (f.handle fh))
  walk-fine h (NodeOp.ReleaseDir fh) = release_dir-fine fh (f.handle fh)
  walk-fine h (NodeOp.Access mask) = access-fine mask f.sight
  walk-fine h (NodeOp.Rename new_parent flags old_name new_name) = rename-fine (rename_call flags old_name new_name) f.sight (f.sight_of new_parent)
  walk-fine h (NodeOp.Unlink name) = unlink-fine name f.sight

-- ---- what is seen

-- a node of a file or of a name names the view that it is in
abbrev SeenIn : ℕ → Option Place → Type 0
SeenIn v None = Unit {0}
SeenIn v (Some (Place.Root view)) = Unit {0}
SeenIn v (Some Place.ByApp) = Unit {0}
SeenIn v (Some (Place.Folder view id)) = Unit {0}
SeenIn v (Some (Place.File view id)) = view ≡ v
SeenIn v (Some (Place.Named view k)) = view ≡ v
SeenIn v (Some (Place.Temporary view k)) = view ≡ v

root_or_views : (view : ℕ) (a b : Bool) → SeenIn view (cond a (Some (Place.Root view)) (cond b (Some Place.ByApp) None))
root_or_views view true b = tt
root_or_views view false true = tt
root_or_views view false false = tt

counted_from_one : (view k : ℕ) (b : Bool) → SeenIn view (cond b None (Some (Place.Named view k)))
counted_from_one view k true = tt
counted_from_one view k false = refl

temps_from_one : (view k : ℕ) (b : Bool) → SeenIn view (cond b None (Some (Place.Temporary view k)))
temps_from_one view k true = tt
temps_from_one view k false = refl

parts_seen : (view id : ℕ) (a b c d e : Bool) → SeenIn view (cond a (place_of_kind_0 view id) (cond b (Some (Place.Folder view (record { number = id }))) (cond c (Some (Place.File view (record { number = id }))) (cond d (place_from_one (Place.Named view) id) (cond e (place_from_one (Place.Temporary view) id) None)))))
parts_seen view id true b c d e = root_or_views view (id == 1) (id == 2 && view == 0)
parts_seen view id false true c d e = tt
parts_seen view id false false true d e = refl
parts_seen view id false false false true e = counted_from_one view id (id == 0)
parts_seen view id false false false false true = temps_from_one view id (id == 0)
parts_seen view id false false false false false = tt

in_its_view : (node : ℕ) (p : Place) → place_named node ≡ Some p → SeenIn (view_of_node node) (Some p)
in_its_view node p e = subst (SeenIn (view_of_node node)) e (parts_seen (view_of_node node) (id_of_node node) (kind_of_node node == 0) (kind_of_node node == 1) (kind_of_node node == 2) (kind_of_node node == 4) (kind_of_node node == 5))

-- the node of a file in an application's own view
file-of-view-0 : (number : ℕ) → nat_lt number (2 ^ 32) ≡ true → (view_of_node (file_node 0 number) == 0) ≡ true
file-of-view-0 number l =
    let least : 0 * 2 ^ 36 + (2 * 2 ^ 32 + number) < 2 ^ 36 = grind (arith, nat_tests) in
    let view : view_of_node (file_node 0 number) ≡ 0 = div-eq_of_lt least in
    ap (λ (n : ℕ). n == 0) view

module _ (s : State) (v : Valid s) where
  abbrev asks_as : Who → Asking
  asks_as caller = asking_in s caller

  own_file : (caller : Who) (view number : ℕ) (who : Who) → subject_of s.applications caller view ≡ Some who → nat_lt number (2 ^ 32) ≡ true → is_own_node caller (file_node view number) ≡ true
  own_file Who.Host view number who e l = refl
  own_file (Who.App app) zero number who e l = file-of-view-0 number l
  own_file (Who.App app) (suc k) number who e l = cc

  own_node : (caller : Who) (view node : ℕ) (who : Who) → view ≡ view_of_node node → subject_of s.applications caller view ≡ Some who → is_own_node caller node ≡ true
  own_node Who.Host view node who n e = refl
  own_node (Who.App app) zero node who n e = ap (λ (m : ℕ). m == 0) (sym n)
  own_node (Who.App app) (suc k) node who n e = cc

  live_file : (caller : Who) (node number : ℕ) (d : Document) → document_of s.documents number ≡ Some d → is_own_node caller node ≡ true → IsSoundFile (asks_as caller) node d
  live_file caller node number d e own = record {
    host = found_in_all (λ (x : Document). x.id.number == number) (λ (x : Document). is_host_path x.path) s.documents d e v.paths;
    made = found_in_all (λ (x : Document). x.id.number == number) (λ (x : Document). is_made s.made x.id.number) s.documents d e v.numbers_made;
    own = own;
  }

  own_view : (caller : Who) (view : ℕ) (who : Who) → subject_of s.applications caller view ≡ Some who → is_own_view caller view ≡ true
  own_view Who.Host view who e = refl
  own_view (Who.App app) zero who e = refl
  own_view (Who.App app) (suc k) who e = cc

  home_sound : (caller : Who) (view : ℕ) (who : Who) (number : ℕ) (d : Document) → document_of s.documents number ≡ Some d → subject_of s.applications caller view ≡ Some who → IsSoundHome (asks_as caller) view d
  home_sound caller view who number d e seen =
      let own : d.id.number ≡ number = nat_is d.id.number number (found_passes (λ (x : Document). x.id.number == number) s.documents d e) in
      record {
        file = live_file caller (file_node view d.id.number) number d e (own_file caller view d.id.number who seen (found_in_all (λ (x : Document). x.id.number == number) has_identifier s.documents d e v.identifiers));
        viewed = own_view caller view who seen;
        live = ap (document_of s.documents) own ∙ e;
      }

  folder_sound : (caller : Who) (node view : ℕ) (who : Who) (number : ℕ) (o : Option Document) → document_of s.documents number ≡ o → subject_of s.applications caller view ≡ Some who → IsSoundSight (asks_as caller) node (sight_of_folder view s.rights who o)
  folder_sound caller node view who number None e seen = tt
  folder_sound caller node view who number (Some d) e seen = elim (who_has s.rights who d.id.number Read) as (λ b. IsSoundSight (asks_as caller) node (cond b (Some (SightOfFolder (FolderOf view d (who_has s.rights who d.id.number Write)))) None)) [
    | true ↦ home_sound caller view who number d e seen
    | false ↦ tt
  ]

  folder_named : (folder named there : Bool) → (not folder || (not named && there)) ≡ true → folder ≡ true → named ≡ false
  folder_named true true there h e = cc
  folder_named true false there h e = refl
  folder_named false named there h e = cc

  -- a path at or below a live document that is a folder
  below_sound : (caller : Who) (view : ℕ) (who : Who) (number : ℕ) (d : Document) (path : List ℕ) → document_of s.documents number ≡ Some d → subject_of s.applications caller view ≡ Some who → is_host_path path ≡ true → d.folder ≡ true →
      (is_same path d.path || is_above d.path path) ≡ true → IsSoundBelow (asks_as caller) view d path
  below_sound caller view who number d path e seen host folder below =
      let own : d.id.number ≡ number = nat_is d.id.number number (found_passes (λ (x : Document). x.id.number == number) s.documents d e) in
      let sound : is_sound_folder s.told s.files d ≡ true = found_in_all (λ (x : Document). x.id.number == number) (is_sound_folder s.told s.files) s.documents d e v.folders_sound in
      record {
        host = host;
        made = found_in_all (λ (x : Document). x.id.number == number) (λ (x : Document). is_made s.made x.id.number) s.documents d e v.numbers_made;
        viewed = own_view caller view who seen;
        live = ap (document_of s.documents) own ∙ e;
        folder = folder;
        named = folder_named d.folder (is_same d.path root) (not s.told || is_folder s.files d.path) sound folder;
        below = below;
      }

  path_sound : (caller : Who) (node view : ℕ) (who : Who) (number : ℕ) (d : Document) (b w : Bool) → d.folder ≡ b → document_of s.documents number ≡ Some d → subject_of s.applications caller view ≡ Some who → is_own_node caller node ≡ true → IsSoundSight (asks_as caller) node (Some (sight_at_path view d b w))
  path_sound caller node view who number d true w f e seen own =
      let host : is_host_path d.path ≡ true = found_in_all (λ (x : Document). x.id.number == number) (λ (x : Document). is_host_path x.path) s.documents d e v.paths in
      (below_sound caller view who number d d.path e seen host f (ap (λ (b : Bool). b || is_above d.path d.path) (is_same-refl d.path)), own)
  path_sound caller node view who number d false w f e seen own = live_file caller node number d e own

  file_sound : (caller : Who) (node view : ℕ) (who : Who) (number : ℕ) (o : Option Document) → document_of s.documents number ≡ o → subject_of s.applications caller view ≡ Some who → is_own_node caller node ≡ true → IsSoundSight (asks_as caller) node (sight_of_document view s.rights who o)
  file_sound caller node view who number None e seen own = tt
  file_sound caller node view who number (Some d) e seen own = elim (who_has s.rights who d.id.number Read) as (λ b. IsSoundSight (asks_as caller) node (cond b (Some (sight_at_path view d d.folder (who_has s.rights who d.id.number Write))) None)) [
    | true ↦ path_sound caller node view who number d d.folder (who_has s.rights who d.id.number Write) refl e seen own
    | false ↦ tt
  ]

  view_sound : (caller : Who) (node : ℕ) (o p : Option Who) → p ≡ o → (sight : Who → Option Sight) → ((who : Who) → p ≡ Some who → IsSoundSight (asks_as caller) node (sight who)) → IsSoundSight (asks_as caller) node (seen_by o sight)
  view_sound caller node None p e sight h = tt
  view_sound caller node (Some who) p e sight h = h who e

  -- what was named below an exported folder, where that is sound
  abbrev IsSoundName : Option Naming → Type 0
  IsSoundName None = Unit {0}
  IsSoundName (Some n) = is_sound_naming s.made s.documents n ≡ true

  named_sound : (caller : Who) (node view : ℕ) (who : Who) (n : Naming) (o : Option Document) → document_of s.documents n.document.number ≡ o → is_sound_naming s.made s.documents n ≡ true → subject_of s.applications caller view ≡ Some who → is_own_node caller node ≡ true →
      IsSoundSight (asks_as caller) node (sight_below view s.rights who n.path o)
  named_sound caller node view who n None e sound seen own = tt
  named_sound caller node view who n (Some d) e sound seen own =
      let number = n.document.number in
      let rest = second_of_both (is_made s.made number) (is_host_path n.path && is_placed_naming (document_of s.documents number) n) sound in
      let placed : (d.folder && is_above d.path n.path) ≡ true = ap (λ (o : Option Document). is_placed_naming o n) (sym e) ∙ second_of_both (is_host_path n.path) (is_placed_naming (document_of s.documents number) n) rest in
      let below : (is_same n.path d.path || is_above d.path n.path) ≡ true = or_second (is_same n.path d.path) (is_above d.path n.path) (second_of_both d.folder (is_above d.path n.path) placed) in
      elim (who_has s.rights who d.id.number Read) as (λ b. IsSoundSight (asks_as caller) node (cond b (Some (SightBelow view d n.path (who_has s.rights who d.id.number Write))) None)) [
        | true ↦ (below_sound caller view who number d n.path e seen (first_of_both (is_host_path n.path) (is_placed_naming (document_of s.documents number) n) rest) (first_of_both d.folder (is_above d.path n.path) placed) below, own)
        | false ↦ tt
      ]
    where
      or_second : (a b : Bool) → b ≡ true → (a || b) ≡ true
      or_second true b h = refl
      or_second false b h = h

  naming_seen : (caller : Who) (node view : ℕ) (who : Who) (naming : Option Naming) → IsSoundName naming → subject_of s.applications caller view ≡ Some who → is_own_node caller node ≡ true → IsSoundSight (asks_as caller) node (sight_of_naming s view who naming)
  naming_seen caller node view who None sound seen own = tt
  naming_seen caller node view who (Some n) sound seen own = elim (n.view == view) as (λ b. IsSoundSight (asks_as caller) node (cond b (sight_below view s.rights who n.path (document_of s.documents n.document.number)) None)) [
    | true ↦ named_sound caller node view who n (document_of s.documents n.document.number) refl sound seen own
    | false ↦ tt
  ]

  -- a temporary, where that is sound
  abbrev IsSoundOwn : Option Temp → Type 0
  IsSoundOwn None = Unit {0}
  IsSoundOwn (Some t) = (is_host_path t.file.path ≡ true) × (is_taken s.told s.taken t.file ≡ true)

  temp_sound : (caller : Who) (node : ℕ) (who : Who) (t : Temp) (o : Option Document) → document_of s.documents t.document.number ≡ o → IsSoundOwn (Some t) → is_own_node caller node ≡ true → IsSoundSight (asks_as caller) node (sight_of_temp s.rights who t.file o)
  temp_sound caller node who t None e sound own = tt
  temp_sound caller node who t (Some d) e sound own = elim (who_has s.rights who d.id.number Read) as (λ b. IsSoundSight (asks_as caller) node (cond b (Some (SightOfTemp d t.file (who_has s.rights who d.id.number Write))) None)) [
    | true ↦ record {
      host = sound.0;
      made = found_in_all (λ (x : Document). x.id.number == t.document.number) (λ (x : Document). is_made s.made x.id.number) s.documents d e v.numbers_made;
      own = own;
      within = sound.1;
    }
    | false ↦ tt
  ]

  temp_seen : (caller : Who) (node view : ℕ) (who : Who) (temp : Option Temp) → IsSoundOwn temp → is_own_node caller node ≡ true → IsSoundSight (asks_as caller) node (sight_of_own_temp s view who temp)
  temp_seen caller node view who None sound own = tt
  temp_seen caller node view who (Some t) sound own = elim (t.view == view) as (λ b. IsSoundSight (asks_as caller) node (cond b (sight_of_temp s.rights who t.file (document_of s.documents t.document.number)) None)) [
    | true ↦ temp_sound caller node who t (document_of s.documents t.document.number) refl sound own
    | false ↦ tt
  ]

  there_sound : (caller : Who) (node : ℕ) (naming : Option Naming) (temp : Option Temp) (p : Place) → IsSoundName naming → IsSoundOwn temp → place_named node ≡ Some p → IsSoundSight (asks_as caller) node (sight_of_place s caller naming temp p)
  there_sound caller node naming temp (Place.Root view) sound owned e = view_sound caller node (subject_of s.applications caller view) (subject_of s.applications caller view) refl (sight_of_root s caller view) (λ who h. tt)
  there_sound caller node naming temp Place.ByApp sound owned e = elim (is_host caller) as (λ b. IsSoundSight (asks_as caller) node (cond b (Some (SightOfFolder (Views s.applications))) None)) [ true ↦ tt | false ↦ tt ]
  there_sound caller node naming temp (Place.Folder view id) sound owned e =
      view_sound caller node (subject_of s.applications caller view) (subject_of s.applications caller view) refl (λ who. sight_of_folder view s.rights who (document_of s.documents id.number))
      (λ who h. folder_sound caller node view who id.number (document_of s.documents id.number) refl h)
  there_sound caller node naming temp (Place.File view id) sound owned e =
      view_sound caller node (subject_of s.applications caller view) (subject_of s.applications caller view) refl (λ who. sight_of_document view s.rights who (document_of s.documents id.number))
      (λ who h. file_sound caller node view who id.number (document_of s.documents id.number) refl h (own_node caller view node who (in_its_view node (Place.File view id) e) h))
  there_sound caller node naming temp (Place.Named view k) sound owned e =
      view_sound caller node (subject_of s.applications caller view) (subject_of s.applications caller view) refl (λ who. sight_of_naming s view who naming)
      (λ who h. naming_seen caller node view who naming sound h (own_node caller view node who (in_its_view node (Place.Named view k) e) h))
  there_sound caller node naming temp (Place.Temporary view k) sound owned e =
      view_sound caller node (subject_of s.applications caller view) (subject_of s.applications caller view) refl (λ who. sight_of_own_temp s view who temp)
      (λ who h. temp_seen caller node view who temp owned (own_node caller view node who (in_its_view node (Place.Temporary view k) e) h))

  at_sound : (caller : Who) (node : ℕ) (naming : Option Naming) (temp : Option Temp) (p : Option Place) → IsSoundName naming → IsSoundOwn temp → place_named node ≡ p → IsSoundSight (asks_as caller) node (sight_at s caller naming temp p)
  at_sound caller node naming temp None sound owned e = tt
  at_sound caller node naming temp (Some p) sound owned e = there_sound caller node naming temp p sound owned e

  got_sound : (ns : List Naming) (i : ℕ) → list_all (is_sound_naming s.made s.documents) ns ≡ true → IsSoundName (slice_get ns i)
  got_sound [] i h = tt
  got_sound (n ∷ ns) zero h = first_of_both (is_sound_naming s.made s.documents n) (list_all (is_sound_naming s.made s.documents) ns) h
  got_sound (n ∷ ns) (suc i) h = got_sound ns i (second_of_both (is_sound_naming s.made s.documents n) (list_all (is_sound_naming s.made s.documents) ns) h)

  name_sound : (ns : List Naming) (k : ℕ) → list_all (is_sound_naming s.made s.documents) ns ≡ true → IsSoundName (naming_of ns k)
  name_sound ns k h = elim (k == 0) as (λ b. IsSoundName (cond b None (slice_get ns (k - 1)))) [ true ↦ tt | false ↦ got_sound ns (k - 1) h ]

  temp_host : (who : Who) (added : ℕ) (t : OwnTemp) → is_sound_temp s.made s.documents who added t ≡ true → is_host_path t.temp.file.path ≡ true
  temp_host who added t h =
      let numbered : Bool = nat_lt 0 t.k && nat_le t.k added in
      let made : Bool = is_made s.made t.temp.document.number in
      let placed : Bool = is_placed_temp (document_of s.documents t.temp.document.number) t.temp in
      let viewed : Bool = is_viewed_temp who t.temp in
      let later : Bool = is_later_file t.temp.file in
      first_of_both (is_host_path t.temp.file.path) (nat_lt 0 t.temp.file.generation)
      (second_of_both viewed later (second_of_both placed (viewed && later) (second_of_both made (placed && (viewed && later)) (second_of_both numbered (made && (placed && (viewed && later))) h))))

  own_sound : (who : Who) (added k : ℕ) (ts : List OwnTemp) → list_all (is_sound_temp s.made s.documents who added) ts ≡ true → list_all (is_taken_temp s.told s.taken) ts ≡ true → IsSoundOwn (temp_of ts k)
  own_sound who added k ts h l = step (find (λ (t : OwnTemp). t.k == k) ts) refl
    where
      step : (o : Option OwnTemp) → find (λ (t : OwnTemp). t.k == k) ts ≡ o → IsSoundOwn (option_map (λ t. t.temp) o)
      step None e = tt
      step (Some t) e = (
        temp_host who added t (found_in_all (λ (x : OwnTemp). x.k == k) (is_sound_temp s.made s.documents who added) ts t e h),
        found_in_all (λ (x : OwnTemp). x.k == k) (is_taken_temp s.told s.taken) ts t e l,
      )

  -- of a connection whose namings and temporaries are sound
  pub place-sound : (c : Connection) (node : ℕ) → SoundNamings s.made s.documents c.namings → SoundTemps s.made s.documents c.who c.added c.temps → has_taken_temps s.told s.taken c ≡ true → IsSoundSight (asks_as c.who) node (sight_on s c node)
  place-sound c node names temps within =
      at_sound c.who node (naming_on c node) (temp_on c node) (place_named node) (name_sound c.namings (id_of_node node) names.sound) (own_sound c.who c.added (id_of_node node) c.temps temps.sound within) refl

  -- what a look shows at a path
  looked_taken : (path : List ℕ) (g size moment : ℕ) (o : Option File) (b r : Bool) → file_at s.files path ≡ o → Look.File g size moment ≡ look_of (content_of o b r) → is_taken s.told s.taken (file_name path g) ≡ true
  looked_taken path g size moment None true r e k = cc
  looked_taken path g size moment None false r e k = cc
  looked_taken path g size moment (Some x) b r e k =
      let generation : g ≡ x.generation = cc in
      let same : x.path ≡ path = is_same-eq x.path path (found_passes (λ (f : File). is_same f.path path) s.files x e) in
      let known : is_taken s.told s.taken (file_name x.path x.generation) ≡ true = found_in_all (λ (f : File). is_same f.path path) (is_taken_file s.told s.taken) s.files x e v.generations_sound.files_taken in
      (λ i. is_taken s.told s.taken (file_name (sym same i) (generation i))) ∙ known

  pub present-taken : (who : Who) → PresentTaken (asking_in s who) (files_told s)
  present-taken who path g size moment shown = step s.told refl shown
    where
      step : (b : Bool) → s.told ≡ b → IsShown (cond b (Some (held_in s)) None) (AtPath path) (Look.File g size moment) → is_taken s.told s.taken (file_name path g) ≡ true
      step false e k = ap (λ (b : Bool). is_taken b s.taken (file_name path g)) e
      step true e k = looked_taken path g size moment (file_at s.files path) (is_folder s.files path) (has_room s.files path) refl k

-- ---- the state after

counted_one : (queued : ℕ) (c : Connection) (b : Bool) → is_sound_connection queued c ≡ true → is_sound_connection queued (cond b (record c { opens = c.opens + 1 }) c) ≡ true
counted_one queued c true h = h
counted_one queued c false h = h

counted_sound : (queued seat : ℕ) (cs : List Connection) → list_all (is_sound_connection queued) cs ≡ true → list_all (is_sound_connection queued) (map (counted seat) cs) ≡ true
counted_sound queued seat [] h = refl
counted_sound queued seat (c ∷ cs) h = grind (arith, counted_one queued c (c.seat == seat), counted_sound queued seat cs)

counted_seats : (seat : ℕ) (cs : List Connection) → seats (map (counted seat) cs) ≡ seats cs
counted_seats seat [] = refl
counted_seats seat (c ∷ cs) = elim (c.seat == seat) as (λ b. (cond b (record c { opens = c.opens + 1 }) c).seat ∷ seats (map (counted seat) cs) ≡ c.seat ∷ seats cs) [
  | true ↦ ap (λ (x : List ℕ). c.seat ∷ x) (counted_seats seat cs)
  | false ↦ ap (λ (x : List ℕ). c.seat ∷ x) (counted_seats seat cs)
]

has_place : (limit : ℕ) (handles : List OpenHandle) → is_full limit handles ≡ false → nat_lt (length handles) limit ≡ true
has_place limit handles h = not_not (nat_lt (length handles) limit) h
  where
    not_not : (b : Bool) → not b ≡ false → b ≡ true
    not_not true e = refl
    not_not false e = cc

-- what is named on a connection
named_one : (queued : ℕ) (c : Connection) (new : Naming) (b : Bool) → is_sound_connection queued c ≡ true → is_sound_connection queued (cond b (record c { namings = with_naming c.namings new }) c) ≡ true
named_one queued c new true h = h
named_one queued c new false h = h

named_sound_all : (queued seat : ℕ) (new : Naming) (cs : List Connection) → list_all (is_sound_connection queued) cs ≡ true → list_all (is_sound_connection queued) (map (named_on seat new) cs) ≡ true
named_sound_all queued seat new [] h = refl
named_sound_all queued seat new (c ∷ cs) h = grind (arith, named_one queued c new (c.seat == seat), named_sound_all queued seat new cs)

named_seats : (seat : ℕ) (new : Naming) (cs : List Connection) → seats (map (named_on seat new) cs) ≡ seats cs
named_seats seat new [] = refl
named_seats seat new (c ∷ cs) = elim (c.seat == seat) as (λ b. (cond b (record c { namings = with_naming c.namings new }) c).seat ∷ seats (map (named_on seat new) cs) ≡ c.seat ∷ seats cs) [
  | true ↦ ap (λ (x : List ℕ). c.seat ∷ x) (named_seats seat new cs)
  | false ↦ ap (λ (x : List ℕ). c.seat ∷ x) (named_seats seat new cs)
]

named_alike : (seat : ℕ) (new : Naming) (c : Connection) → Alike c (named_on seat new c)
named_alike seat new c = elim (c.seat == seat) as (λ b. Alike c (cond b (record c { namings = with_naming c.namings new }) c)) [
  | true ↦ record { seat = refl; who = refl; kind = refl; opens = omega arith }
  | false ↦ record { seat = refl; who = refl; kind = refl; opens = omega arith }
]

counted_at : (P : Connection → Type 0) → ((c : Connection) → P c → P (record c { opens = c.opens + 1 })) → (seat : ℕ) (cs : List Connection) → AtSeat seat P cs → AtSeat seat P (map (counted seat) cs)
counted_at P keep seat [] h = tt
counted_at P keep seat (c ∷ cs) h = (one (c.seat == seat) h.0, counted_at P keep seat cs h.1)
  where
    one : (b : Bool) → ((c.seat == seat) ≡ true → P c) → ((cond b (record c { opens = c.opens + 1 }) c).seat == seat) ≡ true → P (cond b (record c { opens = c.opens + 1 }) c)
    one true k = λ e. keep c (k e)
    one false k = k

-- the temporaries of a connection change
temps_one : (queued : ℕ) (c : Connection) (change : TempChange) (b : Bool) → is_sound_connection queued c ≡ true → is_sound_connection queued (cond b (with_temps change c) c) ≡ true
temps_one queued c change true h = h
temps_one queued c change false h = h

temps_sound_all : (queued seat : ℕ) (change : TempChange) (cs : List Connection) → list_all (is_sound_connection queued) cs ≡ true → list_all (is_sound_connection queued) (map (temps_changed seat change) cs) ≡ true
temps_sound_all queued seat change [] h = refl
temps_sound_all queued seat change (c ∷ cs) h =
    both (is_sound_connection queued (temps_changed seat change c)) (list_all (is_sound_connection queued) (map (temps_changed seat change) cs))
    (temps_one queued c change (c.seat == seat) (first_of_both (is_sound_connection queued c) (list_all (is_sound_connection queued) cs) h))
    (temps_sound_all queued seat change cs (second_of_both (is_sound_connection queued c) (list_all (is_sound_connection queued) cs) h))

temps_seats : (seat : ℕ) (change : TempChange) (cs : List Connection) → seats (map (temps_changed seat change) cs) ≡ seats cs
temps_seats seat change [] = refl
temps_seats seat change (c ∷ cs) = elim (c.seat == seat) as (λ b. (cond b (with_temps change c) c).seat ∷ seats (map (temps_changed seat change) cs) ≡ c.seat ∷ seats cs) [
  | true ↦ ap (λ (x : List ℕ). c.seat ∷ x) (temps_seats seat change cs)
  | false ↦ ap (λ (x : List ℕ). c.seat ∷ x) (temps_seats seat change cs)
]

temps_alike : (seat : ℕ) (change : TempChange) (c : Connection) → Alike c (temps_changed seat change c)
temps_alike seat change c = elim (c.seat == seat) as (λ b. Alike c (cond b (with_temps change c) c)) [
  | true ↦ record { seat = refl; who = refl; kind = refl; opens = omega arith }
  | false ↦ record { seat = refl; who = refl; kind = refl; opens = omega arith }
]

temps_names : (seat : ℕ) (change : TempChange) (c : Connection) → (temps_changed seat change c).namings ≡ c.namings
temps_names seat change c = elim (c.seat == seat) as (λ b. (cond b (with_temps change c) c).namings ≡ c.namings) [ true ↦ refl | false ↦ refl ]

resized_generation : (size now : ℕ) (f : File) → (resized size now f).generation ≡ f.generation
resized_generation size now f = refl

-- c is the connection that asks, which the state has as `found`
pub record IsAsking (c found : Connection) : Type 0 where
  pub opens : found.opens ≡ c.opens
  pub who : found.who ≡ c.who
  pub namings : found.namings ≡ c.namings
  pub temps : found.temps ≡ c.temps
  pub added : found.added ≡ c.added
  pub mount : is_mount found.kind ≡ true

module _ (s : State) (c found : Connection) (here : connection_of s.connections c.seat ≡ Some found) (is : IsAsking c found) (v : Valid s) where
  abbrev asks : Asking
  asks = asking_in s c.who

  connections-valid : (change : HandleChange) → SoundConnections s.limits.queued (connections_after c change s.connections)
  connections-valid HandlesStay = (v.seats_differ, v.connections_sound)
  connections-valid (Opens handle) = (
    subst (IsDistinct nat_eq) (sym (counted_seats c.seat s.connections)) v.seats_differ,
    counted_sound s.limits.queued c.seat s.connections v.connections_sound,
  )
  connections-valid (Closes fh) = (v.seats_differ, v.connections_sound)

  then-valid : (change : NameChange) (cs : List Connection) → SoundConnections s.limits.queued cs → SoundConnections s.limits.queued (connections_named c change cs)
  then-valid NamesStay cs h = h
  then-valid (Names new) cs h = (
    subst (IsDistinct nat_eq) (sym (named_seats c.seat new cs)) h.0,
    named_sound_all s.limits.queued c.seat new cs h.1,
  )
  then-valid (Temps change) cs h = (
    subst (IsDistinct nat_eq) (sym (temps_seats c.seat change cs)) h.0,
    temps_sound_all s.limits.queued c.seat change cs h.1,
  )

  named-handles : (change : NameChange) (cs : List Connection) (hs : List OpenHandle) → SoundHandles s.limits.handles cs hs → SoundHandles s.limits.handles (connections_named c change cs) hs
  named-handles NamesStay cs hs h = h
  named-handles (Names new) cs hs h = mapped-handles (named_on c.seat new) (named_alike c.seat new) s.limits.handles cs hs h
  named-handles (Temps change) cs hs h = mapped-handles (temps_changed c.seat change) (temps_alike c.seat change) s.limits.handles cs hs h

  -- ---- what it has named and made

  abbrev Own : Connection → Type 0
  Own d = (d.namings ≡ c.namings) × HasTemps c.who c.added c.temps d

  at-asking : AtSeat c.seat Own s.connections
  at-asking = found-at c.seat Own s.connections found v.seats_differ here (is.namings, record { caller = is.who; count = is.added; own = is.temps })

  counted-own : (d : Connection) → Own d → Own (record d { opens = d.opens + 1 })
  counted-own d h = (h.0, record { caller = h.1.caller; count = h.1.count; own = h.1.own })

  at-after : (change : HandleChange) → AtSeat c.seat Own (connections_after c change s.connections)
  at-after HandlesStay = at-asking
  at-after (Opens handle) = counted_at Own counted-own c.seat s.connections at-asking
  at-after (Closes fh) = at-asking

  at-part : (P : Connection → Type 0) → ((d : Connection) → Own d → P d) → (cs : List Connection) → AtSeat c.seat Own cs → AtSeat c.seat P cs
  at-part P f [] h = tt
  at-part P f (d ∷ ds) h = (λ e. f d (h.0 e), at-part P f ds h.1)

  seats-after : (change : HandleChange) → SoundSeats s.made s.documents s.told s.taken (connections_after c change s.connections)
  seats-after HandlesStay = valid-seats s v
  seats-after (Opens handle) = seats-mapped s.made s.documents s.told s.taken (counted c.seat) (counted_same c.seat) s.connections (valid-seats s v)
  seats-after (Closes fh) = valid-seats s v

  names-valid : (file : FileChange) (change : HandleChange) (names : NameChange) → NamesFine asks file c.namings (temps_seen s c) names → AreSoundNames s.made s.documents (connections_named c names (connections_after c change s.connections))
  names-valid file change NamesStay h = (seats-after change).namings
  names-valid file change (Names new) h =
      names-named s.made s.documents new h.0 c.seat c.namings h.1 (connections_after c change s.connections)
      (at-part (λ (d : Connection). d.namings ≡ c.namings) (λ d o. o.0) (connections_after c change s.connections) (at-after change)) (seats-after change).namings
  names-valid file change (Temps of) h = names-mapped s.made s.documents (temps_changed c.seat of) (temps_names c.seat of) (connections_after c change s.connections) (seats-after change).namings

  temps-valid : (file : FileChange) (change : HandleChange) (names : NameChange) → NamesFine asks file c.namings (temps_seen s c) names → AreSoundTemps s.made s.documents (connections_named c names (connections_after c change s.connections))
  temps-valid file change NamesStay h = (seats-after change).temps
  temps-valid file change (Names new) h = temps-named s.made s.documents (named_on c.seat new) (named_temps c.seat new) (connections_after c change s.connections) (seats-after change).temps
  temps-valid file change (Temps of) h =
      temps-changed s.made s.documents c.who c.added c.temps of h.0 c.seat (connections_after c change s.connections)
      (at-part (HasTemps c.who c.added c.temps) (λ d o. o.1) (connections_after c change s.connections) (at-after change)) (seats-after change).temps

  within-valid : (file : FileChange) (change : HandleChange) (names : NameChange) → IsNext s.taken file → NamesFine asks file c.namings (temps_seen s c) names →
      list_all (has_taken_temps s.told (taken_after file s.taken)) (connections_named c names (connections_after c change s.connections)) ≡ true
  within-valid file change names next h = step names h
    where
      before : list_all (has_taken_temps s.told (taken_after file s.taken)) (connections_after c change s.connections) ≡ true
      before = temps-taken s.told s.taken file next (connections_after c change s.connections) (seats-after change).within

      step : (names : NameChange) → NamesFine asks file c.namings (temps_seen s c) names → list_all (has_taken_temps s.told (taken_after file s.taken)) (connections_named c names (connections_after c change s.connections)) ≡ true
      step NamesStay k = before
      step (Names new) k = within-named s.told (taken_after file s.taken) c.seat new (connections_after c change s.connections) ∙ before
      step (Temps of) k = within-changed s.told (taken_after file s.taken) of k.1 c.seat (connections_after c change s.connections) before

  -- ---- what is open

  handles-valid : (file : FileChange) (change : HandleChange) → HandleFine asks (room_of s c) file change → SoundHandles s.limits.handles (connections_after c change s.connections) (handles_after c change s.handles)
  handles-valid file HandlesStay h = valid-handles s v
  handles-valid file (Opens handle) h = opened-handles c found is.opens is.who handle s.limits.handles s.connections s.handles here is.mount (has_place s.limits.handles (handles_of s.handles c.seat) h.0) h.1.host h.1.own (valid-handles s v)
  handles-valid file (Closes fh) h = closed-handles (λ (x : OpenHandle). not (is_handle c.seat fh x)) s.limits.handles s.connections s.handles (valid-handles s v)

  made-valid : (file : FileChange) (change : HandleChange) → HandleFine asks (room_of s c) file change → list_all (is_of_made s.made) (handles_after c change s.handles) ≡ true
  made-valid file HandlesStay h = v.handles_made
  made-valid file (Opens handle) h = list_all-append (is_of_made s.made) s.handles (new_handle c handle ∷ []) ∙ both (list_all (is_of_made s.made) s.handles) (has_made_document s.made handle && true) v.handles_made (both (has_made_document s.made handle) true h.1.made refl)
  made-valid file (Closes fh) h = list_all-filter (is_of_made s.made) (λ (x : OpenHandle). not (is_handle c.seat fh x)) s.handles v.handles_made

  taken-valid : (file : FileChange) (change : HandleChange) → IsNext s.taken file → HandleFine asks (room_of s c) file change → list_all (has_taken_handle s.told (taken_after file s.taken)) (handles_after c change s.handles) ≡ true
  taken-valid file change next h = step change h
    where
      before : list_all (has_taken_handle s.told (taken_after file s.taken)) s.handles ≡ true
      before = handles-taken s.told s.taken file next s.handles v.handles_taken

      step : (change : HandleChange) → HandleFine asks (room_of s c) file change → list_all (has_taken_handle s.told (taken_after file s.taken)) (handles_after c change s.handles) ≡ true
      step HandlesStay k = before
      step (Opens handle) k =
          let test : OpenHandle → Bool = has_taken_handle s.told (taken_after file s.taken) in
          list_all-append test s.handles (new_handle c handle ∷ [])
          ∙ both (list_all test s.handles) (test (new_handle c handle) && true) before (both (test (new_handle c handle)) true k.1.within refl)
      step (Closes fh) k = list_all-filter (has_taken_handle s.told (taken_after file s.taken)) (λ (x : OpenHandle). not (is_handle c.seat fh x)) s.handles before

  -- ---- the files

  next-of : (tree : Option Held) (file : FileChange) → FileFine asks tree file → IsNext s.taken file
  next-of tree FilesStay h = tt
  next-of tree (Writes name offset content now) h = tt
  next-of tree (Resizes name size now) h = tt
  next-of tree (Creates path now) h = tt
  next-of tree (Adds name now) h = h.2
  next-of tree (Stands name) h = tt

  abbrev After : FileChange → Type 0
  After change = Stood s.told s.files (taken_after change s.taken) (files_after true change (held_in s))

  paths-sound : SoundPaths (paths_of s.files)
  paths-sound = sound-paths s.files s.told (valid-files s v)

  told-valid : (change : FileChange) → s.told ≡ true → FileFine asks (Some (held_in s)) change → After change
  told-valid FilesStay t h = record { paths = paths-sound; generations = v.generations_sound; covers = λ q k. k }
  told-valid (Writes name offset content now) t h =
      let same : paths_of (change_named name (written offset content now) s.files) ≡ paths_of s.files = changed-paths name (written offset content now) (written-path offset content now) s.files in
      record {
        paths = subst SoundPaths (sym same) paths-sound;
        generations = changed-generations name (written offset content now) (written-path offset content now) (written-generation offset content now) s.told s.files s.hidden s.taken v.generations_sound;
        covers = covers-same s.files (change_named name (written offset content now) s.files) same;
      }
  told-valid (Resizes name size now) t h =
      let same : paths_of (change_named name (resized size now) s.files) ≡ paths_of s.files = changed-paths name (resized size now) (λ x. refl) s.files in
      record {
        paths = subst SoundPaths (sym same) paths-sound;
        generations = changed-generations name (resized size now) (λ x. refl) (resized_generation size now) s.told s.files s.hidden s.taken v.generations_sound;
        covers = covers-same s.files (change_named name (resized size now) s.files) same;
      }
  told-valid (Creates path now) t h =
      let missing = missing-is s.files path (sym h.0) in
      record {
        paths = put-paths (new_file path now) s.files missing.0 missing.1 (sym h.1) h.2 paths-sound;
        generations = made-generations (new_file path now) s.files refl missing.0 s.told s.hidden s.taken v.generations_sound;
        covers = covers-put (new_file path now) s.files;
      }
  told-valid (Adds name now) t h = record {
    paths = paths-sound;
    generations =
        added-generations s.told s.files s.hidden s.taken (taken_after (Adds name now) s.taken) name now t (sym h.0) h.1 h.2
        (after-differ s.taken (Adds name now) v.generations_sound.taken_differ) (after-taken s.told s.taken (Adds name now) h.2) (added-taken s.told s.taken name now) v.generations_sound;
    covers = λ q k. k;
  }
  told-valid (Stands name) t h = turned-generations s.told s.files s.hidden s.taken name paths-sound v.generations_sound (sym h)

  not-told : (change : FileChange) → files_after false change (held_in s) ≡ held_in s
  not-told FilesStay = refl
  not-told (Writes name offset content now) = refl
  not-told (Resizes name size now) = refl
  not-told (Creates path now) = refl
  not-told (Adds name now) = refl
  not-told (Stands name) = refl

  untold-valid : (change : FileChange) → s.told ≡ false → SoundGenerations s.told s.files s.hidden (taken_after change s.taken)
  untold-valid change t =
      subst (λ (b : Bool). SoundGenerations b s.files s.hidden (taken_after change s.taken)) (sym t)
      (untold-generations s.files s.hidden s.taken (taken_after change s.taken) (after-differ s.taken change v.generations_sound.taken_differ)
      (subst (λ (b : Bool). SoundGenerations b s.files s.hidden s.taken) t v.generations_sound))

  folder-kept : (told : Bool) (files : List File) → Covers s.files files → (d : Document) → is_sound_folder told s.files d ≡ true → is_sound_folder told files d ≡ true
  folder-kept told files f d h = by-parts d.folder (is_same d.path root) told (is_folder s.files d.path) (is_folder files d.path) (folder-grown s.files files f d.path) h
    where
      by-parts : (a b t x y : Bool) → (x ≡ true → y ≡ true) → (not a || (not b && (not t || x))) ≡ true → (not a || (not b && (not t || y))) ≡ true
      by-parts false b t x y g k = refl
      by-parts true true t x y g k = k
      by-parts true false false x y g k = refl
      by-parts true false true x y g k = g k

  -- by whether the tree tells its files
  files-valid : (change : FileChange) (b : Bool) → s.told ≡ b → FileFine asks (cond b (Some (held_in s)) None) change → SoundFiles s.told (files_after b change (held_in s)).present
  files-valid change true t h = files-sound (files_after true change (held_in s)).present s.told (told-valid change t h).paths (λ n. let no : true ≡ false = sym t ∙ n in cc)
  files-valid change false t h = subst (λ (held : Held). SoundFiles s.told held.present) (sym (not-told change)) (valid-files s v)

  generations-valid : (change : FileChange) (b : Bool) → s.told ≡ b → FileFine asks (cond b (Some (held_in s)) None) change → SoundGenerations s.told (files_after b change (held_in s)).present (files_after b change (held_in s)).hidden (taken_after change s.taken)
  generations-valid change true t h = (told-valid change t h).generations
  generations-valid change false t h = subst (λ (held : Held). SoundGenerations s.told held.present held.hidden (taken_after change s.taken)) (sym (not-told change)) (untold-valid change t)

  folders-valid : (change : FileChange) (b : Bool) → s.told ≡ b → FileFine asks (cond b (Some (held_in s)) None) change → list_all (is_sound_folder s.told (files_after b change (held_in s)).present) s.documents ≡ true
  folders-valid change true t h =
      list_all-weaken (is_sound_folder s.told s.files) (is_sound_folder s.told (files_after true change (held_in s)).present)
      (folder-kept s.told (files_after true change (held_in s)).present (told-valid change t h).covers) s.documents v.folders_sound
  folders-valid change false t h = ap (λ (held : Held). list_all (is_sound_folder s.told held.present) s.documents) (not-told change) ∙ v.folders_sound

  -- ---- all of it

  pub done-valid : (d : NodeDoing) → Fine asks (files_told s) (room_of s c) c.namings (temps_seen s c) d → Valid (node_done s c d)
  done-valid d h =
      let next : IsNext s.taken d.file = next-of (files_told s) d.file h.1 in
      Valid-open s _ _ (files_after s.told d.file (held_in s)) (taken_after d.file s.taken) v
      (then-valid d.names (connections_after c d.handle s.connections) (connections-valid d.handle))
      (named-handles d.names (connections_after c d.handle s.connections) (handles_after c d.handle s.handles) (handles-valid d.file d.handle h.0))
      (record {
        made = made-valid d.file d.handle h.0;
        handles_taken = taken-valid d.file d.handle next h.0;
        files = files-valid d.file s.told refl h.1;
        generations = generations-valid d.file s.told refl h.1;
        seats = record {
          namings = names-valid d.file d.handle d.names h.2;
          temps = temps-valid d.file d.handle d.names h.2;
          within = within-valid d.file d.handle d.names next h.2;
        };
        folders = folders-valid d.file s.told refl h.1;
      })

  settled-valid : (o : Option NodeVerdict) → IfMet (files_told s) (Fine asks (files_told s) (room_of s c) c.namings (temps_seen s c)) o → Valid (settled_on_node s c o).0
  settled-valid None h = v
  settled-valid (Some (Errs errno)) h = v
  settled-valid (Some (Yields d)) h = done-valid d h

  named-soundly : SoundNamings s.made s.documents c.namings
  named-soundly = subst (SoundNamings s.made s.documents) is.namings (names-found s.made s.documents c.seat s.connections found here v.namings_sound)

  made-soundly : SoundTemps s.made s.documents c.who c.added c.temps
  made-soundly =
      subst (λ (w : Who). SoundTemps s.made s.documents w c.added c.temps) is.who
      (subst (λ (n : ℕ). SoundTemps s.made s.documents found.who n c.temps) is.added
      (subst (λ (ts : List OwnTemp). SoundTemps s.made s.documents found.who found.added ts) is.temps (temps-found s.made s.documents c.seat s.connections found here v.temps_sound)))

  taken-soundly : has_taken_temps s.told s.taken c ≡ true
  taken-soundly = ap (λ (ts : List OwnTemp). list_all (is_taken_temp s.told s.taken) ts) (sym is.temps) ∙ found_in_all (λ (x : Connection). x.seat == c.seat) (has_taken_temps s.told s.taken) s.connections found here v.temps_taken

  node-fine : (r : NodeRequest) (given : Given) → LawfulNode s c r given → IfMet (files_told s) (Fine asks (files_told s) (room_of s c) c.namings (temps_seen s c)) (node_given (walk_on_node s c r) given)
  node-fine r given l =
      on-given (files_told s) (Fine asks (files_told s) (room_of s c) c.namings (temps_seen s c)) (walk_on_node s c r) (moment_given given.now) given.listed given.looks (is_tree given.fault) l.looks
      (walk-fine asks (files_told s) (facts_of s c r.node) r named-soundly.within (present-taken s v c.who) (record { next = λ path. refl }) (place-sound s v c r.node named-soundly made-soundly taken-soundly) r.op)

  pub node-valid : (r : NodeRequest) (given : Given) → LawfulNode s c r given → Valid (node_answer s c r given).0
  node-valid r given l = settled-valid (node_given (walk_on_node s c r) given) (node-fine r given l)
