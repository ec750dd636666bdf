-- What may be asked of a node is done: a CREATE over a tree that tells its files, all else over any.
use Rattle.std.proofs.Common.{◌≡◌, ℕ, ◌+◌, ◌==◌, nat_lt, length, List, [], ◌∷◌, ◌++◌, Bool, true, false, not, ◌&&◌, ◌||◌, cond, Option, Some, None, is_some, refl, sym, ap, subst, ◌∙◌, inl, inr, ◌⊎◌}
use Rattle.std.proofs.Common.{arith}
use Rattle.std.proofs.lemmas.Bool.Decides.{nat_tests}
use Rattle.std.specs.List.{list_any}
use Rattle.portal_base.specs.Content.{content_of, file_at, file_named, has_room, is_folder, look_at, look_of, is_named}
use Rattle.file_generations.specs.Generations.{Held, all_held, held_with, is_held, may_freshen, may_turn}
use Rattle.portal_base.specs.Names.{is_same, name_of, named_child}
use Rattle.portal_base.specs.FolderNames.{names_in}
use Rattle.portal_base.specs.declared.files.ChildName.{ChildName}
use Rattle.portal_base.specs.declared.files.File.{File}
use Rattle.portal_base.specs.declared.files.FileName.{FileName}
use Rattle.portal_base.specs.declared.files.Look.{Look}
use Rattle.portal_model.specs.declared.entry.Fault.{Fault}
use Rattle.portal_model.specs.declared.entry.Given.{Given}
use Rattle.portal_model.specs.declared.handle.Handle.{Handle}
use Rattle.portal_model.specs.declared.naming.Naming.{Naming}
use Rattle.portal_model.specs.declared.reply.Attr.{Attr}
use Rattle.portal_model.specs.declared.reply.NodeAnswer.{NodeAnswer}
use Rattle.portal_model.specs.declared.request.NodeOp.{NodeOp}
use Rattle.portal_model.specs.declared.request.NodeRequest.{NodeRequest}
use Rattle.portal_model.specs.declared.state.Connection.{Connection}
use Rattle.portal_model.specs.declared.state.Document.{Document}
use Rattle.portal_model.specs.declared.temporary.OwnTemp.{OwnTemp}
use Rattle.portal_model.specs.Access.{access, access_file, access_folder, executes, writes_to}
use Rattle.portal_model.specs.Add.{is_file, is_folder_look}
use Rattle.portal_model.specs.Allowed.{always, at_look, at_sight, folder_within, has_child, has_document, has_file, has_named, has_number, has_path, is_file_handle, is_folder_handle, is_free, is_free_child, is_missing, is_refusal, look_told, may_access, may_ask_at, may_ask_node, may_create_in, may_get_attr, may_list, may_set_attr, may_set_open, may_write_to, never, names_within, on_handle, within, within_at, has_temp, may_begin, may_rename, may_rename_at, may_rename_from, may_rename_in, may_rename_temp, may_unlink, may_unlink_in, temps_within, temps_within_in}
use Rattle.portal_model.specs.Attributes.{attr_of_file, attr_of_folder, is_writable, on_node}
use Rattle.portal_model.specs.Bus.{is_tree, moment_given}
use Rattle.portal_model.specs.Create.{Made, child_made, create, create_at, create_child, create_in, create_there, own_made, add_temp, create_other, create_own, create_temp, next_file, next_temp_node, temp_made}
use Rattle.portal_model.specs.Errno.{eacces, ebadf, efbig, einval, eisdir, emfile, enametoolong, enoent, enotdir, eperm, eexist, exdev}
use Rattle.portal_model.specs.Fsync.{fsync, fsync_open}
use Rattle.portal_model.specs.GetAttr.{get_attr_by_handle, get_attr_by_place, get_attr_open, names_handle, tells_file, tells_folder}
use Rattle.portal_model.specs.Lookup.{entry_named, found_child, found_document, found_folder, lookup_child, lookup_in, naming_in, named_in_root, named_in_views, node_of_naming, entry_of_file, found_own}
use Rattle.portal_model.specs.Node.{NodeFacts, facts_of, node_answer, node_given, node_walk, settled_on_node, walk_on_node, temps_seen}
use Rattle.portal_model.specs.NodeLaws.{ToldForNode}
use Rattle.portal_model.specs.NodeOutside.{LawfulNode}
use Rattle.portal_model.specs.NodeVerdict.{NodeVerdict, FilesStay, Resizes, Errs, Yields, OnFile, OnHandle, Spot, at_file, at_name, by_file_handle, by_look, by_place, errs, errs_if, if_file, is_too_long, name_at, no_file, spot, told, changes_temps, is_dots}
use Rattle.portal_model.specs.Open.{file_handle, has_no_mode, opened_file, open_file, open_folder, open_name, open_node, opens_to_write, truncates}
use Rattle.portal_model.specs.OpenDir.{names_of_children, open_dir, open_dir_in, open_found, opened_folder, parent_of_exported}
use Rattle.portal_model.specs.Outside.{files_told}
use Rattle.portal_model.specs.Place.{Folder, RootOf, Views, FolderOf, Exported, Sight, SightOfFile, SightBelow, SightOfFolder, file_node, reach_at, sight_on, SightOfTemp, temp_node}
use Rattle.portal_model.specs.Reach.{OpenFile, may_read_now, may_write_now, open_file_of, reaches}
use Rattle.portal_model.specs.Read.{read, read_limit, read_open}
use Rattle.portal_model.specs.ReadDir.{read_names}
use Rattle.portal_model.specs.ReleaseDir.{release_dir}
use Rattle.portal_model.specs.Rename.{AFile, AFolder, Home, RenameCall, Seen, are_too_long, home_of, is_own_name, rename, rename_at, rename_call, rename_homes, rename_in, rename_temp, rename_to, same_home, saved, temp_at, with_seen}
use Rattle.portal_model.specs.SeatNames.{lacks_number, Drops, Renames, found_temp, lacks_temp}
use Rattle.portal_model.specs.SetAttr.{SetsAttr, resize, set_attr, set_attr_at, set_attr_of, set_attr_of_folder, set_attr_of_open, set_attr_open, sets_by_handle, sets_owner_or_mode, sets_size}
use Rattle.portal_model.specs.State.{State, handle_of, held_in}
use Rattle.portal_model.specs.Unlink.{unlink, unlink_at, unlink_in, unlink_temp}
use Rattle.portal_model.specs.Valid.{is_none}
use Rattle.portal_model.specs.Walk.{Walk, Answers, Looks, Ends, Lists, AtPath, Changes, Gives, is_found, listed_by, listed_shown, look_of_file, looks_shown, names_listed, shown_at, walked_with, Turns}
use Rattle.portal_model.specs.Write.{write, write_content, write_limit, write_open}
use Rattle.portal_model.proofs.DocumentChanges.{both, second_of_both}
use Rattle.portal_model.proofs.GenerationsValid.{any-joined, found-any}
use Rattle.portal_model.proofs.ListLookups.{found_passes, nat_is}
use Rattle.portal_model.proofs.LooksTaken.{walk_listed, walk_taken}

-- what a walk comes to over a tree of these files, where nothing fails
abbrev pub met : {X : Type 0} → Held → ℕ → Walk X → X
met held now (Answers x) = x
met held now (Looks target next) = met held now (next (shown_at held target))
met held now (Ends call done missing) = cond (is_found held call) (done now) missing
met held now (Lists path done missing) = listed_by done missing (names_listed held.present path)

last_met : {X : Type 0} (b : Bool) (now : ℕ) (listed : Option (List ChildName)) (call : _) (done : ℕ → X) (missing : X) → walked_with (Ends call done missing) now listed (cond b [] (Look.Missing ∷ [])) false ≡ Some (cond b (done now) missing)
last_met true now listed call done missing = refl
last_met false now listed call done missing = refl

pub walked_met : {X : Type 0} (held : Held) (now : ℕ) (w : Walk X) → walked_with w now (listed_shown held w) (looks_shown held w) false ≡ Some (met held now w)
walked_met held now (Answers x) = refl
walked_met held now (Looks target next) = walked_met held now (next (shown_at held target))
walked_met held now (Ends call done missing) = last_met (is_found held call) now None call done missing
walked_met held now (Lists path done missing) = refl

abbrev pub is_done : NodeVerdict → Bool
is_done (Errs errno) = false
is_done (Yields d) = true

both_of : (a b : Bool) → (a && b) ≡ true → (a ≡ true) × (b ≡ true)
both_of true b h = (refl, h)
both_of false b h = cc

either_of : (a b : Bool) → a ≡ true → (not a || b) ≡ true → b ≡ true
either_of true b e h = h
either_of false b e h = cc

not_both : (a b : Bool) → (not a || b) ≡ true → not (a && not b) ≡ true
not_both true true h = refl
not_both true false h = cc
not_both false b h = refl

-- what a look shows as a file is the file of its name
named_there : (files : List File) (path : List ℕ) (generation size moment : ℕ) → look_at files path ≡ Look.File generation size moment → is_some (file_named files (record { path = path; generation = generation })) ≡ true
named_there files path generation size moment h = by_file (file_at files path) refl (is_folder files path) h
  where
    in_list : (fs : List File) (f : File) → file_at fs path ≡ Some f → f.generation ≡ generation → is_some (file_named fs (record { path = path; generation = generation })) ≡ true
    in_list [] f e g = cc
    in_list (x ∷ xs) f e g = grind (arith, nat_tests, in_list xs f)

    by_file : (o : Option File) → file_at files path ≡ o → (b : Bool) → look_of (content_of o b (has_room files path)) ≡ Look.File generation size moment → is_some (file_named files (record { path = path; generation = generation })) ≡ true
    by_file (Some f) e b k = in_list files f e (cc)
    by_file None e true k = cc
    by_file None e false k = cc

-- present or not
pub present-held : (files hidden : List File) (name : FileName) → is_some (file_named files name) ≡ true → is_held (held_with files hidden) name ≡ true
present-held files hidden name h =
    found-any (is_named name) (hidden ++ files)
    ∙ (any-joined (is_named name) hidden files
    ∙ second (list_any (is_named name) hidden) (list_any (is_named name) files) (sym (found-any (is_named name) files) ∙ h))
  where
    second : (a b : Bool) → b ≡ true → (a || b) ≡ true
    second true b e = refl
    second false b e = e

-- where there are no files, no look shows one
shows_none : (path : List ℕ) → is_file (look_at [] path) ≡ true → ⊥
shows_none path h = by_folder (is_folder [] path) h
  where
    by_folder : (b : Bool) → is_file (look_of (content_of None b (has_room [] path))) ≡ true → ⊥
    by_folder true k = cc
    by_folder false k = cc

names_none : (name : FileName) → is_held (held_with [] []) name ≡ true → ⊥
names_none name h = cc

not_both_told : (b : Bool) {X : Type 0} → b ≡ true → b ≡ false → X
not_both_told true t u = cc
not_both_told false t u = cc

twice_not : (b : Bool) → b ≡ true → not (not b) ≡ true
twice_not true e = refl
twice_not false e = cc

-- what may be written now may be written
set_written : (sets write more : Bool) → (not sets || (write && more)) ≡ true → not (sets && not write) ≡ true
set_written true true more e = refl
set_written true false more e = cc
set_written false write more e = refl

-- the walk asks no more, and ends well
abbrev EndsWell : Walk NodeVerdict → Type 0
EndsWell (Answers x) = is_done x ≡ true
EndsWell (Looks target next) = ⊥
EndsWell (Ends call done missing) = ⊥
EndsWell (Lists path done missing) = ⊥

module _ (s : State) (none : s.told ≡ false → (s.files ≡ []) × (s.hidden ≡ [])) (now : ℕ) where
  -- the walk ends well over these files; and where the tree doesn't tell, whatever it shows
  abbrev D : Walk NodeVerdict → Type 0
  D (Answers x) = is_done x ≡ true
  D (Looks target next) = ((s.told ≡ true) ⊎ ((look : Look) → EndsWell (next look))) × D (next (shown_at (held_in s) target))
  D (Ends call done missing) = (s.told ≡ true) × (is_done (cond (is_found (held_in s) call) (done now) missing) ≡ true)
  D (Lists path done missing) = (s.told ≡ true) × (is_done (listed_by done missing (names_listed s.files path)) ≡ true)

  -- a file that is there is one of a tree that tells
  file_told : (path : List ℕ) → has_file s path ≡ true → s.told ≡ true
  file_told path h = by_told s.told refl
    where
      by_told : (b : Bool) → s.told ≡ b → b ≡ true
      by_told true e = refl
      by_told false e = absurd (shows_none path (subst (λ (files : List File). is_file (look_at files path) ≡ true) (none e).0 h))

  named_told : (name : FileName) → has_named s name ≡ true → s.told ≡ true
  named_told name h = by_told s.told refl
    where
      by_told : (b : Bool) → s.told ≡ b → b ≡ true
      by_told true e = refl
      by_told false e = absurd (names_none name (subst (λ (files : List File). is_held (held_with files []) name ≡ true) (none e).0 (subst (λ (hidden : List File). is_held (held_with s.files hidden) name ≡ true) (none e).1 h)))

  checked : (b : Bool) (errno : ℕ) (w : Walk NodeVerdict) → not b ≡ true → D w → D (errs_if b errno w)
  checked true errno w e h = cc
  checked false errno w e h = h

  -- what a look shows as a file is there by its name
  held_there : (path : List ℕ) (generation size moment : ℕ) → look_at s.files path ≡ Look.File generation size moment → has_named s (record { path = path; generation = generation }) ≡ true
  held_there path generation size moment l = present-held s.files s.hidden (record { path = path; generation = generation }) (named_there s.files path generation size moment l)

  looked : (path : List ℕ) (next : OnFile) (look : Look) → look_at s.files path ≡ look → is_file look ≡ true →
      ((generation size moment : ℕ) → has_named s (record { path = path; generation = generation }) ≡ true → D (next generation size moment)) → D (if_file next look)
  looked path next (Look.File generation size moment) l e h = h generation size moment (held_there path generation size moment l)
  looked path next Look.Folder l e h = cc
  looked path next Look.Missing l e h = cc

  -- the file that is looked at is there by its name too
  file_done : (path : List ℕ) (next : OnFile) → has_file s path ≡ true → ((generation size moment : ℕ) → has_named s (record { path = path; generation = generation }) ≡ true → D (next generation size moment)) → D (at_file path next)
  file_done path next e h = (inl (file_told path e), looked path next (look_at s.files path) refl e h)

  named_look : (next : OnFile) (o : Option File) → is_some o ≡ true → ((generation size moment : ℕ) → D (next generation size moment)) → D (if_file next (look_of_file o))
  named_look next None e h = cc
  named_look next (Some f) e h = h f.generation (length f.bytes) f.moment

  name_done : (name : FileName) (next : OnFile) → has_named s name ≡ true → ((generation size moment : ℕ) → D (next generation size moment)) → D (at_name name next)
  name_done name next e h = (inl (named_told name e), named_look next (file_named (all_held (held_in s)) name) e h)

  -- what a tree tells of a path
  seen_told : (path : List ℕ) (look : Look) → look_told s path ≡ look → is_missing look ≡ false → (s.told ≡ true) × (look_at s.files path ≡ look)
  seen_told path look e h = by_told s.told refl e
    where
      by_told : (b : Bool) → s.told ≡ b → cond b (look_at s.files path) Look.Missing ≡ look → (b ≡ true) × (look_at s.files path ≡ look)
      by_told true t k = (refl, k)
      by_told false t k = let no : true ≡ false = ap is_missing k ∙ h in cc

  place_done : (sight : Option Sight) (may_file : Bool → Bool) (may_folder : Folder → Bool) (file : Spot → OnFile) (folder : Folder → Walk NodeVerdict) → at_sight s may_file may_folder sight ≡ true →
      ((at : Spot) → may_file at.may_write ≡ true → (generation size moment : ℕ) → has_named s (name_at at generation) ≡ true → D (file at generation size moment)) →
      ((f : Folder) → may_folder f ≡ true → D (folder f)) → D (by_place sight file folder)
  place_done None may_file may_folder file folder e h k = cc
  place_done (Some (SightOfFile d may_write)) may_file may_folder file folder e h k =
      let parts = both_of (has_file s d.path) (may_file may_write) e in
      file_done d.path (file (spot d d.path may_write)) parts.0 (h (spot d d.path may_write) parts.1)
  place_done (Some (SightOfTemp d name may_write)) may_file may_folder file folder e h k =
      let parts = both_of (has_named s name) (may_file may_write) e in
      (inl (named_told name parts.0), temp_there (file_named (all_held (held_in s)) name) refl parts.0)
    where
      at : Spot
      at = spot d name.path may_write

      -- the file that is looked at is the one of the name
      of_name : (x : File) → file_named (all_held (held_in s)) name ≡ Some x → has_named s (name_at at x.generation) ≡ true
      of_name x f =
          let same : x.generation ≡ name.generation = nat_is x.generation name.generation (second_of_both (is_same x.path name.path) (x.generation == name.generation) (found_passes (is_named name) (all_held (held_in s)) x f)) in
          ap (λ (n : ℕ). has_named s (name_at at n)) same ∙ (both_of (has_named s name) (may_file may_write) e).0

      temp_there : (o : Option File) → file_named (all_held (held_in s)) name ≡ o → is_some o ≡ true → D (if_file (file at) (look_of_file o))
      temp_there None f t = cc
      temp_there (Some x) f t = h at (both_of (has_named s name) (may_file may_write) e).1 x.generation (length x.bytes) x.moment (of_name x f)
  place_done (Some (SightBelow view d path may_write)) may_file may_folder file folder e h k = step (look_told s path) refl e
    where
      here : Folder
      here = Exported view d path may_write

      at : Spot
      at = spot d path may_write

      step : (look : Look) → look_told s path ≡ look → at_look may_file may_folder may_write here look ≡ true → D (Looks (AtPath path) (by_look view at file folder))
      step (Look.File g n m) l a =
          let seen = seen_told path (Look.File g n m) l refl in
          (inl seen.0, subst (λ (x : Look). D (by_look view at file folder x)) (sym seen.1) (h at a g n m (held_there path g n m seen.1)))
      step Look.Folder l a =
          let seen = seen_told path Look.Folder l refl in
          (inl seen.0, subst (λ (x : Look). D (by_look view at file folder x)) (sym seen.1) (k here a))
      step Look.Missing l a = cc
  place_done (Some (SightOfFolder f)) may_file may_folder file folder e h k = k f e

  -- of a file that is there
  handle_done : (handle : Option Handle) (asked : OpenFile → Bool) (next : OnHandle) → on_handle s asked handle ≡ true →
      ((file : OpenFile) → asked file ≡ true → has_named s file.name ≡ true → D (next file)) → D (by_file_handle handle next)
  handle_done None asked next e h = cc
  handle_done (Some (Handle.File name node document strict read write)) asked next e h =
      let file : OpenFile = open_file_of name node document strict read write in
      let parts = both_of (asked file) (has_named s name) e in
      h file parts.0 parts.1
  handle_done (Some (Handle.Folder node names)) asked next e h = cc

  any_handle_done : (handle : Option Handle) (next : OnHandle) → is_file_handle handle ≡ true → ((file : OpenFile) → D (next file)) → D (by_file_handle handle next)
  any_handle_done None next e h = cc
  any_handle_done (Some (Handle.File name node document strict read write)) next e h = h (open_file_of name node document strict read write)
  any_handle_done (Some (Handle.Folder node names)) next e h = cc

  -- a last call that finds what it needs
  ended : (b : Bool) (v w : NodeVerdict) → b ≡ true → is_done v ≡ true → is_done (cond b v w) ≡ true
  ended true v w e h = h
  ended false v w e h = cc

  module _ (f : NodeFacts) (r : NodeRequest) where
    found_done : (o : Option ℕ) → is_some o ≡ true → D (found_folder r o)
    found_done None e = cc
    found_done (Some node) e = refl

    document_done : (node : ℕ) (d : Document) (may_write : Bool) → has_document s d ≡ true → D (Looks (AtPath d.path) (found_document r node d may_write))
    document_done node d may_write e = step (has_file s d.path) refl e
      where
        file_there : (look : Look) → look_at s.files d.path ≡ look → is_file look ≡ true → D (found_document r node d may_write look)
        file_there (Look.File g n m) l f = refl
        file_there Look.Folder l f = cc
        file_there Look.Missing l f = cc

        folder_there : (b : Bool) → d.folder ≡ b → b ≡ true → D (found_document r node d may_write Look.Folder)
        folder_there true f t = subst (λ (b : Bool). D (cond b (told (NodeAnswer.Entry (attr_of_folder (on_node r node) may_write))) (errs enoent))) (sym f) refl
        folder_there false f t = cc

        shows_folder : (look : Look) → look_told s d.path ≡ look → (d.folder && is_folder_look look) ≡ true → D (Looks (AtPath d.path) (found_document r node d may_write))
        shows_folder (Look.File g n m) l f = let no : false ≡ true = (both_of d.folder false f).1 in cc
        shows_folder Look.Folder l f =
            let seen = seen_told d.path Look.Folder l refl in
            (inl seen.0, subst (λ (x : Look). D (found_document r node d may_write x)) (sym seen.1) (folder_there d.folder refl (both_of d.folder true f).0))
        shows_folder Look.Missing l f = let no : false ≡ true = (both_of d.folder false f).1 in cc

        step : (b : Bool) → has_file s d.path ≡ b → (b || (d.folder && is_folder_look (look_told s d.path))) ≡ true → D (Looks (AtPath d.path) (found_document r node d may_write))
        step true f t = (inl (file_told d.path f), file_there (look_at s.files d.path) refl f)
        step false f t = shows_folder (look_told s d.path) refl t

    named_done : (naming : Naming) (attr : Attr) → not (lacks_number f.namings naming) ≡ true → D (entry_named f.namings naming attr)
    named_done naming attr e = checked (lacks_number f.namings naming) emfile _ e refl

    child_found : (naming : Naming) (may_write : Bool) (look : Look) → not (lacks_number f.namings naming) ≡ true → is_missing look ≡ false → D (found_child r f.namings naming may_write look)
    child_found naming may_write (Look.File g n m) e h = named_done naming (attr_of_file (on_node r (node_of_naming f.namings naming)) may_write n m) e
    child_found naming may_write Look.Folder e h = named_done naming (attr_of_folder (on_node r (node_of_naming f.namings naming)) may_write) e
    child_found naming may_write Look.Missing e h = cc

    not_true : (b : Bool) → not b ≡ true → b ≡ false
    not_true true e = cc
    not_true false e = refl

    child_done : (view : ℕ) (d : Document) (may_write : Bool) (child : Option (List ℕ)) → has_path s child ≡ true → has_number f.namings view d child ≡ true → D (lookup_child r f.namings view d may_write child)
    child_done view d may_write None e n = cc
    child_done view d may_write (Some path) e n =
        let there = not_true (is_missing (look_told s path)) e in
        let seen = seen_told path (look_told s path) refl there in (
          inl seen.0,
          subst (λ (x : Look). D (found_child r f.namings (naming_in view d path) may_write x)) (sym seen.1)
              (child_found (naming_in view d path) may_write (look_told s path) n there),
        )

    own_done : (view : ℕ) (may_write : Bool) (o : Option OwnTemp) → has_temp s o ≡ true → D (found_own r view may_write o)
    own_done view may_write None e = cc
    own_done view may_write (Some t) e = name_done t.temp.file (entry_of_file r (temp_node view t.k) may_write) e (λ g n m. refl)

    lookup_done : (name : List ℕ) (folder : Folder) → has_child s f.temps.temps name folder ≡ true → folder_within f.namings name folder ≡ true → D (lookup_in r f.namings f.temps.temps name folder)
    lookup_done name (RootOf view numbers has_views) e n = found_done (named_in_root view numbers has_views name) e
    lookup_done name (Views applications) e n = found_done (named_in_views applications name) e
    lookup_done name (FolderOf view d may_write) e n =
        let there = Looks (AtPath d.path) (found_document r (file_node view d.id.number) d may_write) in
        let own = found_temp f.temps.temps view d.id name in
        elim (is_same name (name_of d.path)) as (λ b. cond b (has_document s d) (has_temp s own) ≡ true → D (cond b there (found_own r view may_write own))) [
          | true ↦ λ k. document_done (file_node view d.id.number) d may_write k
          | false ↦ λ k. own_done view may_write own k
        ] e
    lookup_done name (Exported view d path may_write) e n = child_done view d may_write (named_child path name) e n

    -- where a name has a number, or there is one left for it
    named_within : (name : List ℕ) (may_folder : Folder → Bool) (sight : Option Sight) → at_sight s never may_folder sight ≡ true → names_within f.namings name sight ≡ true →
        at_sight s never (λ folder. may_folder folder && folder_within f.namings name folder) sight ≡ true
    named_within name may_folder None e n = cc
    named_within name may_folder (Some (SightOfFile d may_write)) e n = e
    named_within name may_folder (Some (SightOfTemp d file may_write)) e n = e
    named_within name may_folder (Some (SightBelow view d path may_write)) e n = by_look_told (look_told s path) e
      where
        by_look_told : (look : Look) → at_look never may_folder may_write (Exported view d path may_write) look ≡ true →
            at_look never (λ folder. may_folder folder && folder_within f.namings name folder) may_write (Exported view d path may_write) look ≡ true
        by_look_told (Look.File g m k) a = a
        by_look_told Look.Folder a = both (may_folder (Exported view d path may_write)) (folder_within f.namings name (Exported view d path may_write)) a n
        by_look_told Look.Missing a = a
    named_within name may_folder (Some (SightOfFolder g)) e n = both (may_folder g) (folder_within f.namings name g) e n

    -- where there is a place left for a temporary of the name
    placed_within : (name : List ℕ) (may_folder : Folder → Bool) (sight : Option Sight) → at_sight s never may_folder sight ≡ true → temps_within f.temps name sight ≡ true →
        at_sight s never (λ folder. may_folder folder && temps_within_in f.temps name folder) sight ≡ true
    placed_within name may_folder None e n = cc
    placed_within name may_folder (Some (SightOfFile d may_write)) e n = e
    placed_within name may_folder (Some (SightOfTemp d file may_write)) e n = e
    placed_within name may_folder (Some (SightBelow view d path may_write)) e n = by_look_told (look_told s path) e
      where
        by_look_told : (look : Look) → at_look never may_folder may_write (Exported view d path may_write) look ≡ true →
            at_look never (λ folder. may_folder folder && temps_within_in f.temps name folder) may_write (Exported view d path may_write) look ≡ true
        by_look_told (Look.File g m k) a = a
        by_look_told Look.Folder a = both (may_folder (Exported view d path may_write)) true a refl
        by_look_told Look.Missing a = a
    placed_within name may_folder (Some (SightOfFolder g)) e n = both (may_folder g) (temps_within_in f.temps name g) e n

    attr_done : (sight : Option Sight) → at_sight s always always sight ≡ true → D (get_attr_by_place r sight)
    attr_done sight e = place_done sight always always (λ at. tells_file r at.may_write) (tells_folder r) e (λ at k g n m there. refl) (λ folder k. refl)

    open_attr_done : (file : OpenFile) → reaches f.reach file ≡ true → has_named s file.name ≡ true → D (get_attr_open f.reach r file)
    open_attr_done file e there =
        checked (not (reaches f.reach file)) eacces _ (twice_not (reaches f.reach file) e)
        (name_done file.name (tells_file (on_node r file.node) (may_write_now f.reach file)) there (λ g n m. refl))

    handle_attr_done : (sight : Option Sight) (handle : Option Handle) → (on_handle s (reaches f.reach) handle || (is_folder_handle handle && at_sight s always always sight)) ≡ true → D (get_attr_by_handle f.reach r sight handle)
    handle_attr_done sight None e = cc
    handle_attr_done sight (Some (Handle.File name node document strict read write)) e =
        let file : OpenFile = open_file_of name node document strict read write in
        let parts = both_of (reaches f.reach file) (has_named s name) (first (reaches f.reach file && has_named s name) e) in
        open_attr_done file parts.0 parts.1
      where
        first : (b : Bool) → (b || false) ≡ true → b ≡ true
        first true k = refl
        first false k = cc
    handle_attr_done sight (Some (Handle.Folder node names)) e = attr_done sight e

    get_attr_done : (b : Bool) (sight : Option Sight) (handle : Option Handle) → may_get_attr s f.reach b sight handle ≡ true → D (cond b (get_attr_by_handle f.reach r sight handle) (get_attr_by_place r sight))
    get_attr_done true sight handle e = handle_attr_done sight handle e
    get_attr_done false sight handle e = attr_done sight e

    -- a length that is set, of a file that is there
    size_done : (q : NodeRequest) (a : SetsAttr) (name : FileName) (may_write : Bool) (size moment : ℕ) → (not (sets_size a.valid) || may_write) ≡ true → (not (sets_size a.valid) || not (nat_lt a.limit a.size)) ≡ true →
        has_named s name ≡ true → D (set_attr_of q a name may_write size moment)
    size_done q a name may_write size moment w l n = elim (sets_size a.valid) as (λ b. (not b || may_write) ≡ true → (not b || not (nat_lt a.limit a.size)) ≡ true →
        D (cond b (errs_if (not may_write) eacces (errs_if (nat_lt a.limit a.size) efbig (resize q a name may_write))) (told (NodeAnswer.Attr (attr_of_file q may_write size moment))))) [
          | true ↦ λ w l.
              checked (not may_write) eacces (errs_if (nat_lt a.limit a.size) efbig (resize q a name may_write)) (twice_not may_write w)
              (checked (nat_lt a.limit a.size) efbig (resize q a name may_write) l (named_told name n, ended (has_named s name) _ _ n refl))
          | false ↦ λ w l. refl
        ] w l

    -- a length of an open file, which has to be one that may be written
    open_size_done : (a : SetsAttr) (file : OpenFile) → may_set_open f.reach a.valid file ≡ true → (not (sets_size a.valid) || not (nat_lt a.limit a.size)) ≡ true → has_named s file.name ≡ true → D (set_attr_open f.reach r a file)
    open_size_done a file e l there =
        let parts = both_of (reaches f.reach file) (not (sets_size a.valid) || may_write_now f.reach file) e in
        checked (not (reaches f.reach file)) eacces (at_name file.name (set_attr_of_open f.reach r a file)) (twice_not (reaches f.reach file) parts.0)
        (name_done file.name (set_attr_of_open f.reach r a file) there (λ g n m.
        checked (sets_size a.valid && not file.write) ebadf (set_attr_of (on_node r file.node) a file.name (may_write_now f.reach file) n m) (set_written (sets_size a.valid) file.write _ parts.1)
        (size_done (on_node r file.node) a file.name (may_write_now f.reach file) n m parts.1 l there)))

    folder_size_done : (a : SetsAttr) (folder : Folder) → not (sets_size a.valid) ≡ true → D (set_attr_of_folder r a folder)
    folder_size_done a folder e = checked (sets_size a.valid) eisdir (told (NodeAnswer.Attr (attr_of_folder r (is_writable folder)))) e refl

    set_attr_done : (a : SetsAttr) (sight : Option Sight) (handle : Option Handle) → may_set_attr s f.reach a.valid sight handle ≡ true → (not (sets_size a.valid) || not (nat_lt a.limit a.size)) ≡ true → D (set_attr f.reach r a sight handle)
    set_attr_done a sight handle e l =
        let by_one = on_handle s (may_set_open f.reach a.valid) handle in
        let by_other = at_sight s (λ may_write. not (sets_size a.valid) || may_write) (λ folder. not (sets_size a.valid)) sight in
        let parts = both_of (not (sets_owner_or_mode a.valid)) (cond (sets_by_handle a.valid) by_one by_other) e in
        checked (sets_owner_or_mode a.valid) eperm (cond (sets_by_handle a.valid) (by_file_handle handle (set_attr_open f.reach r a)) (by_place sight (set_attr_at r a) (set_attr_of_folder r a))) parts.0
        (elim (sets_by_handle a.valid) as (λ b. cond b by_one by_other ≡ true → D (cond b (by_file_handle handle (set_attr_open f.reach r a)) (by_place sight (set_attr_at r a) (set_attr_of_folder r a)))) [
          | true ↦ λ k. handle_done handle (may_set_open f.reach a.valid) (set_attr_open f.reach r a) k (λ file w there. open_size_done a file w l there)
          | false ↦ λ k. place_done sight (λ may_write. not (sets_size a.valid) || may_write) (λ folder. not (sets_size a.valid)) (set_attr_at r a) (set_attr_of_folder r a) k
              (λ at w g n m there. size_done r a (name_at at g) at.may_write n m w l there) (λ folder w. folder_size_done a folder w)
        ] parts.1)

    open_name_done : (flags : ℕ) (d : Document) (name : FileName) → has_named s name ≡ true → D (open_name r flags f.room d name)
    open_name_done flags d name there = elim (truncates flags) as (λ b. D (cond b (Ends (Changes name) (λ now. opened_file f.room (file_handle d name r.node flags) (Resizes name 0 now)) (Errs enoent)) (Answers (opened_file f.room (file_handle d name r.node flags) FilesStay)))) [
      | true ↦ (named_told name there, ended (has_named s name) _ _ there refl)
      | false ↦ refl
    ]

    open_done : (flags : ℕ) (sight : Option Sight) → (not (has_no_mode flags) && at_sight s (λ may_write. not (opens_to_write flags) || may_write) never sight) ≡ true → not f.room.full ≡ true → D (open_node r flags sight f.room)
    open_done flags sight e room =
        let parts = both_of (not (has_no_mode flags)) (at_sight s (λ may_write. not (opens_to_write flags) || may_write) never sight) e in
        checked (has_no_mode flags) einval (by_place sight (open_file r flags f.room) open_folder) parts.0
        (place_done sight (λ may_write. not (opens_to_write flags) || may_write) never (open_file r flags f.room) open_folder parts.1
        (λ at w g n m there.
        let name : FileName = name_at at g in
        checked (opens_to_write flags && not at.may_write) eacces (errs_if f.room.full emfile (open_name r flags f.room at.document name)) (not_both (opens_to_write flags) at.may_write w)
        (checked f.room.full emfile (open_name r flags f.room at.document name) room (open_name_done flags at.document name there)))
        (λ folder k. cc))

    there_done : (flags : ℕ) (made : Made) (look : Look) → s.told ≡ true → is_missing look ≡ true → has_room s.files made.path ≡ true → D (create_there r flags f.room made look)
    there_done flags made (Look.File g n m) t e k = cc
    there_done flags made Look.Folder t e k = cc
    there_done flags made Look.Missing t e k = (t, ended (has_room s.files made.path) _ _ k refl)

    at_done : (flags : ℕ) (made : Made) → s.told ≡ true → is_free s made.path ≡ true → D (create_at r flags f.room made)
    at_done flags made t e =
        let free = both_of (is_missing (look_at s.files made.path)) (has_room s.files made.path) e in
        (inl t, there_done flags made (look_at s.files made.path) t free.0 free.1)

    neither : (a b : Bool) → not a ≡ true → not b ≡ true → not (a || b) ≡ true
    neither true b e k = cc
    neither false b e k = k

    create_child_done : (flags view : ℕ) (d : Document) (may_write : Bool) (child : Option (List ℕ)) → s.told ≡ true → may_write ≡ true → is_free_child s child ≡ true → not f.room.full ≡ true → has_number f.namings view d child ≡ true →
        D (create_child r flags f.room f.namings view d may_write child)
    create_child_done flags view d may_write None t w e room n = cc
    create_child_done flags view d may_write (Some path) t w e room n =
        let naming : Naming = naming_in view d path in
        let there = create_at r flags f.room (child_made f.namings d naming) in
        checked (not may_write) eacces (errs_if (f.room.full || lacks_number f.namings naming) emfile there) (twice_not may_write w)
        (checked (f.room.full || lacks_number f.namings naming) emfile there (neither f.room.full (lacks_number f.namings naming) room n) (at_done flags (child_made f.namings d naming) t e))

    -- the document's own file
    create_own_done : (flags view : ℕ) (d : Document) (may_write : Bool) → s.told ≡ true → may_write ≡ true → is_free s d.path ≡ true → not f.room.full ≡ true → D (create_own r flags f.room view d may_write)
    create_own_done flags view d may_write t w e room =
        let there = create_at r flags f.room (own_made view d) in
        checked (not may_write) eacces (errs_if f.room.full emfile there) (twice_not may_write w)
        (checked f.room.full emfile there room (at_done flags (own_made view d) t e))

    -- a temporary
    create_other_done : (name : List ℕ) (flags view : ℕ) (d : Document) (may_write : Bool) → s.told ≡ true → may_write ≡ true → may_begin s f.temps name view d ≡ true → not f.room.full ≡ true → not (lacks_temp f.temps) ≡ true →
        D (create_other r name flags f.room f.temps view d may_write)
    create_other_done name flags view d may_write t w e room left =
        let new : Bool = not (is_some (found_temp f.temps.temps view d.id name)) in
        let may : Bool = may_freshen (held_in s) (next_file f.temps d) in
        let first = both_of (not d.folder) (not (is_dots name) && (new && may)) e in
        let second = both_of (not (is_dots name)) (new && may) first.1 in
        let third = both_of new may second.1 in
        let made = add_temp r flags f.room (next_temp_node f.temps view) d (temp_made view d name (next_file f.temps d)) in
        let placed = errs_if (f.room.full || lacks_temp f.temps) emfile made in
        let unless = errs_if (is_some (found_temp f.temps.temps view d.id name)) eexist placed in
        checked d.folder eacces (create_temp r name flags f.room f.temps view d may_write) first.0
        (checked (is_dots name) eacces (errs_if (not may_write) eacces unless) second.0
        (checked (not may_write) eacces unless (twice_not may_write w)
        (checked (is_some (found_temp f.temps.temps view d.id name)) eexist placed third.0
        (checked (f.room.full || lacks_temp f.temps) emfile made (neither f.room.full (lacks_temp f.temps) room left)
        (t, ended may _ _ third.1 refl)))))

    -- by whether the name is the document's
    in_document : (name : List ℕ) (flags view : ℕ) (d : Document) (may_write b : Bool) → s.told ≡ true → may_write ≡ true → cond b (is_free s d.path) (may_begin s f.temps name view d) ≡ true → not f.room.full ≡ true → (b || not (lacks_temp f.temps)) ≡ true →
        D (cond b (create_own r flags f.room view d may_write) (create_other r name flags f.room f.temps view d may_write))
    in_document name flags view d may_write true t w e room left = create_own_done flags view d may_write t w e room
    in_document name flags view d may_write false t w e room left = create_other_done name flags view d may_write t w e room left

    create_in_done : (name : List ℕ) (flags : ℕ) (folder : Folder) → s.told ≡ true → may_create_in s f.temps name folder ≡ true → not f.room.full ≡ true → folder_within f.namings name folder ≡ true → temps_within_in f.temps name folder ≡ true →
        D (create_in r name flags f.room f.namings f.temps folder)
    create_in_done name flags (RootOf view numbers has_views) t e room n left = cc
    create_in_done name flags (Views applications) t e room n left = cc
    create_in_done name flags (FolderOf view d may_write) t e room n left =
        let own : Bool = is_same name (name_of d.path) in
        let parts = both_of may_write (cond own (is_free s d.path) (may_begin s f.temps name view d)) e in
        in_document name flags view d may_write own t parts.0 parts.1 room left
    create_in_done name flags (Exported view d path may_write) t e room n left =
        let parts = both_of may_write (is_free_child s (named_child path name)) e in
        create_child_done flags view d may_write (named_child path name) t parts.0 parts.1 room n

    create_done : (name : List ℕ) (flags : ℕ) (sight : Option Sight) → s.told ≡ true → (not (has_no_mode flags) && (not (is_too_long name) && at_sight s never (may_create_in s f.temps name) sight)) ≡ true →
        (not f.room.full && (names_within f.namings name sight && temps_within f.temps name sight)) ≡ true → D (create r name flags sight f.room f.namings f.temps)
    create_done name flags sight t e room =
        let may : Folder → Bool = may_create_in s f.temps name in
        let first = both_of (not (has_no_mode flags)) (not (is_too_long name) && at_sight s never may sight) e in
        let second = both_of (not (is_too_long name)) (at_sight s never may sight) first.1 in
        let left = both_of (not f.room.full) (names_within f.namings name sight && temps_within f.temps name sight) room in
        let limits = both_of (names_within f.namings name sight) (temps_within f.temps name sight) left.1 in
        let place = by_place sight (no_file enotdir) (create_in r name flags f.room f.namings f.temps) in
        let numbered : Folder → Bool = λ folder. may folder && folder_within f.namings name folder in
        let asked : Folder → Bool = λ folder. numbered folder && temps_within_in f.temps name folder in
        checked (has_no_mode flags) einval (errs_if (is_too_long name) enametoolong place) first.0
        (checked (is_too_long name) enametoolong place second.0
        (place_done sight never asked (no_file enotdir) (create_in r name flags f.room f.namings f.temps) (placed_within name numbered sight (named_within name may sight second.1 limits.0) limits.1) (λ at k g n m there. cc)
        (λ folder k.
        let outer = both_of (numbered folder) (temps_within_in f.temps name folder) k in
        let parts = both_of (may folder) (folder_within f.namings name folder) outer.0 in
        create_in_done name flags folder t parts.0 left.0 parts.1 outer.1)))

    -- ---- temporaries get other names

    rename_to_done : (h : Home) (name : List ℕ) (t : OwnTemp) → (not (is_own_name h name) || may_turn (held_in s) t.temp.file) ≡ true → D (rename_to h name t)
    rename_to_done h name t e = elim (is_own_name h name) as (λ b. (not b || may_turn (held_in s) t.temp.file) ≡ true → D (cond b (Ends (Turns t.temp.file) (λ now. saved t) (Errs enoent)) (Answers (changes_temps (Renames t.k t.temp name) NodeAnswer.Empty)))) [
      | true ↦ λ k. (named_told t.temp.file (both_of (has_named s t.temp.file) (not (is_folder s.files t.temp.file.path)) k).0, ended (may_turn (held_in s) t.temp.file) _ _ k refl)
      | false ↦ λ k. refl
    ] e

    rename_temp_done : (h : Home) (name : List ℕ) (o : Option OwnTemp) → may_rename_temp s h name o ≡ true → D (rename_temp h name o)
    rename_temp_done h name None e = cc
    rename_temp_done h name (Some t) e =
        let rest : Bool = not (is_own_name h name) || may_turn (held_in s) t.temp.file in
        let first = both_of h.may_write (not (is_dots name) && rest) e in
        let second = both_of (not (is_dots name)) rest first.1 in
        checked (not h.may_write) eacces (errs_if (is_dots name) eacces (rename_to h name t)) (twice_not h.may_write first.0)
        (checked (is_dots name) eacces (rename_to h name t) second.0 (rename_to_done h name t second.1))

    rename_homes_done : (call : RenameCall) (temps : List OwnTemp) (o p : Option Home) → may_rename_in s call temps o p ≡ true → D (rename_homes call temps o p)
    rename_homes_done call temps None p e = cc
    rename_homes_done call temps (Some a) None e = cc
    rename_homes_done call temps (Some a) (Some b) e =
        let found = temp_at temps a call.old_name in
        let first = both_of (same_home a b) (may_rename_at s call temps a) e in
        let second = both_of (not (is_own_name a call.old_name)) (may_rename_temp s a call.new_name found) first.1 in
        checked (not (same_home a b)) exdev (rename_at call temps a) (twice_not (same_home a b) first.0)
        (checked (is_own_name a call.old_name) eperm (rename_temp a call.new_name found) second.0 (rename_temp_done a call.new_name found second.1))

    rename_done : (call : RenameCall) (temps : List OwnTemp) (sight new_sight : Option Sight) → may_rename s call temps sight new_sight ≡ true → D (rename call temps sight new_sight)
    rename_done call temps sight new_sight e =
        let from : Folder → Bool = may_rename_from s call temps new_sight in
        let first = both_of (call.flags == 0) (not (are_too_long call) && at_sight s never from sight) e in
        let second = both_of (not (are_too_long call)) (at_sight s never from sight) first.1 in
        let next : Seen → Walk NodeVerdict = λ old. with_seen new_sight (rename_in call temps old) in
        let seen = with_seen sight next in
        checked (not (call.flags == 0)) einval (errs_if (are_too_long call) enametoolong seen) (twice_not (call.flags == 0) first.0)
        (checked (are_too_long call) enametoolong seen second.0
        (place_done sight never from (λ at g n m. next AFile) (λ folder. next (AFolder folder)) second.1 (λ at k g n m there. cc) (λ old k.
        place_done new_sight never (λ folder. may_rename_in s call temps (home_of old) (home_of folder)) (λ at g n m. rename_in call temps (AFolder old) AFile) (λ folder. rename_in call temps (AFolder old) (AFolder folder)) k
        (λ at l g n m there. cc) (λ folder l. rename_homes_done call temps (home_of old) (home_of folder) l))))

    unlink_at_done : (name : List ℕ) (temps : List OwnTemp) (o : Option Home) → may_unlink_in name temps o ≡ true → D (unlink_at name temps o)
    unlink_at_done name temps None e = cc
    unlink_at_done name temps (Some h) e =
        let found = temp_at temps h name in
        let first = both_of (not (is_own_name h name)) (h.may_write && is_some found) e in
        let second = both_of h.may_write (is_some found) first.1 in
        checked (is_own_name h name) eperm (unlink_temp h found) first.0 (temp_gone found second.1 second.0)
      where
        temp_gone : (o : Option OwnTemp) → is_some o ≡ true → h.may_write ≡ true → D (unlink_temp h o)
        temp_gone None t w = cc
        temp_gone (Some t) k w = checked (not h.may_write) eacces (Answers (changes_temps (Drops t.k) NodeAnswer.Empty)) (twice_not h.may_write w) refl

    unlink_done : (name : List ℕ) (temps : List OwnTemp) (sight : Option Sight) → may_unlink s name temps sight ≡ true → D (unlink name temps sight)
    unlink_done name temps sight e =
        let asked : Folder → Bool = λ folder. may_unlink_in name temps (home_of folder) in
        let parts = both_of (not (is_too_long name)) (at_sight s never asked sight) e in
        checked (is_too_long name) enametoolong (by_place sight (no_file enotdir) (unlink_in name temps)) parts.0
        (place_done sight never asked (no_file enotdir) (unlink_in name temps) parts.1 (λ at k g n m there. cc) (λ folder k. unlink_at_done name temps (home_of folder) k))

    -- ---- folders

    folder_is : (files : List File) (path : List ℕ) → is_folder_look (look_at files path) ≡ true → is_folder files path ≡ true
    folder_is files path e = by_parts (file_at files path) (is_folder files path) e
      where
        by_parts : (o : Option File) (b : Bool) → is_folder_look (look_of (content_of o b (has_room files path))) ≡ true → b ≡ true
        by_parts (Some g) b k = cc
        by_parts None true k = refl
        by_parts None false k = cc

    folder_told : (path : List ℕ) → is_folder_look (look_told s path) ≡ true → (s.told ≡ true) × (is_folder s.files path ≡ true)
    folder_told path e = step s.told refl e
      where
        step : (b : Bool) → s.told ≡ b → is_folder_look (cond b (look_at s.files path) Look.Missing) ≡ true → (s.told ≡ true) × (is_folder s.files path ≡ true)
        step true t k = (t, folder_is s.files path k)
        step false t k = cc

    found_dir_done : (folder : Folder) → may_list s folder ≡ true → D (open_found r f.room f.temps.temps folder)
    found_dir_done (RootOf view numbers has_views) e = refl
    found_dir_done (Views applications) e = refl
    found_dir_done (FolderOf view d may_write) e = (inr (λ look. refl), refl)
    found_dir_done (Exported view d path may_write) e =
        let there = folder_told path e in
        (there.0, subst (λ (b : Bool). is_done (listed_by (λ children. opened_folder r f.room (parent_of_exported view d path) (names_of_children children)) (Errs enoent) (cond b (Some (names_in s.files path)) None)) ≡ true) (sym there.1) refl)

    open_dir_done : (sight : Option Sight) → at_sight s never (may_list s) sight ≡ true → not f.room.full ≡ true → D (open_dir r sight f.room f.temps.temps)
    open_dir_done sight e room = place_done sight never (may_list s) (no_file enotdir) (open_dir_in r f.room f.temps.temps) e (λ at k g n m there. cc)
        (λ folder k. checked f.room.full emfile (open_found r f.room f.temps.temps folder) room (found_dir_done folder k))

    read_done : (offset size : ℕ) (handle : Option Handle) → (not (nat_lt read_limit size) && on_handle s (may_read_now f.reach) handle) ≡ true → D (read f.reach f.bytes offset size handle)
    read_done offset size handle e =
        let parts = both_of (not (nat_lt read_limit size)) (on_handle s (may_read_now f.reach) handle) e in
        checked (nat_lt read_limit size) einval (by_file_handle handle (read_open f.reach f.bytes offset size)) parts.0
        (handle_done handle (may_read_now f.reach) (read_open f.reach f.bytes offset size) parts.1 (λ file w there.
        checked (not file.read) ebadf _ (twice_not file.read (both_of file.read (reaches f.reach file) w).0)
        (checked (not (may_read_now f.reach file)) eacces _ (twice_not (may_read_now f.reach file) w) (named_told file.name there, ended (has_named s file.name) _ _ there refl))))

    content_done : (name : FileName) (offset : ℕ) (content : List ℕ) → (is_none content || has_named s name) ≡ true → (is_none content || not (nat_lt f.file_limit (offset + length content))) ≡ true → D (write_content f.file_limit name offset content)
    content_done name offset [] e l = refl
    content_done name offset (b ∷ bs) e l = checked (nat_lt f.file_limit (offset + length (b ∷ bs))) efbig _ l (named_told name e, ended (has_named s name) _ _ e refl)

    write_to_done : (offset : ℕ) (content : List ℕ) (handle : Option Handle) → may_write_to s f.reach content handle ≡ true → (is_none content || not (nat_lt f.file_limit (offset + length content))) ≡ true → D (by_file_handle handle (write_open f.reach f.file_limit offset content))
    write_to_done offset content None e l = cc
    write_to_done offset content (Some (Handle.File name node document strict may_read may_write)) e l =
        let file : OpenFile = open_file_of name node document strict may_read may_write in
        let parts = both_of (may_write_now f.reach file) (is_none content || has_named s name) e in
        checked (not may_write) ebadf _ (twice_not may_write (both_of may_write _ parts.0).0)
        (checked (not (may_write_now f.reach file)) eacces (write_content f.file_limit name offset content) (twice_not (may_write_now f.reach file) parts.0) (content_done name offset content parts.1 l))
    write_to_done offset content (Some (Handle.Folder node names)) e l = cc

    write_done : (offset : ℕ) (content : List ℕ) (handle : Option Handle) → (not (nat_lt write_limit (length content)) && may_write_to s f.reach content handle) ≡ true → (is_none content || not (nat_lt f.file_limit (offset + length content))) ≡ true → D (write f.reach f.file_limit offset content handle)
    write_done offset content handle e l =
        let parts = both_of (not (nat_lt write_limit (length content))) (may_write_to s f.reach content handle) e in
        checked (nat_lt write_limit (length content)) einval (by_file_handle handle (write_open f.reach f.file_limit offset content)) parts.0 (write_to_done offset content handle parts.1 l)

    names_done : (offset size : ℕ) (handle : Option Handle) → is_folder_handle handle ≡ true → D (read_names offset size handle)
    names_done offset size None e = cc
    names_done offset size (Some (Handle.File name node document strict may_read may_write)) e = cc
    names_done offset size (Some (Handle.Folder node names)) e = refl

    release_dir_done : (fh : ℕ) (handle : Option Handle) → is_folder_handle handle ≡ true → D (release_dir fh handle)
    release_dir_done fh None e = cc
    release_dir_done fh (Some (Handle.File name node document strict may_read may_write)) e = cc
    release_dir_done fh (Some (Handle.Folder node names)) e = refl

    neither_of : (a b c : Bool) → (not a && (not b || c)) ≡ true → not (a || b && not c) ≡ true
    neither_of true b c e = cc
    neither_of false true true e = refl
    neither_of false true false e = cc
    neither_of false false c e = refl

    access_done : (mask : ℕ) (sight : Option Sight) → may_access s mask sight ≡ true → D (access mask sight)
    access_done mask sight e =
        let file : Bool → Bool = λ may_write. not (executes mask) && (not (writes_to mask) || may_write) in
        let folder : Folder → Bool = λ f. not (writes_to mask) || is_writable f in
        let parts = both_of (not (nat_lt 7 mask)) (at_sight s file folder sight) e in
        checked (nat_lt 7 mask) einval (by_place sight (access_file mask) (access_folder mask)) parts.0
        (place_done sight file folder (access_file mask) (access_folder mask) parts.1
        (λ at w g n m there. checked (executes mask || writes_to mask && not at.may_write) eacces (told NodeAnswer.Empty) (neither_of (executes mask) (writes_to mask) at.may_write w) refl)
        (λ f w. checked (writes_to mask && not (is_writable f)) eacces (told NodeAnswer.Empty) (not_both (writes_to mask) (is_writable f) w) refl))

    fsync_done : (handle : Option Handle) → on_handle s always handle ≡ true → D (fsync handle)
    fsync_done handle e = handle_done handle always fsync_open e (λ file w there. (named_told file.name there, ended (has_named s file.name) _ _ there refl))

  -- each request
  walk_done : (c : Connection) (r : NodeRequest) (op : NodeOp) → ToldForNode s op → may_ask_at s (reach_at s c.who) (temps_seen s c) op (sight_on s c) (sight_on s c r.node) (handle_of s.handles c.seat) ≡ true → within_at s c op (sight_on s c r.node) ≡ true → D (node_walk (facts_of s c r.node) r op)
  walk_done c r (NodeOp.Lookup name) t h k =
      let sight = sight_on s c r.node in
      let f = facts_of s c r.node in
      let child : Folder → Bool = has_child s c.temps name in
      let parts = both_of (not (is_too_long name)) (at_sight s never child sight) h in
      let asked : Folder → Bool = λ folder. child folder && folder_within c.namings name folder in
      checked (is_too_long name) enametoolong (by_place sight (no_file enotdir) (lookup_in r c.namings c.temps name)) parts.0
      (place_done sight never asked (no_file enotdir) (lookup_in r c.namings c.temps name) (named_within f r name child sight parts.1 k) (λ at k g n m there. cc)
      (λ folder m.
      let both_parts = both_of (child folder) (folder_within c.namings name folder) m in
      lookup_done f r name folder both_parts.0 both_parts.1))
  walk_done c r (NodeOp.Forget count) t h k = refl
  walk_done c r (NodeOp.BatchForget nodes) t h k = refl
  walk_done c r (NodeOp.GetAttr flags fh) t h k = get_attr_done (facts_of s c r.node) r (names_handle flags) (sight_on s c r.node) (handle_of s.handles c.seat fh) h
  walk_done c r (NodeOp.SetAttr valid fh size) t h k = set_attr_done (facts_of s c r.node) r (record { valid = valid; size = size; limit = s.limits.file_bytes }) (sight_on s c r.node) (handle_of s.handles c.seat fh) h k
  walk_done c r (NodeOp.Open flags) t h k = open_done (facts_of s c r.node) r flags (sight_on s c r.node) h k
  walk_done c r (NodeOp.Create name flags) t h k = create_done (facts_of s c r.node) r name flags (sight_on s c r.node) t h k
  walk_done c r (NodeOp.Read fh offset size) t h k = read_done (facts_of s c r.node) r offset size (handle_of s.handles c.seat fh) h
  walk_done c r (NodeOp.Write fh offset content) t h k = write_done (facts_of s c r.node) r offset content (handle_of s.handles c.seat fh) h k
  walk_done c r (NodeOp.Flush fh) t h k = any_handle_done (handle_of s.handles c.seat fh) _ h (λ file. refl)
  walk_done c r (NodeOp.Fsync fh) t h k = fsync_done (facts_of s c r.node) r (handle_of s.handles c.seat fh) h
  walk_done c r (NodeOp.Release fh) t h k = any_handle_done (handle_of s.handles c.seat fh) _ h (λ file. refl)
  walk_done c r NodeOp.OpenDir t h k = open_dir_done (facts_of s c r.node) r (sight_on s c r.node) h k
  walk_done c r (NodeOp.ReadDir fh offset size) t h k =
      let parts = both_of (not (nat_lt read_limit size)) (is_folder_handle (handle_of s.handles c.seat fh)) h in
      checked (nat_lt read_limit size) einval (read_names offset size (handle_of s.handles c.seat fh)) parts.0 (names_done (facts_of s c r.node) r offset size (handle_of s.handles c.seat fh) parts.1)
  walk_done c r (NodeOp.ReleaseDir fh) t h k = release_dir_done (facts_of s c r.node) r fh (handle_of s.handles c.seat fh) h
  walk_done c r (NodeOp.Access mask) t h k = access_done (facts_of s c r.node) r mask (sight_on s c r.node) h
  walk_done c r (NodeOp.Rename new_parent flags old_name new_name) t h k = rename_done (facts_of s c r.node) r (rename_call flags old_name new_name) c.temps (sight_on s c r.node) (sight_on s c new_parent) h
  walk_done c r (NodeOp.Unlink name) t h k = unlink_done (facts_of s c r.node) r name c.temps (sight_on s c r.node) h

abbrev DoneGiven : Option NodeVerdict → Type 0
DoneGiven None = ⊥
DoneGiven (Some v) = is_done v ≡ true

settled_done : (s : State) (c : Connection) (v : Option NodeVerdict) → DoneGiven v → is_refusal (settled_on_node s c v).1 ≡ false
settled_done s c None h = absurd h
settled_done s c (Some (Errs errno)) h = cc
settled_done s c (Some (Yields d)) h = refl

-- over a tree that tells
told_met : (s : State) (none : s.told ≡ false → (s.files ≡ []) × (s.hidden ≡ [])) (now : ℕ) (w : Walk NodeVerdict) → D s none now w → is_done (met (held_in s) now w) ≡ true
told_met s none now (Answers x) d = d
told_met s none now (Looks target next) d = told_met s none now (next (shown_at (held_in s) target)) d.1
told_met s none now (Ends call done missing) d = d.1
told_met s none now (Lists path done missing) d = d.1

-- over one that doesn't
answered_well : (w : Walk NodeVerdict) (now : ℕ) (listed : Option (List ChildName)) (looks : List Look) → EndsWell w → DoneGiven (walked_with w now listed looks false)
answered_well (Answers x) now listed looks h = h
answered_well (Looks target next) now listed looks h = absurd h
answered_well (Ends call done missing) now listed looks h = absurd h
answered_well (Lists path done missing) now listed looks h = absurd h

untold_met : (s : State) (none : s.told ≡ false → (s.files ≡ []) × (s.hidden ≡ [])) (now : ℕ) (w : Walk NodeVerdict) (listed : Option (List ChildName)) (looks : List Look) → s.told ≡ false → D s none now w → Gives None w looks false → DoneGiven (walked_with w now listed looks false)
untold_met s none now (Answers x) listed looks u d g = d
untold_met s none now (Looks target next) listed [] u d g = cc
untold_met s none now (Looks target next) listed (look ∷ looks) u (inl t, d) g = not_both_told s.told t u
untold_met s none now (Looks target next) listed (look ∷ looks) u (inr any, d) g = answered_well (next look) now listed looks (any look)
untold_met s none now (Ends call done missing) listed looks u d g = not_both_told s.told d.0 u
untold_met s none now (Lists path done missing) listed looks u d g = not_both_told s.told d.0 u

none-untold : (s : State) (op : NodeOp) → ToldForNode s op → s.told ≡ false → (s.files ≡ []) × (s.hidden ≡ [])
none-untold s (NodeOp.Create name flags) t u = not_both_told s.told t u
none-untold s op t u = t u

verdict-done : (s : State) (c : Connection) (r : NodeRequest) (given : Given) (none : s.told ≡ false → (s.files ≡ []) × (s.hidden ≡ [])) → D s none (moment_given given.now) (walk_on_node s c r) → LawfulNode s c r given → given.fault ≡ Fault.None → (b : Bool) → s.told ≡ b →
    DoneGiven (node_given (walk_on_node s c r) given)
verdict-done s c r given none d l e true t =
    let w = walk_on_node s c r in
    let now = moment_given given.now in
    let looks : given.looks ≡ looks_shown (held_in s) w = walk_taken s w given t e l.looks in
    let listed : given.listed ≡ listed_shown (held_in s) w = walk_listed s w given t e l.looks l.listed in
    let verdict : node_given w given ≡ Some (met (held_in s) now w) = (λ i. walked_with w now (listed i) (looks i) (is_tree (e i))) ∙ walked_met (held_in s) now w in
    subst DoneGiven (sym verdict) (told_met s none now w d)
verdict-done s c r given none d l e false u =
    let w = walk_on_node s c r in
    let now = moment_given given.now in
    let calm : is_tree given.fault ≡ false = ap is_tree e in
    let untold : files_told s ≡ None = ap (λ (b : Bool). cond b (Some (held_in s)) None) u in
    let gives : Gives None w given.looks false = subst (λ (failed : Bool). Gives None w given.looks failed) calm (subst (λ (held : Option Held). Gives held w given.looks (is_tree given.fault)) untold l.looks) in
    subst (λ (failed : Bool). DoneGiven (walked_with w now given.listed given.looks failed)) (sym calm) (untold_met s none now w given.listed given.looks u d gives)

pub node-done : (s : State) (c : Connection) (r : NodeRequest) (given : Given) → ToldForNode s r.op → may_ask_node s c r ≡ true → within s c r ≡ true → LawfulNode s c r given → given.fault ≡ Fault.None → is_refusal (node_answer s c r given).1 ≡ false
node-done s c r given t h k l e =
    let none = none-untold s r.op t in
    let d = walk_done s none (moment_given given.now) c r r.op t h k in
    settled_done s c (node_given (walk_on_node s c r) given) (verdict-done s c r given none d l e s.told refl)
