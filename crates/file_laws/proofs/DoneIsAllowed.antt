-- What is done on a node, over a tree that tells its files, was allowed there.
use Rattle.std.proofs.Common.{◌≡◌, ◌==◌, ℕ, ◌+◌, nat_lt, length, List, [], ◌∷◌, Bool, true, false, not, ◌&&◌, ◌||◌, cond, Option, Some, None, is_some, refl, sym, ap, ◌∙◌}
use Rattle.file_generations.specs.Generations.{all_held, may_freshen, may_turn}
use Rattle.portal_base.specs.Content.{file_named, has_room, look_at}
use Rattle.portal_base.specs.Names.{is_same, name_of, named_child}
use Rattle.portal_base.specs.declared.files.File.{File}
use Rattle.portal_base.specs.declared.files.FileName.{FileName}
use Rattle.portal_base.specs.declared.files.Look.{Look}
use Rattle.portal_base.specs.declared.who.Who.{Who}
use Rattle.portal_model.specs.declared.entry.Fault.{Fault}
use Rattle.portal_model.specs.declared.entry.Given.{Given}
use Rattle.portal_model.specs.declared.handle.Handle.{Handle}
use Rattle.portal_model.specs.declared.naming.Naming.{Naming}
use Rattle.portal_model.specs.declared.place.Place.{Place}
use Rattle.portal_model.specs.declared.reply.NodeAnswer.{NodeAnswer}
use Rattle.portal_model.specs.declared.rights.Right.TheVariants.{Write}
use Rattle.portal_model.specs.declared.request.NodeOp.{NodeOp}
use Rattle.portal_model.specs.declared.request.NodeRequest.{NodeRequest}
use Rattle.portal_model.specs.declared.state.Connection.{Connection}
use Rattle.portal_model.specs.declared.state.Document.{Document}
use Rattle.portal_model.specs.declared.temporary.OwnTemp.{OwnTemp}
use Rattle.portal_model.specs.declared.temporary.Temp.{Temp}
use Rattle.portal_model.specs.Access.{access, access_file, access_folder, executes, writes_to}
use Rattle.portal_model.specs.Add.{is_file, is_folder_look}
use Rattle.portal_model.specs.Allowed.{allowed_on_mount, always, at_sight, has_child, has_file, has_named, is_file_handle, is_folder_handle, is_free, is_missing, is_refusal, may_access, may_ask_at, may_ask_node, may_create_in, may_get_attr, may_set_attr, may_set_open, may_write_to, never, on_handle, at_look, has_document, has_path, has_temp, is_free_child, look_told, may_begin, may_list, may_rename, may_rename_at, may_rename_from, may_rename_in, may_rename_temp, may_rename_to, may_unlink, may_unlink_in}
use Rattle.portal_model.specs.Attributes.{attr_of_file, attr_of_folder, on_node, is_writable}
use Rattle.portal_model.specs.Bus.{is_tree, moment_given}
use Rattle.portal_model.specs.Create.{add_temp, create, create_in, create_other, create_own, create_temp, create_there, Made, child_made, create_at, create_child, next_file, next_temp_node, own_made, temp_made}
use Rattle.portal_model.specs.Errno.{eacces, ebadf, eexist, efbig, einval, eisdir, emfile, enametoolong, enoent, enotdir, eperm, exdev}
use Rattle.portal_model.specs.Fsync.{fsync_open}
use Rattle.portal_model.specs.GetAttr.{get_attr_by_handle, get_attr_by_place, get_attr_open, names_handle, tells_file, tells_folder}
use Rattle.portal_model.specs.Lawful.{LawfulOnNode}
use Rattle.portal_model.specs.Lookup.{found_folder, found_own, lookup_in, named_in_root, named_in_views, found_child, found_document, lookup_child, naming_in}
use Rattle.portal_model.specs.Node.{NodeFacts, facts_of, node_answer, node_given, node_walk, settled_on_node, temps_seen, walk_on_node}
use Rattle.portal_model.specs.NodeOutside.{LawfulNode}
use Rattle.portal_model.specs.NodeVerdict.{NodeVerdict, Errs, Yields, OnFile, OnHandle, at_file, at_name, by_file_handle, by_place, changes_temps, errs, errs_if, if_file, is_dots, is_too_long, no_file, told, Spot, by_look, name_at, spot}
use Rattle.portal_model.specs.Open.{has_no_mode, open_file, open_folder, open_name, open_node, opens_to_write}
use Rattle.portal_model.specs.OpenDir.{open_dir_in}
use Rattle.portal_model.specs.Place.{Folder, RootOf, Views, FolderOf, Sight, SightOfFile, SightOfFolder, SightOfTemp, file_node, reach_at, Exported, SightBelow, may_read, naming_on, place_named, seen_by, sight_at, sight_at_path, sight_below, sight_of_document, sight_of_folder, sight_of_naming, sight_of_own_temp, sight_of_place, sight_of_root, sight_of_temp, sight_on, subject_of, temp_on}
use Rattle.portal_model.specs.Reach.{OpenFile, may_read_now, may_write_now, open_file_of, reaches}
use Rattle.portal_model.specs.Read.{read, read_limit, read_name, read_open}
use Rattle.portal_model.specs.ReadDir.{read_names}
use Rattle.portal_model.specs.ReleaseDir.{release_dir}
use Rattle.portal_model.specs.Rename.{AFile, AFolder, Home, RenameCall, are_too_long, home_of, is_own_name, rename, rename_at, rename_call, rename_homes, rename_in, rename_temp, rename_to, same_home, saved, temp_at, with_seen}
use Rattle.portal_model.specs.SeatNames.{Renames, found_temp, lacks_number, lacks_temp}
use Rattle.portal_model.specs.SetAttr.{SetsAttr, resize, set_attr, set_attr_at, set_attr_of, set_attr_of_folder, set_attr_of_open, set_attr_open, sets_by_handle, sets_owner_or_mode, sets_size}
use Rattle.portal_model.specs.State.{State, handle_of, held_in, document_of, is_host, who_has}
use Rattle.portal_model.specs.Step.{all_told, node_step}
use Rattle.portal_model.specs.Valid.{is_none}
use Rattle.portal_model.specs.Unlink.{unlink, unlink_at, unlink_in, unlink_temp}
use Rattle.portal_model.specs.Walk.{Walk, Answers, AtPath, Ends, Looks, Turns, looks_shown, look_of_file, listed_shown, walked_with}
use Rattle.portal_model.specs.Write.{write, write_content, write_limit, write_open}
use Rattle.portal_model.proofs.LooksTaken.{walk_taken, walk_listed}
use Rattle.portal_model.proofs.NodeAllowed.{is_done, met, walked_met}

pub and-both : (a b : Bool) → a ≡ true → b ≡ true → (a && b) ≡ true
and-both true b e f = f
and-both false b e f = cc

-- a test that a refusal makes by the opposite
pub not-not : (b : Bool) → not (not b) ≡ true → b ≡ true
not-not true e = refl
not-not false e = cc

allowed-or : (a b : Bool) → not (a && not b) ≡ true → (not a || b) ≡ true
allowed-or true true e = refl
allowed-or true false e = cc
allowed-or false b e = refl

neither-of : (a b c : Bool) → not (a || b && not c) ≡ true → (not a && (not b || c)) ≡ true
neither-of true b c e = cc
neither-of false true true e = refl
neither-of false true false e = cc
neither-of false false c e = refl

-- an exported folder is seen as one by a look alone
abbrev IsReal : Option Sight → Type 0
IsReal None = Unit {0}
IsReal (Some (SightOfFile d may_write)) = Unit {0}
IsReal (Some (SightOfTemp d name may_write)) = Unit {0}
IsReal (Some (SightBelow view d path may_write)) = Unit {0}
IsReal (Some (SightOfFolder (RootOf view numbers has_views))) = Unit {0}
IsReal (Some (SightOfFolder (Views applications))) = Unit {0}
IsReal (Some (SightOfFolder (FolderOf view d may_write))) = Unit {0}
IsReal (Some (SightOfFolder (Exported view d path may_write))) = ⊥

module _ (s : State) (caller : Who) (naming : Option Naming) (temp : Option Temp) where
  if-real : (b : Bool) (sight : Sight) → IsReal (Some sight) → IsReal (cond b (Some sight) None)
  if-real true sight h = h
  if-real false sight h = tt

  path-real : (view : ℕ) (d : Document) (b w : Bool) → IsReal (Some (sight_at_path view d b w))
  path-real view d true w = tt
  path-real view d false w = tt

  document-real : (view : ℕ) (who : Who) (o : Option Document) → IsReal (sight_of_document view s.rights who o)
  document-real view who None = tt
  document-real view who (Some d) = if-real (may_read s.rights who d) (sight_at_path view d d.folder (who_has s.rights who d.id.number Write)) (path-real view d d.folder (who_has s.rights who d.id.number Write))

  folder-real : (view : ℕ) (who : Who) (o : Option Document) → IsReal (sight_of_folder view s.rights who o)
  folder-real view who None = tt
  folder-real view who (Some d) = if-real (may_read s.rights who d) (SightOfFolder (FolderOf view d (who_has s.rights who d.id.number Write))) tt

  below-real : (view : ℕ) (who : Who) (path : List ℕ) (o : Option Document) → IsReal (sight_below view s.rights who path o)
  below-real view who path None = tt
  below-real view who path (Some d) = if-real (may_read s.rights who d) (SightBelow view d path (who_has s.rights who d.id.number Write)) tt

  naming-real : (view : ℕ) (who : Who) (o : Option Naming) → IsReal (sight_of_naming s view who o)
  naming-real view who None = tt
  naming-real view who (Some n) = elim (n.view == view) as (λ b. IsReal (cond b (sight_below view s.rights who n.path (document_of s.documents n.document.number)) None)) [
    | true ↦ below-real view who n.path (document_of s.documents n.document.number)
    | false ↦ tt
  ]

  temp-real : (who : Who) (file : FileName) (o : Option Document) → IsReal (sight_of_temp s.rights who file o)
  temp-real who file None = tt
  temp-real who file (Some d) = if-real (may_read s.rights who d) (SightOfTemp d file (who_has s.rights who d.id.number Write)) tt

  own-temp-real : (view : ℕ) (who : Who) (o : Option Temp) → IsReal (sight_of_own_temp s view who o)
  own-temp-real view who None = tt
  own-temp-real view who (Some t) = elim (t.view == view) as (λ b. IsReal (cond b (sight_of_temp s.rights who t.file (document_of s.documents t.document.number)) None)) [
    | true ↦ temp-real who t.file (document_of s.documents t.document.number)
    | false ↦ tt
  ]

  seen-real : (o : Option Who) (sight : Who → Option Sight) → ((who : Who) → IsReal (sight who)) → IsReal (seen_by o sight)
  seen-real None sight h = tt
  seen-real (Some who) sight h = h who

  there-real : (p : Place) → IsReal (sight_of_place s caller naming temp p)
  there-real (Place.Root view) = seen-real (subject_of s.applications caller view) (sight_of_root s caller view) (λ who. tt)
  there-real Place.ByApp = if-real (is_host caller) (SightOfFolder (Views s.applications)) tt
  there-real (Place.Folder view id) = seen-real (subject_of s.applications caller view) _ (λ who. folder-real view who (document_of s.documents id.number))
  there-real (Place.File view id) = seen-real (subject_of s.applications caller view) _ (λ who. document-real view who (document_of s.documents id.number))
  there-real (Place.Named view k) = seen-real (subject_of s.applications caller view) _ (λ who. naming-real view who naming)
  there-real (Place.Temporary view k) = seen-real (subject_of s.applications caller view) _ (λ who. own-temp-real view who temp)

  at-real : (o : Option Place) → IsReal (sight_at s caller naming temp o)
  at-real None = tt
  at-real (Some p) = there-real p

sight-real : (s : State) (c : Connection) (node : ℕ) → IsReal (sight_on s c node)
sight-real s c node = at-real s c.who (naming_on c node) (temp_on c node) (place_named node)

module _ (s : State) (now : ℕ) (told_is : s.told ≡ true) where
  abbrev M : Walk NodeVerdict → Type 0
  M w = is_done (met (held_in s) now w) ≡ true

  passed : (b : Bool) (errno : ℕ) (w : Walk NodeVerdict) → M (errs_if b errno w) → (not b ≡ true) × M w
  passed true errno w h = cc
  passed false errno w h = (refl, h)

  -- a last call found what it needs
  ended : (b : Bool) (v : NodeVerdict) → is_done (cond b v (Errs enoent)) ≡ true → b ≡ true
  ended true v h = refl
  ended false v h = cc

  module _ {X : Type 0} where
    looked : (next : OnFile) (look : Look) → M (if_file next look) → ((generation size moment : ℕ) → M (next generation size moment) → X) → (is_file look ≡ true) × X
    looked next (Look.File generation size moment) h k = (refl, k generation size moment h)
    looked next Look.Folder h k = cc
    looked next Look.Missing h k = cc

    file-was : (path : List ℕ) (next : OnFile) → M (at_file path next) → ((generation size moment : ℕ) → M (next generation size moment) → X) → (has_file s path ≡ true) × X
    file-was path next h k = looked next (look_at s.files path) h k

    named-look : (next : OnFile) (o : Option File) → M (if_file next (look_of_file o)) → ((generation size moment : ℕ) → M (next generation size moment) → X) → (is_some o ≡ true) × X
    named-look next None h k = cc
    named-look next (Some f) h k = (refl, k f.generation (length f.bytes) f.moment h)

  -- a folder that is seen by a look is there
  abbrev ThereAt : Folder → Type 0
  ThereAt (RootOf view numbers has_views) = Unit {0}
  ThereAt (Views applications) = Unit {0}
  ThereAt (FolderOf view d may_write) = Unit {0}
  ThereAt (Exported view d path may_write) = is_folder_look (look_told s path) ≡ true

  told-look : (path : List ℕ) → look_told s path ≡ look_at s.files path
  told-look path = ap (λ (b : Bool). cond b (look_at s.files path) Look.Missing) told_is

  look-was : (view : ℕ) (at : Spot) (may_file : Bool → Bool) (may_folder : Folder → Bool) (file : Spot → OnFile) (folder : Folder → Walk NodeVerdict) (look : Look) → look_told s at.path ≡ look → M (by_look view at file folder look) →
      ((generation size moment : ℕ) → M (file at generation size moment) → may_file at.may_write ≡ true) →
      ((f : Folder) → ThereAt f → M (folder f) → may_folder f ≡ true) → at_look may_file may_folder at.may_write (Exported view at.document at.path at.may_write) look ≡ true
  look-was view at may_file may_folder file folder (Look.File generation size moment) e h k l = k generation size moment h
  look-was view at may_file may_folder file folder Look.Folder e h k l = l (Exported view at.document at.path at.may_write) (ap is_folder_look e) h
  look-was view at may_file may_folder file folder Look.Missing e h k l = cc

  place-was : (sight : Option Sight) (may_file : Bool → Bool) (may_folder : Folder → Bool) (file : Spot → OnFile) (folder : Folder → Walk NodeVerdict) → IsReal sight → M (by_place sight file folder) →
      ((at : Spot) (generation size moment : ℕ) → M (file at generation size moment) → may_file at.may_write ≡ true) →
      ((f : Folder) → ThereAt f → M (folder f) → may_folder f ≡ true) → at_sight s may_file may_folder sight ≡ true
  place-was None may_file may_folder file folder real h k l = cc
  place-was (Some (SightOfFile d may_write)) may_file may_folder file folder real h k l =
      let parts = file-was d.path (file (spot d d.path may_write)) h (k (spot d d.path may_write)) in
      and-both (has_file s d.path) (may_file may_write) parts.0 parts.1
  place-was (Some (SightOfTemp d name may_write)) may_file may_folder file folder real h k l =
      let parts = named-look (file (spot d name.path may_write)) (file_named (all_held (held_in s)) name) h (k (spot d name.path may_write)) in
      and-both (has_named s name) (may_file may_write) parts.0 parts.1
  place-was (Some (SightBelow view d path may_write)) may_file may_folder file folder real h k l =
      ap (at_look may_file may_folder may_write (Exported view d path may_write)) (told-look path)
      ∙ look-was view (spot d path may_write) may_file may_folder file folder (look_at s.files path) (told-look path) h (k (spot d path may_write)) l
  place-was (Some (SightOfFolder (RootOf view numbers has_views))) may_file may_folder file folder real h k l = l (RootOf view numbers has_views) tt h
  place-was (Some (SightOfFolder (Views applications))) may_file may_folder file folder real h k l = l (Views applications) tt h
  place-was (Some (SightOfFolder (FolderOf view d may_write))) may_file may_folder file folder real h k l = l (FolderOf view d may_write) tt h
  place-was (Some (SightOfFolder (Exported view d path may_write))) may_file may_folder file folder real h k l = absurd real

  and-never : (b : Bool) → (b && false) ≡ true → ⊥
  and-never true h = cc
  and-never false h = cc

  look-never : (w : Bool) (f : Folder) (look : Look) → at_look never never w f look ≡ true → ⊥
  look-never w f (Look.File generation size moment) h = let no : false ≡ true = h in cc
  look-never w f Look.Folder h = let no : false ≡ true = h in cc
  look-never w f Look.Missing h = let no : false ≡ true = h in cc

  -- what no place may do
  never-at : (sight : Option Sight) → at_sight s never never sight ≡ true → ⊥
  never-at None h = let no : false ≡ true = h in cc
  never-at (Some (SightOfFile d may_write)) h = and-never (has_file s d.path) h
  never-at (Some (SightOfTemp d name may_write)) h = and-never (has_named s name) h
  never-at (Some (SightBelow view d path may_write)) h = look-never may_write (Exported view d path may_write) (look_told s path) h
  never-at (Some (SightOfFolder f)) h = let no : false ≡ true = h in cc

  handle-was : (handle : Option Handle) (asked : OpenFile → Bool) (next : OnHandle) → M (by_file_handle handle next) →
      ((file : OpenFile) → M (next file) → (asked file ≡ true) × (has_named s file.name ≡ true)) → on_handle s asked handle ≡ true
  handle-was None asked next h k = cc
  handle-was (Some (Handle.File name node document strict may_read may_write)) asked next h k =
      let file : OpenFile = open_file_of name node document strict may_read may_write in
      let parts = k file h in
      and-both (asked file) (has_named s name) parts.0 parts.1
  handle-was (Some (Handle.Folder node names)) asked next h k = cc

  any-handle-was : (handle : Option Handle) (next : OnHandle) → M (by_file_handle handle next) → is_file_handle handle ≡ true
  any-handle-was None next h = cc
  any-handle-was (Some (Handle.File name node document strict may_read may_write)) next h = refl
  any-handle-was (Some (Handle.Folder node names)) next h = cc

  module _ (f : NodeFacts) (r : NodeRequest) where
    found-was : (o : Option ℕ) → M (found_folder r o) → is_some o ≡ true
    found-was None h = cc
    found-was (Some node) h = refl

    own-was : (node : ℕ) (d : Document) (may_write : Bool) (look : Look) → look_at s.files d.path ≡ look → M (found_document r node d may_write look) → has_document s d ≡ true
    own-was node d may_write (Look.File g n m) e h = ap (λ (l : Look). is_file l || (d.folder && is_folder_look (look_told s d.path))) e
    own-was node d may_write Look.Folder e h = by_flag d.folder h
      where
        by_flag : (b : Bool) → M (cond b (told (NodeAnswer.Entry (attr_of_folder (on_node r node) may_write))) (errs enoent)) → (has_file s d.path || (b && is_folder_look (look_told s d.path))) ≡ true
        by_flag true k = (λ i. is_file (e i) || is_folder_look ((told-look d.path ∙ e) i))
        by_flag false k = cc
    own-was node d may_write Look.Missing e h = cc

    path-was : (namings : List Naming) (naming : Naming) (may_write : Bool) (look : Look) → M (found_child r namings naming may_write look) → not (is_missing look) ≡ true
    path-was namings naming may_write (Look.File g n m) h = refl
    path-was namings naming may_write Look.Folder h = refl
    path-was namings naming may_write Look.Missing h = cc

    below-was : (view : ℕ) (d : Document) (may_write : Bool) (path : Option (List ℕ)) → M (lookup_child r f.namings view d may_write path) → has_path s path ≡ true
    below-was view d may_write None h = cc
    below-was view d may_write (Some path) h =
        ap (λ (l : Look). not (is_missing l)) (told-look path) ∙ path-was f.namings (naming_in view d path) may_write (look_at s.files path) h

    temp-was : (view : ℕ) (may_write : Bool) (o : Option OwnTemp) → M (found_own r view may_write o) → has_temp s o ≡ true
    temp-was view may_write None h = cc
    temp-was view may_write (Some t) h = (named-look {X = Unit {0}} _ (file_named (all_held (held_in s)) t.temp.file) h (λ g n m d. tt)).0

    child-was : (name : List ℕ) (folder : Folder) → M (lookup_in r f.namings f.temps.temps name folder) → has_child s f.temps.temps name folder ≡ true
    child-was name (RootOf view numbers has_views) h = found-was (named_in_root view numbers has_views name) h
    child-was name (Views applications) h = found-was (named_in_views applications name) h
    child-was name (FolderOf view d may_write) h = by_name (is_same name (name_of d.path)) h
      where
        own : Option OwnTemp
        own = found_temp f.temps.temps view d.id name

        by_name : (b : Bool) → M (cond b (Looks (AtPath d.path) (found_document r (file_node view d.id.number) d may_write)) (found_own r view may_write own)) → cond b (has_document s d) (has_temp s own) ≡ true
        by_name true k = own-was (file_node view d.id.number) d may_write (look_at s.files d.path) refl k
        by_name false k = temp-was view may_write own k
    child-was name (Exported view d path may_write) h = below-was view d may_write (named_child path name) h

    attr-was : (sight : Option Sight) → IsReal sight → M (get_attr_by_place r sight) → at_sight s always always sight ≡ true
    attr-was sight real h = place-was sight always always (λ at. tells_file r at.may_write) (tells_folder r) real h (λ at g n m k. refl) (λ folder there k. refl)

    open-attr-was : (file : OpenFile) → M (get_attr_open f.reach r file) → (reaches f.reach file ≡ true) × (has_named s file.name ≡ true)
    open-attr-was file h =
        let parts = passed (not (reaches f.reach file)) eacces (at_name file.name (tells_file (on_node r file.node) (may_write_now f.reach file))) h in
        (not-not (reaches f.reach file) parts.0, (named-look {X = Unit {0}} _ _ parts.1 (λ g n m d. tt)).0)

    get_attr-was : (b : Bool) (sight : Option Sight) (handle : Option Handle) → IsReal sight → M (cond b (get_attr_by_handle f.reach r sight handle) (get_attr_by_place r sight)) → may_get_attr s f.reach b sight handle ≡ true
    get_attr-was false sight handle real h = attr-was sight real h
    get_attr-was true sight None real h = cc
    get_attr-was true sight (Some (Handle.File name node document strict may_read may_write)) real h =
        let file : OpenFile = open_file_of name node document strict may_read may_write in
        let parts = open-attr-was file h in
        ap (λ (b : Bool). b || false) (and-both (reaches f.reach file) (has_named s name) parts.0 parts.1)
    get_attr-was true sight (Some (Handle.Folder node names)) real h = attr-was sight real h

    size-was : (q : NodeRequest) (a : SetsAttr) (name : FileName) (may_write : Bool) (size moment : ℕ) → M (set_attr_of q a name may_write size moment) → (not (sets_size a.valid) || may_write) ≡ true
    size-was q a name may_write size moment h = by_size (sets_size a.valid) h
      where
        by_size : (b : Bool) → M (cond b (errs_if (not may_write) eacces (errs_if (nat_lt a.limit a.size) efbig (resize q a name may_write))) (told (NodeAnswer.Attr (attr_of_file q may_write size moment)))) → (not b || may_write) ≡ true
        by_size true k = not-not may_write (passed (not may_write) eacces (errs_if (nat_lt a.limit a.size) efbig (resize q a name may_write)) k).0
        by_size false k = refl

    open-size-was : (a : SetsAttr) (file : OpenFile) → M (set_attr_open f.reach r a file) → (may_set_open f.reach a.valid file ≡ true) × (has_named s file.name ≡ true)
    open-size-was a file h =
        let parts = passed (not (reaches f.reach file)) eacces (at_name file.name (set_attr_of_open f.reach r a file)) h in
        let there = named-look (set_attr_of_open f.reach r a file) (file_named (all_held (held_in s)) file.name) parts.1 (λ g n m d.
        size-was (on_node r file.node) a file.name (may_write_now f.reach file) n m (passed (sets_size a.valid && not file.write) ebadf (set_attr_of (on_node r file.node) a file.name (may_write_now f.reach file) n m) d).1) in
        (and-both (reaches f.reach file) (not (sets_size a.valid) || may_write_now f.reach file) (not-not (reaches f.reach file) parts.0) there.1, there.0)

    set_attr-was : (a : SetsAttr) (sight : Option Sight) (handle : Option Handle) → IsReal sight → M (set_attr f.reach r a sight handle) → may_set_attr s f.reach a.valid sight handle ≡ true
    set_attr-was a sight handle real h =
        let parts = passed (sets_owner_or_mode a.valid) eperm (cond (sets_by_handle a.valid) (by_file_handle handle (set_attr_open f.reach r a)) (by_place sight (set_attr_at r a) (set_attr_of_folder r a))) h in
        and-both (not (sets_owner_or_mode a.valid)) (cond (sets_by_handle a.valid) by_one by_other) parts.0 (by_flag (sets_by_handle a.valid) parts.1)
      where
        by_one : Bool
        by_one = on_handle s (may_set_open f.reach a.valid) handle

        by_other : Bool
        by_other = at_sight s (λ may_write. not (sets_size a.valid) || may_write) (λ folder. not (sets_size a.valid)) sight

        by_flag : (b : Bool) → M (cond b (by_file_handle handle (set_attr_open f.reach r a)) (by_place sight (set_attr_at r a) (set_attr_of_folder r a))) → cond b by_one by_other ≡ true
        by_flag true k = handle-was handle (may_set_open f.reach a.valid) (set_attr_open f.reach r a) k (λ file d. open-size-was a file d)
        by_flag false k = place-was sight (λ may_write. not (sets_size a.valid) || may_write) (λ folder. not (sets_size a.valid)) (set_attr_at r a) (set_attr_of_folder r a) real k
            (λ at g n m e. size-was r a (name_at at g) at.may_write n m e)
            (λ folder there d. (passed (sets_size a.valid) eisdir (told (NodeAnswer.Attr (attr_of_folder r (is_writable folder)))) d).0)

    open-was : (flags : ℕ) (sight : Option Sight) → IsReal sight → M (open_node r flags sight f.room) → (not (has_no_mode flags) && at_sight s (λ may_write. not (opens_to_write flags) || may_write) never sight) ≡ true
    open-was flags sight real h =
        let parts = passed (has_no_mode flags) einval (by_place sight (open_file r flags f.room) open_folder) h in
        and-both (not (has_no_mode flags)) (at_sight s (λ may_write. not (opens_to_write flags) || may_write) never sight) parts.0
        (place-was sight (λ may_write. not (opens_to_write flags) || may_write) never (open_file r flags f.room) open_folder real parts.1
        (λ at g n m e. allowed-or (opens_to_write flags) at.may_write (passed (opens_to_write flags && not at.may_write) eacces (errs_if f.room.full emfile (open_name r flags f.room at.document (name_at at g))) e).0)
        (λ folder there d. cc))

    free-was : (flags : ℕ) (made : Made) (look : Look) → M (create_there r flags f.room made look) → (is_missing look && has_room s.files made.path) ≡ true
    free-was flags made (Look.File g n m) h = cc
    free-was flags made Look.Folder h = cc
    free-was flags made Look.Missing h = ended (has_room s.files made.path) _ h

    create_child-was : (flags view : ℕ) (d : Document) (may_write : Bool) (path : Option (List ℕ)) → M (create_child r flags f.room f.namings view d may_write path) → (may_write && is_free_child s path) ≡ true
    create_child-was flags view d may_write None h = cc
    create_child-was flags view d may_write (Some path) h =
        let naming = naming_in view d path in
        let made = child_made f.namings d naming in
        let first = passed (not may_write) eacces (errs_if (f.room.full || lacks_number f.namings naming) emfile (create_at r flags f.room made)) h in
        let second = passed (f.room.full || lacks_number f.namings naming) emfile (create_at r flags f.room made) first.1 in
        and-both may_write (is_free s path) (not-not may_write first.0) (free-was flags made (look_at s.files path) second.1)

    create_own-was : (flags view : ℕ) (d : Document) (may_write : Bool) → M (create_own r flags f.room view d may_write) → (may_write && is_free s d.path) ≡ true
    create_own-was flags view d may_write h =
        let there = create_at r flags f.room (own_made view d) in
        let first = passed (not may_write) eacces (errs_if f.room.full emfile there) h in
        let second = passed f.room.full emfile there first.1 in
        and-both may_write (is_free s d.path) (not-not may_write first.0) (free-was flags (own_made view d) (look_at s.files d.path) second.1)

    create_other-was : (name : List ℕ) (flags view : ℕ) (d : Document) (may_write : Bool) → M (create_other r name flags f.room f.temps view d may_write) → (may_write && may_begin s f.temps name view d) ≡ true
    create_other-was name flags view d may_write h =
        let full : Bool = f.room.full || lacks_temp f.temps in
        let there : Bool = is_some (found_temp f.temps.temps view d.id name) in
        let fourth = add_temp r flags f.room (next_temp_node f.temps view) d (temp_made view d name (next_file f.temps d)) in
        let third = errs_if full emfile fourth in
        let second = errs_if there eexist third in
        let first = errs_if (not may_write) eacces second in
        let a = passed d.folder eacces (errs_if (is_dots name) eacces first) h in
        let b = passed (is_dots name) eacces first a.1 in
        let c = passed (not may_write) eacces second b.1 in
        let e = passed there eexist third c.1 in
        let g = passed full emfile fourth e.1 in
        let free : may_freshen (held_in s) (next_file f.temps d) ≡ true = ended (may_freshen (held_in s) (next_file f.temps d)) _ g.1 in
        and-both may_write (may_begin s f.temps name view d) (not-not may_write c.0)
        (and-both (not d.folder) (not (is_dots name) && (not there && may_freshen (held_in s) (next_file f.temps d))) a.0
        (and-both (not (is_dots name)) (not there && may_freshen (held_in s) (next_file f.temps d)) b.0
        (and-both (not there) (may_freshen (held_in s) (next_file f.temps d)) e.0 free)))

    create_in-was : (name : List ℕ) (flags : ℕ) (folder : Folder) → M (create_in r name flags f.room f.namings f.temps folder) → may_create_in s f.temps name folder ≡ true
    create_in-was name flags (RootOf view numbers has_views) h = cc
    create_in-was name flags (Views applications) h = cc
    create_in-was name flags (FolderOf view d may_write) h = by_name (is_same name (name_of d.path)) h
      where
        by_name : (b : Bool) → M (cond b (create_own r flags f.room view d may_write) (create_other r name flags f.room f.temps view d may_write)) → (may_write && cond b (is_free s d.path) (may_begin s f.temps name view d)) ≡ true
        by_name true k = create_own-was flags view d may_write k
        by_name false k = create_other-was name flags view d may_write k
    create_in-was name flags (Exported view d path may_write) h = create_child-was flags view d may_write (named_child path name) h

    create-was : (name : List ℕ) (flags : ℕ) (sight : Option Sight) → IsReal sight → M (create r name flags sight f.room f.namings f.temps) → (not (has_no_mode flags) && (not (is_too_long name) && at_sight s never (may_create_in s f.temps name) sight)) ≡ true
    create-was name flags sight real h =
        let place = by_place sight (no_file enotdir) (create_in r name flags f.room f.namings f.temps) in
        let first = passed (has_no_mode flags) einval (errs_if (is_too_long name) enametoolong place) h in
        let second = passed (is_too_long name) enametoolong place first.1 in
        and-both (not (has_no_mode flags)) (not (is_too_long name) && at_sight s never (may_create_in s f.temps name) sight) first.0
        (and-both (not (is_too_long name)) (at_sight s never (may_create_in s f.temps name) sight) second.0
        (place-was sight never (may_create_in s f.temps name) (no_file enotdir) (create_in r name flags f.room f.namings f.temps) real second.1 (λ at g n m e. cc) (λ folder there d. create_in-was name flags folder d)))

    list-was : (folder : Folder) → ThereAt folder → may_list s folder ≡ true
    list-was (RootOf view numbers has_views) there = refl
    list-was (Views applications) there = refl
    list-was (FolderOf view d may_write) there = refl
    list-was (Exported view d path may_write) there = there

    read-was : (offset size : ℕ) (handle : Option Handle) → M (read f.reach f.bytes offset size handle) → (not (nat_lt read_limit size) && on_handle s (may_read_now f.reach) handle) ≡ true
    read-was offset size handle h =
        let parts = passed (nat_lt read_limit size) einval (by_file_handle handle (read_open f.reach f.bytes offset size)) h in
        and-both (not (nat_lt read_limit size)) (on_handle s (may_read_now f.reach) handle) parts.0
        (handle-was handle (may_read_now f.reach) (read_open f.reach f.bytes offset size) parts.1
        (λ file d.
        let more = passed (not (may_read_now f.reach file)) eacces (read_name f.bytes offset size file.name) (passed (not file.read) ebadf _ d).1 in
        (not-not (may_read_now f.reach file) more.0, ended (has_named s file.name) _ more.1)))

    content-was : (name : FileName) (offset : ℕ) (content : List ℕ) → M (write_content f.file_limit name offset content) → (is_none content || has_named s name) ≡ true
    content-was name offset [] h = refl
    content-was name offset (b ∷ bs) h = ended (has_named s name) _ (passed (nat_lt f.file_limit (offset + length (b ∷ bs))) efbig _ h).1

    write_to-was : (offset : ℕ) (content : List ℕ) (handle : Option Handle) → M (by_file_handle handle (write_open f.reach f.file_limit offset content)) → may_write_to s f.reach content handle ≡ true
    write_to-was offset content None h = cc
    write_to-was offset content (Some (Handle.File name node document strict may_read may_write)) h =
        let file : OpenFile = open_file_of name node document strict may_read may_write in
        let parts = passed (not (may_write_now f.reach file)) eacces (write_content f.file_limit name offset content) (passed (not may_write) ebadf _ h).1 in
        and-both (may_write_now f.reach file) (is_none content || has_named s name) (not-not (may_write_now f.reach file) parts.0) (content-was name offset content parts.1)
    write_to-was offset content (Some (Handle.Folder node names)) h = cc

    write-was : (offset : ℕ) (content : List ℕ) (handle : Option Handle) → M (write f.reach f.file_limit offset content handle) → (not (nat_lt write_limit (length content)) && may_write_to s f.reach content handle) ≡ true
    write-was offset content handle h =
        let parts = passed (nat_lt write_limit (length content)) einval (by_file_handle handle (write_open f.reach f.file_limit offset content)) h in
        and-both (not (nat_lt write_limit (length content))) (may_write_to s f.reach content handle) parts.0 (write_to-was offset content handle parts.1)

    names-were : (offset size : ℕ) (handle : Option Handle) → M (read_names offset size handle) → is_folder_handle handle ≡ true
    names-were offset size None h = cc
    names-were offset size (Some (Handle.File name node document strict may_read may_write)) h = cc
    names-were offset size (Some (Handle.Folder node names)) h = refl

    folder-was : (fh : ℕ) (handle : Option Handle) → M (release_dir fh handle) → is_folder_handle handle ≡ true
    folder-was fh None h = cc
    folder-was fh (Some (Handle.File name node document strict may_read may_write)) h = cc
    folder-was fh (Some (Handle.Folder node names)) h = refl

    access-was : (mask : ℕ) (sight : Option Sight) → IsReal sight → M (access mask sight) → may_access s mask sight ≡ true
    access-was mask sight real h =
        let file : Bool → Bool = λ may_write. not (executes mask) && (not (writes_to mask) || may_write) in
        let folder : Folder → Bool = λ x. not (writes_to mask) || is_writable x in
        let parts = passed (nat_lt 7 mask) einval (by_place sight (access_file mask) (access_folder mask)) h in
        and-both (not (nat_lt 7 mask)) (at_sight s file folder sight) parts.0
        (place-was sight file folder (access_file mask) (access_folder mask) real parts.1
        (λ at g n m e. neither-of (executes mask) (writes_to mask) at.may_write (passed (executes mask || writes_to mask && not at.may_write) eacces _ e).0)
        (λ x there d. allowed-or (writes_to mask) (is_writable x) (passed (writes_to mask && not (is_writable x)) eacces _ d).0))

  -- ---- temporaries get other names, and are gone

  module _ (call : RenameCall) (temps : List OwnTemp) where
    temp-renamed : (h : Home) (o : Option OwnTemp) → M (rename_temp h call.new_name o) → may_rename_temp s h call.new_name o ≡ true
    temp-renamed h None m = cc
    temp-renamed h (Some t) m =
        let first = passed (not h.may_write) eacces (errs_if (is_dots call.new_name) eacces (rename_to h call.new_name t)) m in
        let second = passed (is_dots call.new_name) eacces (rename_to h call.new_name t) first.1 in
        and-both h.may_write (may_rename_to s h call.new_name t) (not-not h.may_write first.0)
        (and-both (not (is_dots call.new_name)) (not (is_own_name h call.new_name) || may_turn (held_in s) t.temp.file) second.0 (by_name (is_own_name h call.new_name) second.1))
      where
        by_name : (b : Bool) → M (cond b (Ends (Turns t.temp.file) (λ now. saved t) (Errs enoent)) (Answers (changes_temps (Renames t.k t.temp call.new_name) NodeAnswer.Empty))) → (not b || may_turn (held_in s) t.temp.file) ≡ true
        by_name true k = ended (may_turn (held_in s) t.temp.file) _ k
        by_name false k = refl

    homes-renamed : (first second : Option Home) → M (rename_homes call temps first second) → may_rename_in s call temps first second ≡ true
    homes-renamed None second m = cc
    homes-renamed (Some first) None m = cc
    homes-renamed (Some first) (Some second) m =
        let a = passed (not (same_home first second)) exdev (rename_at call temps first) m in
        let b = passed (is_own_name first call.old_name) eperm (rename_temp first call.new_name (temp_at temps first call.old_name)) a.1 in
        and-both (same_home first second) (may_rename_at s call temps first) (not-not (same_home first second) a.0)
        (and-both (not (is_own_name first call.old_name)) (may_rename_temp s first call.new_name (temp_at temps first call.old_name)) b.0
        (temp-renamed first (temp_at temps first call.old_name) b.1))

    file-first : (new_sight : Option Sight) → IsReal new_sight → M (with_seen new_sight (rename_in call temps AFile)) → ⊥
    file-first new_sight real m =
        never-at new_sight
        (place-was new_sight never never (λ to g n k. rename_in call temps AFile AFile) (λ second. rename_in call temps AFile (AFolder second)) real m (λ to g n k e. cc) (λ second there d. cc))

    folder-first : (first : Folder) (new_sight : Option Sight) → IsReal new_sight → M (with_seen new_sight (rename_in call temps (AFolder first))) → may_rename_from s call temps new_sight first ≡ true
    folder-first first new_sight real m =
        place-was new_sight never (λ second. may_rename_in s call temps (home_of first) (home_of second)) (λ to g n k. rename_in call temps (AFolder first) AFile) (λ second. rename_in call temps (AFolder first) (AFolder second)) real m
        (λ to g n k e. cc) (λ second there d. homes-renamed (home_of first) (home_of second) d)

    rename-was : (sight new_sight : Option Sight) → IsReal sight → IsReal new_sight → M (rename call temps sight new_sight) → may_rename s call temps sight new_sight ≡ true
    rename-was sight new_sight real also m =
        let place = with_seen sight (λ first. with_seen new_sight (rename_in call temps first)) in
        let a = passed (not (call.flags == 0)) einval (errs_if (are_too_long call) enametoolong place) m in
        let b = passed (are_too_long call) enametoolong place a.1 in
        and-both (call.flags == 0) (not (are_too_long call) && at_sight s never (may_rename_from s call temps new_sight) sight) (not-not (call.flags == 0) a.0)
        (and-both (not (are_too_long call)) (at_sight s never (may_rename_from s call temps new_sight) sight) b.0
        (place-was sight never (may_rename_from s call temps new_sight) (λ at g n k. with_seen new_sight (rename_in call temps AFile)) (λ first. with_seen new_sight (rename_in call temps (AFolder first))) real b.1
        (λ at g n k e. absurd (file-first new_sight also e)) (λ first there d. folder-first first new_sight also d)))

  module _ (name : List ℕ) (temps : List OwnTemp) where
    temp-unlinked : (h : Home) (o : Option OwnTemp) → M (unlink_temp h o) → (h.may_write && is_some o) ≡ true
    temp-unlinked h None m = cc
    temp-unlinked h (Some t) m = and-both h.may_write true (not-not h.may_write (passed (not h.may_write) eacces _ m).0) refl

    home-unlinked : (o : Option Home) → M (unlink_at name temps o) → may_unlink_in name temps o ≡ true
    home-unlinked None m = cc
    home-unlinked (Some h) m =
        let a = passed (is_own_name h name) eperm (unlink_temp h (temp_at temps h name)) m in
        and-both (not (is_own_name h name)) (h.may_write && is_some (temp_at temps h name)) a.0 (temp-unlinked h (temp_at temps h name) a.1)

    unlink-was : (sight : Option Sight) → IsReal sight → M (unlink name temps sight) → may_unlink s name temps sight ≡ true
    unlink-was sight real m =
        let a = passed (is_too_long name) enametoolong (by_place sight (no_file enotdir) (unlink_in name temps)) m in
        and-both (not (is_too_long name)) (at_sight s never (λ folder. may_unlink_in name temps (home_of folder)) sight) a.0
        (place-was sight never (λ folder. may_unlink_in name temps (home_of folder)) (no_file enotdir) (unlink_in name temps) real a.1 (λ at g n k e. cc) (λ folder there d. home-unlinked (home_of folder) d))

  -- each request
  op-was : (c : Connection) (r : NodeRequest) (op : NodeOp) → M (node_walk (facts_of s c r.node) r op) → may_ask_at s (reach_at s c.who) (temps_seen s c) op (sight_on s c) (sight_on s c r.node) (handle_of s.handles c.seat) ≡ true
  op-was c r (NodeOp.Lookup name) h =
      let sight = sight_on s c r.node in
      let parts = passed (is_too_long name) enametoolong (by_place sight (no_file enotdir) (lookup_in r c.namings c.temps name)) h in
      and-both (not (is_too_long name)) (at_sight s never (has_child s c.temps name) sight) parts.0
      (place-was sight never (has_child s c.temps name) (no_file enotdir) (lookup_in r c.namings c.temps name) (sight-real s c r.node) parts.1 (λ at g n m e. cc) (λ folder there d. child-was (facts_of s c r.node) r name folder d))
  op-was c r (NodeOp.Forget count) h = refl
  op-was c r (NodeOp.BatchForget nodes) h = refl
  op-was c r (NodeOp.GetAttr flags fh) h = get_attr-was (facts_of s c r.node) r (names_handle flags) (sight_on s c r.node) (handle_of s.handles c.seat fh) (sight-real s c r.node) h
  op-was c r (NodeOp.SetAttr valid fh size) h = set_attr-was (facts_of s c r.node) r (record { valid = valid; size = size; limit = s.limits.file_bytes }) (sight_on s c r.node) (handle_of s.handles c.seat fh) (sight-real s c r.node) h
  op-was c r (NodeOp.Open flags) h = open-was (facts_of s c r.node) r flags (sight_on s c r.node) (sight-real s c r.node) h
  op-was c r (NodeOp.Create name flags) h = create-was (facts_of s c r.node) r name flags (sight_on s c r.node) (sight-real s c r.node) h
  op-was c r (NodeOp.Read fh offset size) h = read-was (facts_of s c r.node) r offset size (handle_of s.handles c.seat fh) h
  op-was c r (NodeOp.Write fh offset content) h = write-was (facts_of s c r.node) r offset content (handle_of s.handles c.seat fh) h
  op-was c r (NodeOp.Flush fh) h = any-handle-was (handle_of s.handles c.seat fh) _ h
  op-was c r (NodeOp.Fsync fh) h = handle-was (handle_of s.handles c.seat fh) always fsync_open h (λ file d. (refl, ended (has_named s file.name) _ d))
  op-was c r (NodeOp.Release fh) h = any-handle-was (handle_of s.handles c.seat fh) _ h
  op-was c r NodeOp.OpenDir h = place-was (sight_on s c r.node) never (may_list s) (no_file enotdir) (open_dir_in r (facts_of s c r.node).room c.temps) (sight-real s c r.node) h (λ at g n m e. cc) (λ folder there d. list-was (facts_of s c r.node) r folder there)
  op-was c r (NodeOp.ReadDir fh offset size) h =
      let parts = passed (nat_lt read_limit size) einval (read_names offset size (handle_of s.handles c.seat fh)) h in
      and-both (not (nat_lt read_limit size)) (is_folder_handle (handle_of s.handles c.seat fh)) parts.0 (names-were (facts_of s c r.node) r offset size (handle_of s.handles c.seat fh) parts.1)
  op-was c r (NodeOp.ReleaseDir fh) h = folder-was (facts_of s c r.node) r fh (handle_of s.handles c.seat fh) h
  op-was c r (NodeOp.Access mask) h = access-was (facts_of s c r.node) r mask (sight_on s c r.node) (sight-real s c r.node) h
  op-was c r (NodeOp.Rename new_parent flags old_name new_name) h =
      rename-was (rename_call flags old_name new_name) c.temps (sight_on s c r.node) (sight_on s c new_parent) (sight-real s c r.node) (sight-real s c new_parent) h
  op-was c r (NodeOp.Unlink name) h = unlink-was name c.temps (sight_on s c r.node) (sight-real s c r.node) h

settled-was : (s : State) (c : Connection) (v : NodeVerdict) → is_refusal (settled_on_node s c (Some v)).1 ≡ false → is_done v ≡ true
settled-was s c (Errs errno) h = cc
settled-was s c (Yields d) h = refl

pub node-was : (s : State) (c : Connection) (r : NodeRequest) (given : Given) → s.told ≡ true → LawfulNode s c r given → given.fault ≡ Fault.None → is_refusal (node_answer s c r given).1 ≡ false → may_ask_node s c r ≡ true
node-was s c r given t l e h =
    let w = walk_on_node s c r in
    let now = moment_given given.now in
    let looks : given.looks ≡ looks_shown (held_in s) w = walk_taken s w given t e l.looks in
    let listed : given.listed ≡ listed_shown (held_in s) w = walk_listed s w given t e l.looks l.listed in
    let verdict : node_given w given ≡ Some (met (held_in s) now w) = (λ i. walked_with w now (listed i) (looks i) (is_tree (e i))) ∙ walked_met (held_in s) now w in
    op-was s now t c r r.op (settled-was s c (met (held_in s) now w) (sym (ap (λ (v : Option NodeVerdict). is_refusal (settled_on_node s c v).1) verdict) ∙ h))

pub step-was : (s : State) (r : NodeRequest) (given : Given) (o : Option Connection) → s.told ≡ true → LawfulOnNode s r given o → given.fault ≡ Fault.None → is_refusal (node_step s r given o).1.answer ≡ false → allowed_on_mount s r o ≡ true
step-was s r given None t l e h = cc
step-was s r given (Some c) t l e h = node-was (all_told c.seat s) c r given t l e h
