-- Requests by which nothing is named, no temporary changes and no generation is taken.
use Rattle.std.proofs.Common.{◌≡◌, ◌+◌, ◌&&◌, ◌||◌, ℕ, nat_lt, length, List, [], ◌∷◌, Bool, true, not, cond, Option, Some, None, refl}
use Rattle.portal_base.specs.Names.{is_same, name_of}
use Rattle.portal_base.specs.declared.files.FileName.{FileName}
use Rattle.portal_base.specs.declared.files.Look.{Look}
use Rattle.portal_model.specs.declared.handle.Handle.{Handle}
use Rattle.portal_model.specs.declared.naming.Naming.{Naming}
use Rattle.portal_model.specs.declared.reply.NodeAnswer.TheVariants as NodeAnswer
use Rattle.portal_model.specs.declared.request.NodeOp.{NodeOp}
use Rattle.portal_model.specs.declared.request.NodeRequest.{NodeRequest}
use Rattle.portal_model.specs.declared.state.Document.{Document}
use Rattle.portal_model.specs.declared.temporary.OwnTemp.{OwnTemp}
use Rattle.portal_model.specs.Access.{access_file, access_folder, executes, writes_to}
use Rattle.portal_model.specs.Attributes.{attr_of_file, attr_of_folder, is_writable, on_node}
use Rattle.portal_model.specs.Create.{create_in}
use Rattle.portal_model.specs.Errno.{eacces, ebadf, efbig, einval, eisdir, emfile, enametoolong, enoent, enotdir, eperm}
use Rattle.portal_model.specs.Fsync.{fsync_open}
use Rattle.portal_model.specs.GetAttr.{get_attr_by_handle, get_attr_by_place, get_attr_open, names_handle, tells_file, tells_folder}
use Rattle.portal_model.specs.Lookup.{entry_of_file, found_document, found_folder, found_own, lookup_in, named_in_root, named_in_views}
use Rattle.portal_model.specs.Node.{NodeFacts, node_walk}
use Rattle.portal_model.specs.NodeVerdict.{NodeVerdict, FilesStay, Resizes, Errs, OnFile, Room, Spot, at_name, by_file_handle, by_place, errs, errs_if, errs_on_file, is_too_long, name_at, no_file, spot, told}
use Rattle.portal_model.specs.Open.{file_handle, has_no_mode, open_file, open_folder, open_name, opened_file, opens_to_write, truncates}
use Rattle.portal_model.specs.OpenDir.{open_dir_in, open_found}
use Rattle.portal_model.specs.Place.{Exported, Folder, RootOf, Views, FolderOf, Sight, SightBelow, SightOfFile, SightOfFolder, SightOfTemp, file_node, temp_node}
use Rattle.portal_model.specs.Reach.{OpenFile, may_read_now, may_write_now, open_file_of, reaches}
use Rattle.portal_model.specs.Read.{read_limit, read_name, read_open}
use Rattle.portal_model.specs.ReadDir.{read_names}
use Rattle.portal_model.specs.Release.{closed}
use Rattle.portal_model.specs.ReleaseDir.{release_dir}
use Rattle.portal_model.specs.SeatNames.{SeatTemps, found_temp}
use Rattle.portal_model.specs.SetAttr.{SetsAttr, resize, set_attr_at, set_attr_of, set_attr_of_folder, set_attr_of_open, set_attr_open, sets_by_handle, sets_owner_or_mode, sets_size}
use Rattle.portal_model.specs.Walk.{Walk, Answers, Looks, Ends, AtPath, Changes}
use Rattle.portal_model.specs.Write.{write_content, write_limit, write_open}
use Rattle.file_ops.proofs.EachEnd.{Each, either, handled, is_quiet, looked, placed, refused}

abbrev Never : Walk NodeVerdict → Type 0
Never w = Each is_quiet w

-- no error names anything
errors : (errno : ℕ) → is_quiet (Errs errno) ≡ true
errors errno = refl

-- ---- where no look tells what is there

abbrev pub IsPlain : Option Sight → Type 0
IsPlain None = Unit {0}
IsPlain (Some (SightOfFile d may_write)) = Unit {0}
IsPlain (Some (SightOfTemp d file may_write)) = Unit {0}
IsPlain (Some (SightBelow view d path may_write)) = ⊥
IsPlain (Some (SightOfFolder (RootOf view numbers has_views))) = Unit {0}
IsPlain (Some (SightOfFolder (Views applications))) = Unit {0}
IsPlain (Some (SightOfFolder (FolderOf view d may_write))) = Unit {0}
IsPlain (Some (SightOfFolder (Exported view d path may_write))) = ⊥

plainly : (sight : Option Sight) (file : Spot → OnFile) (folder : Folder → Walk NodeVerdict) → IsPlain sight → ((at : Spot) (generation size moment : ℕ) → Never (file at generation size moment)) →
    ((f : Folder) → IsPlain (Some (SightOfFolder f)) → Never (folder f)) → Never (by_place sight file folder)
plainly None file folder p h k = refl
plainly (Some (SightOfFile d may_write)) file folder p h k = looked is_quiet errors (file (spot d d.path may_write)) (h (spot d d.path may_write))
plainly (Some (SightOfTemp d name may_write)) file folder p h k = looked is_quiet errors (file (spot d name.path may_write)) (h (spot d name.path may_write))
plainly (Some (SightBelow view d path may_write)) file folder p h k = absurd p
plainly (Some (SightOfFolder (RootOf view numbers has_views))) file folder p h k = k (RootOf view numbers has_views) tt
plainly (Some (SightOfFolder (Views applications))) file folder p h k = k (Views applications) tt
plainly (Some (SightOfFolder (FolderOf view d may_write))) file folder p h k = k (FolderOf view d may_write) tt
plainly (Some (SightOfFolder (Exported view d path may_write))) file folder p h k = absurd p

-- ---- where no file can be made

abbrev pub IsNowhere : Option Sight → Type 0
IsNowhere None = Unit {0}
IsNowhere (Some (SightOfFile d may_write)) = Unit {0}
IsNowhere (Some (SightOfTemp d file may_write)) = Unit {0}
IsNowhere (Some (SightBelow view d path may_write)) = ⊥
IsNowhere (Some (SightOfFolder (RootOf view numbers has_views))) = Unit {0}
IsNowhere (Some (SightOfFolder (Views applications))) = Unit {0}
IsNowhere (Some (SightOfFolder (FolderOf view d may_write))) = ⊥
IsNowhere (Some (SightOfFolder (Exported view d path may_write))) = ⊥

nowhere : (r : NodeRequest) (name : List ℕ) (flags : ℕ) (room : Room) (namings : List Naming) (temps : SeatTemps) (sight : Option Sight) → IsNowhere sight → Never (by_place sight (no_file enotdir) (create_in r name flags room namings temps))
nowhere r name flags room namings temps None p = refl
nowhere r name flags room namings temps (Some (SightOfFile d may_write)) p = looked is_quiet errors (errs_on_file enotdir) (λ g s m. refl)
nowhere r name flags room namings temps (Some (SightOfTemp d file may_write)) p = looked is_quiet errors (errs_on_file enotdir) (λ g s m. refl)
nowhere r name flags room namings temps (Some (SightBelow view d path may_write)) p = absurd p
nowhere r name flags room namings temps (Some (SightOfFolder (RootOf view numbers has_views))) p = refl
nowhere r name flags room namings temps (Some (SightOfFolder (Views applications))) p = refl
nowhere r name flags room namings temps (Some (SightOfFolder (FolderOf view d may_write))) p = absurd p
nowhere r name flags room namings temps (Some (SightOfFolder (Exported view d path may_write))) p = absurd p

-- a LOOKUP names what it finds below a folder that is a document, and a CREATE what it makes; in
-- the folder of a document a CREATE may make a temporary, a RENAME changes one, and an UNLINK
abbrev pub IsQuietAt : NodeOp → Option Sight → Type 0
IsQuietAt (NodeOp.Lookup name) sight = IsPlain sight
IsQuietAt (NodeOp.Create name flags) sight = IsNowhere sight
IsQuietAt (NodeOp.Rename new_parent flags old_name new_name) sight = ⊥
IsQuietAt (NodeOp.Unlink name) sight = ⊥
IsQuietAt op sight = Unit {0}

-- ---- each request

module _ (r : NodeRequest) where
  found : (o : Option ℕ) → Never (found_folder r o)
  found None = refl
  found (Some node) = refl

  own_found : (node : ℕ) (d : Document) (may_write : Bool) (look : Look) → Never (found_document r node d may_write look)
  own_found node d may_write (Look.File g s m) = refl
  own_found node d may_write Look.Folder = either is_quiet errors d.folder (told (NodeAnswer.Entry (attr_of_folder (on_node r node) may_write))) (errs enoent) refl refl
  own_found node d may_write Look.Missing = refl

  own_temp : (view : ℕ) (may_write : Bool) (o : Option OwnTemp) → Never (found_own r view may_write o)
  own_temp view may_write None = refl
  own_temp view may_write (Some t) = looked is_quiet errors (entry_of_file r (temp_node view t.k) may_write) (λ g s m. refl)

  in_folder : (namings : List Naming) (temps : List OwnTemp) (name : List ℕ) (folder : Folder) → IsPlain (Some (SightOfFolder folder)) → Never (lookup_in r namings temps name folder)
  in_folder namings temps name (RootOf view numbers has_views) p = found (named_in_root view numbers has_views name)
  in_folder namings temps name (Views applications) p = found (named_in_views applications name)
  in_folder namings temps name (FolderOf view d may_write) p =
      either is_quiet errors (is_same name (name_of d.path)) (Looks (AtPath d.path) (found_document r (file_node view d.id.number) d may_write)) (found_own r view may_write (found_temp temps view d.id name))
      (own_found (file_node view d.id.number) d may_write) (own_temp view may_write (found_temp temps view d.id name))
  in_folder namings temps name (Exported view d path may_write) p = absurd p

  attr_at : (sight : Option Sight) → Never (get_attr_by_place r sight)
  attr_at sight = placed is_quiet errors sight (λ at. tells_file r at.may_write) (tells_folder r) (λ at g s m. refl) (λ f. refl)

  size_of : (q : NodeRequest) (a : SetsAttr) (name : FileName) (may_write : Bool) (size moment : ℕ) → Never (set_attr_of q a name may_write size moment)
  size_of q a name may_write size moment =
      either is_quiet errors (sets_size a.valid) (errs_if (not may_write) eacces (errs_if (nat_lt a.limit a.size) efbig (resize q a name may_write))) (told (NodeAnswer.Attr (attr_of_file q may_write size moment)))
      (refused is_quiet errors (not may_write) eacces (errs_if (nat_lt a.limit a.size) efbig (resize q a name may_write))
      (refused is_quiet errors (nat_lt a.limit a.size) efbig (resize q a name may_write) ((λ now. refl), refl))) refl

  name_opened : (flags : ℕ) (room : Room) (d : Document) (name : FileName) → Never (open_name r flags room d name)
  name_opened flags room d name =
      either is_quiet errors (truncates flags) (Ends (Changes name) (λ now. opened_file room (file_handle d name r.node flags) (Resizes name 0 now)) (Errs enoent)) (Answers (opened_file room (file_handle d name r.node flags) FilesStay))
      ((λ now. refl), refl) refl

  folder_opened : (room : Room) (temps : List OwnTemp) (folder : Folder) → Never (open_found r room temps folder)
  folder_opened room temps (RootOf view numbers has_views) = refl
  folder_opened room temps (Views applications) = refl
  folder_opened room temps (FolderOf view d w) = λ look. refl
  folder_opened room temps (Exported view d path w) = ((λ names. refl), refl)

  written_to : (limit offset : ℕ) (content : List ℕ) (name : FileName) → Never (write_content limit name offset content)
  written_to limit offset [] name = refl
  written_to limit offset (b ∷ bs) name = refused is_quiet errors (nat_lt limit (offset + length (b ∷ bs))) efbig _ ((λ now. refl), refl)

  names_read : (offset size : ℕ) (handle : Option Handle) → Never (read_names offset size handle)
  names_read offset size None = refl
  names_read offset size (Some (Handle.File name node document strict read write)) = refl
  names_read offset size (Some (Handle.Folder node names)) = refl

  folder_released : (fh : ℕ) (handle : Option Handle) → Never (release_dir fh handle)
  folder_released fh None = refl
  folder_released fh (Some (Handle.File name node document strict read write)) = refl
  folder_released fh (Some (Handle.Folder node names)) = refl

  module _ (f : NodeFacts) where
    attr_open : (file : OpenFile) → Never (get_attr_open f.reach r file)
    attr_open file =
        refused is_quiet errors (not (reaches f.reach file)) eacces (at_name file.name (tells_file (on_node r file.node) (may_write_now f.reach file)))
        (looked is_quiet errors (tells_file (on_node r file.node) (may_write_now f.reach file)) (λ g s m. refl))

    attr_by : (handle : Option Handle) → Never (get_attr_by_handle f.reach r f.sight handle)
    attr_by None = refl
    attr_by (Some (Handle.File name node document strict read write)) = attr_open (open_file_of name node document strict read write)
    attr_by (Some (Handle.Folder node names)) = attr_at f.sight

    size_open : (a : SetsAttr) (file : OpenFile) → Never (set_attr_open f.reach r a file)
    size_open a file =
        refused is_quiet errors (not (reaches f.reach file)) eacces (at_name file.name (set_attr_of_open f.reach r a file))
        (looked is_quiet errors (set_attr_of_open f.reach r a file) (λ g s m. refused is_quiet errors (sets_size a.valid && not file.write) ebadf (set_attr_of (on_node r file.node) a file.name (may_write_now f.reach file) s m)
        (size_of (on_node r file.node) a file.name (may_write_now f.reach file) s m)))

    sized : (a : SetsAttr) (handle : Option Handle) → Never (cond (sets_by_handle a.valid) (by_file_handle handle (set_attr_open f.reach r a)) (by_place f.sight (set_attr_at r a) (set_attr_of_folder r a)))
    sized a handle =
        either is_quiet errors (sets_by_handle a.valid) (by_file_handle handle (set_attr_open f.reach r a)) (by_place f.sight (set_attr_at r a) (set_attr_of_folder r a))
        (handled is_quiet errors handle (set_attr_open f.reach r a) (size_open a))
        (placed is_quiet errors f.sight (set_attr_at r a) (set_attr_of_folder r a) (λ at g s m. size_of r a (name_at at g) at.may_write s m)
        (λ x. refused is_quiet errors (sets_size a.valid) eisdir (told (NodeAnswer.Attr (attr_of_folder r (is_writable x)))) refl))

    pub never-plain : (op : NodeOp) → IsQuietAt op f.sight → Never (node_walk f r op)
    never-plain (NodeOp.Lookup name) p = refused is_quiet errors (is_too_long name) enametoolong (by_place f.sight (no_file enotdir) (lookup_in r f.namings f.temps.temps name))
        (plainly f.sight (no_file enotdir) (lookup_in r f.namings f.temps.temps name) p (λ at g s m. refl) (in_folder f.namings f.temps.temps name))
    never-plain (NodeOp.Create name flags) p =
        let there : Walk NodeVerdict = by_place f.sight (no_file enotdir) (create_in r name flags f.room f.namings f.temps) in
        refused is_quiet errors (has_no_mode flags) einval (errs_if (is_too_long name) enametoolong there)
        (refused is_quiet errors (is_too_long name) enametoolong there (nowhere r name flags f.room f.namings f.temps f.sight p))
    never-plain (NodeOp.Rename new_parent flags old_name new_name) p = absurd p
    never-plain (NodeOp.Unlink name) p = absurd p
    never-plain (NodeOp.Forget count) p = refl
    never-plain (NodeOp.BatchForget nodes) p = refl
    never-plain (NodeOp.GetAttr flags fh) p = either is_quiet errors (names_handle flags) (get_attr_by_handle f.reach r f.sight (f.handle fh)) (get_attr_by_place r f.sight) (attr_by (f.handle fh)) (attr_at f.sight)
    never-plain (NodeOp.SetAttr valid fh size) p =
        let a : SetsAttr = record { valid = valid; size = size; limit = f.file_limit } in
        refused is_quiet errors (sets_owner_or_mode valid) eperm (cond (sets_by_handle valid) (by_file_handle (f.handle fh) (set_attr_open f.reach r a)) (by_place f.sight (set_attr_at r a) (set_attr_of_folder r a))) (sized a (f.handle fh))
    never-plain (NodeOp.Open flags) p = refused is_quiet errors (has_no_mode flags) einval (by_place f.sight (open_file r flags f.room) open_folder)
        (placed is_quiet errors f.sight (open_file r flags f.room) open_folder
        (λ at g s m. refused is_quiet errors (opens_to_write flags && not at.may_write) eacces (errs_if f.room.full emfile (open_name r flags f.room at.document (name_at at g)))
        (refused is_quiet errors f.room.full emfile (open_name r flags f.room at.document (name_at at g)) (name_opened flags f.room at.document (name_at at g)))) (λ folder. refl))
    never-plain (NodeOp.Read fh offset size) p =
        refused is_quiet errors (nat_lt read_limit size) einval (by_file_handle (f.handle fh) (read_open f.reach f.bytes offset size))
        (handled is_quiet errors (f.handle fh) (read_open f.reach f.bytes offset size) (λ file. refused is_quiet errors (not file.read) ebadf (errs_if (not (may_read_now f.reach file)) eacces (read_name f.bytes offset size file.name))
        (refused is_quiet errors (not (may_read_now f.reach file)) eacces (read_name f.bytes offset size file.name) ((λ now. refl), refl))))
    never-plain (NodeOp.Write fh offset content) p =
        refused is_quiet errors (nat_lt write_limit (length content)) einval (by_file_handle (f.handle fh) (write_open f.reach f.file_limit offset content))
        (handled is_quiet errors (f.handle fh) (write_open f.reach f.file_limit offset content) (λ file. refused is_quiet errors (not file.write) ebadf (errs_if (not (may_write_now f.reach file)) eacces (write_content f.file_limit file.name offset content))
        (refused is_quiet errors (not (may_write_now f.reach file)) eacces (write_content f.file_limit file.name offset content) (written_to f.file_limit offset content file.name))))
    never-plain (NodeOp.Flush fh) p = handled is_quiet errors (f.handle fh) (λ file. told NodeAnswer.Empty) (λ file. refl)
    never-plain (NodeOp.Fsync fh) p = handled is_quiet errors (f.handle fh) fsync_open (λ file. ((λ now. refl), refl))
    never-plain (NodeOp.Release fh) p = handled is_quiet errors (f.handle fh) (λ file. Answers (closed fh)) (λ file. refl)
    never-plain NodeOp.OpenDir p = placed is_quiet errors f.sight (no_file enotdir) (open_dir_in r f.room f.temps.temps) (λ at g s m. refl) (λ folder. refused is_quiet errors f.room.full emfile (open_found r f.room f.temps.temps folder) (folder_opened f.room f.temps.temps folder))
    never-plain (NodeOp.ReadDir fh offset size) p = refused is_quiet errors (nat_lt read_limit size) einval (read_names offset size (f.handle fh)) (names_read offset size (f.handle fh))
    never-plain (NodeOp.ReleaseDir fh) p = folder_released fh (f.handle fh)
    never-plain (NodeOp.Access mask) p =
        refused is_quiet errors (nat_lt 7 mask) einval (by_place f.sight (access_file mask) (access_folder mask))
        (placed is_quiet errors f.sight (access_file mask) (access_folder mask) (λ at g s m. refused is_quiet errors (executes mask || writes_to mask && not at.may_write) eacces (told NodeAnswer.Empty) refl)
        (λ folder. refused is_quiet errors (writes_to mask && not (is_writable folder)) eacces (told NodeAnswer.Empty) refl))
