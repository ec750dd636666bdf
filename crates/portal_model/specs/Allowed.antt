-- What a seat may ask: what is allowed is done, where no device fails and no limit is met.
use Rattle.std.specs.Prelude.{ℕ, ◌+◌, ◌==◌, List, [], map, Bool, true, false, not, ◌&&◌, ◌||◌, length, nat_lt, Option, Some, None, is_some, cond}
use Rattle.portal_base.specs.Content.{has_room}
use Rattle.file_generations.specs.Generations.{is_held, may_freshen, may_turn}
use Rattle.portal_base.specs.Names.{is_app_name, is_same, name_of, named_child}
use Rattle.portal_base.specs.declared.files.FileName.{FileName}
use Rattle.portal_base.specs.declared.files.Look.{Look}
use Rattle.portal_base.specs.declared.who.Who.{Who}
use Rattle.rights_rule.specs.Rights.{holds_any, rights_named}
use Rattle.portal_model.specs.declared.handle.Handle.{Handle}
use Rattle.portal_model.specs.declared.naming.Naming.{Naming}
use Rattle.portal_model.specs.declared.reply.Answer.{Answer}
use Rattle.portal_model.specs.declared.request.AddRequest.{AddRequest}
use Rattle.portal_model.specs.declared.request.NodeOp.{NodeOp}
use Rattle.portal_model.specs.declared.request.NodeRequest.{NodeRequest}
use Rattle.portal_model.specs.declared.request.Request.{Request}
use Rattle.portal_model.specs.declared.request.RightsCall.{RightsCall}
use Rattle.portal_model.specs.declared.rights.Right.TheVariants.{Delete, GrantPermissions}
use Rattle.portal_model.specs.declared.state.Connection.{Connection}
use Rattle.portal_model.specs.declared.state.Document.{Document}
use Rattle.portal_model.specs.declared.store.StoreCall.{StoreCall}
use Rattle.portal_model.specs.declared.temporary.OwnTemp.{OwnTemp}
use Rattle.portal_model.specs.Access.{executes, writes_to}
use Rattle.portal_model.specs.Add.{are_of_kind, is_file, is_folder_look, may_list_all}
use Rattle.portal_model.specs.AddArguments.{are_add_arguments, are_presented, document_paths, paths_shown}
use Rattle.portal_model.specs.Arguments.{ahead_of_end, document_named, is_ended_path}
use Rattle.portal_model.specs.Attributes.{is_writable}
use Rattle.portal_model.specs.Content.{look_at}
use Rattle.portal_model.specs.Create.{next_file}
use Rattle.portal_model.specs.GetAttr.{names_handle}
use Rattle.portal_model.specs.Grant.{are_rights_arguments, may_grant}
use Rattle.portal_model.specs.Lookup.{naming_in, named_in_root, named_in_views}
use Rattle.portal_model.specs.Node.{room_of, temps_seen}
use Rattle.portal_model.specs.NodeVerdict.{is_too_long, is_dots}
use Rattle.portal_model.specs.Open.{has_no_mode, opens_to_write}
use Rattle.portal_model.specs.Place.{Folder, RootOf, Views, FolderOf, Exported, Sight, SightOfFile, SightOfTemp, SightBelow, SightOfFolder, reach_at, sight_on}
use Rattle.portal_model.specs.Present.{may_present}
use Rattle.portal_model.specs.Reach.{OpenFile, Reaching, may_read_now, may_write_now, open_file_of, reaches}
use Rattle.portal_model.specs.Read.{read_limit}
use Rattle.portal_model.specs.Rename.{Home, RenameCall, are_too_long, home_of, is_own_name, rename_call, same_home, temp_at}
use Rattle.portal_model.specs.Revoke.{names_itself}
use Rattle.portal_model.specs.Rights.{held_by}
use Rattle.portal_model.specs.SeatNames.{SeatTemps, found_temp, lacks_number, lacks_temp}
use Rattle.portal_model.specs.SetAttr.{sets_by_handle, sets_owner_or_mode, sets_size}
use Rattle.portal_model.specs.State.{State, connection_of, handle_of, held_in, is_host, who_has}
use Rattle.portal_model.specs.Store.{store_call}
use Rattle.portal_model.specs.StoreRequest.{may_call, store_too_long}
use Rattle.portal_model.specs.Step.{bus_of, mount_of}
use Rattle.portal_model.specs.Valid.{is_none}
use Rattle.portal_model.specs.Write.{write_limit}

abbrev pub is_refusal : Answer → Bool
is_refusal (Answer.Refused code) = true
is_refusal answer = false

-- what is there is of the kind that the call needs
abbrev pub may_add : State → Connection → AddRequest → Bool
may_add s c a =
    are_presented c.queue a
    && (are_add_arguments c.queue a
    && (may_list_all s c.who a (document_paths c.queue a)
    && are_of_kind a (paths_shown c.queue a)
    (map (look_at s.files) (paths_shown c.queue a))))

-- of a live document
abbrev pub may_grant_in : State → Who → RightsCall → Option Document → Bool
may_grant_in s who call None = false
may_grant_in s who call (Some d) =
    may_grant (held_by s.rights who d.id.number) (rights_named call.names)

abbrev pub may_revoke_in : State → Who → RightsCall → Option Document → Bool
may_revoke_in s who call None = false
may_revoke_in s who call (Some d) =
    who_has s.rights who d.id.number GrantPermissions
    || (names_itself who call.app && holds_any (held_by s.rights who d.id.number))

abbrev pub may_delete_in : State → Who → Option Document → Bool
may_delete_in s who None = false
may_delete_in s who (Some d) = who_has s.rights who d.id.number Delete

abbrev pub is_live : Option Document → Bool
is_live None = false
is_live (Some d) = true

-- A request of this connection, which is a bus: on documents, or of the permission store. A Collect
-- needs nothing more; an Enter, a Leave and a request on a node have rules of their own, and are
-- none here.
abbrev pub is_allowed : State → Connection → Request → Bool
is_allowed s c (Request.Present path) = is_ended_path path && may_present c.who (ahead_of_end path)
is_allowed s c (Request.Add a) = may_add s c a
is_allowed s c (Request.Grant call) =
    are_rights_arguments call && may_grant_in s c.who call (document_named s.documents call.doc)
is_allowed s c (Request.Revoke call) =
    are_rights_arguments call && may_revoke_in s c.who call (document_named s.documents call.doc)
is_allowed s c (Request.DeleteDocument doc) = may_delete_in s c.who (document_named s.documents doc)
is_allowed s c (Request.LookupDocument path) = is_host c.who && is_ended_path path
is_allowed s c (Request.Info doc) = is_host c.who && is_live (document_named s.documents doc)
is_allowed s c (Request.ListDocuments app) = is_host c.who && (is_same app [] || is_app_name app)
is_allowed s c (Request.Store call) = is_host c.who && may_call s call
is_allowed s c Request.Collect = true
is_allowed s c (Request.Enter who kind) = false
is_allowed s c Request.Leave = false
is_allowed s c (Request.Node r) = false

abbrev pub is_too_long_for : State → StoreCall → Bool
is_too_long_for s call = store_too_long (store_call call s.entries)

-- A queue has a place for one more file, where one is presented; and the signal that tells of an
-- entry is no longer than a message may be.
abbrev pub has_place : State → Connection → Request → Bool
has_place s c (Request.Present path) = nat_lt (length c.queue) s.limits.queued
has_place s c (Request.Add a) = true
has_place s c (Request.Grant call) = true
has_place s c (Request.Revoke call) = true
has_place s c (Request.DeleteDocument doc) = true
has_place s c (Request.LookupDocument path) = true
has_place s c (Request.Info doc) = true
has_place s c (Request.ListDocuments app) = true
has_place s c (Request.Store call) = not (is_too_long_for s call)
has_place s c Request.Collect = true
has_place s c (Request.Enter who kind) = true
has_place s c Request.Leave = true
has_place s c (Request.Node r) = true

-- ---- a request on a node

abbrev pub is_missing : Look → Bool
is_missing (Look.File generation size moment) = false
is_missing Look.Folder = false
is_missing Look.Missing = true

-- whether a look shows a file
abbrev pub has_file : State → List ℕ → Bool
has_file s path = is_file (look_at s.files path)

abbrev pub has_named : State → FileName → Bool
has_named s name = is_held (held_in s) name

-- what is at a path, where the tree tells
abbrev pub look_told : State → List ℕ → Look
look_told s path = cond s.told (look_at s.files path) Look.Missing

-- what a look shows at or below an exported folder
abbrev pub at_look : (Bool → Bool) → (Folder → Bool) → Bool → Folder → Look → Bool
at_look file folder may_write here (Look.File generation size moment) = file may_write
at_look file folder may_write here Look.Folder = folder here
at_look file folder may_write here Look.Missing = false

-- a file of which this is asked of its right to be written, where it is there; or a folder
abbrev pub at_sight : State → (Bool → Bool) → (Folder → Bool) → Option Sight → Bool
at_sight s file folder None = false
at_sight s file folder (Some (SightOfFile d may_write)) = has_file s d.path && file may_write
at_sight s file folder (Some (SightOfTemp d name may_write)) = has_named s name && file may_write
at_sight s file folder (Some (SightBelow view d path may_write)) =
    at_look file folder may_write (Exported view d path may_write) (look_told s path)
at_sight s file folder (Some (SightOfFolder f)) = folder f

-- what is asked of an open file, where it is there
abbrev pub on_handle : State → (OpenFile → Bool) → Option Handle → Bool
on_handle s asked None = false
on_handle s asked (Some (Handle.File name node document strict read write)) =
    asked (open_file_of name node document strict read write) && has_named s name
on_handle s asked (Some (Handle.Folder node names)) = false

abbrev pub is_file_handle : Option Handle → Bool
is_file_handle None = false
is_file_handle (Some (Handle.File name node document strict read write)) = true
is_file_handle (Some (Handle.Folder node names)) = false

abbrev pub is_folder_handle : Option Handle → Bool
is_folder_handle None = false
is_folder_handle (Some (Handle.File name node document strict read write)) = false
is_folder_handle (Some (Handle.Folder node names)) = true

-- the name in a document's folder: of a file, or of the folder that the document is
abbrev pub has_document : State → Document → Bool
has_document s d =
    has_file s d.path || (d.folder && is_folder_look (look_told s d.path))

-- something is at the path
abbrev pub has_path : State → Option (List ℕ) → Bool
has_path s None = false
has_path s (Some path) = not (is_missing (look_told s path))

-- a temporary whose file is there
abbrev pub has_temp : State → Option OwnTemp → Bool
has_temp s None = false
has_temp s (Some t) = has_named s t.temp.file

abbrev pub has_child : State → List OwnTemp → List ℕ → Folder → Bool
has_child s temps name (RootOf view numbers has_views) =
    is_some (named_in_root view numbers has_views name)
has_child s temps name (Views applications) = is_some (named_in_views applications name)
has_child s temps name (FolderOf view d may_write) =
    cond (is_same name (name_of d.path)) (has_document s d)
    (has_temp s (found_temp temps view d.id name))
has_child s temps name (Exported view d path may_write) = has_path s (named_child path name)

-- nothing is there, and the parent is a folder
abbrev pub is_free : State → List ℕ → Bool
is_free s path = is_missing (look_at s.files path) && has_room s.files path

abbrev pub is_free_child : State → Option (List ℕ) → Bool
is_free_child s None = false
is_free_child s (Some path) = is_free s path

-- another name than the document's is a temporary's, where there is none of it yet
abbrev pub may_begin : State → SeatTemps → List ℕ → ℕ → Document → Bool
may_begin s temps name view d =
    not d.folder
    && (not (is_dots name)
    && (not (is_some (found_temp temps.temps view d.id name))
    && may_freshen (held_in s) (next_file temps d)))

abbrev pub may_create_in : State → SeatTemps → List ℕ → Folder → Bool
may_create_in s temps name (RootOf view numbers has_views) = false
may_create_in s temps name (Views applications) = false
may_create_in s temps name (FolderOf view d may_write) =
    may_write
    && cond (is_same name (name_of d.path)) (is_free s d.path) (may_begin s temps name view d)
may_create_in s temps name (Exported view d path may_write) =
    may_write && is_free_child s (named_child path name)

abbrev pub never : {X : Type 0} → X → Bool
never x = false

abbrev pub always : {X : Type 0} → X → Bool
always x = true

-- a folder that is there
abbrev pub may_list : State → Folder → Bool
may_list s (RootOf view numbers has_views) = true
may_list s (Views applications) = true
may_list s (FolderOf view d may_write) = true
may_list s (Exported view d path may_write) = is_folder_look (look_told s path)

-- a GETATTR of an open folder asks its node
abbrev pub may_get_attr : State → Reaching → Bool → Option Sight → Option Handle → Bool
may_get_attr s reach by_handle sight handle =
    cond by_handle
    (on_handle s (reaches reach) handle
    || (is_folder_handle handle && at_sight s always always sight))
    (at_sight s always always sight)

-- of an open file: what it may do now reaches it, and a length needs that it may be written now
abbrev pub may_set_open : Reaching → ℕ → OpenFile → Bool
may_set_open reach valid file =
    reaches reach file && (not (sets_size valid) || may_write_now reach file)

abbrev pub may_set_attr : State → Reaching → ℕ → Option Sight → Option Handle → Bool
may_set_attr s reach valid sight handle =
    not (sets_owner_or_mode valid)
    && cond (sets_by_handle valid)
    (on_handle s (may_set_open reach valid) handle)
    (at_sight s (λ may_write. not (sets_size valid) || may_write)
    (λ folder. not (sets_size valid)) sight)

abbrev pub may_access : State → ℕ → Option Sight → Bool
may_access s mask sight =
    not (nat_lt 7 mask)
    && at_sight s
    (λ may_write. not (executes mask) && (not (writes_to mask) || may_write))
    (λ folder. not (writes_to mask) || is_writable folder) sight

-- a write of no bytes needs no file
abbrev pub may_write_to : State → Reaching → List ℕ → Option Handle → Bool
may_write_to s reach content None = false
may_write_to s reach content (Some (Handle.File name node document strict read write)) =
    may_write_now reach (open_file_of name node document strict read write)
    && (is_none content || has_named s name)
may_write_to s reach content (Some (Handle.Folder node names)) = false

-- a temporary gets another name, or becomes the document's file
abbrev pub may_rename_to : State → Home → List ℕ → OwnTemp → Bool
may_rename_to s h name t =
    not (is_dots name) && (not (is_own_name h name) || may_turn (held_in s) t.temp.file)

abbrev pub may_rename_temp : State → Home → List ℕ → Option OwnTemp → Bool
may_rename_temp s h name None = false
may_rename_temp s h name (Some t) = h.may_write && may_rename_to s h name t

abbrev pub may_rename_at : State → RenameCall → List OwnTemp → Home → Bool
may_rename_at s call temps h =
    not (is_own_name h call.old_name)
    && may_rename_temp s h call.new_name (temp_at temps h call.old_name)

abbrev pub may_rename_in :
    State → RenameCall → List OwnTemp → Option Home → Option Home → Bool
may_rename_in s call temps None second = false
may_rename_in s call temps (Some first) None = false
may_rename_in s call temps (Some first) (Some second) =
    same_home first second && may_rename_at s call temps first

abbrev pub may_rename_from :
    State → RenameCall → List OwnTemp → Option Sight → Folder → Bool
may_rename_from s call temps new_sight first =
    at_sight s never (λ second. may_rename_in s call temps (home_of first) (home_of second))
    new_sight

abbrev pub may_rename :
    State → RenameCall → List OwnTemp → Option Sight → Option Sight → Bool
may_rename s call temps sight new_sight =
    (call.flags == 0)
    && (not (are_too_long call)
    && at_sight s never (may_rename_from s call temps new_sight) sight)

abbrev pub may_unlink_in : List ℕ → List OwnTemp → Option Home → Bool
may_unlink_in name temps None = false
may_unlink_in name temps (Some h) =
    not (is_own_name h name) && (h.may_write && is_some (temp_at temps h name))

abbrev pub may_unlink : State → List ℕ → List OwnTemp → Option Sight → Bool
may_unlink s name temps sight =
    not (is_too_long name)
    && at_sight s never (λ folder. may_unlink_in name temps (home_of folder)) sight

abbrev pub may_ask_at :
    State → Reaching → SeatTemps → NodeOp → (ℕ → Option Sight) → Option Sight
    → (ℕ → Option Handle) → Bool
may_ask_at s reach temps (NodeOp.Lookup name) sight_of sight handle =
    not (is_too_long name) && at_sight s never (has_child s temps.temps name) sight
may_ask_at s reach temps (NodeOp.Forget count) sight_of sight handle = true
may_ask_at s reach temps (NodeOp.BatchForget nodes) sight_of sight handle = true
may_ask_at s reach temps (NodeOp.GetAttr flags fh) sight_of sight handle =
    may_get_attr s reach (names_handle flags) sight (handle fh)
may_ask_at s reach temps (NodeOp.SetAttr valid fh size) sight_of sight handle =
    may_set_attr s reach valid sight (handle fh)
may_ask_at s reach temps (NodeOp.Open flags) sight_of sight handle =
    not (has_no_mode flags)
    && at_sight s (λ may_write. not (opens_to_write flags) || may_write) never sight
may_ask_at s reach temps (NodeOp.Create name flags) sight_of sight handle =
    not (has_no_mode flags)
    && (not (is_too_long name) && at_sight s never (may_create_in s temps name) sight)
may_ask_at s reach temps (NodeOp.Read fh offset size) sight_of sight handle =
    not (nat_lt read_limit size) && on_handle s (may_read_now reach) (handle fh)
may_ask_at s reach temps (NodeOp.Write fh offset content) sight_of sight handle =
    not (nat_lt write_limit (length content)) && may_write_to s reach content (handle fh)
may_ask_at s reach temps (NodeOp.Flush fh) sight_of sight handle = is_file_handle (handle fh)
may_ask_at s reach temps (NodeOp.Fsync fh) sight_of sight handle = on_handle s always (handle fh)
may_ask_at s reach temps (NodeOp.Release fh) sight_of sight handle = is_file_handle (handle fh)
may_ask_at s reach temps NodeOp.OpenDir sight_of sight handle = at_sight s never (may_list s) sight
may_ask_at s reach temps (NodeOp.ReadDir fh offset size) sight_of sight handle =
    not (nat_lt read_limit size) && is_folder_handle (handle fh)
may_ask_at s reach temps (NodeOp.ReleaseDir fh) sight_of sight handle =
    is_folder_handle (handle fh)
may_ask_at s reach temps (NodeOp.Access mask) sight_of sight handle = may_access s mask sight
may_ask_at s reach temps (NodeOp.Rename new_parent flags old_name new_name) sight_of sight handle =
    may_rename s (rename_call flags old_name new_name) temps.temps sight (sight_of new_parent)
may_ask_at s reach temps (NodeOp.Unlink name) sight_of sight handle =
    may_unlink s name temps.temps sight

-- A request on a node of this connection, which is a mount.
abbrev pub may_ask_node : State → Connection → NodeRequest → Bool
may_ask_node s c r =
    may_ask_at s (reach_at s c.who) (temps_seen s c) r.op (sight_on s c) (sight_on s c r.node)
    (handle_of s.handles c.seat)

-- a name below an exported folder has a number, or there is one left for it
abbrev pub has_number : List Naming → ℕ → Document → Option (List ℕ) → Bool
has_number namings view d None = true
has_number namings view d (Some path) = not (lacks_number namings (naming_in view d path))

abbrev pub folder_within : List Naming → List ℕ → Folder → Bool
folder_within namings name (RootOf view numbers has_views) = true
folder_within namings name (Views applications) = true
folder_within namings name (FolderOf view d may_write) = true
folder_within namings name (Exported view d path may_write) =
    has_number namings view d (named_child path name)

abbrev pub names_within : List Naming → List ℕ → Option Sight → Bool
names_within namings name None = true
names_within namings name (Some (SightOfFile d may_write)) = true
names_within namings name (Some (SightOfTemp d file may_write)) = true
names_within namings name (Some (SightBelow view d path may_write)) =
    folder_within namings name (Exported view d path may_write)
names_within namings name (Some (SightOfFolder f)) = folder_within namings name f

-- in a document's folder a name is the document's, or that of one temporary more than there are
abbrev pub temps_within_in : SeatTemps → List ℕ → Folder → Bool
temps_within_in temps name (RootOf view numbers has_views) = true
temps_within_in temps name (Views applications) = true
temps_within_in temps name (FolderOf view d may_write) =
    is_same name (name_of d.path) || not (lacks_temp temps)
temps_within_in temps name (Exported view d path may_write) = true

abbrev pub temps_within : SeatTemps → List ℕ → Option Sight → Bool
temps_within temps name None = true
temps_within temps name (Some (SightOfFile d may_write)) = true
temps_within temps name (Some (SightOfTemp d file may_write)) = true
temps_within temps name (Some (SightBelow view d path may_write)) = true
temps_within temps name (Some (SightOfFolder f)) = temps_within_in temps name f

-- no limit is met: those of open handles, of names below exported folders and of temporaries, and
-- that of a file's length
abbrev pub within_at : State → Connection → NodeOp → Option Sight → Bool
within_at s c (NodeOp.Open flags) sight = not (room_of s c).full
within_at s c (NodeOp.Create name flags) sight =
    not (room_of s c).full
    && (names_within c.namings name sight && temps_within (temps_seen s c) name sight)
within_at s c (NodeOp.Lookup name) sight = names_within c.namings name sight
within_at s c NodeOp.OpenDir sight = not (room_of s c).full
within_at s c (NodeOp.SetAttr valid fh size) sight =
    not (sets_size valid) || not (nat_lt s.limits.file_bytes size)
within_at s c (NodeOp.Write fh offset content) sight =
    is_none content || not (nat_lt s.limits.file_bytes (offset + length content))
within_at s c (NodeOp.Forget count) sight = true
within_at s c (NodeOp.BatchForget nodes) sight = true
within_at s c (NodeOp.GetAttr flags fh) sight = true
within_at s c (NodeOp.Read fh offset size) sight = true
within_at s c (NodeOp.Flush fh) sight = true
within_at s c (NodeOp.Fsync fh) sight = true
within_at s c (NodeOp.Release fh) sight = true
within_at s c (NodeOp.ReadDir fh offset size) sight = true
within_at s c (NodeOp.ReleaseDir fh) sight = true
within_at s c (NodeOp.Access mask) sight = true
within_at s c (NodeOp.Rename new_parent flags old_name new_name) sight = true
within_at s c (NodeOp.Unlink name) sight = true

abbrev pub within : State → Connection → NodeRequest → Bool
within s c r = within_at s c r.op (sight_on s c r.node)

-- ---- a request of a seat

abbrev pub allowed_on_bus : State → Request → Option Connection → Bool
allowed_on_bus s request None = false
allowed_on_bus s request (Some c) = is_allowed s c request

abbrev pub allowed_on_mount : State → NodeRequest → Option Connection → Bool
allowed_on_mount s r None = false
allowed_on_mount s r (Some c) = may_ask_node s c r

-- The seat has an open connection of the request's kind, for an Enter none at all, and the
-- request is allowed there.
abbrev pub allowed : State → ℕ → Request → Bool
allowed s seat (Request.Enter who kind) = not (is_some (connection_of s.connections seat))
allowed s seat Request.Leave = is_some (connection_of s.connections seat)
allowed s seat Request.Collect = is_some (bus_of (connection_of s.connections seat))
allowed s seat (Request.Node r) =
    allowed_on_mount s r (mount_of (connection_of s.connections seat))
allowed s seat (Request.Present path) =
    allowed_on_bus s (Request.Present path) (bus_of (connection_of s.connections seat))
allowed s seat (Request.Add a) =
    allowed_on_bus s (Request.Add a) (bus_of (connection_of s.connections seat))
allowed s seat (Request.Grant call) =
    allowed_on_bus s (Request.Grant call) (bus_of (connection_of s.connections seat))
allowed s seat (Request.Revoke call) =
    allowed_on_bus s (Request.Revoke call) (bus_of (connection_of s.connections seat))
allowed s seat (Request.DeleteDocument doc) =
    allowed_on_bus s (Request.DeleteDocument doc) (bus_of (connection_of s.connections seat))
allowed s seat (Request.LookupDocument path) =
    allowed_on_bus s (Request.LookupDocument path) (bus_of (connection_of s.connections seat))
allowed s seat (Request.Info doc) =
    allowed_on_bus s (Request.Info doc) (bus_of (connection_of s.connections seat))
allowed s seat (Request.ListDocuments app) =
    allowed_on_bus s (Request.ListDocuments app) (bus_of (connection_of s.connections seat))
allowed s seat (Request.Store call) =
    allowed_on_bus s (Request.Store call) (bus_of (connection_of s.connections seat))

-- the queue of the seat's connection has a place for what is presented, and what an entry of the
-- permission store becomes can be told
abbrev pub place_on : State → Request → Option Connection → Bool
place_on s request None = true
place_on s request (Some c) = has_place s c request

-- and a request on a node meets no limit
abbrev pub node_within : State → NodeRequest → Option Connection → Bool
node_within s r None = true
node_within s r (Some c) = within s c r

abbrev pub limits_kept : State → Request → Option Connection → Bool
limits_kept s (Request.Node r) o = node_within s r (mount_of o)
limits_kept s request o = place_on s request (bus_of o)

abbrev pub place_left : State → ℕ → Request → Bool
place_left s seat request = limits_kept s request (connection_of s.connections seat)
