-- What a request on a node comes to, and what then becomes of the state.
use Rattle.std.specs.Prelude.{ℕ, ◌+◌, ◌==◌, nat_lt, List, [], ◌∷◌, ◌++◌, length, map, Bool, not, Option, Some, None, cond}
use Rattle.std.specs.List.{filter}
use Rattle.portal_base.specs.Content.{file_named}
use Rattle.portal_base.specs.FileChanges.{new_file, resized, written}
use Rattle.file_generations.specs.Generations.{Held, all_held, change_held, freshened, put_present, turned}
use Rattle.portal_base.specs.declared.files.File.{File}
use Rattle.portal_base.specs.declared.files.FileName.{FileName}
use Rattle.portal_model.specs.declared.entry.Given.{Given}
use Rattle.portal_model.specs.declared.handle.Handle.{Handle}
use Rattle.portal_model.specs.declared.handle.OpenHandle.{OpenHandle}
use Rattle.portal_model.specs.declared.naming.Naming.{Naming}
use Rattle.portal_model.specs.declared.opening.TakenGeneration.{TakenGeneration}
use Rattle.portal_model.specs.declared.reply.Answer.{Answer}
use Rattle.portal_model.specs.declared.reply.Code.TheVariants as Code
use Rattle.portal_model.specs.declared.request.NodeOp.{NodeOp}
use Rattle.portal_model.specs.declared.request.NodeRequest.{NodeRequest}
use Rattle.portal_model.specs.declared.state.Connection.{Connection}
use Rattle.portal_model.specs.Access.{access}
use Rattle.portal_model.specs.Bus.{is_tree, moment_given}
use Rattle.portal_model.specs.Create.{create}
use Rattle.portal_model.specs.Errno.{eio}
use Rattle.portal_model.specs.Flush.{flush}
use Rattle.portal_model.specs.Forget.{forget}
use Rattle.portal_model.specs.Fsync.{fsync}
use Rattle.portal_model.specs.GetAttr.{get_attr}
use Rattle.portal_model.specs.Lookup.{lookup}
use Rattle.portal_model.specs.NodeVerdict.{NodeDoing, NodeVerdict, FileChange, FilesStay, Writes, Resizes, Creates, Adds, Stands, HandleChange, HandlesStay, Opens, Closes, NameChange, NamesStay, Names, Temps, Errs, Yields, Room}
use Rattle.portal_model.specs.Open.{open_node}
use Rattle.portal_model.specs.OpenDir.{open_dir}
use Rattle.portal_model.specs.Place.{Sight, sight_on, reach_at}
use Rattle.portal_model.specs.Reach.{Reaching}
use Rattle.portal_model.specs.Read.{read}
use Rattle.portal_model.specs.ReadDir.{read_dir}
use Rattle.portal_model.specs.Release.{release}
use Rattle.portal_model.specs.ReleaseDir.{release_dir}
use Rattle.portal_model.specs.Rename.{rename, rename_call}
use Rattle.portal_model.specs.SeatNames.{SeatTemps, TempChange, added_after, next_generation, temps_after, with_naming, with_taken}
use Rattle.portal_model.specs.SetAttr.{set_attr}
use Rattle.portal_model.specs.State.{State, handle_of, handles_of, held_in, is_handle}
use Rattle.portal_model.specs.Unlink.{unlink}
use Rattle.portal_model.specs.Walk.{Walk, walked_with}
use Rattle.portal_model.specs.Write.{write}

-- ---- what a request on a node depends on

pub record NodeFacts : Type 0 where
  -- what the caller sees at the node, and at another
  pub sight : Option Sight
  pub sight_of : ℕ → Option Sight
  -- the open handle of each number, on the connection that asks
  pub handle : ℕ → Option Handle
  -- what an open file of a strict document may do now
  pub reach : Reaching
  -- the bytes of each file, as far as they are told
  pub bytes : FileName → List ℕ
  pub room : Room
  -- what the connection that asks has named below exported folders
  pub namings : List Naming
  -- and its temporaries
  pub temps : SeatTemps
  -- the greatest length of a file
  pub file_limit : ℕ

-- the one walk of each request
abbrev pub node_walk : NodeFacts → NodeRequest → NodeOp → Walk NodeVerdict
node_walk f r (NodeOp.Lookup name) = lookup r f.namings f.temps.temps name f.sight
node_walk f r (NodeOp.Forget count) = forget
node_walk f r (NodeOp.BatchForget nodes) = forget
node_walk f r (NodeOp.GetAttr flags fh) = get_attr f.reach r flags f.sight (f.handle fh)
node_walk f r (NodeOp.SetAttr valid fh size) =
    set_attr f.reach r (record { valid = valid; size = size; limit = f.file_limit }) f.sight
    (f.handle fh)
node_walk f r (NodeOp.Open flags) = open_node r flags f.sight f.room
node_walk f r (NodeOp.Create name flags) =
    create r name flags f.sight f.room f.namings f.temps
node_walk f r (NodeOp.Read fh offset size) = read f.reach f.bytes offset size (f.handle fh)
node_walk f r (NodeOp.Write fh offset content) =
    write f.reach f.file_limit offset content (f.handle fh)
node_walk f r (NodeOp.Flush fh) = flush (f.handle fh)
node_walk f r (NodeOp.Fsync fh) = fsync (f.handle fh)
node_walk f r (NodeOp.Release fh) = release fh (f.handle fh)
node_walk f r NodeOp.OpenDir = open_dir r f.sight f.room f.temps.temps
node_walk f r (NodeOp.ReadDir fh offset size) = read_dir offset size (f.handle fh)
node_walk f r (NodeOp.ReleaseDir fh) = release_dir fh (f.handle fh)
node_walk f r (NodeOp.Access mask) = access mask f.sight
node_walk f r (NodeOp.Rename new_parent flags old_name new_name) =
    rename (rename_call flags old_name new_name) f.temps.temps f.sight (f.sight_of new_parent)
node_walk f r (NodeOp.Unlink name) = unlink name f.temps.temps f.sight

-- ---- these in a state

abbrev pub bytes_of : Option File → List ℕ
bytes_of None = []
bytes_of (Some f) = f.bytes

abbrev pub bytes_named : List File → FileName → List ℕ
bytes_named files name = bytes_of (file_named files name)

-- whether a connection that has these open may open no more
abbrev pub is_full : ℕ → List OpenHandle → Bool
is_full limit handles = not (nat_lt (length handles) limit)

abbrev pub room_of : State → Connection → Room
room_of s c = record {
  opens = c.opens;
  full = is_full s.limits.handles (handles_of s.handles c.seat);
}

abbrev pub temps_seen : State → Connection → SeatTemps
temps_seen s c = record {
  temps = c.temps;
  added = c.added;
  next = next_generation s.taken;
}

abbrev pub facts_of : State → Connection → ℕ → NodeFacts
facts_of s c node = record {
  sight = sight_on s c node;
  sight_of = sight_on s c;
  handle = handle_of s.handles c.seat;
  reach = reach_at s c.who;
  bytes = bytes_named (all_held (held_in s));
  room = room_of s c;
  namings = c.namings;
  temps = temps_seen s c;
  file_limit = s.limits.file_bytes;
}

abbrev pub walk_on_node : State → Connection → NodeRequest → Walk NodeVerdict
walk_on_node s c r = node_walk (facts_of s c r.node) r r.op

-- ---- the state after

-- by whether the tree tells its files: else the state has none
abbrev pub files_after : Bool → FileChange → Held → Held
files_after told FilesStay held = held
files_after told (Writes name offset content now) held =
    cond told (change_held name (written offset content now) held) held
files_after told (Resizes name size now) held =
    cond told (change_held name (resized size now) held) held
files_after told (Creates path now) held = cond told (put_present (new_file path now) held) held
files_after told (Adds name now) held = cond told (freshened name now held) held
files_after told (Stands name) held = cond told (turned name held) held

-- the generations that were taken are the portal's own, whatever the tree tells
abbrev pub taken_after : FileChange → List TakenGeneration → List TakenGeneration
taken_after FilesStay taken = taken
taken_after (Writes name offset content now) taken = taken
taken_after (Resizes name size now) taken = taken
taken_after (Creates path now) taken = taken
taken_after (Adds name now) taken = with_taken name.path name.generation taken
taken_after (Stands name) taken = taken

abbrev pub new_handle : Connection → Handle → OpenHandle
new_handle c handle = record { seat = c.seat; fh = c.opens + 1; handle = handle }

abbrev pub handles_after : Connection → HandleChange → List OpenHandle → List OpenHandle
handles_after c HandlesStay handles = handles
handles_after c (Opens handle) handles = handles ++ new_handle c handle ∷ []
handles_after c (Closes fh) handles = filter (λ h. not (is_handle c.seat fh h)) handles

-- one more handle was opened on the connection of a seat
abbrev pub counted : ℕ → Connection → Connection
counted seat c = cond (c.seat == seat) (record c { opens = c.opens + 1 }) c

abbrev pub connections_after : Connection → HandleChange → List Connection → List Connection
connections_after c HandlesStay connections = connections
connections_after c (Opens handle) connections = map (counted c.seat) connections
connections_after c (Closes fh) connections = connections

-- a path below an exported folder was named on the connection of a seat
abbrev pub named_on : ℕ → Naming → Connection → Connection
named_on seat naming c =
    cond (c.seat == seat) (record c { namings = with_naming c.namings naming }) c

-- the temporaries of the connection of a seat changed
abbrev pub with_temps : TempChange → Connection → Connection
with_temps change c =
    record c { temps = temps_after change c.added c.temps; added = added_after change c.added }

abbrev pub temps_changed : ℕ → TempChange → Connection → Connection
temps_changed seat change c = cond (c.seat == seat) (with_temps change c) c

abbrev pub connections_named : Connection → NameChange → List Connection → List Connection
connections_named c NamesStay connections = connections
connections_named c (Names naming) connections = map (named_on c.seat naming) connections
connections_named c (Temps change) connections = map (temps_changed c.seat change) connections

abbrev pub node_done : State → Connection → NodeDoing → State
node_done s c d = record s {
  connections = connections_named c d.names (connections_after c d.handle s.connections);
  handles = handles_after c d.handle s.handles;
  files = (files_after s.told d.file (held_in s)).present;
  hidden = (files_after s.told d.file (held_in s)).hidden;
  taken = taken_after d.file s.taken;
}

-- ---- the answer

-- where a call of the tree failed the answer is EIO, and nothing changes
abbrev pub settled_on_node : State → Connection → Option NodeVerdict → State × Answer
settled_on_node s c None = (s, Answer.Refused (Code.Errno eio))
settled_on_node s c (Some (Errs errno)) = (s, Answer.Refused (Code.Errno errno))
settled_on_node s c (Some (Yields d)) = (node_done s c d, Answer.Node d.answer)

abbrev pub node_given : Walk NodeVerdict → Given → Option NodeVerdict
node_given walk given =
    walked_with walk (moment_given given.now) given.listed given.looks (is_tree given.fault)

-- a request on a node, of this connection: the state after, and the answer
abbrev pub node_answer : State → Connection → NodeRequest → Given → State × Answer
node_answer s c r given = settled_on_node s c (node_given (walk_on_node s c r) given)
