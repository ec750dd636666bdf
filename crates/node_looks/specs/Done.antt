-- A request on a node, whatever it changes: the one relation that all of them are served by.
use Rattle.std.specs.Prelude.{◌≡◌, ◌⊎◌, ℕ, nat_lt, [], length, Bool, is_some, true, false, not, Option, Some, None, option_map}
use Rattle.file_generations.specs.Generations.{Held}
use Rattle.host_tree.specs.Trees.{TreeIs}
use Rattle.open_handles.specs.Opened.{HandleTable, Opened, opened_on}
use Rattle.portal_model.specs.declared.entry.Fault.{Fault}
use Rattle.portal_model.specs.declared.handle.Handle.{Handle}
use Rattle.portal_model.specs.declared.naming.Naming.{Naming}
use Rattle.portal_model.specs.declared.reply.Answer.{Answer}
use Rattle.portal_model.specs.declared.reply.Code.TheVariants as Code
use Rattle.portal_model.specs.declared.request.NodeOp.{NodeOp}
use Rattle.portal_model.specs.declared.request.NodeRequest.{NodeRequest}
use Rattle.portal_model.specs.declared.state.Connection.{Connection}
use Rattle.portal_model.specs.declared.temporary.Temp.{Temp}
use Rattle.portal_model.specs.Alike.{NodeAlike}
use Rattle.portal_model.specs.Bus.{is_tree, moment_given}
use Rattle.portal_model.specs.Errno.{eio}
use Rattle.portal_model.specs.Node.{files_after, node_answer, walk_on_node}
use Rattle.portal_model.specs.NodeOutside.{LawfulNode}
use Rattle.portal_model.specs.NodeVerdict.{NodeVerdict, Errs, Yields, FileChange, FilesStay, HandleChange, HandlesStay, NameChange, NamesStay, Room}
use Rattle.portal_model.specs.Outside.{files_told}
use Rattle.portal_model.specs.State.{State, connection_of}
use Rattle.portal_model.specs.Valid.{Valid}
use Rattle.portal_model.specs.Walk.{Gives, GivesNames, Walk, generation_reached, reads_clock, walked_with}
use Rattle.app_view.specs.Books.{Lends}
use Rattle.node_looks.specs.OpenHandles.{AreOpen, Handled}
use Rattle.node_looks.specs.Served.{HasAt, given_to}
use Rattle.node_looks.specs.TreeCalls.{Calling, WasCalledUpTo, calls_of}
use Rattle.node_looks.specs.Walks.{fault_of, taken}
use Rattle.node_looks.specs.declared.asked.Asked.{Asked}
use Rattle.node_looks.specs.declared.served.FileBook.{FileBook}
use Rattle.node_looks.specs.declared.served.NodeCall.{NodeCall}
use Rattle.node_looks.specs.declared.served.NodeDone.{NodeDone}

-- ---- the state that a request is served in

-- A valid state with the lists and the limit of the book, and the open handles of the table; the
-- connection of the seat is one of the caller, and the tree tells what the state has.
pub record IsCalled (s : State) (c : Connection) (book : FileBook) (call : NodeCall)
    (table : HandleTable) (told : Option Held) : Type 0 where
  pub valid : Valid s
  pub lists : Lends book.view s
  pub limit : s.limits.file_bytes ≡ book.file_limit
  pub handles : AreOpen s table
  pub files : files_told s ≡ told
  pub here : connection_of s.connections call.seat ≡ Some c
  pub caller : c.who ≡ call.who.now

-- ---- what is done

-- over a tree that tells, the answer is the step's; over one that doesn't, it is alike
abbrev pub IsAnswer : Option Held → NodeOp → Answer → Answer → Type 0
IsAnswer (Some held) op stepped given = given ≡ stepped
IsAnswer None op stepped given = NodeAlike op stepped given

-- What was given is lawful; the sequential portal makes of it the state that the table and the
-- tree have then, and the answer; and the tree got just the calls of the request.
pub record DoneIn (s : State) (c : Connection) (r : NodeRequest) (old : TreeIs) (done : NodeDone)
    (table : HandleTable) (new : TreeIs) : Type 0 where
  pub lawful : LawfulNode s c r (given_to done)
  pub answer : IsAnswer old.told r.op (node_answer s c r (given_to done)).1 done.answer
  pub handles : AreOpen (node_answer s c r (given_to done)).0 table
  pub files : files_told (node_answer s c r (given_to done)).0 ≡ new.told
  pub calls :
      Calling old (calls_of (walk_on_node s c r) done.looks (is_tree done.fault)) new.told new

-- a request that was done, in every state in which it may be asked
abbrev pub Does : FileBook → NodeCall → HandleTable → TreeIs → NodeDone → HandleTable → TreeIs
    → Type 0
Does book call table old done after new = (s : State) (c : Connection) →
    IsCalled s c book call table old.told → DoneIn s c call.request.now old done after new

-- the same, by a connection of which, in its state, this is so
abbrev pub DoesWhere : (State → Connection → Type 0) → FileBook → NodeCall → HandleTable → TreeIs
    → NodeDone → HandleTable → TreeIs → Type 0
DoesWhere Has book call table old done after new = (s : State) (c : Connection) →
    IsCalled s c book call table old.told → Has s c →
    DoneIn s c call.request.now old done after new

-- by one that has these by the number in the node: a name below an exported folder, a temporary
abbrev pub DoesAt : Option Naming → Option Temp → FileBook → NodeCall → HandleTable → TreeIs
    → NodeDone → HandleTable → TreeIs → Type 0
DoesAt naming temp book call table old done after new =
    DoesWhere (λ s. HasAt call.request.now.node naming temp) book call table old done after new

-- A request that wanted memory: the open handles stay, and the tree was called so often at most,
-- without a failure or a change.
pub record Wants (most : ℕ) (table : HandleTable) (old : TreeIs) (after : HandleTable)
    (new : TreeIs) : Type 0 where
  pub handles : (s : State) → AreOpen s table → AreOpen s after
  pub calls : WasCalledUpTo most old new

-- the clock was read once, where there is a moment, and else it is the same
abbrev pub Reads : {C : Type 0} → (C → ℕ → C → Type 0) → C → Option ℕ → C → Type 0
Reads reads old None new = new ≡ old
Reads reads old (Some now) new = reads old now new

-- the clock was read once at most
abbrev pub MayRead : {C : Type 0} → (C → ℕ → C → Type 0) → C → C → Type 0
MayRead reads old new = (new ≡ old) ⊎ ((now : ℕ) × reads old now new)

-- ---- the same by its walk

abbrev pub answer_of : Option NodeVerdict → Answer
answer_of None = Answer.Refused (Code.Errno eio)
answer_of (Some (Errs errno)) = Answer.Refused (Code.Errno errno)
answer_of (Some (Yields d)) = Answer.Node d.answer

abbrev pub file_change : Option NodeVerdict → FileChange
file_change None = FilesStay
file_change (Some (Errs errno)) = FilesStay
file_change (Some (Yields d)) = d.file

abbrev pub handle_change : Option NodeVerdict → HandleChange
handle_change None = HandlesStay
handle_change (Some (Errs errno)) = HandlesStay
handle_change (Some (Yields d)) = d.handle

abbrev pub name_change : Option NodeVerdict → NameChange
name_change None = NamesStay
name_change (Some (Errs errno)) = NamesStay
name_change (Some (Yields d)) = d.names

-- What the walk looks at was given, and comes to this verdict; so is the answer, and so the tree
-- has changed.
pub record ComesBy (walk : Walk NodeVerdict) (op : NodeOp) (old : TreeIs) (done : NodeDone)
    (verdict : Option NodeVerdict) (new : TreeIs) : Type 0 where
  pub gives : Gives old.told walk done.looks (is_tree done.fault)
  pub lists : GivesNames old.told walk done.looks done.listed (is_tree done.fault)
  pub clock : is_some done.now ≡ reads_clock walk done.looks
  pub generation : done.generation ≡ generation_reached walk done.looks
  pub keeper : done.fault ≡ Fault.Keeper → ⊥
  pub comes :
      walked_with walk (moment_given done.now) done.listed done.looks (is_tree done.fault)
      ≡ verdict
  pub answer : IsAnswer old.told op (answer_of verdict) done.answer
  pub files : new.told ≡ option_map (files_after true (file_change verdict)) old.told
  pub calls : Calling old (calls_of walk done.looks (is_tree done.fault)) new.told new

-- It comes to some verdict, by which the open handles of the seat have changed too.
pub record DoneBy (walk : Walk NodeVerdict) (op : NodeOp) (seat : ℕ) (table : HandleTable)
    (old : TreeIs) (done : NodeDone) (after : HandleTable) (new : TreeIs) : Type 0 where
  pub verdict : Option NodeVerdict
  pub comes : ComesBy walk op old done verdict new
  pub handled : Handled seat (handle_change verdict) table after

-- how many handles a seat's connection has open, and whether it may open no more
abbrev pub room_on : ℕ → Option Opened → Room
room_on most None = record { opens = 0; full = true }
room_on most (Some o) =
    record { opens = o.last; full = not (nat_lt (length o.handles) most) }

abbrev pub room_in : HandleTable → ℕ → Room
room_in table seat = room_on table.most (opened_on table.seats seat)

-- ---- parts of it

-- what was done with one look at the tree at most, and without the clock
abbrev pub done_with : Asked → NodeDone
done_with asked = record {
  answer = asked.answer;
  looks = taken asked.look;
  listed = None;
  now = None;
  generation = None;
  fault = fault_of asked.look;
}

-- an answer for which neither the tree nor the clock was asked
abbrev pub unasked : Answer → NodeDone
unasked answer = record {
  answer = answer;
  looks = [];
  listed = None;
  now = None;
  generation = None;
  fault = Fault.None;
}

abbrev pub is_file : Option Handle → Bool
is_file None = false
is_file (Some (Handle.File name node document strict read write)) = true
is_file (Some (Handle.Folder node names)) = false

abbrev pub is_folder : Option Handle → Bool
is_folder None = false
is_folder (Some (Handle.File name node document strict read write)) = false
is_folder (Some (Handle.Folder node names)) = true

-- a request that tells what the kernel no longer remembers
abbrev pub Forgets : NodeOp → Type 0
Forgets (NodeOp.Forget count) = Unit {0}
Forgets (NodeOp.BatchForget nodes) = Unit {0}
Forgets op = ⊥
