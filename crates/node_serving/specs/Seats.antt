-- A request of a seat on a node that was served.
use Rattle.std.specs.Prelude.{◌≡◌, ◌≢◌, ℕ, List, [], map, Option, Some, None, is_some}
use Rattle.app_view.specs.Books.{Lends}
use Rattle.file_generations.specs.Generations.{Held}
use Rattle.file_ops.specs.SeatNames.{AreOwn, OwnTables}
use Rattle.folder_documents.specs.Named.{named_on}
use Rattle.node_looks.specs.OpenHandles.{AreOpen}
use Rattle.node_looks.specs.Served.{given_to}
use Rattle.node_looks.specs.TreeCalls.{Call, Calling, calls_of}
use Rattle.node_looks.specs.declared.served.FileBook.{FileBook}
use Rattle.node_looks.specs.declared.served.NodeDone.{NodeDone}
use Rattle.host_tree.specs.Trees.{TreeIs}
use Rattle.open_handles.specs.Opened.{HandleTable, opened_on}
use Rattle.portal_base.specs.Outside.{HasRisen}
use Rattle.portal_model.specs.declared.entry.Fault.TheVariants as Fault
use Rattle.portal_model.specs.declared.entry.Given.{Given}
use Rattle.portal_model.specs.declared.reply.Answer.{Answer}
use Rattle.portal_model.specs.declared.reply.Code.TheVariants as Code
use Rattle.portal_model.specs.declared.reply.Reply.{Reply}
use Rattle.portal_model.specs.declared.request.NodeRequest.{NodeRequest}
use Rattle.portal_model.specs.declared.request.Request.TheVariants as Request
use Rattle.portal_model.specs.declared.state.Connection.{Connection}
use Rattle.portal_model.specs.Alike.{Alike}
use Rattle.portal_model.specs.Bus.{is_tree}
use Rattle.portal_model.specs.Errno.{eio}
use Rattle.portal_model.specs.Lawful.{LawfulOnNode}
use Rattle.portal_model.specs.Node.{walk_on_node}
use Rattle.portal_model.specs.Outside.{files_told}
use Rattle.portal_model.specs.State.{State, connection_of}
use Rattle.portal_model.specs.Step.{all_told, mount_of, node_step, reply_with}
use Rattle.portal_model.specs.Valid.{Valid}
use Rattle.save_files.specs.Own.{own_on}

-- ---- the state that a request is served in

-- a connection but for what it has named and its temporaries, which tables of their own keep
abbrev pub unnamed : Connection → Connection
unnamed c = record c { namings = []; temps = []; added = 0 }

-- A valid state has the lists and the limit of the book, these connections, and the open handles,
-- the names and the temporaries of the tables, and the tree tells what it has.
pub record IsServedIn (s : State) (book : FileBook) (connections : List Connection)
    (table : HandleTable) (tables : OwnTables) (told : Option Held) : Type 0 where
  pub valid : Valid s
  pub lists : Lends book.view s
  pub limit : s.limits.file_bytes ≡ book.file_limit
  pub connected : map unnamed s.connections ≡ connections
  pub handles : AreOpen s table
  pub own : AreOwn s tables
  pub files : files_told s ≡ told

-- each connection stands in all three tables, and no other seat does
abbrev pub AreEntered : List Connection → HandleTable → OwnTables → Type 0
AreEntered connections table own = (seat : ℕ) →
    (is_some (opened_on table.seats seat) ≡ is_some (connection_of connections seat))
    × (is_some (named_on own.names seat) ≡ is_some (connection_of connections seat))
    × (is_some (own_on own.temps.seats seat) ≡ is_some (connection_of connections seat))

-- ---- what is served

-- a seat without an open mount is answered so, and nothing is asked of the outside
abbrev pub refused_here : NodeDone
refused_here = record {
  answer = Answer.Refused Code.NotHere;
  looks = [];
  listed = None;
  now = None;
  generation = None;
  fault = Fault.None;
}

-- the step of a request of a seat, by what was given to it
abbrev pub seat_step : State → ℕ → NodeRequest → Given → State × Reply
seat_step s seat r given = node_step s r given (mount_of (connection_of s.connections seat))

-- the calls of the tree that it makes: those of the walk, in the state in which the connection was
-- told what it waited for
abbrev pub calls_on : State → NodeRequest → Given → Option Connection → List Call
calls_on s r given None = []
calls_on s r given (Some c) =
    calls_of (walk_on_node (all_told c.seat s) c r) given.looks (is_tree given.fault)

abbrev pub seat_calls : State → ℕ → NodeRequest → Given → List Call
seat_calls s seat r given = calls_on s r given (mount_of (connection_of s.connections seat))

-- What was given is lawful; the step makes of it the state that the connections, the tables and
-- the tree have then, of which all else stays, and a reply that is alike to this answer; and the
-- tree got just the calls of the request. EIO tells of a call that failed, and Failed is no answer
-- to such a request.
pub record ServesSeat (s : State) (seat : ℕ) (r : NodeRequest) (old : TreeIs) (done : NodeDone)
    (connections : List Connection) (table : HandleTable) (tables : OwnTables)
    (new : TreeIs) : Type 0 where
  pub lawful : LawfulOnNode s r (given_to done) (mount_of (connection_of s.connections seat))
  pub reply : Alike s.told (Request.Node r) (seat_step s seat r (given_to done)).1
      (reply_with [] done.answer)
  pub stays : (seat_step s seat r (given_to done)).0 ≡ record s {
    connections = (seat_step s seat r (given_to done)).0.connections;
    handles = (seat_step s seat r (given_to done)).0.handles;
    files = (seat_step s seat r (given_to done)).0.files;
    hidden = (seat_step s seat r (given_to done)).0.hidden;
    taken = (seat_step s seat r (given_to done)).0.taken;
  }
  pub connected :
      map unnamed (seat_step s seat r (given_to done)).0.connections ≡ connections
  pub handles : AreOpen (seat_step s seat r (given_to done)).0 table
  pub own : AreOwn (seat_step s seat r (given_to done)).0 tables
  pub files : files_told (seat_step s seat r (given_to done)).0 ≡ new.told
  pub calls : Calling old (seat_calls s seat r (given_to done)) new.told new
  pub fault : done.answer ≡ Answer.Refused (Code.Errno eio) → HasRisen old.faults new.faults
  pub failure : done.answer ≢ Answer.Refused Code.Failed
