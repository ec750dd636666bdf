-- Worked examples of the definitions, over one file and one document of it. What is expected is
-- worked out by hand from the rules and from the fields of struct fuse_attr in
-- include/uapi/linux/fuse.h.
use Rattle.std.specs.Prelude.{◌≡◌, ℕ, List, [], ◌∷◌, true, false, None, codes, map}
use Rattle.dbus_types.specs.declared.types.Value.TheVariants as V
use Rattle.portal_base.specs.declared.files.Look.{Look}
use Rattle.portal_base.specs.declared.limits.Limits.{Limits}
use Rattle.portal_base.specs.declared.names.doc_id.DocId.{DocId}
use Rattle.portal_base.specs.declared.who.Kind.TheVariants as Kind
use Rattle.portal_base.specs.declared.who.Who.{Who}
use Rattle.portal_model.specs.declared.entry.Entry.{Entry}
use Rattle.portal_model.specs.declared.entry.Fault.{Fault}
use Rattle.portal_model.specs.declared.entry.Given.{Given}
use Rattle.portal_model.specs.declared.opening.FileItem.{FileItem}
use Rattle.portal_model.specs.declared.opening.OpeningDocument.{OpeningDocument}
use Rattle.portal_model.specs.declared.opening.OpeningState.{OpeningState}
use Rattle.portal_model.specs.declared.records.GrantRecord.{GrantRecord}
use Rattle.portal_model.specs.declared.reply.Answer.{Answer}
use Rattle.portal_model.specs.declared.reply.Attr.{Attr}
use Rattle.portal_model.specs.declared.reply.Change.{Change}
use Rattle.portal_model.specs.declared.reply.Code.TheVariants as Code
use Rattle.portal_model.specs.declared.reply.NodeAnswer.TheVariants as NodeAnswer
use Rattle.portal_model.specs.declared.reply.Reply.{Reply}
use Rattle.portal_model.specs.declared.request.NodeOp.{NodeOp}
use Rattle.portal_model.specs.declared.request.Request.{Request}
use Rattle.portal_model.specs.History.{Legal, replies, cost_of}
use Rattle.portal_model.specs.State.{State}
use Rattle.portal_model.specs.Lawful.{Lawful, LawfulGiven}
use Rattle.portal_model.specs.Step.{after, reply_at, step}
use Rattle.portal_model.specs.Opening.{opened, id_of, first_item, first_named, each, names_kept}

-- ---- what the examples are made of

abbrev pub editor : List ℕ
editor = codes "org.ed"

abbrev pub other : List ℕ
other = codes "org.other"

abbrev pub limits : Limits
limits = record {
  documents = 65536;
  made = 1048576;
  history = 536870912;
  handles = 1024;
  queued = 16;
  file_bytes = 268435456;
}

abbrev pub file : List ℕ → List ℕ → FileItem
file path content = first_item path content 0

-- rights are given by their bits: read 1, write 2, grant-permissions 4, delete 8
abbrev pub grant : List ℕ → ℕ → GrantRecord
grant app rights = record { app = app; rights = rights }

abbrev pub document : ℕ → List ℕ → List GrantRecord → OpeningDocument
document number path grants = record {
  kept =
      record { number = number; path = path; reusable = true; strict = false; grants = grants };
  persistent = true;
  folder = false;
}

abbrev pub made_of : List OpeningDocument → List DocId
made_of documents = map (λ d. id_of d.kept.number) documents

abbrev pub opening : List OpeningDocument → List FileItem → OpeningState
opening documents files = record {
  limits = limits;
  documents = documents;
  made = made_of documents;
  applications = first_named (each names_kept documents);
  entries = [];
  files = files;
  taken = [];
}

abbrev pub given : List Look → Given
given looks = record {
  now = None;
  words = [];
  numbers = [];
  looks = looks;
  listed = None;
  generation = None;
  full = false;
  fault = Fault.None;
}

abbrev pub asks_attributes : ℕ → ℕ → ℕ → Request
asks_attributes node flags fh =
    Request.Node (record { node = node; uid = 1000; gid = 1000; op = NodeOp.GetAttr flags fh })

abbrev pub enters : ℕ → Who → Entry
enters seat who = record { seat = seat; request = Request.Enter who Kind.Mount; given = given [] }

-- a request for the attributes of a node, and the looks that it took
abbrev pub asks : ℕ → ℕ → List Look → Entry
asks seat node looks = record {
  seat = seat;
  request = asks_attributes node 0 0;
  given = given looks;
}

abbrev pub replied : Answer → Reply
replied answer = record { signals = []; answer = answer }

-- ---- one document: 0000000a, of the file /home/a.txt, which holds "hello"

abbrev pub a_text : List ℕ
a_text = codes "/home/a.txt"

abbrev pub hello : List FileItem
hello = file a_text (codes "hello") ∷ []

-- the file of document 0000000a in the caller's own view: 2 * 2^32 + 10
abbrev pub a_node : ℕ
a_node = 8589934602

-- the editor opens a mount and asks for the attributes of the document's file
abbrev pub session : List Look → List Entry
session looks = enters 1 (Who.App editor) ∷ asks 1 a_node looks ∷ []

abbrev pub read_write : OpeningState
read_write = opening (document 10 a_text (grant editor 3 ∷ []) ∷ []) hello

-- 0o100600 is 33152
abbrev pub a_attributes : Attr
a_attributes = record {
  node = a_node;
  size = 5;
  blocks = 1;
  moment = 0;
  mode = 33152;
  links = 1;
  uid = 1000;
  gid = 1000;
  block_size = 4096;
}

-- who may read and write the document gets the file's attributes, in a legal history
pub record AttributesOfGrantedFile : Type 0 where
  pub legal : Legal (opened read_write) (session (Look.File 0 5 0 ∷ []))
  pub replies_are : replies editor (opened read_write) (session (Look.File 0 5 0 ∷ []))
      ≡ replied Answer.Done ∷ replied (Answer.Node (NodeAnswer.Attr a_attributes)) ∷ []

abbrev pub of_other : OpeningState
of_other = opening (document 10 a_text (grant other 3 ∷ []) ∷ []) hello

abbrev pub of_nobody : OpeningState
of_nobody = opening [] hello

abbrev pub not_found : List Reply
not_found = replied Answer.Done ∷ replied (Answer.Refused (Code.Errno 2)) ∷ []

-- a document of another application's and one that isn't there are answered alike: ENOENT
pub record ForeignIsAsMissing : Type 0 where
  pub legal_foreign : Legal (opened of_other) (session [])
  pub foreign : replies editor (opened of_other) (session []) ≡ not_found
  pub legal_missing : Legal (opened of_nobody) (session [])
  pub missing : replies editor (opened of_nobody) (session []) ≡ not_found

-- ---- seats and handles

abbrev pub read_write_state : State
read_write_state = opened read_write

abbrev pub entered_state : State
entered_state = after read_write_state (enters 1 (Who.App editor))

abbrev pub not_here_reply : Reply
not_here_reply = replied (Answer.Refused Code.NotHere)

abbrev pub enters_bus : Entry
enters_bus = record {
  seat = 1;
  request = Request.Enter (Who.App editor) Kind.Bus;
  given = given [];
}

-- a request that says by bit 1 of its flags that 7 is an open handle
abbrev pub asks_handle : Entry
asks_handle = record { seat = 1; request = asks_attributes a_node 1 7; given = given [] }

-- a request on a node is of an open mount alone, and a seat opens one connection; else nothing
-- changes. Nobody has an open handle, so a request that names one is answered EBADF
pub record AnswersOfSeats : Type 0 where
  pub not_entered : step read_write_state (asks 1 a_node []) ≡ (read_write_state, not_here_reply)
  pub other_seat : step entered_state (asks 2 a_node []) ≡ (entered_state, not_here_reply)
  pub twice : step entered_state (enters 1 Who.Host) ≡ (entered_state, not_here_reply)
  pub on_a_bus : step (after read_write_state enters_bus) (asks 1 a_node [])
      ≡ (after read_write_state enters_bus, not_here_reply)
  pub by_handle : reply_at entered_state asks_handle ≡ replied (Answer.Refused (Code.Errno 9))
  pub by_handle_given :
      LawfulGiven entered_state 1 (asks_attributes a_node 1 7) (given [])

-- ---- what was not told yet, and the end of a connection

abbrev pub asks_alone : ℕ → Request → Entry
asks_alone seat request = record { seat = seat; request = request; given = given [] }

abbrev pub leaves : ℕ → Entry
leaves seat = asks_alone seat Request.Leave

abbrev pub collects : Entry
collects = asks_alone 1 Request.Collect

abbrev pub change : Change
change = record {
  table = codes "devices";
  id = codes "camera";
  deleted = false;
  datum = V.Byte 0;
  rows = record { app = codes "org.ed"; names = codes "yes" ∷ [] } ∷ [];
}

-- the host's bus waits for a change
abbrev pub waiting_state : State
waiting_state = record read_write_state {
  connections =
      record {
        seat = 1;
        who = Who.Host;
        kind = Kind.Bus;
        queue = [];
        opens = 0;
        unsent = change ∷ [];
        namings = [];
        temps = [];
        added = 0;
      } ∷ [];
}

-- a Leave ends the seat's own connection and tells nothing. A Collect is of a bus alone: it tells
-- what was not told yet, once
pub record LeaveAndCollect : Type 0 where
  pub leaves_once : step entered_state (leaves 1) ≡ (read_write_state, replied Answer.Done)
  pub not_entered : step read_write_state (leaves 1) ≡ (read_write_state, not_here_reply)
  pub other_seat : step entered_state (leaves 2) ≡ (entered_state, not_here_reply)
  pub tells_nothing : step waiting_state (leaves 1) ≡ (read_write_state, replied Answer.Done)
  pub on_a_mount : step entered_state collects ≡ (entered_state, not_here_reply)
  pub nothing_waits : step (after read_write_state enters_bus) collects
      ≡ (after read_write_state enters_bus, replied Answer.Done)
  pub tells : reply_at waiting_state collects ≡ record {
    signals = change ∷ [];
    answer = Answer.Done;
  }
  pub tells_once : reply_at (after waiting_state collects) collects ≡ replied Answer.Done
  pub lawful : Lawful entered_state (leaves 1)

-- where the call of the tree failed, the answer is EIO
abbrev pub failed_look : Entry
failed_look = record {
  seat = 1;
  request = asks_attributes a_node 0 0;
  given = record {
    now = None;
    words = [];
    numbers = [];
    looks = [];
    listed = None;
    generation = None;
    full = false;
    fault = Fault.Tree;
  };
}

pub record FailedLook : Type 0 where
  pub reply : reply_at entered_state failed_look ≡ replied (Answer.Refused (Code.Errno 5))
  pub lawful : Lawful entered_state failed_look

-- ---- costs

abbrev pub asks_of_root : NodeOp → Request
asks_of_root op = Request.Node (record { node = 1; uid = 1000; gid = 1000; op = op })

-- 128 bytes, and six more for the name that an Enter carries; a Leave is free. A name, a content
-- and the nodes of a FUSE_BATCH_FORGET count, the node of a FUSE_FORGET doesn't
pub record CostsOfRequests : Type 0 where
  pub enter : cost_of (Request.Enter (Who.App editor) Kind.Mount) ≡ 134
  pub attributes : cost_of (asks_attributes a_node 0 0) ≡ 128
  pub leave : cost_of Request.Leave ≡ 0
  pub collect : cost_of Request.Collect ≡ 128
  pub lookup : cost_of (asks_of_root (NodeOp.Lookup (codes "0000000a"))) ≡ 136
  pub write : cost_of (asks_of_root (NodeOp.Write 1 0 (codes "hello"))) ≡ 133
  pub forget : cost_of (asks_of_root (NodeOp.Forget 3)) ≡ 128
  pub batch_forget : cost_of (asks_of_root
      (NodeOp.BatchForget (record { node = 1; count = 3 } ∷ record { node = 2; count = 1 } ∷ [])))
      ≡ 160
