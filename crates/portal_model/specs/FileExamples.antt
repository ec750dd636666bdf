-- Worked examples of requests on nodes, over the file /home/a.txt that holds "hello". What is
-- expected is worked out by hand from the rules and from include/uapi/linux/fuse.h.
use Rattle.std.specs.Prelude.{◌≡◌, ℕ, ◌+◌, ◌/◌, List, [], ◌∷◌, codes, true, false, cond, Option, Some, None}
use Rattle.portal_base.specs.declared.files.ChildName.{ChildName}
use Rattle.portal_base.specs.declared.files.Look.{Look}
use Rattle.portal_base.specs.declared.who.Kind.TheVariants as Kind
use Rattle.portal_base.specs.declared.who.Who.{Who}
use Rattle.portal_model.specs.declared.entry.Entry.{Entry}
use Rattle.portal_model.specs.declared.entry.Fault.{Fault}
use Rattle.portal_model.specs.declared.entry.Given.{Given}
use Rattle.portal_model.specs.declared.reply.Answer.{Answer}
use Rattle.portal_model.specs.declared.reply.Attr.{Attr}
use Rattle.portal_model.specs.declared.reply.Code.TheVariants as Code
use Rattle.portal_model.specs.declared.reply.DirName.{DirName}
use Rattle.portal_model.specs.declared.reply.NodeAnswer.{NodeAnswer}
use Rattle.portal_model.specs.declared.request.NodeOp.{NodeOp}
use Rattle.portal_model.specs.declared.request.NodeRequest.{NodeRequest}
use Rattle.portal_model.specs.declared.request.Request.{Request}
use Rattle.portal_model.specs.declared.state.Connection.{Connection}
use Rattle.portal_model.specs.Examples.{a_text, document, editor, enters, grant, hello, opening}
use Rattle.portal_model.specs.History.{run}
use Rattle.portal_model.specs.Node.{walk_on_node}
use Rattle.portal_model.specs.Opening.{opened}
use Rattle.portal_model.specs.State.{State, connection_of, held_in}
use Rattle.portal_model.specs.Step.{after, all_told, looks_taken, mount_of, reply_at}
use Rattle.portal_model.specs.Walk.{generation_reached, listed_shown, reads_clock}

-- ---- requests over a tree that tells, at the moment 7

abbrev pub shown : List Look → Option ℕ → Given
shown looks now = record {
  now = now;
  words = [];
  numbers = [];
  looks = looks;
  listed = None;
  generation = None;
  full = false;
  fault = Fault.None;
}

abbrev pub request_on : ℕ → NodeOp → NodeRequest
request_on node op = record { node = node; uid = 1000; gid = 1000; op = op }

-- the moment, where the request changes or makes a file
abbrev pub moment_for : State → NodeRequest → List Look → Option Connection → Option ℕ
moment_for s r looks None = None
moment_for s r looks (Some c) =
    cond (reads_clock (walk_on_node (all_told c.seat s) c r) looks) (Some 7) None

-- the names of a folder, where the request lists it
abbrev pub listed_for : State → NodeRequest → Option Connection → Option (List ChildName)
listed_for s r None = None
listed_for s r (Some c) = listed_shown (held_in s) (walk_on_node (all_told c.seat s) c r)

-- and the generation of the file, where the request makes one beside the present ones
abbrev pub generation_for : State → NodeRequest → List Look → Option Connection → Option ℕ
generation_for s r looks None = None
generation_for s r looks (Some c) =
    generation_reached (walk_on_node (all_told c.seat s) c r) looks

abbrev pub given_on : State → ℕ → NodeRequest → List Look → Given
given_on s seat r looks =
    let o = mount_of (connection_of s.connections seat) in
    record (shown looks (moment_for s r looks o)) {
      listed = listed_for s r o;
      generation = generation_for s r looks o;
    }

-- a request on a node, with the looks that the tree shows
abbrev pub asks_node : State → ℕ → ℕ → NodeOp → Entry
asks_node s seat node op = record {
  seat = seat;
  request = Request.Node (request_on node op);
  given =
      given_on s seat (request_on node op)
      (looks_taken s seat (Request.Node (request_on node op)));
}

abbrev pub answer_to : State → ℕ → ℕ → NodeOp → Answer
answer_to s seat node op = (reply_at s (asks_node s seat node op)).answer

abbrev pub then : State → ℕ → ℕ → NodeOp → State
then s seat node op = after s (asks_node s seat node op)

abbrev pub told : NodeAnswer → Answer
told answer = Answer.Node answer

abbrev pub errs : ℕ → Answer
errs errno = Answer.Refused (Code.Errno errno)

-- the editor on seat 1 and the host on seat 2, each with a mount, and the host's bus on seat 3
abbrev pub entered : State → State
entered s = run s (enters 1 (Who.App editor) ∷ enters 2 Who.Host
    ∷ record {
      seat = 3;
      request = Request.Enter Who.Host Kind.Bus;
      given = shown [] None;
    } ∷ [])

-- document 0000000a, in which the editor has these rights: read 1, write 2
abbrev pub with_rights : ℕ → State
with_rights rights =
    entered (opened (opening (document 10 a_text (grant editor rights ∷ []) ∷ []) hello))

-- its file and its folder in the caller's own view
abbrev pub a_node : ℕ
a_node = 8589934602

abbrev pub a_folder : ℕ
a_folder = 4294967306

-- 0o100600 is 33152
abbrev pub file_attr : ℕ → ℕ → ℕ → Attr
file_attr node size moment = record {
  node = node;
  size = size;
  blocks = (size + 511) / 512;
  moment = moment;
  mode = 33152;
  links = 1;
  uid = 1000;
  gid = 1000;
  block_size = 4096;
}

-- 0o040500 is 16704
abbrev pub folder_attr : ℕ → Attr
folder_attr node = record {
  node = node;
  size = 0;
  blocks = 0;
  moment = 0;
  mode = 16704;
  links = 2;
  uid = 1000;
  gid = 1000;
  block_size = 4096;
}

-- ---- handles keep their rights

abbrev pub opened_once : State
opened_once = then (with_rights 3) 1 a_node (NodeOp.Open 2)

abbrev pub revokes : Entry
revokes = record {
  seat = 3;
  request = Request.Revoke (record {
    doc = codes "0000000a";
    app = editor;
    names = codes "read" ∷ codes "write" ∷ [];
  });
  given = shown [] None;
}

abbrev pub deletes : Entry
deletes = record {
  seat = 3;
  request = Request.DeleteDocument (codes "0000000a");
  given = shown [] None;
}

-- what was opened is read after the rights are gone, and isn't opened again
pub record OlderHandles : Type 0 where
  pub opens : answer_to (with_rights 3) 1 a_node (NodeOp.Open 2) ≡ told (NodeAnswer.Opened 1)
  pub reads : answer_to (after opened_once revokes) 1 a_node (NodeOp.Read 1 0 5)
      ≡ told (NodeAnswer.Content (codes "hello"))
  pub again : answer_to (after opened_once revokes) 1 a_node (NodeOp.Open 2) ≡ errs 2

abbrev pub written_once : State
written_once = then (after opened_once deletes) 1 a_node (NodeOp.Write 1 0 (codes "H"))

abbrev pub released_once : State
released_once = then written_once 1 a_node (NodeOp.Release 1)

-- and is written, read and released after the document is gone
pub record HandlesOutlive : Type 0 where
  pub writes :
      answer_to (after opened_once deletes) 1 a_node (NodeOp.Write 1 0 (codes "H"))
      ≡ told (NodeAnswer.Written 1)
  pub looked_up : answer_to written_once 1 1 (NodeOp.Lookup (codes "0000000a")) ≡ errs 2
  pub reads : answer_to written_once 1 a_node (NodeOp.Read 1 0 5)
      ≡ told (NodeAnswer.Content (codes "Hello"))
  pub releases : answer_to written_once 1 a_node (NodeOp.Release 1) ≡ told NodeAnswer.Empty
  pub again : answer_to released_once 1 a_node (NodeOp.Release 1) ≡ errs 9

-- ---- writes

abbrev pub written_behind : State
written_behind = then opened_once 1 a_node (NodeOp.Write 1 8 (codes "x"))

-- behind the end the gap is filled with zero bytes; past the limit nothing is written; and nothing
-- written leaves the moment
pub record Writing : Type 0 where
  pub behind : answer_to written_behind 1 a_node (NodeOp.Read 1 0 16)
      ≡ told (NodeAnswer.Content (104 ∷ 101 ∷ 108 ∷ 108 ∷ 111 ∷ 0 ∷ 0 ∷ 0 ∷ 120 ∷ []))
  pub past : answer_to written_behind 1 a_node (NodeOp.Write 1 268435456 (codes "x")) ≡ errs 27
  pub size : answer_to written_behind 1 a_node (NodeOp.GetAttr 0 0)
      ≡ told (NodeAnswer.Attr (file_attr a_node 9 7))
  pub nothing : answer_to opened_once 1 a_node (NodeOp.Write 1 0 []) ≡ told (NodeAnswer.Written 0)
  pub moment :
      answer_to (then opened_once 1 a_node (NodeOp.Write 1 0 [])) 1 a_node (NodeOp.GetAttr 0 0)
      ≡ told (NodeAnswer.Attr (file_attr a_node 5 0))

-- ---- folders

abbrev pub folder_entry : ℕ → List ℕ → DirName
folder_entry node name = record { node = node; name = name; folder = true }

abbrev pub root_opened : State
root_opened = then (with_rights 3) 1 1 NodeOp.OpenDir

-- the caller's root lists itself twice and then what is seen in it; a document's folder has the
-- file
pub record Listing : Type 0 where
  pub opens : answer_to (with_rights 3) 1 1 NodeOp.OpenDir ≡ told (NodeAnswer.Opened 1)
  pub root : answer_to root_opened 1 1 (NodeOp.ReadDir 1 0 96) ≡ told (NodeAnswer.Names
      (folder_entry 1 (codes ".") ∷ folder_entry 1 (codes "..")
      ∷ folder_entry a_folder (codes "0000000a") ∷ []) 0 96)
  pub folder :
      answer_to (then (with_rights 3) 1 a_folder NodeOp.OpenDir) 1 1 (NodeOp.ReadDir 1 0 4096)
      ≡ told (NodeAnswer.Names
      (folder_entry a_folder (codes ".") ∷ folder_entry 1 (codes "..")
      ∷ record { node = a_node; name = codes "a.txt"; folder = false } ∷ []) 0 4096)

-- ---- the numbers of handles, and the limit of them

-- the state in which the limit of open handles is this
abbrev pub limited_to : ℕ → State → State
limited_to count s = record s { limits = record s.limits { handles = count } }

abbrev pub opened_twice : State
opened_twice =
    then (then (limited_to 2 (with_rights 3)) 1 a_node (NodeOp.Open 0)) 1 a_node (NodeOp.Open 0)

-- each connection counts its own; a number isn't given again
pub record NumbersOfHandles : Type 0 where
  pub first : answer_to (limited_to 2 (with_rights 3)) 1 a_node (NodeOp.Open 0)
      ≡ told (NodeAnswer.Opened 1)
  pub full : answer_to opened_twice 1 a_node (NodeOp.Open 0) ≡ errs 24
  pub other_seat : answer_to opened_twice 2 a_node (NodeOp.Open 0) ≡ told (NodeAnswer.Opened 1)
  pub released : answer_to (then opened_twice 1 a_node (NodeOp.Release 1)) 1 a_node (NodeOp.Open 0)
      ≡ told (NodeAnswer.Opened 3)

-- ---- files that are made

-- the folder /home is there by another file
abbrev pub b_name : List ℕ
b_name = codes "b.txt"

-- a document of a file that isn't there
abbrev pub of_none : State
of_none = entered
    (opened (opening (document 10 (codes "/home/b.txt") (grant editor 3 ∷ []) ∷ []) hello))

abbrev pub created_once : State
created_once = then of_none 1 a_folder (NodeOp.Create b_name 2)

pub record Creating : Type 0 where
  pub creates : answer_to of_none 1 a_folder (NodeOp.Create b_name 2)
      ≡ told (NodeAnswer.Created (file_attr a_node 0 7) 1)
  pub again : answer_to created_once 1 a_folder (NodeOp.Create b_name 2) ≡ errs 17
  -- another name is that of a temporary, 5 * 2^32 + 1
  pub another_name : answer_to created_once 1 a_folder (NodeOp.Create (codes "c.txt") 2)
      ≡ told (NodeAnswer.Created (file_attr 21474836481 0 7) 2)
  pub to_write : answer_to (with_rights 1) 1 a_node (NodeOp.Open 1) ≡ errs 13
  pub may_not_write : answer_to (with_rights 1) 1 a_node (NodeOp.Access 2) ≡ errs 13
  pub may_read : answer_to (with_rights 1) 1 a_node (NodeOp.Access 4) ≡ told NodeAnswer.Empty

-- ---- the host's view

-- application 1 is the editor; its view is 1, with the root 2^36 + 1
abbrev pub editor_root : ℕ
editor_root = 68719476737

abbrev pub by_app_opened : State
by_app_opened = then (with_rights 3) 2 2 NodeOp.OpenDir

pub record HostView : Type 0 where
  pub found : answer_to (with_rights 3) 2 1 (NodeOp.Lookup (codes "by-app"))
      ≡ told (NodeAnswer.Entry (folder_attr 2))
  pub not_found : answer_to (with_rights 3) 1 1 (NodeOp.Lookup (codes "by-app")) ≡ errs 2
  pub editor_found : answer_to (with_rights 3) 2 2 (NodeOp.Lookup editor)
      ≡ told (NodeAnswer.Entry (folder_attr editor_root))
  pub views : answer_to by_app_opened 2 2 (NodeOp.ReadDir 1 0 4096) ≡ told (NodeAnswer.Names
      (folder_entry 2 (codes ".") ∷ folder_entry 1 (codes "..")
      ∷ folder_entry editor_root editor ∷ []) 0 4096)
  pub of_application : answer_to (with_rights 3) 1 editor_root (NodeOp.GetAttr 0 0) ≡ errs 2
