-- Worked examples of what others' requests on nodes tell an application: the editor's mount at seat
-- 1 and the viewer's at seat 2, and the file /home/a.txt, which holds "hello". What is expected is
-- worked out by hand from the rules and from include/uapi/linux/fuse.h. Each request has what the
-- outside may give it: the looks that it takes, and a moment where it changes a file alone.
use Rattle.std.specs.Prelude.{◌≡◌, ℕ, List, [], ◌∷◌, Bool, false, codes, cond, length, Option, Some, None}
use Rattle.portal_base.specs.declared.files.Look.{Look}
use Rattle.portal_base.specs.declared.who.Kind.TheVariants as Kind
use Rattle.portal_base.specs.declared.who.Who.{Who}
use Rattle.portal_model.specs.declared.entry.Entry.{Entry}
use Rattle.portal_model.specs.declared.entry.Fault.{Fault}
use Rattle.portal_model.specs.declared.opening.OpeningState.{OpeningState}
use Rattle.portal_model.specs.declared.reply.Answer.{Answer}
use Rattle.portal_model.specs.declared.reply.NodeAnswer.{NodeAnswer}
use Rattle.portal_model.specs.declared.request.NodeOp.{NodeOp}
use Rattle.portal_model.specs.declared.request.Request.{Request}
use Rattle.portal_model.specs.Content.{OfFile}
use Rattle.portal_model.specs.DocumentExamples.{a_doc, n_text, rights_call, viewer}
use Rattle.portal_model.specs.Examples.{a_node, a_text, document, editor, enters, file, grant, hello, opening, replied}
use Rattle.portal_model.specs.FileExamples.{shown}
use Rattle.portal_model.specs.History.{Legal}
use Rattle.portal_model.specs.Lawful.{nothing_given}
use Rattle.portal_model.specs.Opening.{opened}
use Rattle.portal_model.specs.State.{State}
use Rattle.rights_rule.specs.Rights.{RightSet}
use Rattle.app_world.specs.DocumentExamples.{a_document, in_tree}
use Rattle.app_world.specs.Examples.{at_path, b_text, both, held, old_file, viewing}
use Rattle.app_world.specs.TraceItem.{TraceItem, Own, Bytes}
use Rattle.app_world.specs.View.{Alone}
use Rattle.app_world.specs.World.{Trace, app_run, trace}
use Rattle.file_laws.specs.Touches.{IsGained}

-- the file of document 0000000b in the caller's own view: 2 * 2^32 + 11
abbrev pub b_node : ℕ
b_node = 8589934603

abbrev pub asks_op : ℕ → NodeOp → Request
asks_op node op = Request.Node (record { node = node; uid = 1000; gid = 1000; op = op })

abbrev pub given_looks : ℕ → ℕ → NodeOp → List Look → Option ℕ → Entry
given_looks seat node op looks now = record {
  seat = seat;
  request = asks_op node op;
  given = shown looks now;
}

-- the editor opens the file of its document and writes a byte at the beginning
abbrev pub editor_opens : Entry
editor_opens = given_looks 1 a_node (NodeOp.Open 2) (Look.File 0 5 0 ∷ []) None

abbrev pub editor_writes : Entry
editor_writes = given_looks 1 a_node (NodeOp.Write 1 0 (codes "J")) [] (Some 7)

-- the viewer opens the file of its document, which has that length, and reads it
abbrev pub viewer_opens : ℕ → Entry
viewer_opens size = given_looks 2 b_node (NodeOp.Open 2) (Look.File 0 size 0 ∷ []) None

abbrev pub viewer_reads : Entry
viewer_reads = given_looks 2 b_node (NodeOp.Read 1 0 5) [] None

abbrev pub sharing : ℕ → List Entry
sharing size =
    enters 1 (Who.App editor)
    ∷ enters 2 (Who.App viewer)
    ∷ editor_opens
    ∷ viewer_opens size
    ∷ editor_writes
    ∷ viewer_reads
    ∷ []

-- ---- what the viewer's trace tells of it

abbrev pub viewer_own : Request → ℕ → TraceItem
viewer_own request looks = Own (record {
  seat = 2;
  request = request;
  now = None;
  numbers = [];
  shown = [];
  reused = [];
  looks = looks;
  full = false;
  fault = Fault.None;
  generation = None;
})

abbrev pub entered_item : TraceItem
entered_item = viewer_own (Request.Enter (Who.App viewer) Kind.Mount) 0

abbrev pub opened_item : TraceItem
opened_item = viewer_own (asks_op b_node (NodeOp.Open 2)) 1

abbrev pub read_item : TraceItem
read_item = viewer_own (asks_op b_node (NodeOp.Read 1 0 5)) 0

-- ---- two documents of one file

abbrev pub one_file : OpeningState
one_file =
    opening
    (document 10 a_text (grant editor 3 ∷ []) ∷ document 11 a_text (grant viewer 3 ∷ []) ∷ [])
    hello

abbrev pub trace_of_one_file : Trace
trace_of_one_file = trace viewer (opened one_file) (sharing 5)

-- of the editor's entries the viewer is told the bytes that were written alone, once; its own
-- machine reads them
pub record SharedFileIsTold : Type 0 where
  pub legal : Legal (opened one_file) (sharing 5)
  pub told : trace_of_one_file ≡ record {
    opening = viewing (held 11 a_text both ∷ []) (at_path a_text old_file ∷ []);
    items =
        entered_item
        ∷ opened_item
        ∷ Bytes a_text 0 (OfFile 0 (codes "Jello") 7)
        ∷ read_item
        ∷ [];
  }
  pub replies :
      app_run trace_of_one_file
      ≡ replied Answer.Done
      ∷ replied (Answer.Node (NodeAnswer.Opened 1))
      ∷ replied (Answer.Node (NodeAnswer.Content (codes "Jello")))
      ∷ []

-- ---- documents of two files

abbrev pub two_paths : OpeningState
two_paths =
    opening
    (document 10 a_text (grant editor 3 ∷ []) ∷ document 11 b_text (grant viewer 3 ∷ []) ∷ [])
    (file b_text [] ∷ hello)

abbrev pub trace_of_two_paths : Trace
trace_of_two_paths = trace viewer (opened two_paths) (sharing 0)

-- of the editor's entries the viewer, which has another file open, is told nothing
pub record OtherPathIsNotTold : Type 0 where
  pub legal : Legal (opened two_paths) (sharing 0)
  pub told : trace_of_two_paths.items ≡ entered_item ∷ opened_item ∷ read_item ∷ []
  pub replies :
      app_run trace_of_two_paths
      ≡ replied Answer.Done
      ∷ replied (Answer.Node (NodeAnswer.Opened 1))
      ∷ replied (Answer.Node (NodeAnswer.Content []))
      ∷ []

-- ---- a part that code gives

-- so many items the viewer's trace has, where its document is of the file that is written or not
abbrev pub AreItemsTold : Bool → ℕ → Type 0
AreItemsTold same count =
    length (trace viewer (opened (cond same one_file two_paths)) (sharing (cond same 5 0))).items
    ≡ count

-- ---- what a grant may tell

-- the viewer may read the file of document 0000000a, and the host gives it three rights
abbrev pub viewer_reads_only : State
viewer_reads_only = in_tree (document 10 n_text (grant viewer 1 ∷ []) ∷ [])

abbrev pub three_rights : Request
three_rights =
    Request.Grant
    (rights_call a_doc viewer (codes "read" ∷ codes "write" ∷ codes "delete" ∷ []))

-- the viewer may be told of these rights in that document
abbrev pub IsToldOfAGrant : RightSet → Type 0
IsToldOfAGrant rights =
    IsGained viewer viewer_reads_only 2 three_rights nothing_given a_document rights
    (Alone (OfFile 0 [] 0))
