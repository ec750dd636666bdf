-- A worked example of a document that is used again: document 0000000a of the file /home/a.txt,
-- which holds "hello". It is persistent and may be used again, and the editor may read and write
-- it. The host, on its bus at seat 3, adds the same file for the viewer with the flags
-- reuse_existing and persistent. What is expected is worked out by hand from the documentation of
-- org.freedesktop.portal.Documents and from include/uapi/linux/fuse.h.
use Rattle.std.specs.Prelude.{◌≡◌, List, [], ◌∷◌, ◌++◌, codes, None}
use Rattle.portal_base.specs.declared.files.Look.{Look}
use Rattle.portal_base.specs.declared.who.Who.{Who}
use Rattle.portal_model.specs.declared.entry.Entry.{Entry}
use Rattle.portal_model.specs.declared.reply.Answer.{Answer}
use Rattle.portal_model.specs.declared.reply.NodeAnswer.{NodeAnswer}
use Rattle.portal_model.specs.declared.request.NodeOp.{NodeOp}
use Rattle.portal_model.specs.declared.request.Request.{Request}
use Rattle.portal_model.specs.declared.state.Document.{Document}
use Rattle.portal_model.specs.Content.{OfFile}
use Rattle.portal_model.specs.DocumentExamples.{adds_for, asked, ids, presents, viewer}
use Rattle.portal_model.specs.Examples.{a_node, a_text, editor, enters, read_write, replied}
use Rattle.portal_model.specs.History.{Legal, run}
use Rattle.portal_model.specs.Opening.{opened}
use Rattle.portal_model.specs.State.{State}
use Rattle.portal_model.specs.Step.{reply_at}
use Rattle.app_world.specs.Examples.{held, id, reads}
use Rattle.app_world.specs.TraceItem.{Bytes, Gained}
use Rattle.app_world.specs.View.{Alone}
use Rattle.app_world.specs.World.{app_run, touch, trace}
use Rattle.file_laws.specs.Examples.{enters_bus}
use Rattle.file_laws.specs.TouchExamples.{asks_op, editor_opens, editor_writes, entered_item, given_looks, viewer_own}

-- the editor and the viewer have a mount each, and the editor opens the file
abbrev pub before : List Entry
before =
    enters 1 (Who.App editor)
    ∷ enters 2 (Who.App viewer)
    ∷ enters_bus
    ∷ editor_opens
    ∷ presents 3 a_text
    ∷ []

-- the host adds the file for the viewer, to read: one presented file, and the flags 1 for reuse and
-- 2 for a persistent document
abbrev pub adds_again : Entry
adds_again =
    asked 3 (Request.Add (adds_for (0 ∷ []) 1 3 viewer (codes "read" ∷ [])))
    (Look.File 0 5 0 ∷ []) []

-- the viewer opens the file of the same node as the editor, and reads what the editor wrote since
abbrev pub viewer_opens_it : Entry
viewer_opens_it = given_looks 2 a_node (NodeOp.Open 0) (Look.File 0 5 0 ∷ []) None

abbrev pub viewer_reads_it : Entry
viewer_reads_it = given_looks 2 a_node (NodeOp.Read 1 0 5) [] None

abbrev pub reusing : List Entry
reusing =
    before ++ adds_again ∷ viewer_opens_it ∷ editor_writes ∷ viewer_reads_it ∷ []

abbrev pub at_addition : State
at_addition = run (opened read_write) before

-- the document that was there from the start
abbrev pub a_document : Document
a_document = (held 10 a_text reads).document

-- The host is answered the identifier of the document that is there, and no number is made. The
-- viewer gains that document with the right that is listed and the content that its file has; the
-- editor is told nothing. Then the viewer is told of the editor's write, once.
pub record UsedAgainIsShared : Type 0 where
  pub legal : Legal (opened read_write) reusing
  pub answered : (reply_at at_addition adds_again).answer ≡ ids (codes "0000000a" ∷ [])
  pub made : (run (opened read_write) reusing).made ≡ id 10 ∷ []
  pub editor_told : touch editor at_addition adds_again ≡ []
  pub viewer_told :
      (trace viewer (opened read_write) reusing).items
      ≡ entered_item
      ∷ Gained a_document reads (Alone (OfFile 0 (codes "hello") 0))
      ∷ viewer_own (asks_op a_node (NodeOp.Open 0)) 1
      ∷ Bytes a_text 0 (OfFile 0 (codes "Jello") 7)
      ∷ viewer_own (asks_op a_node (NodeOp.Read 1 0 5)) 0
      ∷ []
  pub replies :
      app_run (trace viewer (opened read_write) reusing)
      ≡ replied Answer.Done
      ∷ replied (Answer.Node (NodeAnswer.Opened 1))
      ∷ replied (Answer.Node (NodeAnswer.Content (codes "Jello")))
      ∷ []
