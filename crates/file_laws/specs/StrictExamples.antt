-- Worked examples of open files of a strict document: that of the other examples of open files, as
-- a strict one. What is expected is worked out by hand from the rules and from
-- include/uapi/linux/fuse.h, where EACCES is 13.
use Rattle.std.specs.Prelude.{◌≡◌, ℕ, List, [], ◌∷◌, codes, map, true, Result, Ok, Err, None, Some}
use Rattle.portal_model.specs.declared.entry.Entry.{Entry}
use Rattle.portal_model.specs.declared.reply.NodeAnswer.TheVariants as NodeAnswer
use Rattle.portal_model.specs.declared.request.NodeOp.TheVariants as NodeOp
use Rattle.portal_model.specs.declared.request.Request.TheVariants as Request
use Rattle.portal_model.specs.declared.state.Document.{Document}
use Rattle.portal_model.specs.Examples.{editor}
use Rattle.portal_model.specs.FileExamples.{a_node, answer_to, deletes, errs, file_attr, shown, then, told, with_rights}
use Rattle.portal_model.specs.State.{State}
use Rattle.portal_model.specs.Step.{after}
use Rattle.file_laws.specs.Examples.{grants, outcome}

-- the same documents as strict ones
abbrev pub strict_one : Document → Document
strict_one d = record d { strict = true }

abbrev pub as_strict : State → State
as_strict s = record s { documents = map strict_one s.documents }

-- the editor, which may read and write, opened the file to do both
abbrev pub opened_strict : State
opened_strict = then (as_strict (with_rights 3)) 1 a_node (NodeOp.Open 2)

-- the host takes a right
abbrev pub takes : List ℕ → Entry
takes name = record {
  seat = 3;
  request = Request.Revoke (record {
    doc = codes "0000000a";
    app = editor;
    names = name ∷ [];
  });
  given = shown [] None;
}

abbrev pub read_only : State
read_only = after opened_strict (takes (codes "write"))

abbrev pub unread : State
unread = after read_only (takes (codes "read"))

abbrev pub read_again : State
read_again = after unread grants

abbrev pub deleted : State
deleted = after read_again deletes

-- The right to write is taken, then that to read, which is given again; then the document is
-- deleted. A size is set by the handle of the number 1 with the bits 8 and 64.
pub record RevocationsReachStrict : Type 0 where
  pub read : outcome (answer_to opened_strict 1 a_node (NodeOp.Read 1 0 5)) ≡ Some (Ok 5)
  pub written :
      outcome (answer_to opened_strict 1 a_node (NodeOp.Write 1 0 (codes "H"))) ≡ Some (Ok 1)
  pub not_written :
      outcome (answer_to read_only 1 a_node (NodeOp.Write 1 0 (codes "H"))) ≡ Some (Err 13)
  pub not_sized : answer_to read_only 1 a_node (NodeOp.SetAttr 72 1 0) ≡ errs 13
  pub still_read : outcome (answer_to read_only 1 a_node (NodeOp.Read 1 0 5)) ≡ Some (Ok 5)
  -- 0o100400 is 33024
  pub shown_so :
      answer_to read_only 1 a_node (NodeOp.GetAttr 1 1)
      ≡ told (NodeAnswer.Attr (record (file_attr a_node 5 0) { mode = 33024 }))
  pub not_shown : answer_to unread 1 a_node (NodeOp.GetAttr 1 1) ≡ errs 13
  pub given_again : outcome (answer_to read_again 1 a_node (NodeOp.Read 1 0 5)) ≡ Some (Ok 5)
  pub gone : outcome (answer_to deleted 1 a_node (NodeOp.Read 1 0 5)) ≡ Some (Err 13)
  pub flushed : answer_to deleted 1 a_node (NodeOp.Flush 1) ≡ told NodeAnswer.Empty
  pub released : answer_to deleted 1 a_node (NodeOp.Release 1) ≡ told NodeAnswer.Empty

-- ---- in the view of an application

-- the document's file in the view of the editor, which is application 1
abbrev pub node_for_editor : ℕ
node_for_editor = 77309411338

abbrev pub opened_for_editor : State
opened_for_editor = then (as_strict (with_rights 3)) 2 node_for_editor (NodeOp.Open 2)

-- what the host opens there goes by the rights of the editor, and what it opens in its own view by
-- its own
pub record ViewsGoBySubjects : Type 0 where
  pub read :
      outcome (answer_to opened_for_editor 2 node_for_editor (NodeOp.Read 1 0 5)) ≡ Some (Ok 5)
  pub not_read :
      outcome (answer_to (after opened_for_editor (takes (codes "read"))) 2 node_for_editor
      (NodeOp.Read 1 0 5))
      ≡ Some (Err 13)
  pub own :
      outcome (answer_to (after (then (as_strict (with_rights 3)) 2 a_node (NodeOp.Open 2))
      (takes (codes "read"))) 2 a_node (NodeOp.Read 1 0 5))
      ≡ Some (Ok 5)

-- ---- a part that code gives

-- what the editor is told as it reads by its handle after its right to read was taken
abbrev pub IsToldToStrictReader : Result ℕ ℕ → Type 0
IsToldToStrictReader told = outcome (answer_to unread 1 a_node (NodeOp.Read 1 0 5)) ≡ Some told
