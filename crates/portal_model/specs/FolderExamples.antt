-- Worked examples of a folder that is a document: /home/p, with the file a.txt in it. What is
-- expected is worked out by hand from the rules.
use Rattle.std.specs.Prelude.{◌≡◌, ℕ, List, [], ◌∷◌, codes, true, false}
use Rattle.portal_base.specs.declared.who.Who.{Who}
use Rattle.portal_model.specs.declared.opening.OpeningDocument.{OpeningDocument}
use Rattle.portal_model.specs.declared.reply.Attr.{Attr}
use Rattle.portal_model.specs.declared.reply.DirName.{DirName}
use Rattle.portal_model.specs.declared.reply.NodeAnswer.{NodeAnswer}
use Rattle.portal_model.specs.declared.request.NodeOp.{NodeOp}
use Rattle.portal_model.specs.Examples.{document, editor, enters, file, grant, opening, other}
use Rattle.portal_model.specs.FileExamples.{answer_to, errs, file_attr, folder_attr, folder_entry, then, told}
use Rattle.portal_model.specs.History.{run}
use Rattle.portal_model.specs.Opening.{opened}
use Rattle.portal_model.specs.State.{State}

-- document 00000020, in which the editor has these rights: read 1, write 2
abbrev pub p_document : ℕ → OpeningDocument
p_document rights = record (document 32 (codes "/home/p") (grant editor rights ∷ [])) {
  persistent = false;
  folder = true;
}

-- seats 1 and 2 are mounts of the editor, seat 3 one of another
abbrev pub exported_to : ℕ → State
exported_to rights =
    run
    (opened (opening (p_document rights ∷ []) (file (codes "/home/p/a.txt") (codes "hi") ∷ [])))
    (enters 1 (Who.App editor) ∷ enters 2 (Who.App editor) ∷ enters 3 (Who.App other) ∷ [])

abbrev pub exported : State
exported = exported_to 3

-- its folder in the caller's own view, 1 * 2^32 + 32, and itself, 2 * 2^32 + 32
abbrev pub p_folder : ℕ
p_folder = 4294967328

abbrev pub p_node : ℕ
p_node = 8589934624

-- 0o040700 is 16832
abbrev pub writable_attr : ℕ → Attr
writable_attr node = record (folder_attr node) { mode = 16832 }

-- the first name below it on a connection, 4 * 2^32 + 1
abbrev pub first_name : ℕ
first_name = 17179869185

abbrev pub named_once : State
named_once = then exported 1 p_node (NodeOp.Lookup (codes "a.txt"))

abbrev pub made_once : State
made_once = then named_once 1 p_node (NodeOp.Create (codes "b") 2)

abbrev pub listed_once : State
listed_once = then made_once 1 p_node NodeOp.OpenDir

-- what stands in it has no number of its own before it is named
abbrev pub unnamed : List ℕ → DirName
unnamed name = record { node = 4294967295; name = name; folder = false }

pub record NamesBelow : Type 0 where
  pub document : answer_to exported 1 1 (NodeOp.Lookup (codes "00000020"))
      ≡ told (NodeAnswer.Entry (folder_attr p_folder))
  pub itself : answer_to exported 1 p_folder (NodeOp.Lookup (codes "p"))
      ≡ told (NodeAnswer.Entry (writable_attr p_node))
  pub first : answer_to exported 1 p_node (NodeOp.Lookup (codes "a.txt"))
      ≡ told (NodeAnswer.Entry (file_attr first_name 2 0))
  pub makes : answer_to named_once 1 p_node (NodeOp.Create (codes "b") 2)
      ≡ told (NodeAnswer.Created (file_attr 17179869186 0 7) 1)
  pub again : answer_to made_once 1 p_node (NodeOp.Lookup (codes "a.txt"))
      ≡ told (NodeAnswer.Entry (file_attr first_name 2 0))
  pub above : answer_to made_once 1 p_node (NodeOp.Lookup (codes "..")) ≡ errs 2
  pub opens : answer_to made_once 1 p_node NodeOp.OpenDir ≡ told (NodeAnswer.Opened 2)
  pub lists : answer_to listed_once 1 p_node (NodeOp.ReadDir 2 0 4096) ≡ told (NodeAnswer.Names
      (folder_entry p_node (codes ".") ∷ folder_entry p_folder (codes "..")
      ∷ unnamed (codes "a.txt") ∷ unnamed (codes "b") ∷ []) 0 4096)
  -- another connection counts its own
  pub elsewhere : answer_to made_once 2 p_node (NodeOp.Lookup (codes "b"))
      ≡ told (NodeAnswer.Entry (file_attr first_name 0 7))

-- by read alone nothing is made or written there
abbrev pub seen_alone : State
seen_alone = then (exported_to 1) 1 p_node (NodeOp.Lookup (codes "a.txt"))

pub record NotBelow : Type 0 where
  pub other_folder : answer_to named_once 3 1 (NodeOp.Lookup (codes "00000020")) ≡ errs 2
  pub other_name : answer_to named_once 3 first_name (NodeOp.GetAttr 0 0) ≡ errs 2
  pub unnamed_there : answer_to named_once 2 first_name (NodeOp.GetAttr 0 0) ≡ errs 2
  pub no_folder : answer_to named_once 1 first_name (NodeOp.Lookup (codes "x")) ≡ errs 20
  pub may_not_make : answer_to (exported_to 1) 1 p_node (NodeOp.Create (codes "b") 2) ≡ errs 13
  pub may_not_write : answer_to seen_alone 1 first_name (NodeOp.Open 1) ≡ errs 13
  pub may_not_change : answer_to (exported_to 1) 1 p_node (NodeOp.Access 2) ≡ errs 13
  pub may_change : answer_to exported 1 p_node (NodeOp.Access 2) ≡ told NodeAnswer.Empty
  pub not_opened : answer_to exported 1 p_node (NodeOp.Open 0) ≡ errs 21
