-- Worked examples of requests on nodes in the world of one application: document 0000000a of the
-- file /home/a.txt, which holds "hello", a mount of the editor at seat 1, and one of the host at
-- seat 2. What is expected is worked out by hand from the rules.
use Rattle.std.specs.Prelude.{◌≡◌, ℕ, List, [], ◌∷◌, ◌++◌, codes, length, Bool, true, cond}
use Rattle.portal_model.specs.declared.entry.Entry.{Entry}
use Rattle.portal_model.specs.declared.reply.Answer.{Answer}
use Rattle.portal_model.specs.declared.reply.NodeAnswer.{NodeAnswer}
use Rattle.portal_model.specs.declared.request.NodeOp.{NodeOp}
use Rattle.portal_model.specs.Content.{OfFile, NotThere}
use Rattle.portal_model.specs.Examples.{a_text, editor}
use Rattle.portal_model.specs.FileExamples.{a_folder, a_node, asks_node, b_name, deletes, of_none, opened_once, revokes, then, told, with_rights}
use Rattle.portal_model.specs.History.{EachLawful}
use Rattle.portal_model.specs.Lawful.{Lawful}
use Rattle.portal_model.specs.State.{State}
use Rattle.portal_model.specs.Step.{after}
use Rattle.app_world.specs.DocumentExamples.{own_answers}
use Rattle.app_world.specs.Effect.{Effect, Bytes}
use Rattle.app_world.specs.Examples.{b_text}
use Rattle.app_world.specs.View.{PathContent, view}
use Rattle.app_world.specs.World.{touch}

abbrev pub stranger : List ℕ
stranger = codes "org.example.Stranger"

-- the editor may read, and opens the file; then the host opens it to read and to write
abbrev pub opened_by_editor : State
opened_by_editor = then (with_rights 1) 1 a_node (NodeOp.Open 0)

abbrev pub opened_by_both : State
opened_by_both = then opened_by_editor 2 a_node (NodeOp.Open 2)

abbrev pub both_open : List Entry
both_open =
    asks_node (with_rights 1) 1 a_node (NodeOp.Open 0)
    ∷ asks_node opened_by_editor 2 a_node (NodeOp.Open 2) ∷ []

-- the host writes through its handle
abbrev pub host_writes : Entry
host_writes = asks_node opened_by_both 2 a_node (NodeOp.Write 1 0 (codes "H"))

abbrev pub editor_reads : State → Entry
editor_reads s = asks_node s 1 a_node (NodeOp.Read 1 0 5)

-- what changes the file too, and what doesn't
abbrev pub host_writes_nothing : Entry
host_writes_nothing = asks_node opened_by_both 2 a_node (NodeOp.Write 1 0 [])

abbrev pub host_opens_empty : Entry
host_opens_empty = asks_node opened_by_both 2 a_node (NodeOp.Open 514)

abbrev pub host_resizes : Entry
host_resizes = asks_node opened_by_both 2 a_node (NodeOp.SetAttr 8 0 2)

-- the editor has a document of the file b.txt, which isn't there, and the host makes it
abbrev pub host_makes : Entry
host_makes = asks_node of_none 2 a_folder (NodeOp.Create b_name 2)

-- the editor closes the file behind the deletion of its document
abbrev pub editor_closes : Entry
editor_closes = asks_node (after opened_once deletes) 1 a_node (NodeOp.Release 1)

-- the file of the document has these bytes since the moment 7
abbrev pub told_bytes : List ℕ → List Effect
told_bytes bytes = Bytes a_text 0 (OfFile 0 bytes 7) ∷ []

abbrev pub at_a : List ℕ → ℕ → List PathContent
at_a bytes moment = record { path = a_text; content = OfFile 0 bytes moment } ∷ []

-- An application is told of the bytes of a file that its view names, and reads them by its own
-- machine; one that holds nothing is told nothing. A file stays in the view as long as it is open.
pub record WorldsOfFiles : Type 0 where
  pub reads :
      own_answers editor (with_rights 1)
      (both_open ++ host_writes ∷ editor_reads (after opened_by_both host_writes) ∷ [])
      ≡ told (NodeAnswer.Opened 1) ∷ told (NodeAnswer.Content (codes "Hello")) ∷ []
  pub written : touch editor opened_by_both host_writes ≡ told_bytes (codes "Hello")
  pub not_held : touch stranger opened_by_both host_writes ≡ []
  pub nothing_written : touch editor opened_by_both host_writes_nothing ≡ []
  pub truncated : touch editor opened_by_both host_opens_empty ≡ told_bytes []
  pub resized : touch editor opened_by_both host_resizes ≡ told_bytes (codes "he")
  pub made : touch editor of_none host_makes ≡ Bytes b_text 0 (OfFile 0 [] 7) ∷ []
  pub made_not_held : touch stranger of_none host_makes ≡ []
  pub is_there :
      (view (after of_none host_makes) editor).contents
      ≡ record { path = b_text; content = OfFile 0 [] 7 } ∷ []
  pub was_missing :
      (view of_none editor).contents
      ≡ record { path = b_text; content = NotThere true } ∷ []
  pub still_open : (view (after opened_once deletes) editor).contents ≡ at_a (codes "hello") 0
  pub released : (view (after (after opened_once deletes) editor_closes) editor).contents ≡ []

-- ---- parts that code gives

-- so many effects of the host's write are told to one that holds the document, or to one that holds
-- nothing
abbrev pub AreTold : Bool → ℕ → Type 0
AreTold held count =
    length (touch (cond held editor stranger) opened_by_both host_writes) ≡ count

-- the editor loses its rights, and the host truncates the file that the editor has open
abbrev pub revoked : State
revoked = after opened_by_both revokes

abbrev pub host_truncates : Entry
host_truncates = asks_node revoked 2 a_node (NodeOp.Open 514)

abbrev pub size_of : List Answer → ℕ
size_of (first ∷ Answer.Node (NodeAnswer.Content content) ∷ []) = length content
size_of answers = 5

-- so many bytes the editor's own machine then reads
abbrev pub IsLeftToRead : ℕ → Type 0
IsLeftToRead count =
    size_of
    (own_answers editor (with_rights 1)
    (both_open ++ revokes ∷ host_truncates ∷ editor_reads (after revoked host_truncates) ∷ []))
    ≡ count

-- ---- what the outside gave

-- to each entry of these examples what the outside gave is lawful
pub record FilesGivenLawfully : Type 0 where
  pub reads :
      EachLawful (with_rights 1)
      (both_open ++ host_writes ∷ editor_reads (after opened_by_both host_writes) ∷ [])
  pub nothing_written : Lawful opened_by_both host_writes_nothing
  pub truncated : Lawful opened_by_both host_opens_empty
  pub resized : Lawful opened_by_both host_resizes
  pub made : Lawful of_none host_makes
  pub released : EachLawful opened_once (deletes ∷ editor_closes ∷ [])
  pub left :
      EachLawful (with_rights 1)
      (both_open ++ revokes ∷ host_truncates ∷ editor_reads (after revoked host_truncates) ∷ [])
