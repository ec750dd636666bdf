-- Worked examples of which code gives a part: an answer, or the rights that a view holds. What is
-- expected is worked out by hand from the rules.
use Rattle.std.specs.Prelude.{◌≡◌, List, [], ◌∷◌, Bool, true, false, codes, map, replicate}
use Rattle.portal_model.specs.declared.entry.Entry.{Entry}
use Rattle.portal_model.specs.declared.opening.OpeningDocument.{OpeningDocument}
use Rattle.portal_model.specs.declared.reply.Answer.{Answer}
use Rattle.portal_model.specs.declared.reply.Code.{Code}
use Rattle.portal_model.specs.declared.request.Request.{Request}
use Rattle.portal_model.specs.DocumentExamples.{a_doc, adds, asked, asked_alone, file_there, lists_delete, m_text, may_delete, n_text, presents, rights_call, viewer}
use Rattle.portal_model.specs.Examples.{document, editor, grant}
use Rattle.portal_model.specs.History.{run}
use Rattle.portal_model.specs.State.{State, held_of}
use Rattle.rights_rule.specs.Rights.{RightSet}
use Rattle.app_world.specs.DocumentExamples.{in_tree, own_answers}
use Rattle.app_world.specs.Effect.{apply_all}
use Rattle.app_world.specs.View.{AppView, view}
use Rattle.app_world.specs.World.{app_step, own_of, touch}

-- the editor asks three times of a document: it gives a right, takes one from itself, and deletes
abbrev pub asks_of_a_document : List Entry
asks_of_a_document =
    asked_alone 1 (Request.Grant (rights_call a_doc viewer (codes "read" ∷ [])))
    ∷ asked_alone 1 (Request.Revoke (rights_call a_doc editor (codes "read" ∷ [])))
    ∷ asked_alone 1 (Request.DeleteDocument a_doc) ∷ []

abbrev pub of_the_viewer : List OpeningDocument
of_the_viewer = document 10 n_text (grant viewer 15 ∷ []) ∷ []

-- a document that another alone holds, and one that isn't there, are refused alike
pub record AreRefused (code : Code) : Type 0 where
  pub foreign :
      own_answers editor (in_tree of_the_viewer) asks_of_a_document
      ≡ replicate 3 (Answer.Refused code)
  pub missing :
      own_answers editor (in_tree []) asks_of_a_document ≡ replicate 3 (Answer.Refused code)

-- the rights in each document of a view
abbrev pub rights_in : AppView → List RightSet
rights_in v = map (λ d. d.rights) v.documents

-- the editor may read in a document, and the viewer write
abbrev pub shared : List OpeningDocument
shared = document 10 n_text (grant viewer 2 ∷ grant editor 1 ∷ []) ∷ []

abbrev pub IsSeenInShared : RightSet → Type 0
IsSeenInShared rights = rights_in (view (in_tree shared) editor) ≡ rights ∷ []

-- the editor may read and write, and the host takes reading away
abbrev pub read_and_written : State
read_and_written = in_tree (document 10 n_text (grant editor 3 ∷ []) ∷ [])

abbrev pub host_takes_reading : Entry
host_takes_reading =
    asked_alone 2 (Request.Revoke (rights_call a_doc editor (codes "read" ∷ [])))

abbrev pub IsLeft : RightSet → Type 0
IsLeft rights =
    rights_in
    (apply_all (view read_and_written editor) (touch editor read_and_written host_takes_reading))
    ≡ rights ∷ []

-- the editor's own machine adds a document, with the flag to use one again or without
abbrev pub presented : State
presented = run (in_tree []) (presents 1 n_text ∷ [])

abbrev pub flags_of : Bool → Request
flags_of true = Request.Add (adds 1)
flags_of false = Request.Add (adds 0)

abbrev pub adds_one : Bool → Entry
adds_one reuse =
    asked 1 (flags_of reuse) file_there (5 ∷ [])

abbrev pub IsGotByAdding : Bool → RightSet → Type 0
IsGotByAdding reuse rights =
    rights_in (app_step (view presented editor) (own_of presented (adds_one reuse))).0 ≡ rights ∷ []

-- The editor may delete one of two documents. It adds both files again, and lists deletion for the
-- viewer, which it then does not hold in the other: what the viewer has of it in the first
abbrev pub listing_delete_twice : List Entry
listing_delete_twice = presents 1 n_text ∷ presents 1 m_text ∷ lists_delete (0 ∷ 1 ∷ []) [] ∷ []

abbrev pub IsGivenByListing : RightSet → Type 0
IsGivenByListing rights =
    held_of (run (in_tree may_delete) listing_delete_twice).rights viewer 10 ≡ rights
