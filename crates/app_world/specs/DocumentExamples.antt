-- Worked examples of requests on documents in the world of one application. What is expected is
-- worked out by hand from the rules.
use Rattle.std.specs.Prelude.{◌≡◌, ◌++◌, ℕ, List, [], ◌∷◌, Bool, true, false, codes, map, replicate}
use Rattle.portal_model.specs.declared.entry.Entry.{Entry}
use Rattle.portal_model.specs.declared.opening.OpeningDocument.{OpeningDocument}
use Rattle.portal_model.specs.declared.reply.Answer.{Answer}
use Rattle.portal_model.specs.declared.reply.Code.TheVariants as Code
use Rattle.portal_model.specs.declared.request.Request.{Request}
use Rattle.portal_base.specs.declared.files.Look.{Look}
use Rattle.portal_model.specs.DocumentExamples.{a_doc, additions, adds, adds_for, asked, asked_alone, buses, failing_tree, file_there, grants, greatest, ids, info_of_a, lists_delete, looks_up, m_text, may_delete, may_give, n_text, of_a_folder, one_too_many, presents, reads_and_writes, refused, rights_call, sixteen, takes_two, two_files, viewer, with_room_for_one, wrapping}
use Rattle.portal_model.specs.Examples.{a_text, document, editor, file, grant, hello, opening}
use Rattle.portal_model.specs.History.{EachLawful, run}
use Rattle.portal_model.specs.Opening.{opened}
use Rattle.portal_model.specs.State.{State}
use Rattle.portal_model.specs.declared.state.Document.{Document}
use Rattle.portal_model.specs.Content.{OfFile}
use Rattle.portal_model.specs.declared.rights.Right.TheVariants.{Read, Write}
use Rattle.rights_rule.specs.Rights.{RightSet, no_rights}
use Rattle.app_world.specs.Examples.{both, id, reads, writes}
use Rattle.app_world.specs.RightsTold.{is_given_in, rights_told}
use Rattle.app_world.specs.TraceItem.{Gained, Gone, Lost, TraceItem}
use Rattle.app_world.specs.View.{Alone}
use Rattle.app_world.specs.World.{app_run, items, trace}

-- over a tree with the file a.txt, and an empty one in the editor's own folder; with a bus of the
-- editor at seat 1 and one of the host at seat 2
abbrev pub in_tree : List OpeningDocument → State
in_tree documents = run (opened (opening documents (file n_text [] ∷ hello))) buses

-- what the application's own machine answers to its trace
abbrev pub own_answers : List ℕ → State → List Entry → List Answer
own_answers app s h = map (λ r. r.answer) (app_run (trace app s h))

-- ---- its own additions, and those of others

-- the host gives the viewer the right to read n.txt in a document that may be used again; then the
-- editor adds the same file
abbrev pub held_by_another : List Entry
held_by_another =
    presents 2 n_text
    ∷ asked 2 (Request.Add (adds_for (0 ∷ []) 1 1 viewer (codes "read" ∷ []))) file_there (5 ∷ [])
    ∷ presents 1 n_text
    ∷ asked 1 (Request.Add (adds 1)) file_there []
    ∷ asked_alone 1 (Request.Grant (rights_call (codes "00000005") viewer (codes "write" ∷ [])))
    ∷ []

-- its additions of new documents and of ones that are used again, and deletions of both
abbrev pub own_additions : List Answer
own_additions =
    Answer.Place 0 ∷ ids (codes "00000005" ∷ [])
    ∷ Answer.Place 0 ∷ ids (codes "00000005" ∷ [])
    ∷ Answer.Place 0 ∷ ids (codes "ffffffff" ∷ [])
    ∷ refused Code.NotAllowed ∷ Answer.Done ∷ refused Code.NotAllowed ∷ []

-- an Add of its own folder, which is no file; of two files that it lists for another with a right
-- that it has in one of them; of more files than wait; and one behind which the tree fails
abbrev pub refused_additions : List Entry
refused_additions =
    of_a_folder
    ++ presents 1 n_text ∷ presents 1 m_text ∷ lists_delete (0 ∷ 1 ∷ []) []
    ∷ presents 1 n_text ∷ asked_alone 1 (takes_two (0 ∷ []) 0)
    ∷ presents 1 n_text ∷ failing_tree (asked_alone 1 (takes_two (0 ∷ []) 0)) ∷ []

-- An application that adds uses a document again that its view does not hold, and finds the one
-- that its call made.
pub record WorldsOfAdditions : Type 0 where
  pub once :
      own_answers editor (in_tree []) (two_files 1 (5 ∷ []))
      ≡ Answer.Place 0 ∷ ids (codes "00000005" ∷ codes "00000005" ∷ []) ∷ []
  pub twice :
      own_answers editor (in_tree []) (two_files 0 (5 ∷ 6 ∷ []))
      ≡ Answer.Place 0 ∷ ids (codes "00000005" ∷ codes "00000006" ∷ []) ∷ []
  pub foreign :
      own_answers editor (in_tree []) held_by_another
      ≡ Answer.Place 0 ∷ ids (codes "00000005" ∷ []) ∷ Answer.Done ∷ []
  pub again : own_answers editor (in_tree []) additions ≡ own_additions
  pub refused_ones :
      own_answers editor (in_tree may_delete) refused_additions
      ≡ Answer.Place 0 ∷ refused Code.InvalidArgument
      ∷ Answer.Place 0 ∷ Answer.Place 1 ∷ refused Code.NotAllowed
      ∷ Answer.Place 0 ∷ refused Code.InvalidArgs
      ∷ Answer.Place 1 ∷ refused Code.Failed ∷ []
  pub limit :
      own_answers editor with_room_for_one one_too_many
      ≡ Answer.Place 0 ∷ ids (codes "00000005" ∷ []) ∷ Answer.Place 0
      ∷ refused Code.LimitsExceeded ∷ Answer.Place 0 ∷ []

-- ---- its other calls

-- with 16 presented files: one more, and an Add that takes 17
abbrev pub full_queue : List Entry
full_queue =
    sixteen
    ++ presents 1 n_text ∷ asked_alone 1 (Request.Add (adds_for (0 ∷ []) 17 0 [] [])) ∷ []

abbrev pub sixteen_places : List Answer
sixteen_places =
    map (λ place. Answer.Place place)
    (0 ∷ 1 ∷ 2 ∷ 3 ∷ 4 ∷ 5 ∷ 6 ∷ 7 ∷ 8 ∷ 9 ∷ 10 ∷ 11 ∷ 12 ∷ 13 ∷ 14 ∷ 15 ∷ [])

-- the host gives rights in between
abbrev pub giving : List Entry
giving =
    grants 1 a_doc (codes "read" ∷ codes "write" ∷ []) ∷ grants 1 a_doc (codes "read" ∷ [])
    ∷ grants 2 a_doc (codes "write" ∷ []) ∷ grants 1 a_doc (codes "execute" ∷ [])
    ∷ grants 1 (codes "0000000b") (codes "read" ∷ []) ∷ []

-- what an application may not be told of, be it there or not
abbrev pub asking : List Entry
asking =
    info_of_a 1 ∷ asked_alone 1 (Request.Info (codes "0000000b"))
    ∷ looks_up 1 a_text ∷ looks_up 1 n_text ∷ asked_alone 1 (Request.ListDocuments []) ∷ []

-- A queue holds 16 files. An application gives what it has, and is told of no document that it asks
-- for; one that another alone holds is not there to it, as one that is not there at all.
pub record WorldsOfCalls : Type 0 where
  pub queue :
      own_answers editor (in_tree []) full_queue
      ≡ sixteen_places ++ refused Code.LimitsExceeded ∷ refused Code.InvalidArgs ∷ []
  pub giving_rights :
      own_answers editor (in_tree may_give) giving
      ≡ refused Code.NotAllowed ∷ Answer.Done ∷ refused Code.InvalidArgument
      ∷ refused Code.NotFound ∷ []
  pub asking_the_host_alone :
      own_answers editor (in_tree reads_and_writes) asking ≡ replicate 5 (refused Code.NotAllowed)

-- ---- rights that go, and documents

abbrev pub two_documents : State
two_documents =
    in_tree
    (document 10 n_text (grant editor 5 ∷ []) ∷ document 11 n_text (grant editor 1 ∷ []) ∷ [])

-- the editor takes its right to read in the second document from itself
abbrev pub from_itself : List Entry
from_itself =
    asked_alone 1 (Request.Revoke (rights_call (codes "0000000b") editor (codes "read" ∷ [])))
    ∷ asked_alone 1 (Request.Revoke (rights_call (codes "0000000b") editor (codes "read" ∷ [])))
    ∷ asked_alone 1 (Request.DeleteDocument (codes "0000000a"))
    ∷ []

-- An application loses what it takes from itself, and then the document is not there to it.
pub record WorldsOfRemovals : Type 0 where
  pub own :
      own_answers editor two_documents from_itself
      ≡ Answer.Done ∷ Answer.Refused Code.NotFound ∷ Answer.Refused Code.NotAllowed ∷ []

-- ---- what others touch

-- the editor may read and grant in the first document, and read in the second; both are of one path
abbrev pub by_the_host : List Entry
by_the_host =
    asked_alone 2
    (Request.Revoke
    (rights_call (codes "0000000a") editor (codes "write" ∷ codes "read" ∷ [])))
    ∷ asked_alone 2 (Request.DeleteDocument (codes "0000000b"))
    ∷ asked_alone 2 (Request.DeleteDocument (codes "0000000b"))
    ∷ asked_alone 2
    (Request.Grant
    (rights_call (codes "0000000a") editor (codes "grant-permissions" ∷ codes "delete" ∷ [])))
    ∷ []

abbrev pub a_document : Document
a_document =
    record {
      id = id 10;
      path = n_text;
      persistent = true;
      reusable = true;
      strict = false;
      folder = false;
    }

abbrev pub deletes : RightSet
deletes = record { read = false; write = false; grant_permissions = false; delete = true }

-- the host adds two equal files for the editor, which may not be used again, and then one for
-- nobody
abbrev pub added_by_the_host : List Entry
added_by_the_host =
    presents 2 n_text
    ∷ asked 2 (Request.Add (adds_for (0 ∷ 0 ∷ []) 1 0 editor (codes "read" ∷ [])))
    (Look.File 0 0 0 ∷ file_there) (5 ∷ 6 ∷ [])
    ∷ presents 2 n_text
    ∷ asked 2 (Request.Add (adds 0)) file_there (7 ∷ []) ∷ []

-- the same with the flag for reuse: one document
abbrev pub reused_by_the_host : List Entry
reused_by_the_host =
    presents 2 n_text
    ∷ asked 2 (Request.Add (adds_for (0 ∷ 0 ∷ []) 1 1 editor (codes "read" ∷ [])))
    (Look.File 0 0 0 ∷ file_there) (5 ∷ [])
    ∷ presents 2 n_text
    ∷ asked 2 (Request.Add (adds_for (0 ∷ []) 1 1 editor (codes "read" ∷ codes "write" ∷ [])))
    file_there [] ∷ []

abbrev pub n_document_of : ℕ → Bool → Document
n_document_of number reuse =
    record {
      id = id number;
      path = n_text;
      persistent = false;
      reusable = reuse;
      strict = false;
      folder = false;
    }

abbrev pub gains_reading : ℕ → TraceItem
gains_reading number = Gained (n_document_of number false) reads (Alone (OfFile 0 [] 0))

-- It is told of what it held before, and of what it did not; and nothing of what isn't done. Of the
-- files that another adds it is told where it is named, of two documents where each file becomes
-- one, and where a document is used again of the rights alone that are new to it.
pub record WhatIsTouched : Type 0 where
  pub by_host :
      items editor two_documents by_the_host
      ≡ Lost (id 10) reads
      ∷ Gone (id 11)
      ∷ Gained a_document deletes (Alone (OfFile 0 [] 0))
      ∷ []
  pub two_added :
      items editor (in_tree []) added_by_the_host ≡ gains_reading 5 ∷ gains_reading 6 ∷ []
  pub one_reused :
      items editor (in_tree []) reused_by_the_host
      ≡ Gained (n_document_of 5 true) reads (Alone (OfFile 0 [] 0))
      ∷ Gained (n_document_of 5 true) writes (Alone (OfFile 0 [] 0)) ∷ []
  pub number_nought : items editor (in_tree greatest) wrapping ≡ []

-- ---- who has which right

abbrev pub gives_and_deletes : RightSet
gives_and_deletes =
    record { read = false; write = false; grant_permissions = true; delete = true }

abbrev pub reads_and_gives : RightSet
reads_and_gives =
    record { read = true; write = false; grant_permissions = true; delete = false }

-- The viewer gets reading by the host's addition, and writing by the editor's grant; the editor
-- gets what who adds gets. Rights go by a revocation, and all of them as the document is deleted.
pub record RightsOfHistories : Type 0 where
  pub given : rights_told viewer 5 (in_tree []) held_by_another no_rights ≡ both
  pub added :
      rights_told editor 5 (in_tree []) held_by_another no_rights
      ≡ record { read = true; write = true; grant_permissions = true; delete = false }
  pub elsewhere : rights_told viewer 6 (in_tree []) held_by_another no_rights ≡ no_rights
  pub taken : rights_told editor 11 two_documents from_itself reads ≡ no_rights
  pub deleted : rights_told editor 11 two_documents by_the_host reads ≡ no_rights
  pub changed :
      rights_told editor 10 two_documents by_the_host reads_and_gives ≡ gives_and_deletes
  pub given_between : is_given_in viewer 5 Write (in_tree []) held_by_another ≡ true
  pub not_given : is_given_in editor 11 Read two_documents by_the_host ≡ false

-- ---- what the outside gave

-- to each entry of these histories what the outside gave is lawful
pub record GivenLawfully : Type 0 where
  pub held : EachLawful (in_tree []) held_by_another
  pub refused_ones : EachLawful (in_tree may_delete) refused_additions
  pub queue : EachLawful (in_tree []) full_queue
  pub giving_rights : EachLawful (in_tree may_give) giving
  pub asking_the_host_alone : EachLawful (in_tree reads_and_writes) asking
  pub own : EachLawful two_documents from_itself
  pub by_host : EachLawful two_documents by_the_host
  pub two_added : EachLawful (in_tree []) added_by_the_host
  pub one_reused : EachLawful (in_tree []) reused_by_the_host
