-- Worked examples of the world of one application, over the files and documents of the examples
-- of the portal.
-- What is expected is worked out by hand from the rules.
use Rattle.std.specs.Prelude.{◌≡◌, ℕ, List, [], ◌∷◌, true, false, codes}
use Rattle.portal_base.specs.declared.files.Look.{Look}
use Rattle.portal_base.specs.declared.names.doc_id.DocId.{DocId}
use Rattle.portal_base.specs.declared.who.Who.{Who}
use Rattle.portal_model.specs.declared.entry.Entry.{Entry}
use Rattle.portal_model.specs.declared.opening.OpeningState.{OpeningState}
use Rattle.portal_model.specs.Content.{Content, OfFile, OfFolder, NotThere}
use Rattle.portal_model.specs.Examples.{editor, other, file, grant, document, opening, enters, asks, a_text, a_node, hello, session, read_write}
use Rattle.portal_model.specs.History.{Legal}
use Rattle.portal_model.specs.Opening.{opened}
use Rattle.rights_rule.specs.Rights.{RightSet}
use Rattle.app_world.specs.Effect.{Effect, Gained, Lost, Gone, Bytes, apply}
use Rattle.app_world.specs.View.{Alone, AppView, HeldDocument, PathContent}
use Rattle.app_world.specs.World.{Trace, trace}

-- ---- traces

-- the same, and another's document of another file, whose owner asks in between
abbrev pub b_text : List ℕ
b_text = codes "/home/b.txt"

abbrev pub with_another : OpeningState
with_another =
    opening
    (document 11 b_text (grant other 15 ∷ []) ∷ document 10 a_text (grant editor 3 ∷ []) ∷ [])
    (file b_text [] ∷ hello)

abbrev pub with_another_session : List Entry
with_another_session =
    enters 2 (Who.App other)
    ∷ enters 1 (Who.App editor)
    ∷ enters 3 Who.Host
    ∷ asks 2 8589934603 (Look.File 0 0 0 ∷ [])
    ∷ asks 1 a_node (Look.File 0 5 0 ∷ [])
    ∷ []

-- the same, where the editor may read alone
abbrev pub read_alone : OpeningState
read_alone = opening (document 10 a_text (grant editor 1 ∷ []) ∷ []) hello

abbrev pub trace_of_session : OpeningState → List Entry → Trace
trace_of_session o h = trace editor (opened o) h

-- what the editor asks and sees
abbrev pub one_session : List Entry
one_session = session (Look.File 0 5 0 ∷ [])

-- histories that differ only in what the application doesn't hold give it one trace, and those that
-- differ in its own rights two
pub record TracesTellWhatIsHeld : Type 0 where
  pub legal : Legal (opened with_another) with_another_session
  pub same :
      trace_of_session with_another with_another_session
      ≡ trace_of_session read_write one_session
  pub own_rights :
      trace_of_session read_alone one_session ≡ trace_of_session read_write one_session → ⊥

-- ---- what others change of a view

-- rights to read, to write, and both
abbrev pub reads : RightSet
reads = record { read = true; write = false; grant_permissions = false; delete = false }

abbrev pub writes : RightSet
writes = record { read = false; write = true; grant_permissions = false; delete = false }

abbrev pub both : RightSet
both = record { read = true; write = true; grant_permissions = false; delete = false }

abbrev pub id : ℕ → DocId
id number = record { number = number }

-- a document that is held, of this number and path
abbrev pub held : ℕ → List ℕ → RightSet → HeldDocument
held number path rights = record {
  document = record {
    id = id number;
    path = path;
    persistent = true;
    reusable = true;
    strict = false;
    folder = false;
  };
  rights = rights;
}

-- what the file held at first, and what it holds then
abbrev pub old_file : Content
old_file = OfFile 0 (codes "hello") 0

abbrev pub new_file : Content
new_file = OfFile 0 (codes "bye") 7

abbrev pub at_path : List ℕ → Content → PathContent
at_path path content = record { path = path; content = content }

abbrev pub viewing : List HeldDocument → List PathContent → AppView
viewing documents contents = record {
  handles = 1024;
  queued = 16;
  file_bytes = 268435456;
  documents = documents;
  connections = [];
  contents = contents;
  below = [];
  files = [];
}

-- the document of the file a.txt, with these rights and this content
abbrev pub a_view : RightSet → Content → AppView
a_view rights content = viewing (held 10 a_text rights ∷ []) (at_path a_text content ∷ [])

-- two documents of that file
abbrev pub two_views : RightSet → RightSet → AppView
two_views first second =
    viewing
    (held 10 a_text first ∷ held 12 a_text second ∷ [])
    (at_path a_text old_file ∷ [])

-- a document of b.txt, as it is gained
abbrev pub gains_b : ℕ → Effect
gains_b number = Gained (held number b_text writes).document writes (Alone OfFolder)

-- the contents of a.txt and of b.txt, and a document beside that of a.txt
abbrev pub two_files : List PathContent
two_files = at_path a_text old_file ∷ at_path b_text OfFolder ∷ []

-- A document that is gained joins in its place by number, and its content by path; one that is
-- there gains rights alone, and a content that is there stays. Rights are lost one by one, and with
-- the last of them the document; with the last document of a path goes its content. Another content
-- comes to the file of one path and generation alone, and to a path without a file where it is a
-- first file.
pub record EffectsOnAView : Type 0 where
  pub joins_below :
      apply (a_view reads old_file) (gains_b 5)
      ≡ viewing (held 5 b_text writes ∷ held 10 a_text reads ∷ []) two_files
  pub joins_above :
      apply (a_view reads old_file) (gains_b 11)
      ≡ viewing (held 10 a_text reads ∷ held 11 b_text writes ∷ []) two_files
  pub gains :
      apply (a_view reads old_file) (Gained (held 10 a_text reads).document writes (Alone new_file))
      ≡ a_view both old_file
  pub stays_as_it_was :
      apply (a_view reads old_file) (Gained (held 10 b_text writes).document writes (Alone new_file))
      ≡ a_view both old_file
  pub same_path :
      apply (a_view reads old_file) (Gained (held 12 a_text writes).document writes (Alone new_file))
      ≡ two_views reads writes
  pub loses_one : apply (a_view both old_file) (Lost (id 10) writes) ≡ a_view reads old_file
  pub loses_last : apply (a_view reads old_file) (Lost (id 10) both) ≡ viewing [] []
  pub loses_other : apply (a_view reads old_file) (Lost (id 11) reads) ≡ a_view reads old_file
  pub path_stays : apply (two_views reads writes) (Lost (id 12) writes) ≡ a_view reads old_file
  pub goes : apply (a_view both old_file) (Gone (id 10)) ≡ viewing [] []
  pub one_of_two_goes : apply (two_views both writes) (Gone (id 12)) ≡ a_view both old_file
  pub other_goes : apply (a_view both old_file) (Gone (id 11)) ≡ a_view both old_file
  pub changes : apply (a_view reads old_file) (Bytes a_text 0 new_file) ≡ a_view reads new_file
  pub other_path : apply (a_view reads old_file) (Bytes b_text 0 new_file) ≡ a_view reads old_file
  pub other_generation :
      apply (a_view reads old_file) (Bytes a_text 1 new_file) ≡ a_view reads old_file
  pub first_file :
      apply (a_view reads (NotThere true)) (Bytes a_text 0 new_file) ≡ a_view reads new_file
  pub no_first_file :
      apply (a_view reads (NotThere true)) (Bytes a_text 1 new_file)
      ≡ a_view reads (NotThere true)
  pub folder_stays : apply (a_view reads OfFolder) (Bytes a_text 0 new_file) ≡ a_view reads OfFolder
