-- Worked examples of the requests on documents. What is expected is worked out by hand from the
-- rules.
use Rattle.std.specs.Prelude.{◌≡◌, ◌++◌, ℕ, List, [], ◌∷◌, length, map, Bool, true, false, Option, Some, None, codes, replicate}
use Rattle.portal_base.specs.declared.files.Look.{Look}
use Rattle.portal_base.specs.declared.who.Kind.TheVariants as Kind
use Rattle.portal_base.specs.declared.who.Who.{Who}
use Rattle.portal_model.specs.declared.entry.Entry.{Entry}
use Rattle.portal_model.specs.declared.entry.Fault.{Fault}
use Rattle.portal_model.specs.declared.opening.FileItem.{FileItem}
use Rattle.portal_model.specs.declared.opening.OpeningDocument.{OpeningDocument}
use Rattle.portal_model.specs.declared.records.Row.{Row}
use Rattle.portal_model.specs.declared.reply.Answer.{Answer}
use Rattle.portal_model.specs.declared.reply.Code.{Code}
use Rattle.portal_model.specs.declared.reply.Code.TheVariants as Refusal
use Rattle.portal_model.specs.declared.reply.ListedDocument.{ListedDocument}
use Rattle.portal_model.specs.declared.request.AddRequest.{AddRequest}
use Rattle.portal_model.specs.declared.request.Request.{Request}
use Rattle.portal_model.specs.declared.request.RightsCall.{RightsCall}
use Rattle.portal_model.specs.declared.state.Connection.{Connection}
use Rattle.portal_model.specs.Documents.{IsUnused}
use Rattle.portal_model.specs.Examples.{a_text, document, editor, file, grant, hello, limits, opening}
use Rattle.portal_model.specs.History.{EachLawful, cost_of, run}
use Rattle.portal_model.specs.Lawful.{Lawful}
use Rattle.portal_model.specs.Opening.{id_of, opened}
use Rattle.portal_model.specs.Outside.{meets_limit, verdict_of, walk_of, words_drawn}
use Rattle.portal_model.specs.State.{State, connection_of, held_in}
use Rattle.portal_model.specs.Step.{after, bus_of, reply_at}
use Rattle.portal_model.specs.Valid.{applications_limit, is_numbered}
use Rattle.portal_model.specs.Walk.{looks_shown}

-- ---- what the examples are made of

-- the answers to entries, one after another
abbrev pub answers_to : State → List Entry → List Answer
answers_to s [] = []
answers_to s (e ∷ es) = (reply_at s e).answer ∷ answers_to (after s e) es

abbrev pub viewer : List ℕ
viewer = codes "org.view"

-- a request of a seat, the looks that it took, the words that were drawn, and the numbers of its
-- new documents
abbrev pub asked_drawing : ℕ → Request → List Look → List ℕ → List ℕ → Entry
asked_drawing seat request looks words numbers = record {
  seat = seat;
  request = request;
  given = record {
    now = None;
    words = words;
    numbers = map id_of numbers;
    looks = looks;
    listed = None;
    generation = None;
    full = false;
    fault = Fault.None;
  };
}

-- whose words are the numbers
abbrev pub asked : ℕ → Request → List Look → List ℕ → Entry
asked seat request looks numbers = asked_drawing seat request looks numbers numbers

abbrev pub asked_alone : ℕ → Request → Entry
asked_alone seat request = asked seat request [] []

-- seat 1 is a bus of the editor, seat 2 one of the host
abbrev pub buses : List Entry
buses =
    asked_alone 1 (Request.Enter (Who.App editor) Kind.Bus)
    ∷ asked_alone 2 (Request.Enter Who.Host Kind.Bus) ∷ []

-- an empty file in the editor's own folder
abbrev pub n_text : List ℕ
n_text = codes "/app/org.ed/n.txt"

abbrev pub two_texts : List FileItem
two_texts = file n_text [] ∷ hello

-- the tree tells these two files
abbrev pub in_state : List OpeningDocument → State
in_state documents = run (opened (opening documents two_texts)) buses

abbrev pub presents : ℕ → List ℕ → Entry
presents seat path = asked_alone seat (Request.Present (path ++ 0 ∷ []))

-- an AddFull of the presented files with these places, for an application
abbrev pub adds_for : List ℕ → ℕ → ℕ → List ℕ → List (List ℕ) → AddRequest
adds_for handles fds flags app names =
    record {
      named = false;
      full = true;
      handles = handles;
      fds = fds;
      name = [];
      flags = flags;
      app = app;
      names = names;
    }

-- an Add of one file
abbrev pub adds : ℕ → AddRequest
adds flags = record (adds_for (0 ∷ []) 1 flags [] []) { full = false }

abbrev pub rights_call : List ℕ → List ℕ → List (List ℕ) → RightsCall
rights_call doc app names = record { doc = doc; app = app; names = names }

abbrev pub refused : Code → Answer
refused code = Answer.Refused code

abbrev pub ids : List (List ℕ) → Answer
ids texts = Answer.Ids texts

abbrev pub file_there : List Look
file_there = Look.File 0 0 0 ∷ []

-- ---- what the outside gives where no device fails

-- what the files show at the looks, how many words are drawn, and whether a limit is met
pub record Due : Type 0 where
  pub looks : List Look
  pub words : ℕ
  pub full : Bool

abbrev pub due_on : State → Entry → Option Connection → Due
due_on s e None = record { looks = []; words = 0; full = false }
due_on s e (Some c) = record {
  looks = looks_shown (held_in s) (walk_of s c e.request e.given);
  words = words_drawn (verdict_of s c e.request e.given);
  full = meets_limit (verdict_of s c e.request e.given);
}

-- what is due to requests of buses, one after another
abbrev pub due_to : State → List Entry → List Due
due_to s [] = []
due_to s (e ∷ es) =
    due_on s e (bus_of (connection_of s.connections e.seat)) ∷ due_to (after s e) es

abbrev pub given_to : Entry → Due
given_to e =
    record { looks = e.given.looks; words = length e.given.words; full = e.given.full }

abbrev pub GivenIsDue : State → List Entry → Type 0
GivenIsDue s es = map given_to es ≡ due_to s es

-- ---- additions

-- A document that may be used again is; without that flag a new one is made, which its maker may
-- delete. An application presents its own files alone.
abbrev pub additions : List Entry
additions =
    presents 1 n_text ∷ asked 1 (Request.Add (adds 1)) file_there (5 ∷ [])
    ∷ presents 1 n_text ∷ asked 1 (Request.Add (adds 1)) file_there []
    ∷ presents 1 n_text ∷ asked 1 (Request.Add (adds 0)) file_there (4294967295 ∷ [])
    ∷ asked_alone 1 (Request.DeleteDocument (codes "00000005"))
    ∷ asked_alone 1 (Request.DeleteDocument (codes "ffffffff"))
    ∷ presents 1 a_text ∷ []

pub record AddsAndReuses : Type 0 where
  pub answers_are :
      answers_to (in_state []) additions
      ≡ Answer.Place 0 ∷ ids (codes "00000005" ∷ [])
      ∷ Answer.Place 0 ∷ ids (codes "00000005" ∷ [])
      ∷ Answer.Place 0 ∷ ids (codes "ffffffff" ∷ [])
      ∷ refused Refusal.NotAllowed ∷ Answer.Done ∷ refused Refusal.NotAllowed ∷ []
  pub given_is_due : GivenIsDue (in_state []) additions
  pub lawful : EachLawful (in_state []) additions

-- Behind the greatest number comes 0: with a kept document of the greatest, and that number drawn
-- as a word, the host's addition is answered 0's identifier.
abbrev pub greatest : List OpeningDocument
greatest = document 4294967295 a_text [] ∷ []

abbrev pub wrapping : List Entry
wrapping =
    presents 2 n_text
    ∷ asked_drawing 2 (Request.Add (adds 0)) file_there (4294967295 ∷ []) (0 ∷ []) ∷ []

pub record NumbersWrap : Type 0 where
  pub unused : IsUnused (id_of 4294967295 ∷ []) 4294967295 0
  pub answers_are :
      answers_to (in_state greatest) wrapping ≡ Answer.Place 0 ∷ ids (codes "00000000" ∷ []) ∷ []
  pub given_is_due : GivenIsDue (in_state greatest) wrapping
  pub lawful : EachLawful (in_state greatest) wrapping

-- Two equal files of one call get one document where it may be used again, and two where not. A
-- file that the named application has in its own folder already is left out.
abbrev pub two : ℕ → AddRequest
two flags = adds_for (0 ∷ 0 ∷ []) 1 flags [] []

abbrev pub two_files : ℕ → List ℕ → List Entry
two_files flags numbers =
    presents 1 n_text
    ∷ asked 1 (Request.Add (two flags)) (Look.File 0 0 0 ∷ file_there) numbers ∷ []

abbrev pub left_out : List Entry
left_out =
    presents 2 n_text
    ∷ asked 2 (Request.Add (adds_for (0 ∷ []) 1 4 editor (codes "read" ∷ []))) file_there [] ∷ []

-- an Add of a folder
abbrev pub own_folder_of_editor : List ℕ
own_folder_of_editor = codes "/app/org.ed"

abbrev pub of_a_folder : List Entry
of_a_folder =
    presents 1 own_folder_of_editor ∷ asked 1 (Request.Add (adds 0)) (Look.Folder ∷ []) [] ∷ []

pub record AddsOfOneFile : Type 0 where
  pub reused :
      answers_to (in_state []) (two_files 1 (5 ∷ []))
      ≡ Answer.Place 0 ∷ ids (codes "00000005" ∷ codes "00000005" ∷ []) ∷ []
  pub unique :
      answers_to (in_state []) (two_files 0 (5 ∷ 6 ∷ []))
      ≡ Answer.Place 0 ∷ ids (codes "00000005" ∷ codes "00000006" ∷ []) ∷ []
  pub left : answers_to (in_state []) left_out ≡ Answer.Place 0 ∷ ids ([] ∷ []) ∷ []
  pub not_a_file :
      answers_to (in_state []) of_a_folder ≡ Answer.Place 0 ∷ refused Refusal.InvalidArgument ∷ []
  pub reused_is_due : GivenIsDue (in_state []) (two_files 1 (5 ∷ []))
  pub unique_is_due : GivenIsDue (in_state []) (two_files 0 (5 ∷ 6 ∷ []))
  pub left_is_due : GivenIsDue (in_state []) left_out
  pub not_a_file_is_due : GivenIsDue (in_state []) of_a_folder
  pub reused_is_lawful : EachLawful (in_state []) (two_files 1 (5 ∷ []))
  pub unique_is_lawful : EachLawful (in_state []) (two_files 0 (5 ∷ 6 ∷ []))
  pub left_is_lawful : EachLawful (in_state []) left_out
  pub not_a_file_is_lawful : EachLawful (in_state []) of_a_folder

-- A queue holds 16 files. A call takes files that are there, and each of its handles is one of
-- these; else the files stay.
abbrev pub sixteen : List Entry
sixteen = replicate 16 (presents 1 n_text)

abbrev pub state_when_full : State
state_when_full = run (in_state []) sixteen

abbrev pub answer_when_full : Request → Answer
answer_when_full request = (reply_at state_when_full (asked_alone 1 request)).answer

abbrev pub takes_seventeen : Request
takes_seventeen = Request.Add (adds_for (0 ∷ []) 17 0 [] [])

abbrev pub names_the_third_of_two : Request
names_the_third_of_two = Request.Add (adds_for (2 ∷ []) 2 0 [] [])

pub record QueueIsFull : Type 0 where
  pub one_more :
      answer_when_full (Request.Present (n_text ++ 0 ∷ [])) ≡ refused Refusal.LimitsExceeded
  pub places :
      answers_to (in_state []) (sixteen ++ presents 1 n_text ∷ [])
      ≡ map (λ place. Answer.Place place)
      (0 ∷ 1 ∷ 2 ∷ 3 ∷ 4 ∷ 5 ∷ 6 ∷ 7 ∷ 8 ∷ 9 ∷ 10 ∷ 11 ∷ 12 ∷ 13 ∷ 14 ∷ 15 ∷ [])
      ++ refused Refusal.LimitsExceeded ∷ []
  pub too_many : answer_when_full takes_seventeen ≡ refused Refusal.InvalidArgs
  pub bad_handle : answer_when_full names_the_third_of_two ≡ refused Refusal.InvalidArgs
  pub places_are_lawful : EachLawful (in_state []) (sixteen ++ presents 1 n_text ∷ [])
  pub too_many_is_lawful : Lawful state_when_full (asked_alone 1 takes_seventeen)
  pub bad_handle_is_lawful : Lawful state_when_full (asked_alone 1 names_the_third_of_two)

-- ---- rights

-- the document 0000000a of a_text, in which the editor may read and give rights
abbrev pub may_give : List OpeningDocument
may_give = document 10 a_text (grant editor 5 ∷ []) ∷ []

abbrev pub grants : ℕ → List ℕ → List (List ℕ) → Entry
grants seat doc names = asked_alone seat (Request.Grant (rights_call doc viewer names))

abbrev pub a_doc : List ℕ
a_doc = codes "0000000a"

abbrev pub giving : List Entry
giving =
    grants 1 a_doc (codes "read" ∷ codes "write" ∷ []) ∷ grants 1 a_doc (codes "read" ∷ [])
    ∷ grants 2 a_doc (codes "write" ∷ []) ∷ grants 1 a_doc (codes "execute" ∷ [])
    ∷ grants 1 (codes "0000000b") (codes "read" ∷ []) ∷ []

pub record Grants : Type 0 where
  pub answers_are :
      answers_to (in_state may_give) giving
      ≡ refused Refusal.NotAllowed ∷ Answer.Done ∷ Answer.Done ∷ refused Refusal.InvalidArgument
      ∷ refused Refusal.NotFound ∷ []
  pub lawful : EachLawful (in_state may_give) giving

abbrev pub row : List ℕ → List (List ℕ) → Row
row app names = record { app = app; names = names }

abbrev pub info_of_a : ℕ → Entry
info_of_a seat = asked_alone seat (Request.Info a_doc)

abbrev pub looks_up : ℕ → List ℕ → Entry
looks_up seat path = asked_alone seat (Request.LookupDocument (path ++ 0 ∷ []))

-- the document 0000000a of a_text, which the editor may read and write
abbrev pub reads_and_writes : List OpeningDocument
reads_and_writes = document 10 a_text (grant editor 3 ∷ []) ∷ []

abbrev pub informing : List Entry
informing = info_of_a 2 ∷ asked_alone 2 (Request.Info (codes "0000000b")) ∷ []

abbrev pub looking_up : List Entry
looking_up = looks_up 2 a_text ∷ looks_up 2 n_text ∷ []

abbrev pub informing_editor : List Entry
informing_editor =
    info_of_a 1 ∷ asked_alone 1 (Request.Info (codes "0000000b"))
    ∷ looks_up 1 a_text ∷ looks_up 1 n_text ∷ []

-- the host is told who has which rights; an application isn't, whether or not there is such a
-- document
pub record Informs : Type 0 where
  pub host :
      answers_to (in_state reads_and_writes) informing
      ≡ Answer.Info a_text (row editor (codes "read" ∷ codes "write" ∷ []) ∷ [])
      ∷ refused Refusal.NotFound ∷ []
  pub lookup :
      answers_to (in_state reads_and_writes) looking_up
      ≡ ids (a_doc ∷ []) ∷ ids ([] ∷ []) ∷ []
  pub application :
      answers_to (in_state reads_and_writes) informing_editor
      ≡ replicate 4 (refused Refusal.NotAllowed)
  pub host_is_lawful : EachLawful (in_state reads_and_writes) informing
  pub lookup_is_lawful : EachLawful (in_state reads_and_writes) looking_up
  pub application_is_lawful : EachLawful (in_state reads_and_writes) informing_editor

-- An application takes rights of its own without grant-permissions, and those alone that it
-- lists; with the last of them the document isn't there for it. Others it may not take.
abbrev pub may_write : List OpeningDocument
may_write = document 10 a_text (grant viewer 1 ∷ grant editor 3 ∷ []) ∷ []

abbrev pub revokes : List ℕ → List (List ℕ) → Entry
revokes app names = asked_alone 1 (Request.Revoke (rights_call a_doc app names))

abbrev pub revoking : List Entry
revoking =
    revokes viewer (codes "read" ∷ []) ∷ revokes editor (codes "read" ∷ []) ∷ info_of_a 2
    ∷ revokes editor (codes "write" ∷ []) ∷ revokes editor (codes "write" ∷ [])
    ∷ info_of_a 2 ∷ []

pub record RevokesItsOwn : Type 0 where
  pub answers_are :
      answers_to (in_state may_write) revoking
      ≡ refused Refusal.NotAllowed ∷ Answer.Done
      ∷ Answer.Info a_text (row editor (codes "write" ∷ []) ∷ row viewer (codes "read" ∷ []) ∷ [])
      ∷ Answer.Done ∷ refused Refusal.NotFound
      ∷ Answer.Info a_text (row viewer (codes "read" ∷ []) ∷ []) ∷ []
  pub lawful : EachLawful (in_state may_write) revoking

-- ---- documents of others

-- a kept document of the editor's own file, which the viewer holds
abbrev pub held_by_other : List OpeningDocument
held_by_other = document 10 n_text (grant viewer 1 ∷ []) ∷ document 11 n_text [] ∷ []

abbrev pub n_document : ℕ → ListedDocument
n_document number = record { id = id_of number; path = n_text }

-- Added again, the first document of the path is used, and the rights of who held it stay. Of two
-- documents of one path the first is looked up, and both are listed.
abbrev pub adding_again : List Entry
adding_again =
    presents 1 n_text ∷ asked 1 (Request.Add (adds 3)) file_there [] ∷ info_of_a 2
    ∷ looks_up 2 n_text
    ∷ asked_alone 2 (Request.ListDocuments editor) ∷ asked_alone 2 (Request.ListDocuments []) ∷ []

pub record AddsWhatAnotherHolds : Type 0 where
  pub answers_are :
      answers_to (in_state held_by_other) adding_again
      ≡ Answer.Place 0 ∷ ids (a_doc ∷ [])
      ∷ Answer.Info n_text
      (row editor (codes "read" ∷ codes "write" ∷ codes "grant-permissions" ∷ [])
      ∷ row viewer (codes "read" ∷ []) ∷ [])
      ∷ ids (a_doc ∷ [])
      ∷ Answer.Listed (n_document 10 ∷ [])
      ∷ Answer.Listed (n_document 10 ∷ n_document 11 ∷ []) ∷ []
  pub given_is_due : GivenIsDue (in_state held_by_other) adding_again
  pub lawful : EachLawful (in_state held_by_other) adding_again

-- ---- additions that are refused

-- With three files in the queue, an Add that takes two of them and then a Present: its place
-- tells how many files were left.
abbrev pub takes_two : List ℕ → ℕ → Request
takes_two handles flags = Request.Add (adds_for handles 2 flags [] [])

abbrev pub three_waiting : State
three_waiting = run (in_state []) (replicate 3 (presents 1 n_text))

abbrev pub and_presents : Entry → List Entry
and_presents e = e ∷ presents 1 n_text ∷ []

abbrev pub answers_behind_three : Entry → List Answer
answers_behind_three e = answers_to three_waiting (and_presents e)

-- a call of the tree fails behind the looks
abbrev pub failing_tree : Entry → Entry
failing_tree e = record e { given = record e.given { fault = Fault.Tree } }

abbrev pub meeting_limit : Entry → Entry
meeting_limit e = record e { given = record e.given { full = true } }

-- a portal that has room for one document
abbrev pub with_room_for_one : State
with_room_for_one =
    run
    (opened (record (opening [] two_texts) { limits = record limits { documents = 1 } }))
    buses

-- two additions to it
abbrev pub one_too_many : List Entry
one_too_many =
    presents 1 n_text
    ∷ asked 1 (Request.Add (adds_for (0 ∷ []) 1 0 [] [])) file_there (5 ∷ [])
    ∷ presents 1 n_text
    ∷ meeting_limit (asked 1 (Request.Add (adds_for (0 ∷ []) 1 0 [] [])) file_there [])
    ∷ presents 1 n_text ∷ []

abbrev pub with_flag : Entry
with_flag = asked_alone 1 (takes_two (0 ∷ []) 10)

abbrev pub with_seventeen : Entry
with_seventeen = asked_alone 1 (takes_two (replicate 17 0) 0)

-- a handle of a file that the call doesn't take
abbrev pub with_bad_handle : Entry
with_bad_handle = asked_alone 1 (takes_two (2 ∷ []) 0)

abbrev pub with_failing_tree : Entry
with_failing_tree = failing_tree (asked_alone 1 (takes_two (0 ∷ []) 0))

-- The files that a refused Add takes leave the queue, at a limit too: flag 8 with 2, and 17 files.
-- They stay where the handles aren't of files that the call takes, and where the tree fails.
pub record RefusesAdditions : Type 0 where
  pub flag :
      answers_behind_three with_flag ≡ refused Refusal.InvalidArgument ∷ Answer.Place 1 ∷ []
  pub files :
      answers_behind_three with_seventeen ≡ refused Refusal.InvalidArgument ∷ Answer.Place 1 ∷ []
  pub handle :
      answers_behind_three with_bad_handle ≡ refused Refusal.InvalidArgs ∷ Answer.Place 3 ∷ []
  pub limit :
      answers_to with_room_for_one one_too_many
      ≡ Answer.Place 0 ∷ ids (codes "00000005" ∷ []) ∷ Answer.Place 0
      ∷ refused Refusal.LimitsExceeded ∷ Answer.Place 0 ∷ []
  pub limit_is_due : GivenIsDue with_room_for_one one_too_many
  pub fault :
      answers_behind_three with_failing_tree ≡ refused Refusal.Failed ∷ Answer.Place 3 ∷ []
  pub flag_is_lawful : EachLawful three_waiting (and_presents with_flag)
  pub files_are_lawful : EachLawful three_waiting (and_presents with_seventeen)
  pub handle_is_lawful : EachLawful three_waiting (and_presents with_bad_handle)
  pub limit_is_lawful : EachLawful with_room_for_one one_too_many
  pub fault_is_lawful : EachLawful three_waiting (and_presents with_failing_tree)

-- A persistent addition by the host that the keeper fails to keep, and then the same again: the
-- presented file waits still, a word was drawn, and the number that it came to wasn't made.
abbrev pub failing_keeper : Entry → Entry
failing_keeper e = record e { given = record e.given { fault = Fault.Keeper } }

abbrev pub adds_to_keep : Entry
adds_to_keep = asked 2 (Request.Add (adds_for (0 ∷ []) 1 2 [] [])) file_there (5 ∷ [])

abbrev pub keeping : List Entry
keeping = presents 2 n_text ∷ failing_keeper adds_to_keep ∷ adds_to_keep ∷ []

pub record KeeperFails : Type 0 where
  pub answers_are :
      answers_to (in_state []) keeping
      ≡ Answer.Place 0 ∷ refused Refusal.Failed ∷ ids (codes "00000005" ∷ []) ∷ []
  pub lawful : EachLawful (in_state []) keeping

-- As many applications as may be have numbers: a right for one more is refused at the limit, and
-- nothing changes; one for an application that has a number is given.
abbrev pub with_applications : List (List ℕ) → State
with_applications names = record (in_state may_give) { applications = names }

abbrev pub gives_to_viewer : Entry
gives_to_viewer = grants 2 a_doc (codes "read" ∷ [])

pub record ApplicationsAreFull : Type 0 where
  pub refused_then :
      (names : List (List ℕ)) →
      (reply_at (with_applications names) (meeting_limit gives_to_viewer)).answer
      ≡ refused Refusal.LimitsExceeded
  pub stays :
      (names : List (List ℕ)) →
      after (with_applications names) (meeting_limit gives_to_viewer) ≡ with_applications names
  pub limit_is_met :
      (names : List (List ℕ)) → length names ≡ applications_limit →
      is_numbered names viewer ≡ false →
      Lawful (with_applications names) (meeting_limit gives_to_viewer)
  pub done_then :
      (names : List (List ℕ)) →
      (reply_at (with_applications names) gives_to_viewer).answer ≡ Answer.Done
  pub no_limit_is_met :
      (names : List (List ℕ)) → length names ≡ applications_limit →
      is_numbered names viewer ≡ true →
      Lawful (with_applications names) gives_to_viewer

-- An application that may delete one document of two lists that right for another application:
-- nothing at all is added. For the one document alone it is done.
abbrev pub m_text : List ℕ
m_text = codes "/app/org.ed/m.txt"

abbrev pub may_delete : List OpeningDocument
may_delete = document 10 n_text (grant editor 15 ∷ []) ∷ []

abbrev pub lists_delete : List ℕ → List Look → Entry
lists_delete handles looks =
    asked 1
    (Request.Add (adds_for handles (length handles) 3 viewer (codes "delete" ∷ []))) looks []

abbrev pub lists_for_viewer : Entry
lists_for_viewer = asked_alone 2 (Request.ListDocuments viewer)

abbrev pub listing_delete : List Entry
listing_delete =
    presents 1 n_text ∷ presents 1 m_text ∷ lists_delete (0 ∷ 1 ∷ []) [] ∷ lists_for_viewer
    ∷ presents 1 n_text ∷ lists_delete (0 ∷ []) file_there ∷ lists_for_viewer ∷ []

pub record ListsWhatItHolds : Type 0 where
  pub answers_are :
      answers_to (in_state may_delete) listing_delete
      ≡ Answer.Place 0 ∷ Answer.Place 1 ∷ refused Refusal.NotAllowed ∷ Answer.Listed []
      ∷ Answer.Place 0 ∷ ids (a_doc ∷ []) ∷ Answer.Listed (n_document 10 ∷ []) ∷ []
  pub given_is_due : GivenIsDue (in_state may_delete) listing_delete
  pub lawful : EachLawful (in_state may_delete) listing_delete

-- ---- a file that is named in its folder

-- an AddNamed of a file that isn't there yet
abbrev pub adding_named : List Entry
adding_named =
    presents 1 own_folder_of_editor
    ∷ asked 1 (Request.Add (record (adds 0) { named = true; name = codes "m.txt" ++ 0 ∷ [] }))
    (Look.Folder ∷ Look.Missing ∷ []) (5 ∷ [])
    ∷ looks_up 2 m_text ∷ []

pub record AddsNamed : Type 0 where
  pub answers_are :
      answers_to (in_state []) adding_named
      ≡ Answer.Place 0 ∷ ids (codes "00000005" ∷ []) ∷ ids (codes "00000005" ∷ []) ∷ []
  pub given_is_due : GivenIsDue (in_state []) adding_named
  pub lawful : EachLawful (in_state []) adding_named

-- ---- costs

-- 128, and the bytes of the texts and 4 for each handle
pub record CostsOfDocuments : Type 0 where
  pub present : cost_of (Request.Present (n_text ++ 0 ∷ [])) ≡ 146
  pub add : cost_of (Request.Add (adds_for (0 ∷ 1 ∷ []) 2 0 viewer (codes "read" ∷ []))) ≡ 148
  pub grant : cost_of (Request.Grant (rights_call a_doc viewer (codes "read" ∷ []))) ≡ 148
  pub info : cost_of (Request.Info a_doc) ≡ 136
  pub list : cost_of (Request.ListDocuments []) ≡ 128
