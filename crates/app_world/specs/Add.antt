-- Add, AddFull, AddNamed and AddNamedFull, in the view of the application that adds; and what they
-- change of another's.
use Rattle.std.specs.Prelude.{ℕ, ◌+◌, List, [], ◌∷◌, ◌++◌, drop, fold, length, map, take, Bool, false, not, ◌&&◌, ◌||◌, cond, Option, Some, None}
use Rattle.std.specs.List.{list_all}
use Rattle.portal_base.specs.Names.{doc_text, is_same}
use Rattle.portal_base.specs.declared.files.File.{File}
use Rattle.portal_base.specs.declared.files.Look.{Look}
use Rattle.portal_base.specs.declared.names.doc_id.DocId.{DocId}
use Rattle.portal_base.specs.declared.who.Who.{Who}
use Rattle.rights_rule.specs.Rights.{RightSet, contains, no_rights, rights_named, union}
use Rattle.portal_model.specs.declared.entry.Given.{Given}
use Rattle.portal_model.specs.declared.reply.Answer.{Answer}
use Rattle.portal_model.specs.declared.reply.Code.{Code}
use Rattle.portal_model.specs.declared.request.AddRequest.{AddRequest}
use Rattle.portal_model.specs.declared.state.Connection.{Connection}
use Rattle.portal_model.specs.declared.state.Document.{Document}
use Rattle.portal_model.specs.Add.{Added, add_file, adding_rights, are_of_kind, first_number, new_document, taken_from_queue, used_again}
use Rattle.portal_model.specs.AddArguments.{are_add_arguments, are_presented, document_paths, exports, is_left_out, names_nobody, paths_shown, reuses}
use Rattle.portal_model.specs.Bus.{is_tree}
use Rattle.portal_model.specs.Content.{Content, OfFile, OfFolder, NotThere, content_at, look_of}
use Rattle.portal_model.specs.State.{State}
use Rattle.portal_model.specs.Walk.{Walk, Answers, looks_at_all}
use Rattle.app_world.specs.Effect.{Effect, Gained, apply}
use Rattle.app_world.specs.Grant.{gained_in}
use Rattle.app_world.specs.Own.{Own}
use Rattle.app_world.specs.OwnVerdict.{OwnVerdict, OwnDoes, OwnRefuses, own_unless}
use Rattle.app_world.specs.Present.{own_with_queue}
use Rattle.app_world.specs.View.{Alone, AppView, Below, HeldDocument, Holding, OwnConnection, files_below, found_document}

-- ---- what another's Add touches

abbrev pub id_or : Option DocId → DocId → DocId
id_or None fresh = fresh
id_or (Some id) fresh = id

-- the document that is used for a file: one that was there is as a new one of its number
abbrev pub document_used : AddRequest → List DocId → List ℕ → Option DocId → Document
document_used a numbers path again = new_document a (id_or again (first_number numbers)) path

abbrev pub names_app : List ℕ → AddRequest → Bool
names_app app a = not (names_nobody a) && is_same a.app app

-- per file that isn't left out, the listed rights that the application did not hold before this
-- file
abbrev pub file_touch : List ℕ → AddRequest → Added → List ℕ → List Effect
file_touch app a done path =
    let d = document_used a done.numbers path (used_again done.state.documents a path) in
    cond (is_left_out a path) []
    (cond (names_app app a) (gained_in app done.state (rights_named a.names) d) [])

abbrev pub files_touch : List ℕ → Who → AddRequest → Added → List (List ℕ) → List Effect
files_touch app who a done [] = []
files_touch app who a done (path ∷ paths) =
    file_touch app a done path ++ files_touch app who a (add_file who a done path) paths

-- where it is done, on this connection
abbrev pub add_touch : List ℕ → State → Connection → AddRequest → List DocId → List Effect
add_touch app s c a numbers =
    files_touch app c.who a
    (record { state = taken_from_queue c a s; numbers = numbers; ids = [] })
    (document_paths c.queue a)

-- ---- the application's own

-- a file of the call, and the document that was there before it to be used again, if any
pub record OwnFile : Type 0 where
  pub path : List ℕ
  pub again : Option DocId

-- per file that isn't left out, the document that was there to be used again, if any
abbrev pub reused_of : List Document → AddRequest → List (List ℕ) → List (Option DocId)
reused_of documents a [] = []
reused_of documents a (path ∷ paths) =
    cond (is_left_out a path) (reused_of documents a paths)
    (used_again documents a path ∷ reused_of documents a paths)

abbrev pub first_reused : List (Option DocId) → Option DocId
first_reused [] = None
first_reused (again ∷ more) = again

-- the files of the call, with what is told of those that aren't left out
abbrev pub own_files : AddRequest → List (List ℕ) → List (Option DocId) → List OwnFile
own_files a [] reused = []
own_files a (path ∷ paths) reused =
    cond (is_left_out a path)
    (record { path = path; again = None } ∷ own_files a paths reused)
    (record { path = path; again = first_reused reused } ∷ own_files a paths (drop 1 reused))

abbrev pub held_in : Option HeldDocument → RightSet
held_in None = no_rights
held_in (Some d) = d.rights

-- the rights that the application then has in the document
abbrev pub own_rights_then : AppView → AddRequest → Option DocId → RightSet
own_rights_then v a None = adding_rights a
own_rights_then v a (Some id) =
    union (held_in (found_document v.documents id.number)) (adding_rights a)

abbrev pub own_may_list : AppView → AddRequest → OwnFile → Bool
own_may_list v a f =
    is_left_out a f.path || contains (own_rights_then v a f.again) (rights_named a.names)

abbrev pub own_may_list_all : AppView → AddRequest → List OwnFile → Bool
own_may_list_all v a files = names_nobody a || list_all (own_may_list v a) files

-- what was added so far: the view, the numbers that are left for new documents, the identifiers,
-- and the documents that this call made
pub record OwnAdded : Type 0 where
  pub view : AppView
  pub numbers : List DocId
  pub ids : List (List ℕ)
  pub made : List Document

-- the document that was there before the call, or one that the call made
abbrev pub own_again : Option DocId → Option DocId → Option DocId
own_again None made = made
own_again (Some id) made = Some id

-- a new document joins the view with the rights of who adds, and so does one that is used again
abbrev pub own_use_document :
    AddRequest → (List ℕ → Holding) → List ℕ → OwnAdded → Option DocId → OwnAdded
own_use_document a content path done (Some id) =
    let d = new_document a id path in
    record done {
      view = apply done.view (Gained d (adding_rights a) (content path));
      ids = done.ids ++ doc_text id.number ∷ [];
    }
own_use_document a content path done None =
    let d = new_document a (first_number done.numbers) path in
    record {
      view = apply done.view (Gained d (adding_rights a) (content path));
      numbers = drop 1 done.numbers;
      ids = done.ids ++ doc_text d.id.number ∷ [];
      made = done.made ++ d ∷ [];
    }

abbrev pub own_add_file : AddRequest → (List ℕ → Holding) → OwnAdded → OwnFile → OwnAdded
own_add_file a content done f =
    cond (is_left_out a f.path) (record done { ids = done.ids ++ [] ∷ [] })
    (own_use_document a content f.path done (own_again f.again (used_again done.made a f.path)))

-- ---- the call

-- what was shown at each of the paths that the tree was asked for
abbrev pub content_shown : List (List ℕ) → List Holding → List ℕ → Holding
content_shown [] contents path = Alone (NotThere false)
content_shown (p ∷ ps) [] path = Alone (NotThere false)
content_shown (p ∷ ps) (c ∷ contents) path =
    cond (is_same p path) c (content_shown ps contents path)

abbrev pub own_taken_from_queue : OwnConnection → AddRequest → AppView → AppView
own_taken_from_queue c a v =
    cond (are_presented c.queue a) (own_with_queue c.seat (drop a.fds) v) v

abbrev pub own_call_files : OwnConnection → AddRequest → Own → List OwnFile
own_call_files c a own = own_files a (document_paths c.queue a) own.reused

abbrev pub own_added_files : AppView → OwnConnection → AddRequest → Own → OwnAdded
own_added_files v c a own =
    fold (own_add_file a (content_shown (paths_shown c.queue a) own.shown))
    (record { view = own_taken_from_queue c a v; numbers = own.numbers; ids = []; made = [] })
    (own_call_files c a own)

abbrev pub own_added : OwnAdded → OwnVerdict
own_added done = OwnDoes done.view (Answer.Ids done.ids)

abbrev pub own_add_shown : AppView → OwnConnection → AddRequest → Own → List Look → Walk OwnVerdict
own_add_shown v c a own looks =
    Answers (own_unless (not (are_of_kind a (paths_shown c.queue a) looks)) Code.InvalidArgument
    (own_added (own_added_files v c a own)))

abbrev pub own_walk_unless : Bool → Code → Walk OwnVerdict → Walk OwnVerdict
own_walk_unless wrong code walk = cond wrong (Answers (OwnRefuses code)) walk

abbrev pub own_add_allowed : AppView → OwnConnection → AddRequest → Own → Walk OwnVerdict
own_add_allowed v c a own =
    own_walk_unless (not (own_may_list_all v a (own_call_files c a own))) Code.NotAllowed
    (looks_at_all (paths_shown c.queue a) (own_add_shown v c a own))

abbrev pub own_add_presented : AppView → OwnConnection → AddRequest → Own → Walk OwnVerdict
own_add_presented v c a own =
    own_walk_unless (not (are_add_arguments c.queue a)) Code.InvalidArgument
    (own_add_allowed v c a own)

abbrev pub own_add : AppView → OwnConnection → AddRequest → Own → Walk OwnVerdict
own_add v c a own =
    own_walk_unless (not (are_presented c.queue a)) Code.InvalidArgs (own_add_presented v c a own)

abbrev pub look_of_holding : Holding → Look
look_of_holding (Alone content) = look_of content
look_of_holding (Below files) = Look.Folder

-- the looks that succeeded
abbrev pub own_looks : Own → List Look
own_looks own = map look_of_holding (take own.looks own.shown)

-- ---- what its trace tells of it

-- how many paths the tree was asked for, that of a failed call included
abbrev pub asked : Given → ℕ
asked given = length given.looks + cond (is_tree given.fault) 1 0

-- what is at a path, and of a folder that is exported all that is at or below it
abbrev pub shown_by_content : List File → List ℕ → Bool → Content → Holding
shown_by_content files path exported (OfFile generation bytes moment) =
    Alone (OfFile generation bytes moment)
shown_by_content files path exported OfFolder =
    cond exported (Below (files_below files path)) (Alone OfFolder)
shown_by_content files path exported (NotThere room) = Alone (NotThere room)

abbrev pub shown_at_path : List File → Bool → List ℕ → Holding
shown_at_path files exported path =
    shown_by_content files path exported (content_at files path)

abbrev pub shown_to : State → Connection → AddRequest → Given → List Holding
shown_to s c a given =
    map (shown_at_path s.files (exports a)) (take (asked given) (paths_shown c.queue a))

-- of a call that reuses and whose arguments are in order
abbrev pub reused_by : State → Connection → AddRequest → List (Option DocId)
reused_by s c a =
    cond (reuses a && (are_presented c.queue a && are_add_arguments c.queue a))
    (reused_of s.documents a (document_paths c.queue a)) []
