-- Add, AddFull, AddNamed and AddNamedFull: presented files become documents, all of a call or none.
use Rattle.std.specs.Prelude.{ℕ, ◌-◌, List, [], ◌∷◌, ◌++◌, drop, fold, length, Bool, true, false, not, ◌&&◌, ◌||◌, cond, Option, Some, None}
use Rattle.std.specs.List.{list_all, list_any}
use Rattle.portal_base.specs.Names.{doc_text, is_same, root}
use Rattle.portal_base.specs.declared.files.Look.{Look}
use Rattle.portal_base.specs.declared.names.doc_id.DocId.{DocId}
use Rattle.portal_base.specs.declared.who.Who.{Who}
use Rattle.rights_rule.specs.Rights.{RightSet, contains, rights_named, union}
use Rattle.portal_model.specs.declared.reply.Answer.{Answer}
use Rattle.portal_model.specs.declared.reply.Code.TheVariants as Code
use Rattle.portal_model.specs.declared.request.AddRequest.{AddRequest}
use Rattle.portal_model.specs.declared.state.Connection.{Connection}
use Rattle.portal_model.specs.declared.state.Document.{Document}
use Rattle.portal_model.specs.declared.state.Triple.{Triple}
use Rattle.portal_model.specs.AddArguments.{are_add_arguments, are_presented, document_paths, exports, is_left_out, makes_strict, names_nobody, paths_shown, persists, reuses}
use Rattle.portal_model.specs.Documents.{reusable_of}
use Rattle.portal_model.specs.Grant.{exceeds_limits, given_rights}
use Rattle.portal_model.specs.Present.{with_queue}
use Rattle.portal_model.specs.State.{State, held_of}
use Rattle.portal_model.specs.Verdict.{Verdict, Does, unless, walk_unless}
use Rattle.portal_model.specs.Walk.{Walk, Answers, looks_at_all}

-- ---- rights

-- the rights that an application gets in what it adds
abbrev pub adding_rights : AddRequest → RightSet
adding_rights a =
    record { read = true; write = true; grant_permissions = true; delete = not (reuses a) }

-- the live document that is used again for a file, where there is one
abbrev pub used_again : List Document → AddRequest → List ℕ → Option DocId
used_again documents a path =
    cond (reuses a) (reusable_of documents path (persists a) (makes_strict a) (exports a)) None

-- the rights that an application then has in the document: in a new one, and in one that it may
-- have had
abbrev pub rights_then : List Triple → List ℕ → AddRequest → Option DocId → RightSet
rights_then rights app a None = adding_rights a
rights_then rights app a (Some id) = union (held_of rights app id.number) (adding_rights a)

-- an application lists for another what it then has itself
abbrev pub may_list : State → Who → AddRequest → List ℕ → Bool
may_list s Who.Host a path = true
may_list s (Who.App app) a path =
    is_left_out a path
    || contains (rights_then s.rights app a (used_again s.documents a path)) (rights_named a.names)

abbrev pub may_list_all : State → Who → AddRequest → List (List ℕ) → Bool
may_list_all s who a paths = names_nobody a || list_all (may_list s who a) paths

-- ---- kinds of files

abbrev pub is_file : Look → Bool
is_file (Look.File generation size moment) = true
is_file Look.Folder = false
is_file Look.Missing = false

abbrev pub is_folder_look : Look → Bool
is_folder_look (Look.File generation size moment) = false
is_folder_look Look.Folder = true
is_folder_look Look.Missing = false

-- each is a folder and then a file or nothing in it
abbrev pub are_folders_and_files : List Look → Bool
are_folders_and_files [] = true
are_folders_and_files (above ∷ []) = false
are_folders_and_files (above ∷ named ∷ looks) =
    is_folder_look above && (not (is_folder_look named) && are_folders_and_files looks)

-- a folder is exported under its own name, which the root doesn't have
abbrev pub are_exported : List (List ℕ) → List Look → Bool
are_exported paths looks =
    not (list_any (λ path. is_same path root) paths) && list_all is_folder_look looks

-- by the paths that the tree was asked for, and what it showed there
abbrev pub are_of_kind : AddRequest → List (List ℕ) → List Look → Bool
are_of_kind a paths looks =
    cond a.named (are_folders_and_files looks)
    (cond (exports a) (are_exported paths looks) (list_all is_file looks))

-- ---- the change

-- what was added so far: the state, the numbers that are left for new documents, and the
-- identifiers
pub record Added : Type 0 where
  pub state : State
  pub numbers : List DocId
  pub ids : List (List ℕ)

abbrev pub new_document : AddRequest → DocId → List ℕ → Document
new_document a id path = record {
  id = id;
  path = path;
  persistent = persists a;
  reusable = reuses a;
  strict = makes_strict a;
  folder = exports a;
}

abbrev pub with_new_document : Document → State → State
with_new_document d s = record s { documents = s.documents ++ d ∷ []; made = s.made ++ d.id ∷ [] }

-- the application that adds gets its rights, and then the one that is named those that are listed
abbrev pub caller_rights : Who → AddRequest → DocId → State → State
caller_rights Who.Host a id s = s
caller_rights (Who.App app) a id s = given_rights app id (adding_rights a) s

abbrev pub listed_rights : AddRequest → DocId → State → State
listed_rights a id s = cond (names_nobody a) s (given_rights a.app id (rights_named a.names) s)

abbrev pub with_rights_of : Who → AddRequest → DocId → State → State
with_rights_of who a id s = listed_rights a id (caller_rights who a id s)

abbrev pub first_number : List DocId → DocId
first_number [] = record { number = 0 }
first_number (n ∷ ns) = n

abbrev pub use_document : Who → AddRequest → List ℕ → Added → Option DocId → Added
use_document who a path done (Some id) = record done {
  state = with_rights_of who a id done.state;
  ids = done.ids ++ doc_text id.number ∷ [];
}
use_document who a path done None =
    let id = first_number done.numbers in
    record {
      state = with_rights_of who a id (with_new_document (new_document a id path) done.state);
      numbers = drop 1 done.numbers;
      ids = done.ids ++ doc_text id.number ∷ [];
    }

-- a file that is left out has the empty identifier
abbrev pub add_file : Who → AddRequest → Added → List ℕ → Added
add_file who a done path =
    cond (is_left_out a path) (record done { ids = done.ids ++ [] ∷ [] })
    (use_document who a path done (used_again done.state.documents a path))

abbrev pub add_files : Who → AddRequest → State → List DocId → List (List ℕ) → Added
add_files who a s numbers paths =
    fold (add_file who a) (record { state = s; numbers = numbers; ids = [] }) paths

-- ---- the call

-- Once the call names presented files they leave the queue, also where a later rule refuses it.
-- Where a device fails they stay.
abbrev pub taken_from_queue : Connection → AddRequest → State → State
taken_from_queue c a s = cond (are_presented c.queue a) (with_queue c.seat (drop a.fds) s) s

abbrev pub added : State → Added → Verdict
added s done = Does (record {
  state = done.state;
  answer = Answer.Ids done.ids;
  makes = length done.state.made - length s.made;
  exceeds = exceeds_limits done.state;
})

-- numbers are those that new documents get
abbrev pub added_files : State → Connection → AddRequest → List DocId → Added
added_files s c a numbers =
    add_files c.who a (taken_from_queue c a s) numbers (document_paths c.queue a)

abbrev pub add_shown : State → Connection → AddRequest → List DocId → List Look → Walk Verdict
add_shown s c a numbers looks =
    Answers (unless (not (are_of_kind a (paths_shown c.queue a) looks)) Code.InvalidArgument
    (added s (added_files s c a numbers)))

abbrev pub add_looking : State → Connection → AddRequest → List DocId → Walk Verdict
add_looking s c a numbers = looks_at_all (paths_shown c.queue a) (add_shown s c a numbers)

abbrev pub add_allowed : State → Connection → AddRequest → List DocId → Walk Verdict
add_allowed s c a numbers =
    walk_unless (not (may_list_all s c.who a (document_paths c.queue a))) Code.NotAllowed
    (add_looking s c a numbers)

abbrev pub add_presented : State → Connection → AddRequest → List DocId → Walk Verdict
add_presented s c a numbers =
    walk_unless (not (are_add_arguments c.queue a)) Code.InvalidArgument (add_allowed s c a numbers)

abbrev pub add : State → Connection → AddRequest → List DocId → Walk Verdict
add s c a numbers =
    walk_unless (not (are_presented c.queue a)) Code.InvalidArgs (add_presented s c a numbers)
