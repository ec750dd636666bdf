-- What an Add comes to, file by file: what its own trace tells, and what another's.
use Rattle.std.specs.Prelude.{◌≡◌, ℕ, ◌==◌, List, [], ◌∷◌, ◌++◌, drop, fold, get_or, length, map, take, Bool, true, ◌&&◌, cond, Option, Some, None}
use Rattle.std.specs.List.{list_any}
use Rattle.add_files.specs.Plans.{named_app}
use Rattle.add_files.specs.declared.plan.AddPlan.{AddPlan}
use Rattle.portal_base.specs.declared.names.doc_id.DocId.{DocId}
use Rattle.rights_rule.specs.Rights.{rights_named}
use Rattle.portal_model.specs.declared.entry.Entry.{Entry}
use Rattle.portal_model.specs.declared.request.AddRequest.{AddRequest}
use Rattle.portal_model.specs.declared.state.Document.{Document}
use Rattle.portal_model.specs.Add.{first_number, new_document, used_again}
use Rattle.portal_model.specs.AddArguments.{are_add_arguments, are_presented, document_paths, is_left_out, paths_looked_at}
use Rattle.portal_model.specs.State.{State}
use Rattle.app_world.specs.Add.{own_again}
use Rattle.app_world.specs.Effect.{Effect}
use Rattle.app_world.specs.Grant.{gained_in}
use Rattle.app_world.specs.TraceItem as item
use Rattle.app_world.specs.View.{Holding}

-- ---- the call

-- the presented files and the arguments are as they have to be
abbrev pub is_in_order : List (List ℕ) → AddRequest → Bool
is_in_order queue a = are_presented queue a && are_add_arguments queue a

-- what the call names, and the paths of its documents
pub record IsPlanned (queue : List (List ℕ)) (a : AddRequest) (plan : AddPlan) : Type 0 where
  pub order : is_in_order queue a ≡ true
  pub app : plan.app ≡ named_app a
  pub listed : plan.listed ≡ rights_named a.names
  pub paths : map (λ item. item.path) plan.items ≡ document_paths queue a

-- ---- of the application's own

-- the presented path that a handle names
abbrev pub presented_by : List (List ℕ) → AddRequest → ℕ → List ℕ
presented_by queue a handle = get_or (take a.fds queue) handle []

-- what the tree is asked for it
abbrev pub looked_at : List (List ℕ) → AddRequest → ℕ → List (List ℕ)
looked_at queue a handle = paths_looked_at a (presented_by queue a handle)

-- the document that is there for a file, if any; nothing of a file that is left out
abbrev pub reused_here : List Document → AddRequest → List ℕ → List (Option DocId)
reused_here documents a path = cond (is_left_out a path) [] (used_again documents a path ∷ [])

-- the item of an entry that the application makes, with what an Add was shown and the documents
-- that were there for it
abbrev pub own_told : Entry → List Holding → List (Option DocId) → item.TraceItem
own_told e shown reused = item.Own (record {
  seat = e.seat;
  request = e.request;
  now = e.given.now;
  numbers = e.given.numbers;
  shown = shown;
  reused = reused;
  looks = length e.given.looks;
  full = e.given.full;
  fault = e.given.fault;
  generation = e.given.generation;
})

-- ---- of another's

-- what came of the files so far: the documents that the call made, those in which the application
-- was given the rights that are listed, and what it was told
pub record Shared : Type 0 where
  pub made : List Document
  pub given : List DocId
  pub effects : List Effect

abbrev pub none_shared : Shared
none_shared = record { made = []; given = []; effects = [] }

abbrev pub is_given : List DocId → ℕ → Bool
is_given given number = list_any (λ id. id.number == number) given

abbrev pub gave : List DocId → DocId → List DocId
gave given id = cond (is_given given id.number) given (given ++ id ∷ [])

-- the rights that the application had not, told once for each document
abbrev pub gained_first : List ℕ → State → AddRequest → List DocId → Document → List Effect
gained_first app s a given d =
    cond (is_given given d.id.number) [] (gained_in app s (rights_named a.names) d)

abbrev pub shared_with : List ℕ → State → AddRequest → Shared → Document → Shared
shared_with app s a u d = record {
  made = u.made;
  given = gave u.given d.id;
  effects = u.effects ++ gained_first app s a u.given d;
}

-- a document that is used again, or the one of the next number
abbrev pub share_document :
    List ℕ → State → AddRequest → List DocId → Shared → List ℕ → Option DocId → Shared
share_document app s a numbers u path (Some id) =
    shared_with app s a u (new_document a id path)
share_document app s a numbers u path None =
    let d = new_document a (first_number (drop (length u.made) numbers)) path in
    record (shared_with app s a u d) { made = u.made ++ d ∷ [] }

-- a document that was there, or that the call made
abbrev pub there_for : State → AddRequest → Shared → List ℕ → Option DocId
there_for s a u path = own_again (used_again s.documents a path) (used_again u.made a path)

abbrev pub share_file : List ℕ → State → AddRequest → List DocId → Shared → List ℕ → Shared
share_file app s a numbers u path =
    cond (is_left_out a path) u
    (share_document app s a numbers u path (there_for s a u path))

abbrev pub shared_files : List ℕ → State → AddRequest → List DocId → List (List ℕ) → Shared
shared_files app s a numbers paths = fold (share_file app s a numbers) none_shared paths
