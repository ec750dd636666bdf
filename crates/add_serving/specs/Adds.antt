-- An addition that is served, over the portal's lists, the tree, the words and the keeper.
use Rattle.std.specs.Prelude.{◌≡◌, ◌+◌, ◌-◌, ◌≤◌, ℕ, List, [], drop, length, map, nat_le, true, false, cond, Option}
use Rattle.file_generations.specs.Generations.{Held}
use Rattle.portal_base.specs.declared.who.Who.{Who}
use Rattle.host_tree.specs.Trees.{TreeIs}
use Rattle.portal_model.specs.declared.entry.Fault.{Fault}
use Rattle.portal_model.specs.declared.request.AddRequest.{AddRequest}
use Rattle.portal_model.specs.declared.request.Request.{Request}
use Rattle.portal_model.specs.declared.state.Connection.{Connection}
use Rattle.portal_model.specs.declared.state.Document.{Document}
use Rattle.portal_model.specs.declared.state.Triple.{Triple}
use Rattle.portal_model.specs.Add.{added_files}
use Rattle.portal_model.specs.AddArguments.{are_presented, files_limit}
use Rattle.portal_model.specs.Outside.{files_told}
use Rattle.portal_model.specs.Present.{with_queue}
use Rattle.portal_model.specs.State.{State}
use Rattle.portal_model.specs.Valid.{Valid}
use Rattle.add_calls.specs.Placing.{Book, Follows, HasDrawnUpTo, with_lists}
use Rattle.add_calls.specs.Shown.{Asked}
use Rattle.add_files.specs.Plans.{IsAsked, IsPlan, id_told}
use Rattle.add_files.specs.declared.plan.AddPlan.{AddPlan}
use Rattle.add_serving.specs.Changes.{AppliedWhere, changes_of, plan_changes}
use Rattle.add_serving.specs.declared.outcomes.AddedFiles.{AddedFiles}
use Rattle.document_calls.specs.Books.{IsBook}
use Rattle.document_calls.specs.Changes.{SameLimits}
use Rattle.document_calls.specs.KeeperCalls.{ServesKept}
use Rattle.document_calls.specs.declared.served.ServedCall.{ServedCall}
use Rattle.record_keeper.specs.Keepers.{KeeperIs}

-- How many looks a call makes at most: one at each file, or two where a file is named in each. With
-- more than 16 files it makes none.
abbrev pub most_looks : AddRequest → ℕ
most_looks a =
    cond (nat_le (length a.handles) files_limit)
    (cond a.named (length a.handles + length a.handles) (length a.handles)) 0

-- how many words it draws at most: one for each file
abbrev pub most_words : AddRequest → ℕ
most_words a = cond (nat_le (length a.handles) files_limit) (length a.handles) 0

-- How many documents it makes over this connection, where nothing is refused. That doesn't depend
-- on the numbers that they get.
abbrev pub documents_made : State → Connection → AddRequest → ℕ
documents_made s c a = length (added_files s c a []).state.documents - length s.documents

-- the tree was asked so many times at most, and no call failed
abbrev pub WasAsked : ℕ → TreeIs → TreeIs → Type 0
WasAsked most old new = (calls : ℕ) × Asked old calls false new × (calls ≤ most)

-- the files that the call takes leave the queue, unless a device failed
abbrev pub left_by : Fault → Connection → AddRequest → State → State
left_by Fault.None c a s = with_queue c.seat (drop a.fds) s
left_by Fault.Tree c a s = s
left_by Fault.Keeper c a s = s

-- the call comes over this connection in this state, which has these lists; the tree tells this
pub record IsReached (s : State) (c : Connection) (a : AddRequest) (who : Who)
    (paths : List (List ℕ)) (before : Book) (told : Option Held) : Type 0 where
  pub asked : IsAsked s c a before.documents.live before.rights who paths
  pub book : IsBook s before.documents before.rights before.applications
  pub files : files_told s ≡ told
  pub valid : Valid s
  pub presented : are_presented c.queue a ≡ true

-- the call is served, in any such state
abbrev pub Adds : AddRequest → Who → List (List ℕ) → Book → Book → Option Held →
    KeeperIs → KeeperIs → ServedCall → Type 0
Adds a who paths before after told old new served =
    (s : State) (c : Connection) → IsReached s c a who paths before told →
    ServesKept s c (Request.Add a) served.given
    (left_by served.given.fault c a (with_lists s after)) served.answer old new

-- no more words were drawn than documents are made by the call, in any such state
abbrev pub DrewNoMore : AddRequest → Who → List (List ℕ) → Book → Option Held →
    Option (List ℕ) → Option (List ℕ) → Type 0
DrewNoMore a who paths before told old new =
    (s : State) (c : Connection) → IsReached s c a who paths before told →
    HasDrawnUpTo (documents_made s c a) old new

-- what a plan is in any state with these records
abbrev pub IsPlanOf : Who → AddRequest → List (List ℕ) → List Document → List Triple → AddPlan →
    Type 0
IsPlanOf who a paths documents rights plan =
    (s : State) (c : Connection) → IsAsked s c a documents rights who paths → IsPlan s c a plan

-- The plan was followed, and the keeper was asked where the records change. Where it failed, all
-- is taken back.
pub record PlacedKept (who : Who) (a : AddRequest) (plan : AddPlan) (before after : Book)
    (told told_after : Option (List ℕ)) (old new : KeeperIs) (added : AddedFiles)
    : Type 0 where
  pub between : Book
  pub follows : Follows who a plan before between told told_after added.drawn
  pub limits : SameLimits before.documents between.documents
  pub ids : added.ids ≡ map id_told added.drawn.documents
  pub called : AppliedWhere (plan_changes before.documents.live before.rights who a plan)
      (changes_of (length before.documents.live) between.documents.live between.rights
      added.drawn.documents) old added.failed new
  pub stays : after ≡ cond added.failed before between
