-- What an Add, AddFull, AddNamed or AddNamedFull plans to do, and why it is refused.
-- Source: XDG Desktop Portal documentation, org.freedesktop.portal.Documents, AddFull and
-- AddNamedFull.
use Rattle.std.specs.Prelude.{◌≡◌, ℕ, ◌<◌, ◌≤◌, List, [], ◌∷◌, ◌++◌, drop, fold, get_or, length, map, slice_get, take, Bool, true, false, cond, Option, Some, None}
use Rattle.std.specs.List.{count_by}
use Rattle.portal_base.specs.Names.{doc_text}
use Rattle.portal_base.specs.declared.names.doc_id.DocId.{DocId}
use Rattle.portal_base.specs.declared.who.Who.{Who}
use Rattle.rights_rule.specs.Rights.{RightSet, no_rights, rights_named}
use Rattle.portal_model.specs.declared.reply.Code.TheVariants as Code
use Rattle.portal_model.specs.declared.request.AddRequest.{AddRequest}
use Rattle.portal_model.specs.declared.state.Connection.{Connection}
use Rattle.portal_model.specs.declared.state.Document.{Document}
use Rattle.portal_model.specs.declared.state.Triple.{Triple}
use Rattle.portal_model.specs.Add.{Added, add, add_looking, added_files, adding_rights, first_number, new_document, taken_from_queue, with_new_document}
use Rattle.portal_model.specs.AddArguments.{document_paths, names_nobody}
use Rattle.portal_model.specs.Grant.{given_rights}
use Rattle.portal_model.specs.State.{State}
use Rattle.portal_model.specs.Verdict.{Verdict, refuses}
use Rattle.portal_model.specs.Walk.{Walk}
use Rattle.add_files.specs.declared.plan.AddError.{AddError}
use Rattle.add_files.specs.declared.plan.AddError.TheVariants.{InvalidArgument, NotAllowed, Memory}
use Rattle.add_files.specs.declared.plan.AddPlan.{AddPlan}
use Rattle.add_files.specs.declared.plan.PlanItem.{PlanItem}
use Rattle.add_files.specs.declared.plan.PlanUse.{PlanUse}
use Rattle.add_files.specs.declared.plan.PlanUse.TheVariants.{LeftOut, Live, Earlier, New}

-- the call comes over this connection in this state: its caller is this one, the state has these
-- live documents and these rights, and the files that the call takes from the queue are there and
-- are these
pub record IsAsked (s : State) (c : Connection) (a : AddRequest) (documents : List Document)
    (rights : List Triple) (who : Who) (paths : List (List ℕ)) : Type 0 where
  pub live : s.documents ≡ documents
  pub held : s.rights ≡ rights
  pub caller : c.who ≡ who
  pub there : a.fds ≤ length c.queue
  pub taken : take a.fds c.queue ≡ paths

-- ---- following a plan

-- what was followed so far: the state, the numbers that are left for new documents, and the
-- document of each item, where it has one
pub record Followed : Type 0 where
  pub state : State
  pub numbers : List DocId
  pub documents : List (Option DocId)

-- the caller's rights in the document of an item
abbrev pub own_given : Who → RightSet → DocId → State → State
own_given Who.Host own id s = s
own_given (Who.App app) own id s = given_rights app id own s

-- those of the application that is named
abbrev pub listed_given : Option (List ℕ) → RightSet → DocId → State → State
listed_given None listed id s = s
listed_given (Some app) listed id s = given_rights app id listed s

abbrev pub item_given : Who → Option (List ℕ) → RightSet → RightSet → DocId → State → State
item_given who app listed own id s = listed_given app listed id (own_given who own id s)

-- the document of an item ahead
abbrev pub id_or_zero : Option DocId → DocId
id_or_zero None = record { number = 0 }
id_or_zero (Some id) = id

abbrev pub document_at : List (Option DocId) → ℕ → DocId
document_at documents k = id_or_zero (get_or documents k None)

-- a document is used that is there
abbrev pub used_for : Who → Option (List ℕ) → RightSet → PlanItem → Followed → DocId → Followed
used_for who app listed item done id = record done {
  state = item_given who app listed item.own id done.state;
  documents = done.documents ++ Some id ∷ [];
}

-- a document is made, with the next number
abbrev pub made_for : Who → AddRequest → Option (List ℕ) → RightSet → PlanItem → Followed → Followed
made_for who a app listed item done =
    let id = first_number done.numbers in
    record {
      state = item_given who app listed item.own id
          (with_new_document (new_document a id item.path) done.state);
      numbers = drop 1 done.numbers;
      documents = done.documents ++ Some id ∷ [];
    }

abbrev pub placed : Who → AddRequest → Option (List ℕ) → RightSet → PlanItem → Followed → PlanUse →
    Followed
placed who a app listed item done LeftOut =
    record done { documents = done.documents ++ None ∷ [] }
placed who a app listed item done (Live id) = used_for who app listed item done id
placed who a app listed item done (Earlier k) =
    used_for who app listed item done (document_at done.documents k)
placed who a app listed item done New = made_for who a app listed item done

abbrev pub follow_item : Who → AddRequest → Option (List ℕ) → RightSet → Followed → PlanItem →
    Followed
follow_item who a app listed done item = placed who a app listed item done item.place

abbrev pub none_followed : State → List DocId → Followed
none_followed s numbers = record { state = s; numbers = numbers; documents = [] }

-- the flags of a new document are those of the call
abbrev pub followed : Who → AddRequest → AddPlan → State → List DocId → Followed
followed who a plan s numbers =
    fold (follow_item who a plan.app plan.listed) (none_followed s numbers) plan.items

-- the identifiers that are answered: an empty one of a file that is left out
abbrev pub id_told : Option DocId → List ℕ
id_told None = []
id_told (Some id) = doc_text id.number

abbrev pub as_added : Followed → Added
as_added f = record { state = f.state; numbers = f.numbers; ids = map id_told f.documents }

-- ---- what a plan is

-- followed with any numbers it comes to what the sequential portal does, once nothing is refused
-- ahead of the tree
pub record IsPlan (s : State) (c : Connection) (a : AddRequest) (plan : AddPlan) : Type 0 where
  pub passes : (numbers : List DocId) → add s c a numbers ≡ add_looking s c a numbers
  pub paths : map (λ item. item.path) plan.items ≡ document_paths c.queue a
  pub does : (numbers : List DocId) →
      added_files s c a numbers
      ≡ as_added (followed c.who a plan (taken_from_queue c a s) numbers)

-- the application that the call names
abbrev pub named_app : AddRequest → Option (List ℕ)
named_app a = cond (names_nobody a) None (Some a.app)

-- the rights that the caller gets in the document of an item
abbrev pub own_in : RightSet → PlanUse → RightSet
own_in own LeftOut = no_rights
own_in own (Live id) = own
own_in own (Earlier k) = own
own_in own New = own

abbrev pub own_of : Who → AddRequest → PlanUse → RightSet
own_of Who.Host a place = no_rights
own_of (Who.App app) a place = own_in (adding_rights a) place

abbrev pub is_new : PlanUse → Bool
is_new LeftOut = false
is_new (Live id) = false
is_new (Earlier k) = false
is_new New = true

-- where an item uses the document of another, that one stands ahead of it and is new
abbrev pub NameNewOnes : List PlanUse → Type 0
NameNewOnes places =
    (at k : ℕ) → slice_get places at ≡ Some (Earlier k) →
    (k < at) × (slice_get places k ≡ Some New)

-- what the plan tells besides
pub record IsOfCall (who : Who) (a : AddRequest) (plan : AddPlan) : Type 0 where
  pub app : plan.app ≡ named_app a
  pub listed : plan.listed ≡ rights_named a.names
  pub own : map (λ item. item.own) plan.items ≡ map (λ item. own_of who a item.place) plan.items
  pub earlier : NameNewOnes (map (λ item. item.place) plan.items)
  -- as many numbers are used as documents are new
  pub used : plan.used ≡ count_by (λ item. is_new item.place) plan.items

-- the sequential portal refuses for this reason ahead of the tree. Want of memory says nothing of
-- what it does
abbrev pub IsRefused : Walk Verdict → AddError → Type 0
IsRefused walk InvalidArgument = walk ≡ refuses Code.InvalidArgument
IsRefused walk NotAllowed = walk ≡ refuses Code.NotAllowed
IsRefused walk Memory = Unit {0}
