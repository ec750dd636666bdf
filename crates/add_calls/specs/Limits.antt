-- What a plan makes of the counts that are limited, whatever numbers its documents get.
use Rattle.std.specs.Prelude.{◌≡◌, ◌≤◌, ℕ, ◌+◌, List, [], ◌∷◌, length, nat_lt, Bool, true, false, ◌||◌, cond, Option, Some, None}
use Rattle.std.specs.List.{list_any}
use Rattle.portal_base.specs.declared.names.doc_id.DocId.{DocId}
use Rattle.portal_base.specs.declared.who.Who.{Who}
use Rattle.rights_rule.specs.Rights.{RightSet, holds_any}
use Rattle.portal_model.specs.declared.request.AddRequest.{AddRequest}
use Rattle.portal_model.specs.Applications.{numbered}
use Rattle.portal_model.specs.Grant.{exceeds_limits, numbered_with}
use Rattle.portal_model.specs.State.{State}
use Rattle.portal_model.specs.Valid.{applications_limit}
use Rattle.document_records.specs.Documents.{DocumentList}
use Rattle.add_files.specs.Plans.{IsOfCall, followed}
use Rattle.add_files.specs.declared.plan.AddPlan.{AddPlan}
use Rattle.add_files.specs.declared.plan.PlanItem.{PlanItem}
use Rattle.add_files.specs.declared.plan.PlanUse.{PlanUse}
use Rattle.add_files.specs.declared.plan.PlanUse.TheVariants.{LeftOut, Live, Earlier, New}

abbrev pub has_document : PlanUse → Bool
has_document LeftOut = false
has_document (Live id) = true
has_document (Earlier k) = true
has_document New = true

abbrev pub uses_documents : List PlanItem → Bool
uses_documents items = list_any (λ item. has_document item.place) items

-- an application that adds is numbered, and then the one that is named where it gets a right
abbrev pub caller_numbered : Who → List (List ℕ) → List (List ℕ)
caller_numbered Who.Host applications = applications
caller_numbered (Who.App app) applications = numbered applications app

abbrev pub named_numbered : Option (List ℕ) → RightSet → List (List ℕ) → List (List ℕ)
named_numbered None listed applications = applications
named_numbered (Some app) listed applications = numbered_with app listed applications

abbrev pub both_numbered : Who → Option (List ℕ) → RightSet → List (List ℕ) → List (List ℕ)
both_numbered who app listed applications =
    named_numbered app listed (caller_numbered who applications)

-- an application that adds gets some right
abbrev pub OwnHolds : Who → RightSet → Type 0
OwnHolds Who.Host own = Unit {0}
OwnHolds (Who.App app) own = holds_any own ≡ true

abbrev pub OwnsHold : Who → List PlanItem → Type 0
OwnsHold who [] = Unit {0}
OwnsHold who (item ∷ items) =
    (has_document item.place ≡ true → OwnHolds who item.own) × OwnsHold who items

-- no limit of applications is passed by these files
abbrev pub HasRoomForAll : Who → AddPlan → List PlanItem → List (List ℕ) → Type 0
HasRoomForAll who plan items applications =
    uses_documents items ≡ true →
    length (both_numbered who plan.app plan.listed applications) ≤ applications_limit

abbrev pub numbered_by : Who → AddPlan → List (List ℕ) → List (List ℕ)
numbered_by who plan applications =
    cond (uses_documents plan.items)
    (both_numbered who plan.app plan.listed applications) applications

-- a limit of live documents, of made ones or of applications would be passed
abbrev pub exceeds_planned : DocumentList → List (List ℕ) → Who → AddPlan → Bool
exceeds_planned documents applications who plan =
    nat_lt documents.most_live (length documents.live + plan.used)
    || (nat_lt documents.most_made (length documents.made + plan.used)
    || nat_lt applications_limit (length (numbered_by who plan applications)))

-- so many documents are made, and a limit is passed as planned
pub record AsPlanned (who : Who) (plan : AddPlan) (documents : DocumentList) (s t : State)
    : Type 0 where
  pub makes : length t.made ≡ length s.made + plan.used
  pub exceeds : exceeds_limits t ≡ exceeds_planned documents s.applications who plan

-- a plan of a call that is followed in a state with these documents, with whatever numbers
abbrev pub LimitsAsPlanned : Type 0
LimitsAsPlanned = (who : Who) (a : AddRequest) (plan : AddPlan) (documents : DocumentList)
    (s : State) (numbers : List DocId) → IsOfCall who a plan →
    s.documents ≡ documents.live → s.made ≡ documents.made →
    s.limits.documents ≡ documents.most_live → s.limits.made ≡ documents.most_made →
    AsPlanned who plan documents s (followed who a plan s numbers).state
