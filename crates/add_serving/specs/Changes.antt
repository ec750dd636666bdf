-- The changes of the records that an addition makes.
use Rattle.std.specs.Prelude.{◌≡◌, ℕ, ◌==◌, List, [], ◌∷◌, ◌++◌, drop, map, take, Bool, true, false, not, ◌&&◌, ◌||◌, cond, Option, Some, None}
use Rattle.std.specs.List.{flat_map, list_any}
use Rattle.portal_base.specs.declared.names.doc_id.DocId.{DocId}
use Rattle.portal_base.specs.declared.who.Who.{Who}
use Rattle.rights_rule.specs.Rights.{RightSet, is_no_right, minus}
use Rattle.portal_model.specs.declared.records.RecordChange.{RecordChange}
use Rattle.portal_model.specs.declared.records.RecordChange.TheVariants.{AddDocument, SetGrants}
use Rattle.portal_model.specs.declared.request.AddRequest.{AddRequest}
use Rattle.portal_model.specs.declared.state.Document.{Document}
use Rattle.portal_model.specs.declared.state.Triple.{Triple}
use Rattle.portal_model.specs.AddArguments.{persists}
use Rattle.portal_model.specs.Info.{holders}
use Rattle.portal_model.specs.Kept.{document_record, grant_record}
use Rattle.portal_model.specs.State.{held_of}
use Rattle.add_files.specs.declared.plan.AddPlan.{AddPlan}
use Rattle.add_files.specs.declared.plan.PlanItem.{PlanItem}
use Rattle.add_files.specs.declared.plan.PlanUse.{PlanUse}
use Rattle.add_files.specs.declared.plan.PlanUse.TheVariants.{LeftOut, Live, Earlier, New}
use Rattle.document_calls.specs.KeeperCalls.{Applied}
use Rattle.document_records.specs.Documents.{is_kept}
use Rattle.record_keeper.specs.Keepers.{KeeperIs}

-- ---- whether there are any

-- the application has not all of these rights in the document
abbrev pub lacks : List Triple → List ℕ → DocId → RightSet → Bool
lacks rights app id set = not (is_no_right (minus set (held_of rights app id.number)))

abbrev pub caller_lacks : List Triple → Who → DocId → RightSet → Bool
caller_lacks rights Who.Host id own = false
caller_lacks rights (Who.App app) id own = lacks rights app id own

abbrev pub named_lacks : List Triple → Option (List ℕ) → DocId → RightSet → Bool
named_lacks rights None id listed = false
named_lacks rights (Some app) id listed = lacks rights app id listed

-- a file whose document is new and persistent changes the records, and one whose document is kept
-- and in which a right is new
abbrev pub place_changes : List Document → List Triple → Who → AddRequest → AddPlan → RightSet →
    PlanUse → Bool
place_changes documents rights who a plan own LeftOut = false
place_changes documents rights who a plan own (Live id) =
    is_kept documents id.number
    && (caller_lacks rights who id own || named_lacks rights plan.app id plan.listed)
place_changes documents rights who a plan own (Earlier k) = false
place_changes documents rights who a plan own New = persists a

abbrev pub item_changes : List Document → List Triple → Who → AddRequest → AddPlan → PlanItem → Bool
item_changes documents rights who a plan item =
    place_changes documents rights who a plan item.own item.place

abbrev pub plan_changes : List Document → List Triple → Who → AddRequest → AddPlan → Bool
plan_changes documents rights who a plan =
    list_any (item_changes documents rights who a plan) plan.items

-- ---- which

abbrev pub is_live : List Document → ℕ → Bool
is_live documents number = list_any (λ d. d.id.number == number) documents

-- a document that was there and is used has these rights given then
abbrev pub regrant : List Document → List Triple → Option DocId → List RecordChange
regrant documents rights None = []
regrant documents rights (Some id) =
    cond (is_live documents id.number)
    (SetGrants id.number (map (grant_record rights id.number) (holders rights id.number)) ∷ [])
    []

-- a new one goes behind the others, where it is persistent
abbrev pub addition : List Triple → Document → List RecordChange
addition rights d = cond d.persistent (AddDocument (document_record rights d) ∷ []) []

-- of these documents the first ones were there; these were used
abbrev pub changes_of : ℕ → List Document → List Triple → List (Option DocId) → List RecordChange
changes_of kept documents rights used =
    flat_map (regrant (take kept documents) rights) used
    ++ flat_map (addition rights) (drop kept documents)

-- the one call of the keeper, where there is something to change
abbrev pub AppliedWhere : Bool → List RecordChange → KeeperIs → Bool → KeeperIs → Type 0
AppliedWhere false changes old failed new = (failed ≡ false) × (new ≡ old)
AppliedWhere true changes old failed new = Applied changes old failed new
