-- What a GrantPermissions, a RevokePermissions or a Delete plans to do, and why it is refused.
-- Source: XDG Desktop Portal documentation, org.freedesktop.portal.Documents.
use Rattle.std.specs.Prelude.{◌≡◌, ℕ, List, Bool, Option, Some, None, Result, Ok, Err, cond}
use Rattle.portal_base.specs.DocIds.{doc_id_of}
use Rattle.portal_base.specs.declared.names.doc_id.DocId.{DocId}
use Rattle.portal_base.specs.declared.who.Who.{Who}
use Rattle.rights_rule.specs.Rights.{RightSet, rights_named}
use Rattle.portal_model.specs.declared.reply.Answer.{Answer}
use Rattle.portal_model.specs.declared.reply.Code.TheVariants as Code
use Rattle.portal_model.specs.declared.request.RightsCall.{RightsCall}
use Rattle.portal_model.specs.DeleteDocument.{deleted}
use Rattle.portal_model.specs.Grant.{exceeds_limits, given_rights, grant, may_grant}
use Rattle.portal_model.specs.Revoke.{may_revoke, revoke}
use Rattle.portal_model.specs.Rights.{take_rights}
use Rattle.portal_model.specs.State.{State}
use Rattle.portal_model.specs.Verdict.{Verdict, Refuses, Does, does}
use Rattle.grant_revoke.specs.declared.plan.RightsError.{RightsError}
use Rattle.grant_revoke.specs.declared.plan.RightsError.TheVariants.{NotFound, NotAllowed, InvalidArgument, Memory}
use Rattle.grant_revoke.specs.declared.plan.RightsKind.{RightsKind}
use Rattle.grant_revoke.specs.declared.plan.RightsKind.TheVariants.{Grant, Revoke}
use Rattle.grant_revoke.specs.declared.plan.RightsPlan.{RightsPlan}
use Rattle.grant_revoke.specs.declared.lookup.Reached.{Reached}

-- what the sequential portal makes of a call
abbrev pub verdict_on : RightsKind → State → Who → RightsCall → Verdict
verdict_on Grant s who call = grant s who call
verdict_on Revoke s who call = revoke s who call

-- what is done where a plan is followed
abbrev pub done_by : RightsKind → RightsPlan → State → Verdict
done_by Grant plan s =
    let after = given_rights plan.app plan.id plan.rights s in
    Does (record { state = after; answer = Answer.Done; makes = 0; exceeds = exceeds_limits after })
done_by Revoke plan s =
    does (record s { rights = take_rights plan.app plan.id.number plan.rights s.rights })
    Answer.Done

-- the plan's data are those of the call
pub record IsOfCall (call : RightsCall) (plan : RightsPlan) : Type 0 where
  pub document : doc_id_of call.doc ≡ Some plan.id
  pub app : plan.app ≡ call.app
  pub rights : plan.rights ≡ rights_named call.names

-- the sequential portal refuses for this reason. Want of memory says nothing of what it does
abbrev pub IsRefused : Verdict → RightsError → Type 0
IsRefused verdict NotFound = verdict ≡ Refuses Code.NotFound
IsRefused verdict NotAllowed = verdict ≡ Refuses Code.NotAllowed
IsRefused verdict InvalidArgument = verdict ≡ Refuses Code.InvalidArgument
IsRefused verdict Memory = Unit {0}

-- the same of a Delete, which has no arguments that could be wrong and takes no memory
abbrev pub IsDeleteRefused : Verdict → RightsError → Type 0
IsDeleteRefused verdict NotFound = verdict ≡ Refuses Code.NotFound
IsDeleteRefused verdict NotAllowed = verdict ≡ Refuses Code.NotAllowed
IsDeleteRefused verdict InvalidArgument = ⊥
IsDeleteRefused verdict Memory = ⊥

abbrev pub delete_done_by : DocId → State → Verdict
delete_done_by id s = does (deleted s id.number) Answer.Done

-- ---- on the way there

-- whether the rights that are held allow the call
abbrev pub may_change : RightsKind → RightSet → RightSet → Bool → Bool
may_change Grant held listed itself = may_grant held listed
may_change Revoke held listed itself = may_revoke held itself

-- sound arguments over what the caller reaches
abbrev pub planned : RightsKind → List ℕ → RightSet → Bool → Option Reached →
    Result RightsPlan RightsError
planned kind app listed itself None = Err NotFound
planned kind app listed itself (Some r) =
    cond (may_change kind r.held listed itself)
    (Ok (record { id = r.id; app = app; rights = listed })) (Err NotAllowed)

abbrev pub planned_delete : Option Reached → Result DocId RightsError
planned_delete None = Err NotFound
planned_delete (Some r) = cond r.held.delete (Ok r.id) (Err NotAllowed)
