-- The change of the records that a Delete, a GrantPermissions or a RevokePermissions makes, and
-- what it is answered.
use Rattle.std.specs.Prelude.{◌≡◌, ◌<◌, ℕ, List, length, nat_lt, Bool, true, false, not, ◌&&◌, map, is_some, cond, Option, Some, None, Result, Ok, Err}
use Rattle.portal_base.specs.declared.memory.WantOfMemory.{WantOfMemory}
use Rattle.portal_base.specs.declared.names.doc_id.DocId.{DocId}
use Rattle.portal_model.specs.declared.entry.Fault.TheVariants as Fault
use Rattle.portal_model.specs.declared.records.RecordChange.{RecordChange}
use Rattle.portal_model.specs.declared.records.RecordChange.TheVariants.{RemoveDocument, SetGrants}
use Rattle.portal_model.specs.declared.reply.Answer.{Answer}
use Rattle.portal_model.specs.declared.reply.Code.{Code}
use Rattle.portal_model.specs.declared.state.Document.{Document}
use Rattle.portal_model.specs.declared.state.Triple.{Triple}
use Rattle.portal_model.specs.Applications.{number_of}
use Rattle.portal_model.specs.Info.{holders}
use Rattle.portal_model.specs.Valid.{applications_limit}
use Rattle.portal_model.specs.Kept.{grant_record}
use Rattle.portal_model.specs.State.{held_of}
use Rattle.rights_rule.specs.Rights.{RightSet, is_no_right, minus}
use Rattle.document_records.specs.Documents.{DocumentList, front, is_kept}
use Rattle.grant_revoke.specs.declared.plan.RightsError.{RightsError}
use Rattle.grant_revoke.specs.declared.plan.RightsPlan.{RightsPlan}
use Rattle.grant_revoke.specs.declared.plan.RightsError.TheVariants.{NotFound, NotAllowed, InvalidArgument, Memory}
use Rattle.document_calls.specs.KeeperCalls.{fault_if}
use Rattle.document_calls.specs.Serves.{given_with}
use Rattle.document_calls.specs.declared.served.ServedCall.{ServedCall}

-- ---- changes of the records

abbrev pub removal : List Document → DocId → Option RecordChange
removal documents id = cond (is_kept documents id.number) (Some (RemoveDocument id.number)) None

-- the rights in the document become those that these triples tell, where there is a change
abbrev pub regrant : Bool → List Triple → DocId → Option RecordChange
regrant differs rights id =
    cond differs
    (Some (SetGrants id.number (map (grant_record rights id.number) (holders rights id.number))))
    None

-- whether some right of the second set is in the first
abbrev pub shares : RightSet → RightSet → Bool
shares a b = not (is_no_right (minus a (minus a b)))

-- the records lose a right where a plan is followed
abbrev pub loses : List Document → List Triple → RightsPlan → Bool
loses documents rights plan =
    is_kept documents plan.id.number
    && shares (held_of rights plan.app plan.id.number) plan.rights

-- the records gain one
abbrev pub gains : List Document → List Triple → RightsPlan → Bool
gains documents rights plan =
    is_kept documents plan.id.number
    && not (is_no_right (minus plan.rights (held_of rights plan.app plan.id.number)))

-- ---- numbers of applications

-- a right is given to an application for which no number is left
abbrev pub has_no_number : List (List ℕ) → RightsPlan → Bool
has_no_number applications plan =
    not (is_no_right plan.rights)
    && (not (is_some (number_of applications plan.app))
    && not (nat_lt (length applications) applications_limit))

-- a number is taken back where it is new
pub record IsNumberedAnew (old new : List (List ℕ)) (fresh : Bool) : Type 0 where
  pub some : fresh ≡ true → 0 < length new
  pub back : cond fresh (front new) new ≡ old

-- ---- answers

-- a change that was to be made, where this says whether the keeper failed
abbrev pub done_with : Bool → ServedCall
done_with failed = record {
  given = given_with false (fault_if failed);
  answer = cond failed (Answer.Refused Code.Failed) Answer.Done;
}

abbrev pub refused_with : Code → ServedCall
refused_with code = record { given = given_with false Fault.None; answer = Answer.Refused code }

-- a limit is met
abbrev pub full_call : ServedCall
full_call = record {
  given = given_with true Fault.None;
  answer = Answer.Refused Code.LimitsExceeded;
}

abbrev pub refusal : RightsError → Result ServedCall WantOfMemory
refusal NotFound = Ok (refused_with Code.NotFound)
refusal NotAllowed = Ok (refused_with Code.NotAllowed)
refusal InvalidArgument = Ok (refused_with Code.InvalidArgument)
refusal Memory = Err (record {})

-- the limits stay
abbrev pub SameLimits : DocumentList → DocumentList → Type 0
SameLimits old new = (new.most_live ≡ old.most_live) × (new.most_made ≡ old.most_made)
