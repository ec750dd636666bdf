-- GrantPermissions: an application gets rights in a document.
use Rattle.std.specs.Prelude.{ℕ, List, length, Bool, not, ◌&&◌, ◌||◌, nat_lt, cond, Option, Some, None}
use Rattle.portal_base.specs.Names.{is_app_name}
use Rattle.portal_base.specs.declared.names.doc_id.DocId.{DocId}
use Rattle.portal_base.specs.declared.who.Who.{Who}
use Rattle.rights_rule.specs.Rights.{RightSet, are_right_names, contains, holds_any, rights_named}
use Rattle.portal_model.specs.declared.reply.Answer.{Answer}
use Rattle.portal_model.specs.declared.reply.Code.TheVariants as Code
use Rattle.portal_model.specs.declared.request.RightsCall.{RightsCall}
use Rattle.portal_model.specs.declared.state.Document.{Document}
use Rattle.portal_model.specs.Applications.{numbered}
use Rattle.portal_model.specs.Arguments.{reached}
use Rattle.portal_model.specs.Rights.{add_rights, held_by}
use Rattle.portal_model.specs.State.{State}
use Rattle.portal_model.specs.Valid.{applications_limit}
use Rattle.portal_model.specs.Verdict.{Verdict, Refuses, Does, unless}

-- ---- rights that are given

-- an application is numbered as it is first given a right
abbrev pub numbered_with : List ℕ → RightSet → List (List ℕ) → List (List ℕ)
numbered_with app set applications = cond (holds_any set) (numbered applications app) applications

abbrev pub given_rights : List ℕ → DocId → RightSet → State → State
given_rights app id set s =
    record s {
      rights = add_rights app id set s.rights;
      applications = numbered_with app set s.applications;
    }

-- a limit of live documents, of made ones or of applications is passed
abbrev pub exceeds_limits : State → Bool
exceeds_limits s =
    nat_lt s.limits.documents (length s.documents)
    || (nat_lt s.limits.made (length s.made) || nat_lt applications_limit (length s.applications))

-- ---- the call

-- of a call that gives or takes rights
abbrev pub are_rights_arguments : RightsCall → Bool
are_rights_arguments call = is_app_name call.app && are_right_names call.names

-- who may give rights in a document, and has each of those that are listed
abbrev pub may_grant : RightSet → RightSet → Bool
may_grant held listed = held.grant_permissions && contains held listed

abbrev pub granted : State → RightsCall → Document → Verdict
granted s call d =
    let after = given_rights call.app d.id (rights_named call.names) s in
    Does (record { state = after; answer = Answer.Done; makes = 0; exceeds = exceeds_limits after })

abbrev pub grant_reached : State → Who → RightsCall → Option Document → Verdict
grant_reached s who call None = Refuses Code.NotFound
grant_reached s who call (Some d) =
    unless (not (may_grant (held_by s.rights who d.id.number) (rights_named call.names)))
    Code.NotAllowed
    (granted s call d)

abbrev pub grant : State → Who → RightsCall → Verdict
grant s who call =
    unless (not (are_rights_arguments call)) Code.InvalidArgument
    (grant_reached s who call (reached s who call.doc))
