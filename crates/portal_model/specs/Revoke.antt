-- RevokePermissions: the listed rights of an application in a document are taken away, and no
-- others.
use Rattle.std.specs.Prelude.{ℕ, List, Bool, false, not, ◌||◌, Option, Some, None}
use Rattle.portal_base.specs.Names.{is_same}
use Rattle.portal_base.specs.declared.who.Who.{Who}
use Rattle.rights_rule.specs.Rights.{RightSet, rights_named}
use Rattle.portal_model.specs.declared.reply.Answer.{Answer}
use Rattle.portal_model.specs.declared.reply.Code.TheVariants as Code
use Rattle.portal_model.specs.declared.request.RightsCall.{RightsCall}
use Rattle.portal_model.specs.declared.state.Document.{Document}
use Rattle.portal_model.specs.Arguments.{reached}
use Rattle.portal_model.specs.Grant.{are_rights_arguments}
use Rattle.portal_model.specs.Rights.{held_by, take_rights}
use Rattle.portal_model.specs.State.{State}
use Rattle.portal_model.specs.Verdict.{Verdict, Refuses, does, unless}

-- the application is the caller itself
abbrev pub names_itself : Who → List ℕ → Bool
names_itself Who.Host app = false
names_itself (Who.App caller) app = is_same caller app

-- who may give rights may take any, and an application its own
abbrev pub may_revoke : RightSet → Bool → Bool
may_revoke held itself = held.grant_permissions || itself

abbrev pub revoked : State → RightsCall → Document → State
revoked s call d =
    record s { rights = take_rights call.app d.id.number (rights_named call.names) s.rights }

abbrev pub revoke_reached : State → Who → RightsCall → Option Document → Verdict
revoke_reached s who call None = Refuses Code.NotFound
revoke_reached s who call (Some d) =
    unless (not (may_revoke (held_by s.rights who d.id.number) (names_itself who call.app)))
    Code.NotAllowed
    (does (revoked s call d) Answer.Done)

abbrev pub revoke : State → Who → RightsCall → Verdict
revoke s who call =
    unless (not (are_rights_arguments call)) Code.InvalidArgument
    (revoke_reached s who call (reached s who call.doc))
