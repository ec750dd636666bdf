-- RevokePermissions, in the view of the application that asks; and what it changes of another's.
use Rattle.std.specs.Prelude.{ℕ, List, [], ◌∷◌, Bool, not, ◌&&◌, Option, Some, None, cond}
use Rattle.portal_base.specs.Names.{is_same}
use Rattle.rights_rule.specs.Rights.{RightSet, holds_any, rights_named}
use Rattle.portal_model.specs.declared.reply.Answer.{Answer}
use Rattle.portal_model.specs.declared.reply.Code.TheVariants as Code
use Rattle.portal_model.specs.declared.request.RightsCall.{RightsCall}
use Rattle.portal_model.specs.declared.state.Document.{Document}
use Rattle.portal_model.specs.Arguments.{document_named}
use Rattle.portal_model.specs.Grant.{are_rights_arguments}
use Rattle.portal_model.specs.Revoke.{may_revoke}
use Rattle.portal_model.specs.State.{State, held_of}
use Rattle.app_world.specs.Effect.{Effect, Lost, apply}
use Rattle.app_world.specs.OwnVerdict.{OwnVerdict, OwnDoes, OwnRefuses, own_reached, own_unless}
use Rattle.app_world.specs.View.{AppView, HeldDocument}

-- an application that names itself loses the listed rights
abbrev pub own_revoked : AppView → RightsCall → HeldDocument → Bool → AppView
own_revoked v call d itself =
    cond itself (apply v (Lost d.document.id (rights_named call.names))) v

-- app is the application itself
abbrev pub own_revoke_reached : List ℕ → AppView → RightsCall → Option HeldDocument → OwnVerdict
own_revoke_reached app v call None = OwnRefuses Code.NotFound
own_revoke_reached app v call (Some d) =
    let itself = is_same app call.app in
    own_unless (not (may_revoke d.rights itself)) Code.NotAllowed
    (OwnDoes (own_revoked v call d itself) Answer.Done)

abbrev pub own_revoke : List ℕ → AppView → RightsCall → OwnVerdict
own_revoke app v call =
    own_unless (not (are_rights_arguments call)) Code.InvalidArgument
    (own_revoke_reached app v call (own_reached v call.doc))

-- ---- what is touched

-- what is in both sets
abbrev pub common : RightSet → RightSet → RightSet
common a b = record {
  read = a.read && b.read;
  write = a.write && b.write;
  grant_permissions = a.grant_permissions && b.grant_permissions;
  delete = a.delete && b.delete;
}

-- the rights of a set that the application holds, if any
abbrev pub lost_in : List ℕ → State → RightSet → Document → List Effect
lost_in app s set d =
    let less = common set (held_of s.rights app d.id.number) in
    cond (holds_any less) (Lost d.id less ∷ []) []

abbrev pub revoked_from : List ℕ → State → RightsCall → Option Document → List Effect
revoked_from app s call None = []
revoked_from app s call (Some d) = lost_in app s (rights_named call.names) d

-- where it is done and names the application
abbrev pub revoke_touch : List ℕ → State → RightsCall → List Effect
revoke_touch app s call =
    cond (is_same call.app app) (revoked_from app s call (document_named s.documents call.doc)) []
