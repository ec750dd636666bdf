-- GrantPermissions, in the view of the application that asks; and what it changes of another's.
use Rattle.std.specs.Prelude.{ℕ, List, [], ◌∷◌, not, Option, Some, None, cond}
use Rattle.portal_base.specs.Names.{is_same}
use Rattle.rights_rule.specs.Rights.{RightSet, holds_any, minus, rights_named}
use Rattle.portal_model.specs.declared.reply.Answer.{Answer}
use Rattle.portal_model.specs.declared.reply.Code.TheVariants as Code
use Rattle.portal_model.specs.declared.request.RightsCall.{RightsCall}
use Rattle.portal_model.specs.declared.state.Document.{Document}
use Rattle.portal_model.specs.Arguments.{document_named}
use Rattle.portal_model.specs.Grant.{are_rights_arguments, may_grant}
use Rattle.portal_model.specs.State.{State, held_of}
use Rattle.app_world.specs.Effect.{Effect, Gained}
use Rattle.app_world.specs.OwnVerdict.{OwnVerdict, OwnDoes, OwnRefuses, own_reached, own_unless}
use Rattle.app_world.specs.View.{AppView, HeldDocument, holding_at}

-- who gives rights holds them: nothing changes in its own view
abbrev pub own_grant_reached : AppView → RightsCall → Option HeldDocument → OwnVerdict
own_grant_reached v call None = OwnRefuses Code.NotFound
own_grant_reached v call (Some d) =
    own_unless (not (may_grant d.rights (rights_named call.names))) Code.NotAllowed
    (OwnDoes v Answer.Done)

abbrev pub own_grant : AppView → RightsCall → OwnVerdict
own_grant v call =
    own_unless (not (are_rights_arguments call)) Code.InvalidArgument
    (own_grant_reached v call (own_reached v call.doc))

-- ---- what is touched

-- the rights of a set that the application does not hold yet, if any
abbrev pub gained_if : State → Document → RightSet → List Effect
gained_if s d more = cond (holds_any more) (Gained d more (holding_at s.files d) ∷ []) []

abbrev pub gained_in : List ℕ → State → RightSet → Document → List Effect
gained_in app s set d = gained_if s d (minus set (held_of s.rights app d.id.number))

abbrev pub granted_to : List ℕ → State → RightsCall → Option Document → List Effect
granted_to app s call None = []
granted_to app s call (Some d) = gained_in app s (rights_named call.names) d

-- where it is done and names the application
abbrev pub grant_touch : List ℕ → State → RightsCall → List Effect
grant_touch app s call =
    cond (is_same call.app app) (granted_to app s call (document_named s.documents call.doc)) []
