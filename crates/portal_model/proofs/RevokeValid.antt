-- A RevokePermissions leaves a valid state valid.
use Rattle.std.proofs.Common.{Option, Some, None}
use Rattle.portal_base.specs.declared.who.Who.{Who}
use Rattle.rights_rule.specs.Rights.{rights_named}
use Rattle.portal_model.specs.declared.reply.Answer.{Answer}
use Rattle.portal_model.specs.declared.reply.Code.{Code}
use Rattle.portal_model.specs.declared.request.RightsCall.{RightsCall}
use Rattle.portal_model.specs.declared.state.Document.{Document}
use Rattle.portal_model.specs.Arguments.{reached}
use Rattle.portal_model.specs.Grant.{are_rights_arguments}
use Rattle.portal_model.specs.Revoke.{may_revoke, names_itself, revoke, revoke_reached, revoked}
use Rattle.portal_model.specs.Rights.{held_by, take_rights}
use Rattle.portal_model.specs.State.{State}
use Rattle.portal_model.specs.Valid.{Valid}
use Rattle.portal_model.specs.Verdict.{Doing, does}
use Rattle.portal_model.proofs.DocumentChanges.{documented-taken}
use Rattle.portal_model.proofs.WalkDoings.{IfDoes, if-passes}
use Rattle.portal_model.proofs.SoundParts.{fewer-lists, valid-seats, valid-sound}

module _ (P : Doing → Type 0) (valid : (d : Doing) → Valid d.state → P d) (s : State) (who : Who) (call : RightsCall) (v : Valid s) where
  revoke_reached-valid : (o : Option Document) → IfDoes P (revoke_reached s who call o)
  revoke_reached-valid None = tt
  revoke_reached-valid (Some d) =
      let listed = rights_named call.names in
      if-passes P (may_revoke (held_by s.rights who d.id.number) (names_itself who call.app)) Code.NotAllowed (does (revoked s call d) Answer.Done)
      (λ may. valid _ (fewer-lists s s.documents (take_rights call.app d.id.number listed s.rights) v
      (documented-taken s.documents s.made s.rights s.applications call.app d.id listed (valid-sound s v).documented d.id.number) v.documents_within v.folders_sound (valid-seats s v)))

  pub revoke-valid : IfDoes P (revoke s who call)
  revoke-valid =
      if-passes P (are_rights_arguments call) Code.InvalidArgument (revoke_reached s who call (reached s who call.doc)) (λ arguments. revoke_reached-valid (reached s who call.doc))
