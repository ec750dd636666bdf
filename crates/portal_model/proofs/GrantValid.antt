-- A GrantPermissions leaves a valid state valid, where no limit is met.
use Rattle.std.proofs.Common.{◌≡◌, ℕ, List, true, false, Option, Some, None}
use Rattle.portal_base.specs.Names.{is_app_name}
use Rattle.portal_base.specs.declared.names.doc_id.DocId.{DocId}
use Rattle.portal_base.specs.declared.who.Who.{Who}
use Rattle.rights_rule.specs.Rights.{RightSet, are_right_names, rights_named}
use Rattle.portal_model.specs.declared.reply.Code.{Code}
use Rattle.portal_model.specs.declared.request.RightsCall.{RightsCall}
use Rattle.portal_model.specs.declared.state.Document.{Document}
use Rattle.portal_model.specs.Arguments.{reached}
use Rattle.portal_model.specs.Grant.{are_rights_arguments, given_rights, grant, grant_reached, granted, may_grant, numbered_with}
use Rattle.portal_model.specs.Rights.{add_rights, held_by}
use Rattle.portal_model.specs.State.{State}
use Rattle.portal_model.specs.Valid.{Valid}
use Rattle.portal_model.specs.Verdict.{Doing}
use Rattle.portal_model.proofs.DocumentChanges.{documented-given, first_of_both}
use Rattle.portal_model.proofs.WalkDoings.{IfDoes, if-passes}
use Rattle.portal_model.proofs.LiveDocuments.{IsLive, live-reached}
use Rattle.portal_model.proofs.SoundParts.{Sound, is_live, sound-lists, sound-valid, valid-sound}

-- rights that are given in a live document
pub given-sound : (app : List ℕ) (id : DocId) (set : RightSet) (s : State) → is_app_name app ≡ true → is_live s.documents id.number ≡ true → Sound s → Sound (given_rights app id set s)
given-sound app id set s named live k =
    sound-lists s s.documents s.made (add_rights app id set s.rights) (numbered_with app set s.applications) k
    (documented-given s.documents s.made s.rights s.applications app id set k.documented named live) k.handles_made k.folders_sound k.seats_sound

module _ (P : Doing → Type 0) (valid : (d : Doing) → (d.exceeds ≡ false → Valid d.state) → P d) (s : State) (who : Who) (call : RightsCall) (v : Valid s) where
  grant_reached-valid : is_app_name call.app ≡ true → (o : Option Document) → IsLive s.documents o → IfDoes P (grant_reached s who call o)
  grant_reached-valid named None h = tt
  grant_reached-valid named (Some d) h =
      let listed = rights_named call.names in
      let after : State = given_rights call.app d.id listed s in
      if-passes P (may_grant (held_by s.rights who d.id.number) listed) Code.NotAllowed (granted s call d)
      (λ may. valid _ (λ e. sound-valid after e (given-sound call.app d.id listed s named h (valid-sound s v))))

  pub grant-valid : IfDoes P (grant s who call)
  grant-valid =
      if-passes P (are_rights_arguments call) Code.InvalidArgument (grant_reached s who call (reached s who call.doc))
      (λ arguments. grant_reached-valid (first_of_both (is_app_name call.app) (are_right_names call.names) arguments) (reached s who call.doc) (live-reached s who call.doc))
