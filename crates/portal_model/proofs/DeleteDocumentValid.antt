-- A Delete leaves a valid state valid.
use Rattle.std.proofs.Common.{◌≤◌, ℕ, ◌==◌, length, List, [], ◌∷◌, Bool, not, Option, Some, None, arith}
use Rattle.std.specs.List.{filter}
use Rattle.portal_base.specs.declared.who.Who.{Who}
use Rattle.portal_model.specs.declared.reply.Answer.{Answer}
use Rattle.portal_model.specs.declared.reply.Code.{Code}
use Rattle.portal_model.specs.declared.state.Document.{Document}
use Rattle.portal_model.specs.Arguments.{reached}
use Rattle.portal_model.specs.DeleteDocument.{delete_document, delete_reached, deleted}
use Rattle.portal_model.specs.Rights.{forget_document, held_by}
use Rattle.portal_model.specs.State.{State}
use Rattle.portal_model.specs.Valid.{Valid, is_sound_folder}
use Rattle.portal_model.specs.Verdict.{Doing, does}
use Rattle.portal_model.proofs.DistinctItems.{list_all-filter}
use Rattle.portal_model.proofs.DocumentChanges.{documented-deleted}
use Rattle.portal_model.proofs.SeatsValid.{seats-deleted}
use Rattle.portal_model.proofs.WalkDoings.{IfDoes, if-passes}
use Rattle.portal_model.proofs.SoundParts.{fewer-lists, valid-seats, valid-sound}

filtered_less : {X : Type 0} (p : X → Bool) (xs : List X) → length (filter p xs) ≤ length xs
filtered_less p [] = omega arith
filtered_less p (x ∷ xs) = grind (arith, filtered_less p xs)

le_trans : (a b c : ℕ) → a ≤ b → b ≤ c → a ≤ c
le_trans a b c h k = omega arith

module _ (P : Doing → Type 0) (valid : (d : Doing) → Valid d.state → P d) (s : State) (who : Who) (v : Valid s) where
  delete_reached-valid : (o : Option Document) → IfDoes P (delete_reached s who o)
  delete_reached-valid None = tt
  delete_reached-valid (Some d) =
      let number = d.id.number in
      let left : List Document = filter (λ (x : Document). not (x.id.number == number)) s.documents in
      if-passes P (held_by s.rights who number).delete Code.NotAllowed (does (deleted s number) Answer.Done)
      (λ may. valid _ (fewer-lists s left (forget_document number s.rights) v
      (documented-deleted s.documents s.made s.rights s.applications number (valid-sound s v).documented)
      (le_trans (length left) (length s.documents) s.limits.documents (filtered_less (λ (x : Document). not (x.id.number == number)) s.documents) v.documents_within)
      (list_all-filter (is_sound_folder s.told s.files) (λ (x : Document). not (x.id.number == number)) s.documents v.folders_sound)
      (seats-deleted s.made s.documents number s.told s.taken s.connections (valid-seats s v))))

  pub delete-valid : (doc : List ℕ) → IfDoes P (delete_document s who doc)
  delete-valid doc = delete_reached-valid (reached s who doc)
