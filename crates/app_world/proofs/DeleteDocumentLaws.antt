-- Delete: what it is to the application that asks, and to another.
use Rattle.std.proofs.Common.{◌≡◌, ℕ, List, [], ◌∷◌, Bool, true, false, not, cond, Option, Some, None, refl, ap, ◌∙◌}
use Rattle.std.specs.Option.{option_map}
use Rattle.portal_base.specs.declared.who.Who.{Who}
use Rattle.rights_rule.specs.Rights.{RightSet, holds_any}
use Rattle.portal_model.specs.declared.reply.Answer.{Answer}
use Rattle.portal_model.specs.declared.reply.Code.TheVariants as Code
use Rattle.portal_model.specs.declared.state.Document.{Document}
use Rattle.portal_model.specs.Arguments.{document_named, reached}
use Rattle.portal_model.specs.DeleteDocument.{delete_document, delete_reached, deleted}
use Rattle.portal_model.specs.Rights.{forget_document, held_by}
use Rattle.portal_model.specs.State.{State, held_in, held_of}
use Rattle.portal_model.specs.Verdict.{does}
use Rattle.app_world.specs.DeleteDocument.{deleted_from, delete_touch, own_delete_document, own_delete_reached}
use Rattle.app_world.specs.Effect.{Gone, apply, apply_all}
use Rattle.app_world.specs.OwnVerdict.{OwnDoes}
use Rattle.app_world.specs.View.{AppView, held_document, own_connections, view}
use Rattle.app_world.proofs.EffectLaws.{view-gone, view-gone-unseen}
use Rattle.app_world.proofs.HeldLaws.{held-forget}
use Rattle.app_world.proofs.ReachedLaws.{IsTouched, own_reached-is, reached-named, seen-unless, seen_verdict, touched-unless}

module _ (app : List ℕ) (s : State) where
  abbrev held : ℕ → RightSet
  held n = held_of s.rights app n

  -- ---- a document gone

  module _ (d : Document) where
    abbrev now : ℕ → RightSet
    now n = held_of (forget_document d.id.number s.rights) app n

    gone-seen : apply (view s app) (Gone d.id) ≡ view (deleted s d.id.number) app
    gone-seen = view-gone s.limits (held_in s) s.documents held now (own_connections app s.handles s.connections) d.id (λ n e. held-forget app n d.id.number s.rights e)

    gone-touched : (b : Bool) → holds_any (held d.id.number) ≡ b → apply_all (view s app) (cond b (Gone d.id ∷ []) []) ≡ view (deleted s d.id.number) app
    gone-touched true f = gone-seen
    gone-touched false f = view-gone-unseen s.limits (held_in s) s.documents held now (own_connections app s.handles s.connections) d.id (λ n e. held-forget app n d.id.number s.rights e) f

  -- ---- of another

  touched-reached : (who : Who) (doc : List ℕ) (o : Option Document) → ((d : Document) → o ≡ Some d → document_named s.documents doc ≡ Some d) → IsTouched app s (delete_touch app s doc) (delete_reached s who o)
  touched-reached who doc None n = tt
  touched-reached who doc (Some d) n =
      touched-unless app s (delete_touch app s doc) (not (held_by s.rights who d.id.number).delete) Code.NotAllowed (does (deleted s d.id.number) Answer.Done) (
        refl,
        ap (λ (o : Option Document). apply_all (view s app) (deleted_from app s o)) (n d refl) ∙ gone-touched d (holds_any (held d.id.number)) refl,
      )

  -- another's Delete gives the view after it by what it touches
  pub delete-other : (who : Who) (doc : List ℕ) → IsTouched app s (delete_touch app s doc) (delete_document s who doc)
  delete-other who doc = touched-reached who doc (reached s who doc) (λ d e. reached-named s who doc d e)

  -- ---- of the application itself

  own-by : (o : Option Document) → own_delete_reached (view s app) (option_map (held_document held) o) ≡ seen_verdict app (delete_reached s (Who.App app) o)
  own-by None = refl
  own-by (Some d) =
      seen-unless app (not (held d.id.number).delete) Code.NotAllowed _ (does (deleted s d.id.number) Answer.Done) (ap (λ (v : AppView). OwnDoes v Answer.Done) (gone-seen d))

  -- the application's own Delete comes to the same in its view
  pub delete-own : (doc : List ℕ) → own_delete_document (view s app) doc ≡ seen_verdict app (delete_document s (Who.App app) doc)
  delete-own doc = ap (own_delete_reached (view s app)) (own_reached-is app s doc) ∙ own-by (reached s (Who.App app) doc)
