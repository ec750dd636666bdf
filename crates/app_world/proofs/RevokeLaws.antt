-- RevokePermissions: what it is to the application that asks, and to another.
use Rattle.std.proofs.Common.{◌≡◌, ℕ, ◌==◌, List, [], ◌∷◌, Bool, true, false, not, ◌&&◌, cond, Option, Some, None, refl, sym, ap, ◌∙◌, subst}
use Rattle.std.specs.Option.{option_map}
use Rattle.portal_base.specs.Names.{is_same}
use Rattle.portal_base.specs.declared.who.Who.{Who}
use Rattle.rights_rule.specs.Rights.{RightSet, holds_any, minus, rights_named}
use Rattle.portal_model.specs.declared.reply.Answer.{Answer}
use Rattle.portal_model.specs.declared.reply.Code.TheVariants as Code
use Rattle.portal_model.specs.declared.request.RightsCall.{RightsCall}
use Rattle.portal_model.specs.declared.state.Document.{Document}
use Rattle.portal_model.specs.Arguments.{document_named, reached}
use Rattle.portal_model.specs.Grant.{are_rights_arguments}
use Rattle.portal_model.specs.Revoke.{may_revoke, names_itself, revoke, revoked, revoke_reached}
use Rattle.portal_model.specs.Rights.{held_by, take_rights}
use Rattle.portal_model.specs.State.{State, document_of, held_in, held_of}
use Rattle.portal_model.specs.Verdict.{does}
use Rattle.portal_model.proofs.ListLookups.{nat_is}
use Rattle.portal_model.proofs.TripleOrder.{is_same-sym}
use Rattle.app_world.specs.Effect.{Lost, apply, apply_all}
use Rattle.app_world.specs.OwnVerdict.{OwnDoes}
use Rattle.app_world.specs.Revoke.{common, lost_in, own_revoke, own_revoked, own_revoke_reached, revoked_from, revoke_touch}
use Rattle.app_world.specs.View.{AppView, held_document, own_connections, seen, view}
use Rattle.app_world.proofs.EffectLaws.{view-lost}
use Rattle.app_world.proofs.HeldLaws.{held-take, minus-common, minus-nothing}
use Rattle.app_world.proofs.ReachedLaws.{IsTouched, own_reached-is, reached-named, seen-unless, seen_verdict, touched-unless}
use Rattle.app_world.proofs.ViewLaws.{view-documents}

-- ---- rights that are taken in a document

module _ (app : List ℕ) (s : State) (call : RightsCall) (d : Document) where
  abbrev set : RightSet
  set = rights_named call.names

  abbrev was : ℕ → RightSet
  was n = held_of s.rights app n

  abbrev now : ℕ → RightSet
  now n = held_of (take_rights call.app d.id.number set s.rights) app n

  now-is : (n : ℕ) (b c : Bool) → (n == d.id.number) ≡ b → is_same app call.app ≡ c → now n ≡ cond (b && c) (minus (was n) set) (was n)
  now-is n b c e f = held-take app n call.app d.id.number set s.rights ∙ (λ i. cond (e i && f i) (minus (was n) set) (was n))

  -- of the named application, whatever less says, as long as it takes the same
  now-named : (less : RightSet) → minus (was d.id.number) set ≡ minus (was d.id.number) less → is_same app call.app ≡ true → (n : ℕ) (b : Bool) → (n == d.id.number) ≡ b →
      now n ≡ cond b (minus (was n) less) (was n)
  now-named less g f n true e = now-is n true true e f ∙ subst (λ (k : ℕ). minus (was k) set ≡ minus (was k) less) (sym (nat_is n d.id.number e)) g
  now-named less g f n false e = now-is n false true e f

  unchanged : ((n : ℕ) → now n ≡ was n) → view s app ≡ view (revoked s call d) app
  unchanged e = view-documents app s s.documents (take_rights call.app d.id.number set s.rights) (λ n. ap (λ (k : RightSet). seen k (document_of s.documents n)) (sym (e n)))

  pub taken-named : (less : RightSet) → minus (was d.id.number) set ≡ minus (was d.id.number) less → is_same app call.app ≡ true → apply (view s app) (Lost d.id less) ≡ view (revoked s call d) app
  taken-named less g f = view-lost s.limits (held_in s) s.documents was now (own_connections app s.handles s.connections) d.id less (λ n. now-named less g f n (n == d.id.number) refl)

  other-keeps : (n : ℕ) (b : Bool) → (n == d.id.number) ≡ b → is_same app call.app ≡ false → now n ≡ was n
  other-keeps n true e f = now-is n true false e f
  other-keeps n false e f = now-is n false false e f

  pub taken-other : is_same app call.app ≡ false → view s app ≡ view (revoked s call d) app
  taken-other f = unchanged (λ n. other-keeps n (n == d.id.number) refl f)

  abbrev less_held : RightSet
  less_held = common set (was d.id.number)

  kept-named : is_same app call.app ≡ true → holds_any less_held ≡ false → (n : ℕ) (b : Bool) → (n == d.id.number) ≡ b → now n ≡ was n
  kept-named f g n true e =
      now-named less_held (minus-common (was d.id.number) set) f n true e ∙ subst (λ (k : ℕ). minus (was k) less_held ≡ was k) (sym (nat_is n d.id.number e)) (minus-nothing (was d.id.number) less_held g)
  kept-named f g n false e = now-named less_held (minus-common (was d.id.number) set) f n false e

  lost-named : is_same app call.app ≡ true → (b : Bool) → holds_any less_held ≡ b → apply_all (view s app) (cond b (Lost d.id less_held ∷ []) []) ≡ view (revoked s call d) app
  lost-named f true g = taken-named less_held (minus-common (was d.id.number) set) f
  lost-named f false g = unchanged (λ n. kept-named f g n (n == d.id.number) refl)

  pub taken-seen : (b : Bool) → is_same call.app app ≡ b → apply_all (view s app) (cond b (lost_in app s set d) []) ≡ view (revoked s call d) app
  taken-seen true f = lost-named (is_same-sym app call.app ∙ f) (holds_any less_held) refl
  taken-seen false f = taken-other (is_same-sym app call.app ∙ f)

-- ---- of another

module _ (app : List ℕ) (s : State) (who : Who) (call : RightsCall) where
  touched-reached : (o : Option Document) → ((d : Document) → o ≡ Some d → document_named s.documents call.doc ≡ Some d) → IsTouched app s (revoke_touch app s call) (revoke_reached s who call o)
  touched-reached None n = tt
  touched-reached (Some d) n =
      touched-unless app s (revoke_touch app s call) (not (may_revoke (held_by s.rights who d.id.number) (names_itself who call.app))) Code.NotAllowed (does (revoked s call d) Answer.Done) (
        refl,
        ap (λ (o : Option Document). apply_all (view s app) (cond (is_same call.app app) (revoked_from app s call o) [])) (n d refl) ∙ taken-seen app s call d (is_same call.app app) refl,
      )

  -- another's Revoke gives the view after it by what it touches
  pub revoke-other : IsTouched app s (revoke_touch app s call) (revoke s who call)
  revoke-other =
      touched-unless app s (revoke_touch app s call) (not (are_rights_arguments call)) Code.InvalidArgument (revoke_reached s who call (reached s who call.doc))
      (touched-reached (reached s who call.doc) (λ d e. reached-named s who call.doc d e))

-- ---- of the application itself

module _ (app : List ℕ) (s : State) (call : RightsCall) where
  abbrev held : ℕ → RightSet
  held n = held_of s.rights app n

  own_revoked-is : (d : Document) (c : Bool) → is_same app call.app ≡ c → own_revoked (view s app) call (held_document held d) c ≡ view (revoked s call d) app
  own_revoked-is d true f = taken-named app s call d (rights_named call.names) refl f
  own_revoked-is d false f = taken-other app s call d f

  own-by : (o : Option Document) → own_revoke_reached app (view s app) call (option_map (held_document held) o) ≡ seen_verdict app (revoke_reached s (Who.App app) call o)
  own-by None = refl
  own-by (Some d) =
      seen-unless app (not (may_revoke (held d.id.number) (is_same app call.app))) Code.NotAllowed _ (does (revoked s call d) Answer.Done)
      (ap (λ (v : AppView). OwnDoes v Answer.Done) (own_revoked-is d (is_same app call.app) refl))

  -- the application's own Revoke comes to the same in its view
  pub revoke-own : own_revoke app (view s app) call ≡ seen_verdict app (revoke s (Who.App app) call)
  revoke-own =
      seen-unless app (not (are_rights_arguments call)) Code.InvalidArgument _ (revoke_reached s (Who.App app) call (reached s (Who.App app) call.doc))
      (ap (own_revoke_reached app (view s app) call) (own_reached-is app s call.doc) ∙ own-by (reached s (Who.App app) call.doc))
