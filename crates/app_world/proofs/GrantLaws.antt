-- GrantPermissions: what it is to the application that asks, and to another.
use Rattle.std.proofs.Common.{◌≡◌, ℕ, ◌==◌, List, [], ◌∷◌, Bool, true, false, not, ◌&&◌, cond, Option, Some, None, refl, sym, ap, ◌∙◌, subst, arith}
use Rattle.std.specs.Option.{option_map}
use Rattle.portal_base.specs.Names.{is_same}
use Rattle.portal_base.specs.declared.who.Who.{Who}
use Rattle.rights_rule.specs.Rights.{RightSet, contains, holds_any, minus, rights_named, union}
use Rattle.portal_model.specs.declared.reply.Answer.{Answer}
use Rattle.portal_model.specs.declared.reply.Code.TheVariants as Code
use Rattle.portal_model.specs.declared.request.RightsCall.{RightsCall}
use Rattle.portal_model.specs.declared.state.Document.{Document}
use Rattle.portal_model.specs.Arguments.{document_named, reached}
use Rattle.portal_model.specs.Grant.{are_rights_arguments, given_rights, grant, granted, grant_reached, may_grant}
use Rattle.portal_model.specs.Rights.{add_rights, held_by}
use Rattle.portal_model.specs.State.{State, document_of, held_in, held_of}
use Rattle.portal_model.specs.Verdict.{unless}
use Rattle.portal_model.proofs.ListLookups.{nat_is}
use Rattle.app_world.specs.Effect.{Gained, apply_all}
use Rattle.app_world.specs.Grant.{gained_in, granted_to, grant_touch, own_grant, own_grant_reached}
use Rattle.app_world.specs.OwnVerdict.{OwnDoes, own_unless}
use Rattle.app_world.specs.View.{AppView, held_document, holding_at, own_connections, seen, view}
use Rattle.app_world.proofs.EffectLaws.{view-gained}
use Rattle.app_world.proofs.HeldLaws.{held-add, union-new, union-nothing}
use Rattle.app_world.proofs.ReachedLaws.{IsTouched, own_reached-is, reached-live, reached-named, seen-unless, seen_verdict, touched-unless}
use Rattle.app_world.proofs.ViewLaws.{view-documents}

-- ---- rights that are given in a live document

module _ (app : List ℕ) (s : State) (d : Document) (live : document_of s.documents d.id.number ≡ Some d) (named : List ℕ) (set : RightSet) where
  abbrev was : ℕ → RightSet
  was n = held_of s.rights app n

  abbrev now : ℕ → RightSet
  now n = held_of (add_rights named d.id set s.rights) app n

  abbrev more : RightSet
  more = minus set (was d.id.number)

  live-still : (n : ℕ) (b : Bool) → (d.id.number == n) ≡ b → document_of s.documents n ≡ cond b (Some d) (document_of s.documents n)
  live-still n true e = ap (document_of s.documents) (sym (nat_is d.id.number n e)) ∙ live
  live-still n false e = refl

  now-is : (n : ℕ) (b c : Bool) → (d.id.number == n) ≡ b → is_same named app ≡ c → now n ≡ cond (b && c) (union (was n) set) (was n)
  now-is n b c e f = held-add app n named d.id set s.rights ∙ (λ i. cond (e i && f i) (union (was n) set) (was n))

  now-named : is_same named app ≡ true → (n : ℕ) (b : Bool) → (d.id.number == n) ≡ b → now n ≡ cond b (union (was n) more) (was n)
  now-named f n true e =
      now-is n true true e f ∙ subst (λ (k : ℕ). union (was k) set ≡ union (was k) more) (nat_is d.id.number n e) (sym (union-new (was d.id.number) set))
  now-named f n false e = now-is n false true e f

  kept-named : is_same named app ≡ true → holds_any more ≡ false → (n : ℕ) (b : Bool) → (d.id.number == n) ≡ b → now n ≡ was n
  kept-named f g n true e = now-named f n true e ∙ subst (λ (k : ℕ). union (was k) more ≡ was k) (nat_is d.id.number n e) (union-nothing (was d.id.number) more g)
  kept-named f g n false e = now-named f n false e

  unchanged : ((n : ℕ) → now n ≡ was n) → view s app ≡ view (given_rights named d.id set s) app
  unchanged e = view-documents app s s.documents (add_rights named d.id set s.rights) (λ n. ap (λ (k : RightSet). seen k (document_of s.documents n)) (sym (e n)))

  -- to the application that is named
  given-named : is_same named app ≡ true → (b : Bool) → holds_any more ≡ b → apply_all (view s app) (cond b (Gained d more (holding_at s.files d) ∷ []) []) ≡ view (given_rights named d.id set s) app
  given-named f true g =
      view-gained s.limits (held_in s) s.documents s.documents was now (own_connections app s.handles s.connections) d more
      (λ n. live-still n (d.id.number == n) refl) (λ n. now-named f n (d.id.number == n) refl) (ap (seen (was d.id.number)) live)
  given-named f false g = unchanged (λ n. kept-named f g n (d.id.number == n) refl)

  other-keeps : (n : ℕ) (b : Bool) → (d.id.number == n) ≡ b → is_same named app ≡ false → now n ≡ was n
  other-keeps n true e f = now-is n true false e f
  other-keeps n false e f = now-is n false false e f

  -- to any other
  given-other : is_same named app ≡ false → view s app ≡ view (given_rights named d.id set s) app
  given-other f = unchanged (λ n. other-keeps n (d.id.number == n) refl f)

  pub given-seen : (b : Bool) → is_same named app ≡ b → apply_all (view s app) (cond b (gained_in app s set d) []) ≡ view (given_rights named d.id set s) app
  given-seen true f = given-named f (holds_any more) refl
  given-seen false f = given-other f

  nothing-new : (k : RightSet) → contains k set ≡ true → holds_any (minus set k) ≡ false
  nothing-new k e = grind arith

  -- to one that holds them all
  pub given-held : contains (was d.id.number) set ≡ true → (b : Bool) → is_same named app ≡ b → view s app ≡ view (given_rights named d.id set s) app
  given-held c true f = given-named f false (nothing-new (was d.id.number) c)
  given-held c false f = given-other f

-- ---- of another

module _ (app : List ℕ) (s : State) (who : Who) (call : RightsCall) where
  touched-reached : (o : Option Document) → ((d : Document) → o ≡ Some d → document_named s.documents call.doc ≡ Some d) → ((d : Document) → o ≡ Some d → document_of s.documents d.id.number ≡ Some d) →
      IsTouched app s (grant_touch app s call) (grant_reached s who call o)
  touched-reached None n l = tt
  touched-reached (Some d) n l =
      touched-unless app s (grant_touch app s call) (not (may_grant (held_by s.rights who d.id.number) (rights_named call.names))) Code.NotAllowed (granted s call d) (
        refl,
        ap (λ (o : Option Document). apply_all (view s app) (cond (is_same call.app app) (granted_to app s call o) [])) (n d refl)
            ∙ given-seen app s d (l d refl) call.app (rights_named call.names) (is_same call.app app) refl,
      )

  -- another's Grant gives the view after it by what it touches
  pub grant-other : IsTouched app s (grant_touch app s call) (grant s who call)
  grant-other =
      touched-unless app s (grant_touch app s call) (not (are_rights_arguments call)) Code.InvalidArgument (grant_reached s who call (reached s who call.doc))
      (touched-reached (reached s who call.doc) (λ d e. reached-named s who call.doc d e) (λ d e. reached-live s who call.doc d e))

-- ---- of the application itself

module _ (app : List ℕ) (s : State) (call : RightsCall) where
  abbrev held : ℕ → RightSet
  held n = held_of s.rights app n

  own-allowed : (d : Document) → document_of s.documents d.id.number ≡ Some d → (b : Bool) → may_grant (held d.id.number) (rights_named call.names) ≡ b →
      own_unless (not b) Code.NotAllowed (OwnDoes (view s app) Answer.Done) ≡ seen_verdict app (unless (not b) Code.NotAllowed (granted s call d))
  own-allowed d l true e =
      let c : contains (held d.id.number) (rights_named call.names) ≡ true = grind arith in
      ap (λ (v : AppView). OwnDoes v Answer.Done) (given-held app s d l call.app (rights_named call.names) c (is_same call.app app) refl)
  own-allowed d l false e = refl

  own-by : (o : Option Document) → ((d : Document) → o ≡ Some d → document_of s.documents d.id.number ≡ Some d) →
      own_grant_reached (view s app) call (option_map (held_document held) o) ≡ seen_verdict app (grant_reached s (Who.App app) call o)
  own-by None l = refl
  own-by (Some d) l = own-allowed d (l d refl) (may_grant (held d.id.number) (rights_named call.names)) refl

  -- the application's own Grant comes to the same in its view
  pub grant-own : own_grant (view s app) call ≡ seen_verdict app (grant s (Who.App app) call)
  grant-own =
      seen-unless app (not (are_rights_arguments call)) Code.InvalidArgument _ (grant_reached s (Who.App app) call (reached s (Who.App app) call.doc))
      (ap (own_grant_reached (view s app) call) (own_reached-is app s call.doc) ∙ own-by (reached s (Who.App app) call.doc) (λ d e. reached-live s (Who.App app) call.doc d e))
