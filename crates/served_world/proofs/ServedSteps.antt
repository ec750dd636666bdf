-- One entry, as an application sees it over any tree.
use Rattle.std.proofs.Common.{◌≡◌, ℕ, List, [], ◌∷◌, Bool, true, false, cond, refl, sym, ap, ◌∙◌, map}
use Rattle.std.specs.List.{flat_map}
use Rattle.portal_model.specs.declared.entry.Entry.{Entry}
use Rattle.portal_model.specs.declared.entry.Given.{Given}
use Rattle.portal_model.specs.declared.reply.Reply.{Reply}
use Rattle.portal_model.specs.declared.request.Request.{Request}
use Rattle.portal_model.specs.Alike.{Alike}
use Rattle.portal_model.specs.History.{makes}
use Rattle.portal_model.specs.Lawful.{Lawful}
use Rattle.portal_model.specs.State.{State, connection_of, held_of}
use Rattle.portal_model.specs.Step.{after, reply_at, step}
use Rattle.portal_model.specs.Valid.{Valid}
use Rattle.app_world.specs.Laws.{asks}
use Rattle.app_world.specs.View.{Alone, AppView, view}
use Rattle.app_world.specs.World.{app_step, own_of, touch}
use Rattle.app_world.proofs.KindLaws.{collects, deletions, enters, grants, informations, leaves, listings, lookups, presentations, revocations, store_calls}
use Rattle.app_world.proofs.ViewLaws.{still_held}
use Rattle.app_world.proofs.WorldLaws.{steps}
use Rattle.served_world.specs.Laws.{ServedStepsSeen}
use Rattle.served_world.specs.ServedItem as item
use Rattle.served_world.specs.ServedItem.{bare, items_of_effect}
use Rattle.served_world.specs.ServedOwn.{served_own, shown_by_look}
use Rattle.served_world.specs.ServedWorld.{bare_done, served_items_of, served_step, views_after}
use Rattle.served_world.proofs.BareBuses.{IsPlain}
use Rattle.served_world.proofs.BareViews.{effects-bare}
use Rattle.served_world.proofs.ServedBuses.{add-own-bare, bare_seen, step-bare}
use Rattle.served_world.proofs.ServedNodes.{IsSeen, node-own-seen, node-own-untold}

-- ---- an own entry

-- what isn't asked of a node
abbrev IsElsewhere : Request → Type 0
IsElsewhere (Request.Node r) = ⊥
IsElsewhere request = Unit {0}

-- where the replies are the same
same-alike : (request : Request) → IsElsewhere request → (x y : Reply) → x ≡ y → Alike false request x y
same-alike (Request.Node r) h x y e = absurd h
same-alike request h x y e = (sym (ap (λ (reply : Reply). reply.signals) e), sym (ap (λ (reply : Reply). reply.answer) e))

module _ (app : List ℕ) (s : State) (seat : ℕ) (given : Given) (v : Valid s) where
  abbrev Asked : Request → Entry
  Asked request = asks seat request given

  -- the very same is replied
  abbrev IsExact : Request → Type 0
  IsExact request = served_step (bare (view s app)) (served_own s (Asked request)) ≡ bare_seen app (step s (Asked request))

  -- as over a tree that tells, whatever the outside gave
  plain : (request : Request) → IsPlain request → app_step (view s app) (own_of s (Asked request)) ≡ (view (after s (Asked request)) app, reply_at s (Asked request)) → IsExact request
  plain (Request.Node r) h e = absurd h
  plain (Request.Add a) h e = absurd h
  plain request h e = step-bare (view s app) (own_of s (Asked request)) (map (λ look. Alone (shown_by_look look)) given.looks) request h ∙ ap bare_done e

  -- of each request but one on a node
  exact : (request : Request) → IsElsewhere request → Lawful s (Asked request) → makes app s (Asked request) ≡ true → IsExact request
  exact (Request.Node r) h l m = absurd h
  exact (Request.Enter who kind) h l m = plain (Request.Enter who kind) tt (enters.own app s seat (who, kind) given v m)
  exact Request.Leave h l m = plain Request.Leave tt (leaves.own app s seat tt given v m)
  exact Request.Collect h l m = plain Request.Collect tt (collects.own app s seat tt given v m)
  exact (Request.Present path) h l m = plain (Request.Present path) tt (presentations.own app s seat path given v m)
  exact (Request.Grant call) h l m = plain (Request.Grant call) tt (grants.own app s seat call given v m)
  exact (Request.Revoke call) h l m = plain (Request.Revoke call) tt (revocations.own app s seat call given v m)
  exact (Request.DeleteDocument doc) h l m = plain (Request.DeleteDocument doc) tt (deletions.own app s seat doc given v m)
  exact (Request.LookupDocument path) h l m = plain (Request.LookupDocument path) tt (lookups.own app s seat path given v m)
  exact (Request.Info doc) h l m = plain (Request.Info doc) tt (informations.own app s seat doc given v m)
  exact (Request.ListDocuments name) h l m = plain (Request.ListDocuments name) tt (listings.own app s seat name given v m)
  exact (Request.Store call) h l m = plain (Request.Store call) tt (store_calls.own app s seat call given v m)
  exact (Request.Add a) h l m = add-own-bare app s seat a given v (connection_of s.connections seat) refl m l.given

  exact-seen : (request : Request) → IsElsewhere request → IsExact request → IsSeen app request (served_step (bare (view s app)) (served_own s (Asked request))) (step s (Asked request))
  exact-seen request h e = (ap (λ (x : AppView × Reply). x.0) e, same-alike request h _ _ (ap (λ (x : AppView × Reply). x.1) e))

  own-seen : (request : Request) → Lawful s (Asked request) → makes app s (Asked request) ≡ true → IsSeen app request (served_step (bare (view s app)) (served_own s (Asked request))) (step s (Asked request))
  own-seen (Request.Node r) l m = node-own-seen app s seat r given v (connection_of s.connections seat) refl m l.given
  own-seen request l m = exact-seen request tt (exact request tt l m)

  own-untold : (request : Request) → s.files ≡ [] → s.hidden ≡ [] → Lawful s (Asked request) → makes app s (Asked request) ≡ true → (served_step (bare (view s app)) (served_own s (Asked request))).1 ≡ reply_at s (Asked request)
  own-untold (Request.Node r) f g l m = node-own-untold app s seat r given v (connection_of s.connections seat) refl m f g l.given
  own-untold request f g l m = ap (λ (x : AppView × Reply). x.1) (exact request tt l m)

-- ---- an entry of another

other-seen : (app : List ℕ) (s : State) (e : Entry) → Valid s → Lawful s e → makes app s e ≡ false → views_after (bare (view s app)) (served_items_of app s e) ≡ bare (view (after s e) app)
other-seen app s e v l m =
    ap (λ (b : Bool). views_after (bare (view s app)) (cond b (item.Own (served_own s e) ∷ []) (flat_map items_of_effect (touch app s e)))) m
    ∙ (effects-bare (touch app s e) (view s app) (still_held (held_of s.rights app) s.documents) ∙ ap bare (steps.other app s e v l m))

pub served_steps : ServedStepsSeen
served_steps = record {
  own_view = λ app s e v l m. (own-seen app s e.seat e.given v e.request l m).0;
  own_reply = λ app s e v l m. (own-seen app s e.seat e.given v e.request l m).1;
  untold = λ app s e t v l m. own-untold app s e.seat e.given v e.request (v.files_told t) (v.generations_sound.none_untold t) l m;
  other = other-seen;
}
