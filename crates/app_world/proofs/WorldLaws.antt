-- The world of one application: a step, and a whole history, by the laws of each kind alone.
use Rattle.std.proofs.Common.{◌≡◌, ℕ, List, [], ◌∷◌, ◌++◌, Bool, true, false, cond, refl, sym, ap, ◌∙◌, map}
use Rattle.portal_model.specs.declared.entry.Entry.{Entry}
use Rattle.portal_model.specs.declared.entry.Given.{Given}
use Rattle.portal_model.specs.declared.reply.Reply.{Reply}
use Rattle.portal_model.specs.declared.request.Request.{Request}
use Rattle.portal_model.specs.History.{EachLawful, makes, replies}
use Rattle.portal_model.specs.Lawful.{Lawful}
use Rattle.portal_model.specs.State.{State}
use Rattle.portal_model.specs.Step.{after, reply_at}
use Rattle.portal_model.specs.Valid.{Valid}
use Rattle.portal_model.proofs.StaysTold.{step_told}
use Rattle.portal_model.proofs.ValidLaws.{after-Valid}
use Rattle.app_world.specs.Effect as effect
use Rattle.app_world.specs.Effect.{Effect, apply, apply_all}
use Rattle.app_world.specs.TraceItem as item
use Rattle.app_world.specs.TraceItem.{TraceItem, item_of}
use Rattle.app_world.specs.Laws.{StepsSeen, asks}
use Rattle.app_world.specs.View.{AppView, view}
use Rattle.app_world.specs.World.{app_run, app_step, items, own_of, own_replies, touch, trace}
use Rattle.app_world.proofs.KindLaws.{additions, collects, deletions, enters, grants, informations, leaves, listings, lookups, node_requests, presentations, revocations, store_calls}

-- ---- an entry, by its kind

-- that the application makes: its machine gives the view after, and the reply
step_own : (app : List ℕ) (s : State) (seat : ℕ) (request : Request) (given : Given) → s.told ≡ true → Valid s → Lawful s (asks seat request given) → makes app s (asks seat request given) ≡ true →
    app_step (view s app) (own_of s (asks seat request given)) ≡ (view (after s (asks seat request given)) app, reply_at s (asks seat request given))
step_own app s seat (Request.Enter who kind) given t v l m = enters.own app s seat (who, kind) given v m
step_own app s seat Request.Leave given t v l m = leaves.own app s seat tt given v m
step_own app s seat Request.Collect given t v l m = collects.own app s seat tt given v m
step_own app s seat (Request.Present path) given t v l m = presentations.own app s seat path given v m
step_own app s seat (Request.Grant call) given t v l m = grants.own app s seat call given v m
step_own app s seat (Request.Revoke call) given t v l m = revocations.own app s seat call given v m
step_own app s seat (Request.DeleteDocument doc) given t v l m = deletions.own app s seat doc given v m
step_own app s seat (Request.LookupDocument path) given t v l m = lookups.own app s seat path given v m
step_own app s seat (Request.Info doc) given t v l m = informations.own app s seat doc given v m
step_own app s seat (Request.ListDocuments name) given t v l m = listings.own app s seat name given v m
step_own app s seat (Request.Store call) given t v l m = store_calls.own app s seat call given v m
step_own app s seat (Request.Add a) given t v l m = additions.own app s seat a given t v l m
step_own app s seat (Request.Node r) given t v l m = node_requests.own app s seat r given t v l m

-- that it does not make: what is touched gives the view after
step_other : (app : List ℕ) (s : State) (seat : ℕ) (request : Request) (given : Given) → Valid s → Lawful s (asks seat request given) → makes app s (asks seat request given) ≡ false →
    apply_all (view s app) (touch app s (asks seat request given)) ≡ view (after s (asks seat request given)) app
step_other app s seat (Request.Enter who kind) given v l m = enters.other app s seat (who, kind) given v m
step_other app s seat Request.Leave given v l m = leaves.other app s seat tt given v m
step_other app s seat Request.Collect given v l m = collects.other app s seat tt given v m
step_other app s seat (Request.Present path) given v l m = presentations.other app s seat path given v m
step_other app s seat (Request.Grant call) given v l m = grants.other app s seat call given v m
step_other app s seat (Request.Revoke call) given v l m = revocations.other app s seat call given v m
step_other app s seat (Request.DeleteDocument doc) given v l m = deletions.other app s seat doc given v m
step_other app s seat (Request.LookupDocument path) given v l m = lookups.other app s seat path given v m
step_other app s seat (Request.Info doc) given v l m = informations.other app s seat doc given v m
step_other app s seat (Request.ListDocuments name) given v l m = listings.other app s seat name given v m
step_other app s seat (Request.Store call) given v l m = store_calls.other app s seat call given v m
step_other app s seat (Request.Add a) given v l m = additions.other app s seat a given v l m
step_other app s seat (Request.Node r) given v l m = node_requests.other app s seat r given v l m

pub steps : StepsSeen
steps = record {
  own = λ app s e t v l m. step_own app s e.seat e.request e.given t v l m;
  other = λ app s e v l m. step_other app s e.seat e.request e.given v l m;
}

-- ---- a history, by the laws of one step alone

own_replies-changed : (fs : List Effect) (v : AppView) (more : List TraceItem) → own_replies v (map item_of fs ++ more) ≡ own_replies (apply_all v fs) more
own_replies-changed [] v more = refl
own_replies-changed (effect.Gained d rights content ∷ fs) v more = own_replies-changed fs (apply v (effect.Gained d rights content)) more
own_replies-changed (effect.Lost id rights ∷ fs) v more = own_replies-changed fs (apply v (effect.Lost id rights)) more
own_replies-changed (effect.Gone id ∷ fs) v more = own_replies-changed fs (apply v (effect.Gone id)) more
own_replies-changed (effect.Bytes path generation content ∷ fs) v more = own_replies-changed fs (apply v (effect.Bytes path generation content)) more
own_replies-changed (effect.Turned path generation content ∷ fs) v more = own_replies-changed fs (apply v (effect.Turned path generation content)) more

one_entry : (app : List ℕ) (s : State) (e : Entry) (b : Bool) (more : List TraceItem) → makes app s e ≡ b → s.told ≡ true → Valid s → Lawful s e →
    own_replies (view s app) (cond b (item.Own (own_of s e) ∷ []) (map item_of (touch app s e)) ++ more) ≡ cond b (reply_at s e ∷ []) [] ++ own_replies (view (after s e) app) more
one_entry app s e true more m t v l = ap (λ (done : AppView × Reply). done.1 ∷ own_replies done.0 more) (steps.own app s e t v l m)
one_entry app s e false more m t v l =
    own_replies-changed (touch app s e) (view s app) more ∙ ap (λ (x : AppView). own_replies x more) (steps.other app s e v l m)

-- the replies to an application are those of its trace
pub replies_of_trace : (h : List Entry) (app : List ℕ) (s : State) → s.told ≡ true → Valid s → EachLawful s h → replies app s h ≡ app_run (trace app s h)
replies_of_trace [] app s t v l = refl
replies_of_trace (e ∷ es) app s t v l =
    sym (one_entry app s e (makes app s e) (items app (after s e) es) refl t v l.0
    ∙ ap (λ (rs : List Reply). cond (makes app s e) (reply_at s e ∷ []) [] ++ rs) (sym (replies_of_trace es app (after s e) (step_told s e.seat e.request e.given ∙ t) (after-Valid s e v l.0) l.1)))
