-- A whole history over any tree: the replies to an application are alike to those of its trace.
use Rattle.std.proofs.Common.{◌≡◌, ℕ, List, [], ◌∷◌, ◌++◌, length, Bool, true, false, cond, Some, refl, sym, ap, subst, ◌∙◌, map}
use Rattle.std.specs.Prelude.{slice_get}
use Rattle.std.specs.List.{flat_map}
use Rattle.portal_model.specs.declared.entry.Entry.{Entry}
use Rattle.portal_model.specs.declared.reply.Reply.{Reply}
use Rattle.portal_model.specs.declared.request.Request.{Request}
use Rattle.portal_model.specs.Alike.{Alike}
use Rattle.portal_model.specs.History.{EachLawful, Legal, makes, replies, run}
use Rattle.portal_model.specs.Lawful.{Lawful}
use Rattle.portal_model.specs.State.{State}
use Rattle.portal_model.specs.Step.{after, reply_at}
use Rattle.portal_model.specs.Valid.{Valid}
use Rattle.portal_model.proofs.StaysTold.{step_told}
use Rattle.portal_model.proofs.ValidLaws.{after-Valid}
use Rattle.app_world.specs.Effect as effect
use Rattle.app_world.specs.Effect.{Effect}
use Rattle.app_world.specs.View.{AppView, view}
use Rattle.app_world.specs.World.{touch}
use Rattle.served_world.specs.Laws.{AreAlike, AreGiven, IsolatedOverAnyTree, but_content}
use Rattle.served_world.specs.ServedItem as item
use Rattle.served_world.specs.ServedItem.{ServedItem, bare, items_of_effect}
use Rattle.served_world.specs.ServedOwn.{served_own}
use Rattle.served_world.specs.ServedWorld.{ServedTrace, request_of, requests_in, served_items, served_replies, served_run, served_step, served_trace, view_after, views_after}
use Rattle.served_world.proofs.AlikeReplies.{all-but, all-through, reply-through}
use Rattle.served_world.proofs.ServedSteps.{served_steps}

-- ---- what others change asks nothing

nothing-asked : (fs : List Effect) (more : List ServedItem) → flat_map request_of (flat_map items_of_effect fs ++ more) ≡ flat_map request_of more
nothing-asked [] more = refl
nothing-asked (effect.Gained d rights content ∷ fs) more = nothing-asked fs more
nothing-asked (effect.Lost id rights ∷ fs) more = nothing-asked fs more
nothing-asked (effect.Gone id ∷ fs) more = nothing-asked fs more
nothing-asked (effect.Bytes path generation content ∷ fs) more = nothing-asked fs more
nothing-asked (effect.Turned path generation content ∷ fs) more = nothing-asked fs more

nothing-replied : (fs : List Effect) (v : AppView) (more : List ServedItem) → served_replies v (flat_map items_of_effect fs ++ more) ≡ served_replies (views_after v (flat_map items_of_effect fs)) more
nothing-replied [] v more = refl
nothing-replied (effect.Gained d rights content ∷ fs) v more = nothing-replied fs (view_after v (item.Gained d rights)) more
nothing-replied (effect.Lost id rights ∷ fs) v more = nothing-replied fs (view_after v (item.Lost id rights)) more
nothing-replied (effect.Gone id ∷ fs) v more = nothing-replied fs (view_after v (item.Gone id)) more
nothing-replied (effect.Bytes path generation content ∷ fs) v more = nothing-replied fs v more
nothing-replied (effect.Turned path generation content ∷ fs) v more = nothing-replied fs v more

-- ---- one entry, and then others

-- its items, by whether the application makes it
abbrev items_by : List ℕ → State → Entry → Bool → List ServedItem
items_by app s e b = cond b (item.Own (served_own s e) ∷ []) (flat_map items_of_effect (touch app s e))

module _ (app : List ℕ) (s : State) (e : Entry) (v : Valid s) (l : Lawful s e) (more : List ServedItem) where
  -- the view after what another's entry touches
  other-view : makes app s e ≡ false → views_after (bare (view s app)) (flat_map items_of_effect (touch app s e)) ≡ bare (view (after s e) app)
  other-view m = ap (λ (b : Bool). views_after (bare (view s app)) (items_by app s e b)) (sym m) ∙ served_steps.other app s e v l m

  other-replies : makes app s e ≡ false → served_replies (bare (view s app)) (items_by app s e false ++ more) ≡ served_replies (bare (view (after s e) app)) more
  other-replies m = nothing-replied (touch app s e) (bare (view s app)) more ∙ ap (λ (x : AppView). served_replies x more) (other-view m)

  one-alike : (b : Bool) → makes app s e ≡ b → (rest : List Reply) → AreAlike false (flat_map request_of more) (served_replies (bare (view (after s e) app)) more) rest →
      AreAlike false (flat_map request_of (items_by app s e b ++ more)) (served_replies (bare (view s app)) (items_by app s e b ++ more)) (cond b (reply_at s e ∷ []) [] ++ rest)
  one-alike true m rest h =
      (served_steps.own_reply app s e v l m, subst (λ (x : AppView). AreAlike false (flat_map request_of more) (served_replies x more) rest) (sym (served_steps.own_view app s e v l m)) h)
  one-alike false m rest h =
      subst (λ (qs : List Request). AreAlike false qs (served_replies (bare (view s app)) (items_by app s e false ++ more)) rest) (sym (nothing-asked (touch app s e) more))
      (subst (λ (ms : List Reply). AreAlike false (flat_map request_of more) ms rest) (sym (other-replies m)) h)

  one-untold : s.told ≡ false → (b : Bool) → makes app s e ≡ b → (rest : List Reply) → rest ≡ served_replies (bare (view (after s e) app)) more →
      cond b (reply_at s e ∷ []) [] ++ rest ≡ served_replies (bare (view s app)) (items_by app s e b ++ more)
  one-untold t true m rest h = λ i. sym (served_steps.untold app s e t v l m) i ∷ (h ∙ ap (λ (x : AppView). served_replies x more) (sym (served_steps.own_view app s e v l m))) i
  one-untold t false m rest h = h ∙ sym (other-replies m)

-- ---- a history

all-alike : (h : List Entry) (app : List ℕ) (s : State) → Valid s → EachLawful s h → AreAlike false (flat_map request_of (served_items app s h)) (served_replies (bare (view s app)) (served_items app s h)) (replies app s h)
all-alike [] app s v l = tt
all-alike (e ∷ es) app s v l =
    one-alike app s e v l.0 (served_items app (after s e) es) (makes app s e) refl (replies app (after s e) es) (all-alike es app (after s e) (after-Valid s e v l.0) l.1)

all-untold : (h : List Entry) (app : List ℕ) (s : State) → s.told ≡ false → Valid s → EachLawful s h → replies app s h ≡ served_replies (bare (view s app)) (served_items app s h)
all-untold [] app s t v l = refl
all-untold (e ∷ es) app s t v l =
    one-untold app s e v l.0 (served_items app (after s e) es) t (makes app s e) refl (replies app (after s e) es)
    (all-untold es app (after s e) (step_told s e.seat e.request e.given ∙ t) (after-Valid s e v l.0) l.1)

-- ---- one place

-- the machine's reply at a place, and a reply that is alike to it
abbrev IsAt : Request → List Reply → ℕ → Reply → Type 0
IsAt request ms n reply = (own : Reply) × (slice_get ms n ≡ Some own) × Alike false request own reply

module _ (app : List ℕ) (e : Entry) (rest : List Entry) where
  abbrev whole : List Entry → List Entry
  whole front = front ++ e ∷ rest

  here : (s : State) → Valid s → Lawful s e → (b : Bool) → makes app s e ≡ b → b ≡ true → IsAt e.request (served_replies (bare (view s app)) (items_by app s e b ++ served_items app (after s e) rest)) 0 (reply_at s e)
  here s v l true m t = ((served_step (bare (view s app)) (served_own s e)).1, refl, served_steps.own_reply app s e v l m)
  here s v l false m t = cc

  -- behind one more entry
  behind : (s : State) (f : Entry) (n : ℕ) (reply : Reply) (more : List ServedItem) → Valid s → Lawful s f → (b : Bool) → makes app s f ≡ b → (front : List Reply) → length front ≡ n →
      IsAt e.request (served_replies (bare (view (after s f) app)) more) n reply →
      IsAt e.request (served_replies (bare (view s app)) (items_by app s f b ++ more)) (length (cond b (reply_at s f ∷ []) [] ++ front)) reply
  behind s f n reply more v l true m front k h =
      subst (λ (x : AppView). IsAt e.request (served_replies x more) (length front) reply) (sym (served_steps.own_view app s f v l m))
      (subst (λ (i : ℕ). IsAt e.request (served_replies (bare (view (after s f) app)) more) i reply) (sym k) h)
  behind s f n reply more v l false m front k h =
      subst (λ (ms : List Reply). IsAt e.request ms (length front) reply) (sym (other-replies app s f v l more m))
      (subst (λ (i : ℕ). IsAt e.request (served_replies (bare (view (after s f) app)) more) i reply) (sym k) h)

  at-place : (front : List Entry) (s : State) → Valid s → EachLawful s (whole front) → makes app (run s front) e ≡ true →
      IsAt e.request (served_replies (bare (view s app)) (served_items app s (whole front))) (length (replies app s front)) (reply_at (run s front) e)
  at-place [] s v l m = here s v l.0 (makes app s e) refl m
  at-place (f ∷ front) s v l m =
      behind s f (length (replies app (after s f) front)) (reply_at (run (after s f) front) e) (served_items app (after s f) (whole front)) v l.0 (makes app s f) refl (replies app (after s f) front) refl
      (at-place front (after s f) (after-Valid s f v l.0) l.1 m)

given-alike : (app : List ℕ) (s : State) (h : List Entry) (given : List Reply) → Legal s h → AreGiven app s h given → AreAlike false (requests_in (served_trace app s h)) (served_run (served_trace app s h)) given
given-alike app s h given l g = all-through s.told (requests_in (served_trace app s h)) (served_run (served_trace app s h)) (replies app s h) given (all-alike h app s l.opening l.lawful) g

given-but : (app : List ℕ) (s : State) (h : List Entry) (given : List Reply) → Legal s h → AreGiven app s h given → map but_content given ≡ map but_content (served_run (served_trace app s h))
given-but app s h given l g = all-but (requests_in (served_trace app s h)) (served_run (served_trace app s h)) given (given-alike app s h given l g)

pub isolated : IsolatedOverAnyTree
isolated = record {
  alike = given-alike;
  one_trace = λ app s t h k given other l n g o e. given-but app s h given l g ∙ (ap (λ (x : ServedTrace). map but_content (served_run x)) e ∙ sym (given-but app t k other n o));
  stepped = λ app s h l. all-alike h app s l.opening l.lawful;
  untold = λ app s h t l. all-untold h app s t l.opening l.lawful;
  place = λ app s front rest e l m.
      let p = at-place app e rest front s l.opening l.lawful m in
      (p.0, p.1, λ given k. reply-through s.told e.request p.0 (reply_at (run s front) e) given p.2 k);
}
