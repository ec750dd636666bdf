-- Laws of the world of one application, which the public functions of src/laws.rt state.
use Rattle.std.specs.Prelude.{◌≡◌, ℕ, List, [], ◌∷◌, ◌++◌, true, false}
use Rattle.portal_base.specs.Names.{is_same}
use Rattle.portal_base.specs.declared.who.Kind.{Kind}
use Rattle.portal_base.specs.declared.who.Who.{Who}
use Rattle.portal_model.specs.declared.entry.Entry.{Entry}
use Rattle.portal_model.specs.declared.entry.Given.{Given}
use Rattle.portal_model.specs.declared.request.AddRequest.{AddRequest}
use Rattle.portal_model.specs.declared.request.NodeRequest.{NodeRequest}
use Rattle.portal_model.specs.declared.request.Request.{Request}
use Rattle.portal_model.specs.declared.request.RightsCall.{RightsCall}
use Rattle.portal_model.specs.declared.state.Document.{Document}
use Rattle.portal_model.specs.declared.state.Triple.{Triple}
use Rattle.portal_model.specs.declared.store.StoreCall.{StoreCall}
use Rattle.portal_model.specs.History.{Legal, makes, replies}
use Rattle.portal_model.specs.Lawful.{Lawful}
use Rattle.portal_model.specs.State.{State, held_of}
use Rattle.portal_model.specs.Step.{after, reply_at}
use Rattle.portal_model.specs.Valid.{Valid}
use Rattle.rights_rule.specs.Rights.{holds_any}
use Rattle.app_world.specs.Effect.{apply_all}
use Rattle.app_world.specs.View.{TakesAlike, view}
use Rattle.app_world.specs.World.{app_run, app_step, own_of, touch, trace}

-- ---- one step

-- of a lawful entry over a tree that tells: where the application makes it, its own machine gives
-- the reply and the view after; where it does not, what is touched gives the view after
pub record StepsSeen : Type 0 where
  pub own :
      (app : List ℕ) (s : State) (e : Entry) →
      s.told ≡ true → Valid s → Lawful s e → makes app s e ≡ true →
      app_step (view s app) (own_of s e) ≡ (view (after s e) app, reply_at s e)
  pub other :
      (app : List ℕ) (s : State) (e : Entry) → Valid s → Lawful s e → makes app s e ≡ false →
      apply_all (view s app) (touch app s e) ≡ view (after s e) app

-- ---- each kind of request

abbrev pub asks : ℕ → Request → Given → Entry
asks seat request given = record { seat = seat; request = request; given = given }

-- the same of the entries of one kind, whatever the outside gave them, over any tree
pub record SeenAlways {X : Type 0} (ask : X → Request) : Type 0 where
  pub own :
      (app : List ℕ) (s : State) (seat : ℕ) (x : X) (given : Given) → Valid s →
      makes app s (asks seat (ask x) given) ≡ true →
      app_step (view s app) (own_of s (asks seat (ask x) given))
      ≡ (view (after s (asks seat (ask x) given)) app, reply_at s (asks seat (ask x) given))
  pub other :
      (app : List ℕ) (s : State) (seat : ℕ) (x : X) (given : Given) → Valid s →
      makes app s (asks seat (ask x) given) ≡ false →
      apply_all (view s app) (touch app s (asks seat (ask x) given))
      ≡ view (after s (asks seat (ask x) given)) app

-- the same of the entries of one kind, where what the outside gave them is lawful
pub record SeenLawful {X : Type 0} (ask : X → Request) : Type 0 where
  pub own :
      (app : List ℕ) (s : State) (seat : ℕ) (x : X) (given : Given) → s.told ≡ true → Valid s →
      Lawful s (asks seat (ask x) given) → makes app s (asks seat (ask x) given) ≡ true →
      app_step (view s app) (own_of s (asks seat (ask x) given))
      ≡ (view (after s (asks seat (ask x) given)) app, reply_at s (asks seat (ask x) given))
  pub other :
      (app : List ℕ) (s : State) (seat : ℕ) (x : X) (given : Given) → Valid s →
      Lawful s (asks seat (ask x) given) → makes app s (asks seat (ask x) given) ≡ false →
      apply_all (view s app) (touch app s (asks seat (ask x) given))
      ≡ view (after s (asks seat (ask x) given)) app

-- Of most kinds what the outside gave is of no account: the tree is asked by an Add and by requests
-- on nodes alone, and numbers are given to an Add alone.
pub record KindsSeen : Type 0 where
  pub enters : SeenAlways {X = Who × Kind} (λ x. Request.Enter x.0 x.1)
  pub leaves : SeenAlways {X = Unit {0}} (λ x. Request.Leave)
  pub collects : SeenAlways {X = Unit {0}} (λ x. Request.Collect)
  pub presentations : SeenAlways {X = List ℕ} (λ path. Request.Present path)
  pub additions : SeenLawful {X = AddRequest} (λ a. Request.Add a)
  pub grants : SeenAlways {X = RightsCall} (λ call. Request.Grant call)
  pub revocations : SeenAlways {X = RightsCall} (λ call. Request.Revoke call)
  pub deletions : SeenAlways {X = List ℕ} (λ doc. Request.DeleteDocument doc)
  pub lookups : SeenAlways {X = List ℕ} (λ path. Request.LookupDocument path)
  pub informations : SeenAlways {X = List ℕ} (λ doc. Request.Info doc)
  pub listings : SeenAlways {X = List ℕ} (λ name. Request.ListDocuments name)
  pub store_calls : SeenAlways {X = StoreCall} (λ call. Request.Store call)
  pub node_requests : SeenLawful {X = NodeRequest} (λ r. Request.Node r)

-- ---- the frame

abbrev pub with_right : State → Triple → State
with_right s t = record s { rights = s.rights ++ t ∷ [] }

abbrev pub with_document : State → Document → State
with_document s d = record s { documents = s.documents ++ d ∷ [] }

-- A view is a function of what it takes from the state alone. So another application's right
-- leaves it, be it in a document that both know or in one that comes with it; and so does a
-- document in which the application has no right, whatever the tree has at its path.
pub record ViewsFramed : Type 0 where
  pub alike : (app : List ℕ) (s t : State) → TakesAlike app s t → view s app ≡ view t app
  pub granted :
      (app : List ℕ) (s : State) (t : Triple) → is_same t.app app ≡ false →
      view (with_right s t) app ≡ view s app
  pub added :
      (app : List ℕ) (s : State) (d : Document) →
      holds_any (held_of s.rights app d.id.number) ≡ false →
      view (with_document s d) app ≡ view s app

-- ---- a whole history

-- in every legal history over a tree that tells, the replies to an application are what its own
-- machine replies to its trace
abbrev pub Isolated : Type 0
Isolated =
    (app : List ℕ) (s : State) (h : List Entry) → s.told ≡ true → Legal s h →
    replies app s h ≡ app_run (trace app s h)
