-- A request on a bus: what it is to the application that asks, and to another.
use Rattle.std.proofs.Common.{◌≡◌, ℕ, List, [], Bool, true, false, cond, Option, Some, None, refl, sym, ap, ◌∙◌}
use Rattle.std.specs.Option.{option_map}
use Rattle.portal_model.specs.declared.entry.Fault.{Fault}
use Rattle.portal_model.specs.declared.entry.Given.{Given}
use Rattle.portal_model.specs.declared.reply.Answer.{Answer}
use Rattle.portal_model.specs.declared.reply.Code.TheVariants as Code
use Rattle.portal_model.specs.Bus.{kept, settled}
use Rattle.portal_model.specs.State.{State}
use Rattle.portal_model.specs.Verdict.{Doing, Verdict, Refuses, Does}
use Rattle.app_world.specs.Bus.{own_kept, own_settled}
use Rattle.app_world.specs.Effect.{Effect, apply_all}
use Rattle.app_world.specs.Own.{Own}
use Rattle.app_world.specs.OwnVerdict.{OwnVerdict, OwnDoes, OwnRefuses}
use Rattle.app_world.specs.Touched.{is_done}
use Rattle.app_world.specs.View.{AppView, view}
use Rattle.app_world.proofs.ReachedLaws.{IsTouched, seen_verdict}

-- ---- once it is known what the request comes to

abbrev pub seen_answer : List ℕ → State × Answer → AppView × Answer
seen_answer app done = (view done.0 app, done.1)

kept-own : (app : List ℕ) (s : State) (fault : Fault) (d : Doing) → own_kept (view s app) fault (view d.state app) d.answer ≡ seen_answer app (kept s fault d)
kept-own app s Fault.None d = refl
kept-own app s Fault.Tree d = refl
kept-own app s Fault.Keeper d = refl

-- in the view as in the state
pub settled-own : (app : List ℕ) (s refused : State) (given : Given) (own : Own) → own.full ≡ given.full → own.fault ≡ given.fault → (o : Option Verdict) →
    own_settled (view s app) (view refused app) own (option_map (seen_verdict app) o) ≡ seen_answer app (settled s refused given o)
settled-own app s refused given own f g None = refl
settled-own app s refused given own f g (Some (Refuses code)) = refl
settled-own app s refused given own f g (Some (Does d)) =
    (λ i. cond (f i) (view refused app, Answer.Refused Code.LimitsExceeded) (own_kept (view s app) (g i) (view d.state app) d.answer)) ∙ by_limit given.full
  where
    by_limit : (b : Bool) → cond b (view refused app, Answer.Refused Code.LimitsExceeded) (own_kept (view s app) given.fault (view d.state app) d.answer)
        ≡ seen_answer app (cond b (refused, Answer.Refused Code.LimitsExceeded) (kept s given.fault d))
    by_limit true = refl
    by_limit false = kept-own app s given.fault d

-- ---- where a limit of documents is met, it is one to what is done

abbrev pub limited : Bool → OwnVerdict → OwnVerdict
limited false own = own
limited true (OwnRefuses code) = OwnRefuses code
limited true (OwnDoes v answer) = OwnRefuses Code.LimitsExceeded

settled-limit : (v refused : AppView) (own : Own) (full : Bool) → own.full ≡ full → (o : Option OwnVerdict) → own_settled v refused own o ≡ own_settled v refused own (option_map (limited full) o)
settled-limit v refused own full e None = refl
settled-limit v refused own false e (Some x) = refl
settled-limit v refused own true e (Some (OwnRefuses code)) = refl
settled-limit v refused own true e (Some (OwnDoes after answer)) = ap (λ (b : Bool). cond b (refused, Answer.Refused Code.LimitsExceeded) (own_kept v own.fault after answer)) e

pub settled-same : (v refused : AppView) (own : Own) (full : Bool) → own.full ≡ full → (o more : Option OwnVerdict) → option_map (limited full) o ≡ option_map (limited full) more → own_settled v refused own o ≡ own_settled v refused own more
settled-same v refused own full e o more h = settled-limit v refused own full e o ∙ (ap (own_settled v refused own) h ∙ sym (settled-limit v refused own full e more))

-- ---- of another

abbrev pub TouchedGiven : List ℕ → State → List Effect → Option Verdict → Type 0
TouchedGiven app s fs None = Unit {0}
TouchedGiven app s fs (Some v) = IsTouched app s fs v

module _ (app : List ℕ) (s : State) (refused : State) (v : AppView) (given : Given) (fs : List Effect) (same : view s app ≡ v) (left : view refused app ≡ v) where
  kept-other : (fault : Fault) (d : Doing) → is_done d.answer ≡ true → apply_all (view s app) fs ≡ view d.state app → apply_all v (cond (is_done (kept s fault d).1) fs []) ≡ view (kept s fault d).0 app
  kept-other Fault.None d a t = ap (λ (b : Bool). apply_all v (cond b fs [])) a ∙ (ap (λ (x : AppView). apply_all x fs) (sym same) ∙ t)
  kept-other Fault.Tree d a t = ap (λ (b : Bool). apply_all v (cond b fs [])) a ∙ (ap (λ (x : AppView). apply_all x fs) (sym same) ∙ t)
  kept-other Fault.Keeper d a t = sym same

  limited-other : (b : Bool) (d : Doing) → (b ≡ false → IsTouched app s fs (Does d)) →
      apply_all v (cond (is_done (cond b (refused, Answer.Refused Code.LimitsExceeded) (kept s given.fault d)).1) fs []) ≡ view (cond b (refused, Answer.Refused Code.LimitsExceeded) (kept s given.fault d)).0 app
  limited-other true d t = sym left
  limited-other false d t = kept-other given.fault d (t refl).0 (t refl).1

  -- what is touched gives the view after, and nothing where it isn't done
  pub settled-other : (o : Option Verdict) → (given.full ≡ false → TouchedGiven app s fs o) → apply_all v (cond (is_done (settled s refused given o).1) fs []) ≡ view (settled s refused given o).0 app
  settled-other None t = sym same
  settled-other (Some (Refuses code)) t = sym left
  settled-other (Some (Does d)) t = limited-other given.full d t
