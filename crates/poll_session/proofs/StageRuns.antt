-- The stages of a poll, one after another.
use Rattle.std.proofs.Common.{◌≡◌, ◌⊎◌, inl, inr, ℕ, ◌≤◌, List, [], ◌∷◌, ◌++◌, Bool, true, false, Option, Some, None, refl, sym, ap, ◌∙◌, subst, arith}
use Rattle.std.proofs.lemmas.List.{append-nil}
use Rattle.futures.specs.declared.task.Poll.{Poll}
use Rattle.futures.specs.declared.task.Poll.TheVariants as poll
use Rattle.futures.specs.declared.task.context.Context.{Context}
use Rattle.futures.specs.Poll.{IfReady, OnPending}
use Rattle.futures.specs.Task.{Covers, IsArmed}
use Rattle.portal_base.specs.declared.who.Kind.{Kind}
use Rattle.portal_model.specs.declared.reply.Refused.{Refused}
use Rattle.portal_model.specs.declared.reply.Refused.TheVariants as refused
use Rattle.portal_model.specs.declared.request.Request.{Request}
use Rattle.portal_model.specs.Seated.{Seated, is_open, state_seen}
use Rattle.session.specs.declared.act.Client.{Client}
use Rattle.session.specs.declared.phase.Phase.{Phase}
use Rattle.session.specs.declared.phase.Phase.TheVariants as phases
use Rattle.session.specs.declared.served.Served.{Served}
use Rattle.session.specs.declared.served.Served.TheVariants as served
use Rattle.session.specs.Answers.{Denied, Made}
use Rattle.session.specs.Connections.{served_by}
use Rattle.session.specs.Cuts.{first_phase}
use Rattle.session.specs.Ledger.{Grew}
use Rattle.session.specs.Sessions.{enter}
use Rattle.session.specs.Standings.{stage}
use Rattle.session.proofs.Grew.{asked_err, asked_ok, grew_none}
use Rattle.session.proofs.NextCut.{nothing_cut}
use Rattle.poll_ends.specs.Outside.{Counts}
use Rattle.poll_laws.specs.declared.course.Turn.{Turn}
use Rattle.poll_laws.specs.declared.course.Turn.TheVariants as turn
use Rattle.poll_laws.specs.Courses.{Fits, IsFresh, Sight, Standing, fresh, is_first, is_inside, met_by, sight}
use Rattle.poll_laws.specs.Polls.{Answered, Deeds, EndsAs, InOrder, IsHeld, Meets, Polls, Runs, Waits, followed_by}
use Rattle.poll_laws.proofs.Endings.{IsSame, meets_after, meets_none, meets_same_on, waits_further}
use Rattle.poll_laws.proofs.Joining.{one_step, order_on, runs_on, some_none}
use Rattle.poll_steps.specs.Steps.{Enters, Leaves, turned}
use Rattle.poll_steps.proofs.Asking.{put_off_grew}
use Rattle.poll_steps.proofs.StepRuns.{nothing, runs_none, runs_turned, silent}
use Rattle.poll_session.specs.Serving.{Pauses}
use Rattle.poll_session.specs.Stages.{AfterEnter, AfterItems, AfterLeave, IsAnswer, OwesAfterEnter, OwesAfterItems, OwesAfterLeave}

-- ---- before Enter

first_is : (p : Phase) (k : Kind) → is_first p k ≡ true → p ≡ first_phase k
first_is phases.ZeroByte Kind.Bus h = refl
first_is phases.ZeroByte Kind.Mount h = absurd (cc)
first_is (phases.Handshake a) k h = absurd (cc)
first_is phases.Messages k h = absurd (cc)
first_is phases.Frames Kind.Bus h = absurd (cc)
first_is phases.Frames Kind.Mount h = refl

first_first : (k : Kind) → is_first (first_phase k) k ≡ true
first_first Kind.Bus = refl
first_first Kind.Mount = refl

-- by its parts
standing_of : (c : Client) (p q : Phase) (n m : ℕ) (x y : Turn) (b d : ℕ) (l r u v : List ℕ) → p ≡ q → n ≡ m → x ≡ y → b ≡ d → l ≡ r → u ≡ v
    → ◌≡◌ {A = Standing} (record { client = c; stage = stage p n; turn = x; before = b; left = l; unsent = u }) (record { client = c; stage = stage q m; turn = y; before = d; left = r; unsent = v })
standing_of c p q n m x y b d l r u v e1 e2 e3 e4 e5 e6 = cc

pub fresh_is : (s : Standing) → s.turn ≡ turn.Enter → IsFresh s → s ≡ fresh s.client
fresh_is s due (first, serial, before, left, unsent) =
    standing_of s.client s.stage.phase (first_phase s.client.kind) s.stage.serial 0 s.turn turn.Enter s.before 0 s.left [] s.unsent [] (first_is s.stage.phase s.client.kind first) serial due before left unsent

pub fresh_of : (s : Standing) → s ≡ fresh s.client → IsFresh s
fresh_of s is = subst IsFresh (sym is) (first_first s.client.kind, refl, refl, refl, refl)

-- the ending that is met is one
met_is : (e f : Served) → met_by (turn.Over e) ≡ Some f → f ≡ e
met_is e f was =
    let same : Some e ≡ Some f = was in
    cc

-- ---- Enter

module _ (c : Client) (a b : Seated) (n m : ℕ) (l : Option (List ℕ)) (r : Counts) (o : Option (List ℕ)) (k : Counts) (yields : Bool) where
  full_of : (why : Refused) → EndsAs (served_by why) (turned (fresh c) (turn.Over (served_by why))) (sight a n l r o k) (sight b m l r o k) [] (Denied (enter c) why ∷ [])
  full_of refused.Memory = omega arith
  full_of (refused.Full cost limit) = (([], [], refl), refl, (nothing_cut (first_phase c.kind), refl))

  pub entered : (t : Standing) → (t.turn ≡ turn.Enter → yields ≡ true) → Enters (fresh c) a n t b m → AfterEnter (fresh c) (sight a n l r o k) t (sight b m l r o k) yields
  entered t asks (inl (reply, asked, busy, same)) =
      let x = asked_ok a b (enter c) reply asked in
      let more : n ≤ m = omega (arith, busy) in
      let one = runs_turned (fresh c) a b n m l r o k turn.Serve (Made x.0 ∷ []) more (x.0, x.1, refl) x.3 (λ e was. absurd (cc)) (λ e out was. absurd (cc)) (λ from to. refl) in
      subst (λ (z : Standing). AfterEnter (fresh c) (sight a n l r o k) z (sight b m l r o k) yields) (sym same) (record {
        deeds = silent (Made x.0 ∷ []);
        runs = one;
        order = one_step (fresh c) (sight a n l r o k) (silent (Made x.0 ∷ [])) (turned (fresh c) turn.Serve) (sight b m l r o k) one refl;
        meets = tt;
        waits = tt;
      })
  entered t asks (inr (inl (why, asked, busy, same))) =
      let more : n ≤ m = omega (arith, busy) in
      let one = runs_turned (fresh c) a b n m l r o k (turn.Over (served_by why)) (Denied (enter c) why ∷ []) more (inl (refl, inr (why, refl))) (asked_err a b (enter c) why asked) (λ e was. absurd (cc)) (λ e out was. inr (why, refl, met_is (served_by why) e was)) (λ from to. refl) in
      subst (λ (z : Standing). AfterEnter (fresh c) (sight a n l r o k) z (sight b m l r o k) yields) (sym same) (record {
        deeds = silent (Denied (enter c) why ∷ []);
        runs = one;
        order = one_step (fresh c) (sight a n l r o k) (silent (Denied (enter c) why ∷ [])) (turned (fresh c) (turn.Over (served_by why))) (sight b m l r o k) one refl;
        meets = full_of why;
        waits = tt;
      })
  entered t asks (inr (inr (inl (desk, busy, same)))) =
      let more : n ≤ m = omega (arith, busy) in
      let one = runs_turned (fresh c) a b n m l r o k (turn.Over served.Memory) [] more (inl (refl, inl refl)) (subst (λ (z : Seated). Grew a [] z) (sym desk) (grew_none a)) (λ e was. absurd (cc)) (λ e out was. inl (refl, met_is served.Memory e was)) (λ from to. refl) in
      subst (λ (z : Standing). AfterEnter (fresh c) (sight a n l r o k) z (sight b m l r o k) yields) (sym same) (record {
        deeds = nothing;
        runs = one;
        order = one_step (fresh c) (sight a n l r o k) nothing (turned (fresh c) (turn.Over served.Memory)) (sight b m l r o k) one refl;
        meets = omega arith;
        waits = tt;
      })
  entered t asks (inr (inr (inr (off, more, risen, same)))) =
      let again : yields ≡ true = asks (ap (λ (z : Standing). z.turn) same) in
      let one = runs_turned (fresh c) a b n m l r o k turn.Enter [] more (refl, refl) (put_off_grew a b (enter c) (enter c) off) (λ e was. was) (λ e out was. absurd (cc)) (λ from to. refl) in
      subst (λ (z : Standing). AfterEnter (fresh c) (sight a n l r o k) z (sight b m l r o k) yields) (sym same) (record {
        deeds = nothing;
        runs = one;
        order = one_step (fresh c) (sight a n l r o k) nothing (fresh c) (sight b m l r o k) one refl;
        meets = tt;
        waits = inl (risen, again);
      })

-- the same of a session whose state is a fresh one's
pub enter_due : (s t : Standing) (a b : Seated) (n m : ℕ) (l : Option (List ℕ)) (r : Counts) (o : Option (List ℕ)) (k : Counts) (yields : Bool) → s ≡ fresh s.client → (t.turn ≡ turn.Enter → yields ≡ true) → Enters s a n t b m → AfterEnter s (sight a n l r o k) t (sight b m l r o k) yields
enter_due s t a b n m l r o k yields is asks h =
    subst (λ (z : Standing). AfterEnter z (sight a n l r o k) t (sight b m l r o k) yields) (sym is)
    (entered s.client a b n m l r o k yields t asks (subst (λ (z : Standing). Enters z a n t b m) is h))

-- it is still due only where nothing changed
pub enter_waits : (s t : Standing) (a b : Seated) (n m : ℕ) → s ≡ fresh s.client → Enters s a n t b m → t.turn ≡ turn.Enter → t ≡ fresh t.client
enter_waits s t a b n m is (inl (reply, asks, busy, same)) due =
    let serves : t.turn ≡ turn.Serve = ap (λ (z : Standing). z.turn) same in absurd (cc)
enter_waits s t a b n m is (inr (inl (why, asks, busy, same))) due =
    let over : t.turn ≡ turn.Over (served_by why) = ap (λ (z : Standing). z.turn) same in absurd (cc)
enter_waits s t a b n m is (inr (inr (inl (desk, busy, same)))) due =
    let over : t.turn ≡ turn.Over served.Memory = ap (λ (z : Standing). z.turn) same in absurd (cc)
enter_waits s t a b n m is (inr (inr (inr (off, more, risen, same)))) due = subst (λ (z : Standing). z ≡ fresh z.client) (sym same) is

pub owes_entering : (x : Turn) (W : Type 0) → (x ≡ turn.Enter → W) → OwesAfterEnter x W
owes_entering turn.Enter W h = h refl
owes_entering turn.Serve W h = tt
owes_entering (turn.Leave e) W h = tt
owes_entering (turn.Over e) W h = tt

-- where another stage is due
pub owes_none : (x : Turn) (W : Type 0) → (x ≡ turn.Enter → ⊥) → OwesAfterEnter x W
owes_none x W h = owes_entering x W (λ is. absurd (h is))

meets_same : (x : Option Served) (t : Standing) (u w : Sight) → Meets x x t u w [] []
meets_same None t u w = tt
meets_same (Some e) t u w = tt

pub not_entered : (s : Standing) (v : Sight) (yields : Bool) → (s.turn ≡ turn.Enter → ⊥) → AfterEnter s v s v yields
not_entered s v yields h = record { deeds = nothing; runs = runs_none s v; order = one_step s v nothing s v (runs_none s v) refl; meets = meets_same (met_by s.turn) s v v; waits = owes_none s.turn _ h }

-- ---- the items

pub owes_other : (x : Turn) (W : Type 0) → (x ≡ turn.Serve → ⊥) → OwesAfterEnter x W → OwesAfterItems x W
owes_other turn.Enter W h w = w
owes_other turn.Serve W h w = absurd (h refl)
owes_other (turn.Leave e) W h w = tt
owes_other (turn.Over e) W h w = tt

pub not_attended : (s0 : Standing) (v0 : Sight) (s : Standing) (v : Sight) (yields : Bool) → (s.turn ≡ turn.Serve → ⊥) → AfterEnter s0 v0 s v yields → AfterItems s0 v0 s v yields
not_attended s0 v0 s v yields h so = record { deeds = so.deeds; runs = so.runs; order = so.order; meets = so.meets; waits = owes_other s.turn _ h so.waits }

module _ (s0 : Standing) (v0 : Sight) (s : Standing) (v : Sight) (serves : s.turn ≡ turn.Serve) (t : Standing) (w : Sight) (was yields : Bool) (so : AfterEnter s0 v0 s v was) (d : Deeds) (runs : Runs s v d t w) where
  none_passed : so.deeds.passed ≡ []
  none_passed = so.runs.held (subst (λ (z : Turn). IsHeld (met_by z)) (sym serves) tt)

  passed_same : d.passed ++ so.deeds.passed ≡ d.passed
  passed_same = ap (λ (z : List ℕ). d.passed ++ z) none_passed ∙ append-nil d.passed

  meets_by : (x : Turn) → Pauses x s v d t w yields → Meets (met_by s0.turn) (met_by x) t v0 w (d.passed ++ so.deeds.passed) (so.deeds.came ++ d.came)
  meets_by turn.Enter h = absurd h
  meets_by turn.Serve h = meets_none (met_by s0.turn) t v0 w (d.passed ++ so.deeds.passed) (so.deeds.came ++ d.came)
  meets_by (turn.Leave e) h = meets_after (met_by s0.turn) e t v0 v w d.passed (d.passed ++ so.deeds.passed) so.deeds.came d.came so.runs.counted passed_same h
  meets_by (turn.Over e) h = absurd h

  waits_by : (x : Turn) → Pauses x s v d t w yields → OwesAfterItems x (Waits v0 w t (so.deeds.read ++ d.read) yields)
  waits_by turn.Enter h = absurd h
  waits_by turn.Serve h = waits_further v0 v w t so.deeds.read d.read yields so.runs.counted h
  waits_by (turn.Leave e) h = tt
  waits_by (turn.Over e) h = absurd h

  pub attended : Pauses t.turn s v d t w yields → InOrder s v d t w → AfterItems s0 v0 t w yields
  attended h order = record {
    deeds = followed_by so.deeds d;
    runs = runs_on s0 v0 so.deeds s v d t w so.runs runs;
    order = order_on s0 v0 so.deeds s v d t w so.order order;
    meets = meets_by t.turn h;
    waits = waits_by t.turn h;
  }

-- behind the items they are due still, or Leave is
pub owes_serving : (x : Turn) (s : Standing) (v : Sight) (d : Deeds) (t : Standing) (w : Sight) (yields : Bool) (W : Type 0) → Pauses x s v d t w yields → (x ≡ turn.Serve → W) → OwesAfterItems x W
owes_serving turn.Enter s v d t w yields W h k = absurd h
owes_serving turn.Serve s v d t w yields W h k = k refl
owes_serving (turn.Leave e) s v d t w yields W h k = tt
owes_serving (turn.Over e) s v d t w yields W h k = absurd h

pub begun : (x : Turn) (s : Standing) (v : Sight) (d : Deeds) (t : Standing) (w : Sight) (yields : Bool) → Pauses x s v d t w yields → x ≡ turn.Enter → ⊥
begun turn.Enter s v d t w yields h is = h
begun turn.Serve s v d t w yields h is = cc
begun (turn.Leave e) s v d t w yields h is = cc
begun (turn.Over e) s v d t w yields h is = h

-- ---- Leave

pub owes_last : (x : Turn) (W : Type 0) → ((e : Served) → x ≡ turn.Leave e → ⊥) → OwesAfterItems x W → OwesAfterLeave x W
owes_last turn.Enter W h w = w
owes_last turn.Serve W h w = w
owes_last (turn.Leave e) W h w = absurd (h e refl)
owes_last (turn.Over e) W h w = tt

pub not_left : (s0 : Standing) (v0 : Sight) (s : Standing) (v : Sight) (yields : Bool) → ((e : Served) → s.turn ≡ turn.Leave e → ⊥) → AfterItems s0 v0 s v yields → AfterLeave s0 v0 s v yields
not_left s0 v0 s v yields h so = record { deeds = so.deeds; runs = so.runs; order = so.order; meets = so.meets; waits = owes_last s.turn _ h so.waits }

module _ (s0 : Standing) (v0 : Sight) (s : Standing) (e : Served) (a b : Seated) (n m : ℕ) (l : Option (List ℕ)) (r : Counts) (o : Option (List ℕ)) (k : Counts) where
  same_but : (x : Turn) → n ≤ m → IsSame e (turned s (turn.Leave e)) (sight a n l r o k) (turned s x) (sight b m l r o k)
  same_but x more = record {
    client = refl;
    phase = refl;
    before = refl;
    left = refl;
    unsent = λ h. refl;
    source = refl;
    counted = record { busy = more; reading = record { faults = omega arith; waits = omega arith }; writing = record { faults = omega arith; waits = omega arith } };
  }

  pub left : (t : Standing) (was yields : Bool) → (t.turn ≡ turn.Leave e → yields ≡ true) → Leaves e (turned s (turn.Leave e)) a n t b m → AfterItems s0 v0 (turned s (turn.Leave e)) (sight a n l r o k) was → AfterLeave s0 v0 t (sight b m l r o k) yields
  left t was yields asks (inl (reply, asked, busy, same)) so =
      let x = asked_ok a b Request.Leave reply asked in
      let more : n ≤ m = omega (arith, busy) in
      let one = runs_turned (turned s (turn.Leave e)) a b n m l r o k (turn.Over e) (Made x.0 ∷ []) more (x.0, x.1, refl) x.3 (λ f met. met) (λ f out met. absurd out) (λ from to. absurd (some_none (met_by (turn.Leave e)) e from refl)) in
      subst (λ (z : Standing). AfterLeave s0 v0 z (sight b m l r o k) yields) (sym same) (record {
        deeds = followed_by so.deeds (silent (Made x.0 ∷ []));
        runs = runs_on s0 v0 so.deeds (turned s (turn.Leave e)) (sight a n l r o k) (silent (Made x.0 ∷ [])) (turned s (turn.Over e)) (sight b m l r o k) so.runs one;
        order = order_on s0 v0 so.deeds (turned s (turn.Leave e)) (sight a n l r o k) (silent (Made x.0 ∷ [])) (turned s (turn.Over e)) (sight b m l r o k) so.order
            (one_step (turned s (turn.Leave e)) (sight a n l r o k) (silent (Made x.0 ∷ [])) (turned s (turn.Over e)) (sight b m l r o k) one refl);
        meets = meets_same_on (met_by s0.turn) e (turned s (turn.Leave e)) v0 (sight a n l r o k) (turned s (turn.Over e)) (sight b m l r o k) so.deeds.passed so.deeds.passed so.deeds.came (Made x.0 ∷ []) (same_but (turn.Over e) more) refl so.meets;
        waits = tt;
      })
  left t was yields asks (inr (off, more, risen, same)) so =
      let one = runs_turned (turned s (turn.Leave e)) a b n m l r o k (turn.Leave e) [] more refl (put_off_grew a b Request.Leave Request.Leave off) (λ f met. met) (λ f out met. absurd out) (λ from to. absurd (some_none (met_by (turn.Leave e)) e from refl)) in
      let again : yields ≡ true = asks (ap (λ (z : Standing). z.turn) same) in
      subst (λ (z : Standing). AfterLeave s0 v0 z (sight b m l r o k) yields) (sym same) (record {
        deeds = followed_by so.deeds nothing;
        runs = runs_on s0 v0 so.deeds (turned s (turn.Leave e)) (sight a n l r o k) nothing (turned s (turn.Leave e)) (sight b m l r o k) so.runs one;
        order = order_on s0 v0 so.deeds (turned s (turn.Leave e)) (sight a n l r o k) nothing (turned s (turn.Leave e)) (sight b m l r o k) so.order
            (one_step (turned s (turn.Leave e)) (sight a n l r o k) nothing (turned s (turn.Leave e)) (sight b m l r o k) one refl);
        meets = meets_same_on (met_by s0.turn) e (turned s (turn.Leave e)) v0 (sight a n l r o k) (turned s (turn.Leave e)) (sight b m l r o k) so.deeds.passed so.deeds.passed so.deeds.came [] (same_but (turn.Leave e) more) refl so.meets;
        waits = waits_further v0 (sight a n l r o k) (sight b m l r o k) (turned s (turn.Leave e)) so.deeds.read [] yields so.runs.counted (inl (risen, again));
      })

-- the same where Leave is due
pub leave_due : (s0 : Standing) (v0 : Sight) (s t : Standing) (e : Served) (a b : Seated) (n m : ℕ) (l : Option (List ℕ)) (r : Counts) (o : Option (List ℕ)) (k : Counts) (was yields : Bool) → s.turn ≡ turn.Leave e → (t.turn ≡ turn.Leave e → yields ≡ true) → Leaves e s a n t b m → AfterItems s0 v0 s (sight a n l r o k) was → AfterLeave s0 v0 t (sight b m l r o k) yields
leave_due s0 v0 s t e a b n m l r o k was yields due asks h so =
    let is : s ≡ turned s (turn.Leave e) = ap (turned s) due in
    left s0 v0 s e a b n m l r o k t was yields asks (subst (λ (z : Standing). Leaves e z a n t b m) is h) (subst (λ (z : Standing). AfterItems s0 v0 z (sight a n l r o k) was) is so)

-- it is still due only where nothing changed
pub leave_ends : (s t : Standing) (e : Served) (a b : Seated) (n m : ℕ) → s.turn ≡ turn.Leave e → Leaves e s a n t b m → (t.turn ≡ turn.Leave e) ⊎ (t.turn ≡ turn.Over e)
leave_ends s t e a b n m due (inl (reply, asks, busy, same)) = inr (ap (λ (z : Standing). z.turn) same)
leave_ends s t e a b n m due (inr (off, more, risen, same)) = inl (ap (λ (z : Standing). z.turn) same ∙ due)

pub leaving_begun : (x : Turn) (e : Served) → (x ≡ turn.Leave e) ⊎ (x ≡ turn.Over e) → x ≡ turn.Enter → ⊥
leaving_begun x e (inl is) due = cc
leaving_begun x e (inr is) due = cc

pub leaving_serves : (x : Turn) (e : Served) → (x ≡ turn.Leave e) ⊎ (x ≡ turn.Over e) → x ≡ turn.Serve → ⊥
leaving_serves x e (inl is) due = cc
leaving_serves x e (inr is) due = cc

pub owes_leaving : (x : Turn) (e : Served) (W : Type 0) → (x ≡ turn.Leave e) ⊎ (x ≡ turn.Over e) → (x ≡ turn.Leave e → W) → OwesAfterLeave x W
owes_leaving x e W (inl is) h = subst (λ (z : Turn). OwesAfterLeave z W) (sym is) (h is)
owes_leaving x e W (inr is) h = subst (λ (z : Turn). OwesAfterLeave z W) (sym is) tt

-- ---- the answer

-- until it is over
pub owed : (x : Turn) (W : Type 0) → ((e : Served) → x ≡ turn.Over e → ⊥) → OwesAfterLeave x W → W
owed turn.Enter W h w = w
owed turn.Serve W h w = w
owed (turn.Leave e) W h w = w
owed (turn.Over e) W h w = absurd (h e refl)

answered_as : (answer : Poll Served) (t : Standing) (v w : Sight) (read : List ℕ) (yields : Bool) → OwesAfterLeave t.turn (Waits v w t read yields) → IsAnswer answer t.turn → Answered answer v w t read yields
answered_as (poll.Ready e) t v w read yields owes is = is
answered_as poll.Pending t v w read yields owes never = (owed t.turn (Waits v w t read yields) never owes, never)

pub polls_as : (answer : Poll Served) (s : Standing) (v : Sight) (t : Standing) (w : Sight) (yields : Bool) → AfterLeave s v t w yields → IsAnswer answer t.turn → Polls answer s v t w yields
polls_as answer s v t w yields so is = record { deeds = so.deeds; runs = so.runs; order = so.order; meets = so.meets; answered = answered_as answer t v w so.deeds.read yields so.waits is }

-- once it is over the seat has no connection
pub closed_over : (answer : Poll Served) (x : Turn) (d : Seated) → IsAnswer answer x → Fits x d → IfReady answer (λ e. is_open (state_seen d) d.seat ≡ false)
closed_over (poll.Ready e) x d is fits = fits ∙ ap is_inside is
closed_over poll.Pending x d never fits = tt

-- what a poll that is pending owes
pub pending_owes : (answer : Poll Served) (x : Turn) (W : Type 0) → IsAnswer answer x → OwesAfterLeave x W → OnPending answer W
pending_owes (poll.Ready e) x W is owes = tt
pending_owes poll.Pending x W never owes = owed x W never owes

pub covered : (answer : Poll Served) (cx : Context) → OnPending answer (IsArmed cx) → OnPending answer (Covers cx (λ s. ⊥))
covered (poll.Ready e) cx h = tt
covered poll.Pending cx h = (h, λ s none. absurd none)

-- Enter is due still only where nothing changed
pub begins_through : (e a l : Standing) → (l.turn ≡ turn.Enter → l ≡ a) → (a.turn ≡ turn.Enter → a ≡ e) → (e.turn ≡ turn.Enter → e ≡ fresh e.client) → l.turn ≡ turn.Enter → l ≡ fresh l.client
begins_through e a l f g h is =
    let one = f is in
    let two = g (sym (ap (λ (z : Standing). z.turn) one) ∙ is) in
    let both : l ≡ e = one ∙ two in
    subst (λ (z : Standing). z ≡ fresh z.client) (sym both) (h (sym (ap (λ (z : Standing). z.turn) both) ∙ is))
