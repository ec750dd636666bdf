-- Items that are served one after another, and pieces that are read one after another.
use Rattle.std.proofs.Common.{◌≡◌, ◌⊎◌, inl, inr, ℕ, ◌+◌, ◌<◌, ◌≤◌, List, [], ◌∷◌, ◌++◌, length, Bool, true, false, Option, refl, sym, ap, ◌∙◌, subst, arith}
use Rattle.std.proofs.lemmas.List.{append-nil, length-append}
use Rattle.portal_model.specs.Seated.{Seated}
use Rattle.session.specs.declared.served.Served.{Served}
use Rattle.session.specs.declared.served.Served.TheVariants as served
use Rattle.poll_ends.specs.Outside.{Counts, NoneFalls}
use Rattle.poll_laws.specs.declared.course.Turn.{Turn}
use Rattle.poll_laws.specs.declared.course.Turn.TheVariants as turn
use Rattle.poll_laws.specs.Courses.{Sight, Standing, met_by, sight}
use Rattle.poll_laws.specs.Polls.{Deeds, InOrder, IsHeld, IsIdle, ReadsAlone, Runs, Waits, followed_by, most_read}
use Rattle.poll_laws.proofs.Endings.{ends_further, waits_further}
use Rattle.poll_laws.proofs.Joining.{one_step, order_on, runs_on}
use Rattle.poll_steps.specs.declared.ask.Next.TheVariants as next
use Rattle.poll_steps.specs.declared.read.Taken.TheVariants as taken
use Rattle.poll_steps.specs.declared.send.Flushed.TheVariants as flushed
use Rattle.poll_steps.specs.Steps.{AsksNext, Flushes, MeetsOne, Takes}
use Rattle.poll_steps.proofs.StepRuns.{nothing, runs_broke, runs_none, runs_sent, wrote}
use Rattle.poll_session.specs.Serving.{Attends, Pauses, Serves}

-- ---- what went on while items were due

pub leave_serves : (x : Turn) (e : Served) → x ≡ turn.Leave e → x ≡ turn.Serve → ⊥
leave_serves x e leaves serves = cc

-- so far, with as many bytes read
abbrev pub Going : ℕ → Standing → Sight → Standing → Sight → Type 0
Going n s v t w = (d : Deeds) × (length d.read ≡ n) × Runs s v d t w × (t.turn ≡ turn.Serve) × InOrder s v d t w

pub going_none : (s : Standing) (v : Sight) → s.turn ≡ turn.Serve → Going 0 s v s v
going_none s v serves = (nothing, refl, runs_none s v, serves, one_step s v nothing s v (runs_none s v) refl)

none_passed : (s t : Standing) (v w : Sight) (d : Deeds) → Runs s v d t w → t.turn ≡ turn.Serve → d.passed ≡ []
none_passed s t v w d h serves = h.held (subst (λ (z : Turn). IsHeld (met_by z)) (sym serves) tt)

pub going_on : (n m : ℕ) (s : Standing) (v : Sight) (t : Standing) (w : Sight) (x : Standing) (y : Sight) → Going n s v t w → (e : Deeds) → length e.read ≡ m → Runs t w e x y → x.turn ≡ turn.Serve → InOrder t w e x y → Going (n + m) s v x y
going_on n m s v t w x y (d, many, runs, serves, first) e more then serves_on order = (
  followed_by d e,
  (let l = length-append d.read e.read in omega (arith, l, many, more)),
  runs_on s v d t w e x y runs then,
  serves_on,
  order_on s v d t w e x y first order,
)

-- no bytes
none_read : (d : Deeds) → d.read ≡ [] → length d.read ≡ 0
none_read d e = ap length e

no_length : (xs : List ℕ) → length xs ≡ 0 → xs ≡ []
no_length [] e = refl
no_length (x ∷ xs) e = absurd (omega (arith, e))

-- an ending is met behind what went on
pub going_met : (n : ℕ) (s : Standing) (v : Sight) (t : Standing) (w : Sight) (x : Standing) (y : Sight) (yields : Bool) → Going n s v t w → (e : Deeds) → Runs t w e x y → InOrder t w e x y → MeetsOne x w y e.passed e.came → (d : Deeds) × (length d.read ≡ n + length e.read) × Runs s v d x y × Pauses x.turn s v d x y yields × InOrder s v d x y
going_met n s v t w x y yields (d, many, runs, serves, first) e then order (met, leaves, ends) =
    let none = none_passed s t v w d runs serves in
    let same : e.passed ++ d.passed ≡ e.passed = ap (λ (z : List ℕ). e.passed ++ z) none ∙ append-nil e.passed in (
      followed_by d e,
      (let l = length-append d.read e.read in omega (arith, l, many)),
      runs_on s v d t w e x y runs then,
      subst (λ (z : Turn). Pauses z s v (followed_by d e) x y yields) (sym leaves) (ends_further met x v w y e.passed (e.passed ++ d.passed) d.came e.came runs.counted same ends),
      order_on s v d t w e x y first order,
    )

-- more is waited for
pub going_waits : (n : ℕ) (s : Standing) (v : Sight) (t : Standing) (w : Sight) (x : Standing) (y : Sight) (yields : Bool) → Going n s v t w → (e : Deeds) → Runs t w e x y → InOrder t w e x y → x.turn ≡ turn.Serve → Waits w y x e.read yields → (d : Deeds) × (length d.read ≡ n + length e.read) × Runs s v d x y × Pauses x.turn s v d x y yields × InOrder s v d x y
going_waits n s v t w x y yields (d, many, runs, serves, first) e then order serves_on waits = (
  followed_by d e,
  (let l = length-append d.read e.read in omega (arith, l, many)),
  runs_on s v d t w e x y runs then,
  subst (λ (z : Turn). Pauses z s v (followed_by d e) x y yields) (sym serves_on) (waits_further v w y x d.read e.read yields runs.counted waits),
  order_on s v d t w e x y first order,
)

-- ---- one round over the items

-- nothing was read in it
serves_false : (s : Standing) (v : Sight) (x : Standing) (y : Sight) (yields : Bool) (m : ℕ) → m ≡ 0 → ((d : Deeds) × (length d.read ≡ m) × Runs s v d x y × Pauses x.turn s v d x y yields × InOrder s v d x y) → Serves false s v x y yields
serves_false s v x y yields m none (d, many, runs, pauses, order) = (d, no_length d.read (many ∙ none), runs, pauses)

module _ (s0 s : Standing) (a0 a : Seated) (n0 n : ℕ) (l : Option (List ℕ)) (r : Counts) (o0 o : Option (List ℕ)) (k0 k : Counts) (so : Going 0 s0 (sight a0 n0 l r o0 k0) s (sight a n l r o k)) where
  serving : s.turn ≡ turn.Serve
  serving = so.3

  -- all is sent
  pub all_sent : (u : List ℕ) (o' : Option (List ℕ)) (k' : Counts) → Flushes s.unsent o k flushed.All u o' k' → Going 0 s0 (sight a0 n0 l r o0 k0) (record s { unsent = u }) (sight a n l r o' k')
  all_sent u o' k' (none, sent, same) =
      let falls : NoneFalls k k' = subst (λ (z : Counts). NoneFalls k z) (sym same) (record { faults = omega arith; waits = omega arith }) in
      let runs = runs_sent s serving a n l r o o' k k' falls u sent in
      going_on 0 0 s0 (sight a0 n0 l r o0 k0) s (sight a n l r o k) (record s { unsent = u }) (sight a n l r o' k') so (wrote sent.written) refl runs serving
      (one_step s (sight a n l r o k) (wrote sent.written) (record s { unsent = u }) (sight a n l r o' k') runs refl)

  -- the sink takes no more yet
  pub sink_waits : (u : List ℕ) (o' : Option (List ℕ)) (k' : Counts) (yields : Bool) → Flushes s.unsent o k flushed.NotYet u o' k' → Serves false s0 (sight a0 n0 l r o0 k0) (record s { unsent = u }) (sight a n l r o' k') yields
  sink_waits u o' k' yields (sent, waited) =
      let runs = runs_sent s serving a n l r o o' k k' waited.falls u sent in
      serves_false s0 (sight a0 n0 l r o0 k0) (record s { unsent = u }) (sight a n l r o' k') yields 0 refl
      (going_waits 0 s0 (sight a0 n0 l r o0 k0) s (sight a n l r o k) (record s { unsent = u }) (sight a n l r o' k') yields so (wrote sent.written) runs
      (one_step s (sight a n l r o k) (wrote sent.written) (record s { unsent = u }) (sight a n l r o' k') runs refl) serving (inr (inl waited.risen)))

  -- a write failed
  pub sink_fails : (u : List ℕ) (o' : Option (List ℕ)) (k' : Counts) (yields : Bool) → Flushes s.unsent o k flushed.Failed u o' k' → Serves false s0 (sight a0 n0 l r o0 k0) (record s { turn = turn.Leave served.WriteFault; unsent = u }) (sight a n l r o' k') yields
  sink_fails u o' k' yields ((rest, sent), faulted) =
      let runs = runs_broke s serving a n l r o o' k k' faulted.falls u rest sent in
      serves_false s0 (sight a0 n0 l r o0 k0) (record s { turn = turn.Leave served.WriteFault; unsent = u }) (sight a n l r o' k') yields 0 refl
      (going_met 0 s0 (sight a0 n0 l r o0 k0) s (sight a n l r o k) (record s { turn = turn.Leave served.WriteFault; unsent = u }) (sight a n l r o' k') yields so (wrote sent.written) runs
      (one_step s (sight a n l r o k) (wrote sent.written) (record s { turn = turn.Leave served.WriteFault; unsent = u }) (sight a n l r o' k') runs refl) (served.WriteFault, refl, faulted.risen))

  module _ (t : Standing) (b : Seated) (m : ℕ) where
    -- one more item is asked
    pub one_asked : AsksNext next.Asked s (sight a n l r o k) t (sight b m l r o k) → Going 0 s0 (sight a0 n0 l r o0 k0) t (sight b m l r o k) × (length t.left < length s.left)
    one_asked (d, none, runs, (serves, shorter)) = (going_on 0 0 s0 (sight a0 n0 l r o0 k0) s (sight a n l r o k) t (sight b m l r o k) so d (none_read d none) runs serves (one_step s (sight a n l r o k) d t (sight b m l r o k) runs none), shorter)

    -- there is none
    pub none_asked : (yields : Bool) → AsksNext next.NoItem s (sight a n l r o k) t (sight b m l r o k) → Serves true s0 (sight a0 n0 l r o0 k0) t (sight b m l r o k) yields
    none_asked yields (d, none, runs, (serves, idle)) =
        let on = going_on 0 0 s0 (sight a0 n0 l r o0 k0) s (sight a n l r o k) t (sight b m l r o k) so d (none_read d none) runs serves (one_step s (sight a n l r o k) d t (sight b m l r o k) runs none) in
        (on.0, no_length on.0.read on.1, on.2, (serves, idle))

    -- the desk is busy
    pub desk_busy : (yields : Bool) → yields ≡ true → AsksNext next.Busy s (sight a n l r o k) t (sight b m l r o k) → Serves false s0 (sight a0 n0 l r o0 k0) t (sight b m l r o k) yields
    desk_busy yields asks (d, none, runs, (serves, risen)) =
        serves_false s0 (sight a0 n0 l r o0 k0) t (sight b m l r o k) yields (0 + length d.read) (let z = none_read d none in omega (arith, z)) (going_waits 0 s0 (sight a0 n0 l r o0 k0) s (sight a n l r o k) t (sight b m l r o k) yields so d runs (one_step s (sight a n l r o k) d t (sight b m l r o k) runs none) serves (inl (risen, asks)))

    -- the connection ends
    pub ends_asking : (yields : Bool) → AsksNext next.Met s (sight a n l r o k) t (sight b m l r o k) → Serves false s0 (sight a0 n0 l r o0 k0) t (sight b m l r o k) yields
    ends_asking yields (d, none, runs, met) =
        serves_false s0 (sight a0 n0 l r o0 k0) t (sight b m l r o k) yields (0 + length d.read) (let z = none_read d none in omega (arith, z)) (going_met 0 s0 (sight a0 n0 l r o0 k0) s (sight a n l r o k) t (sight b m l r o k) yields so d runs (one_step s (sight a n l r o k) d t (sight b m l r o k) runs none) met)

-- ---- one piece after another

module _ (n : ℕ) (s0 : Standing) (v0 : Sight) (s : Standing) (v : Sight) (so : Going n s0 v0 s v) (t : Standing) (w : Sight) (yields : Bool) where
  paused_at : (z : Turn) → t.turn ≡ z → (d : Deeds) → Runs s v d t w → InOrder s v d t w → Pauses z s v d t w yields → Attends s0 v0 t w yields
  paused_at turn.Serve is d runs order h =
      let x = going_waits n s0 v0 s v t w yields so d runs order is h in
      (x.0, x.2, x.3, x.4)
  paused_at (turn.Leave e) is d runs order h =
      let x = going_met n s0 v0 s v t w yields so d runs order (e, is, h) in
      (x.0, x.2, x.3, x.4)
  paused_at turn.Enter is d runs order h = absurd h
  paused_at (turn.Over e) is d runs order h = absurd h

  -- the items of a piece are served, and no more is read
  pub attend_pauses : Serves false s v t w yields → Attends s0 v0 t w yields
  attend_pauses (d, none, runs, pauses) = paused_at t.turn refl d runs (one_step s v d t w runs none) pauses

  -- or more is to be read
  pub attend_on : Serves true s v t w yields → Going n s0 v0 t w × IsIdle t
  attend_on (d, none, runs, (serves, idle)) =
      let on = going_on n 0 s0 v0 s v t w so d (none_read d none) runs serves (one_step s v d t w runs none) in
      ((on.0, (let e = on.1 in omega (arith, e)), on.2, on.3, on.4), idle)

  -- a piece that was read is a step
  piece_step : (d : Deeds) → Runs s v d t w → (d.read ≡ []) ⊎ ReadsAlone s d → InOrder s v d t w
  piece_step d runs reads = ([], record { runs = runs; reads = reads })

  -- a piece came
  pub attend_got : (m : ℕ) → Takes (taken.Got m) s v t w → Going (n + m) s0 v0 t w
  attend_got m (d, runs, (serves, least, most, many), reads) = going_on n m s0 v0 s v t w so d many runs serves (piece_step d runs reads)

  -- nothing came yet
  pub attend_waits : IsIdle s → Takes taken.NotYet s v t w → Attends s0 v0 t w yields
  attend_waits idle (d, runs, (same, none, risen), reads) =
      paused_at turn.Serve (ap (λ (z : Standing). z.turn) same ∙ so.3) d runs (piece_step d runs reads) (inr (inr (inl risen, subst IsIdle (sym same) idle)))

  -- the connection ends
  pub attend_met : Takes taken.Met s v t w → Attends s0 v0 t w yields
  attend_met (d, runs, met, reads) =
      let x = going_met n s0 v0 s v t w yields so d runs (piece_step d runs reads) met in
      (x.0, x.2, x.3, x.4)

-- as many bytes are read as a poll reads, and it yields
pub attend_much : (n : ℕ) (s0 : Standing) (v0 : Sight) (s : Standing) (v : Sight) (yields : Bool) → Going n s0 v0 s v → IsIdle s → most_read ≤ n → yields ≡ true → Attends s0 v0 s v yields
attend_much n s0 v0 s v yields (d, many, runs, serves, order) idle much asks =
    (d, runs, subst (λ (z : Turn). Pauses z s0 v0 d s v yields) (sym serves) (inr (inr (inr (omega (arith, many, much), asks), idle))), order)
