-- What asking the next item comes to.
use Rattle.std.proofs.Common.{◌≡◌, inl, inr, ℕ, ◌+◌, ◌<◌, ◌≤◌, List, [], ◌∷◌, ◌++◌, length, take, Option, Some, None, Ok, Err, refl, sym, ap, ◌∙◌, subst, arith}
use Rattle.std.proofs.lemmas.List.{append-nil, length-drop, length-take-le, take-append-drop}
use Rattle.dbus_auth.specs.declared.handshake.AuthAnswer.{AuthAnswer}
use Rattle.dbus_auth.specs.declared.handshake.AuthAnswer.TheVariants.{Say, Begin, Early}
use Rattle.dbus_auth.specs.Handshake.{step}
use Rattle.portal_desk.specs.Trying.{IsPutOff}
use Rattle.portal_model.specs.declared.request.Request.{Request}
use Rattle.portal_model.specs.Seated.{Seated}
use Rattle.session.specs.declared.act.Act.{Act}
use Rattle.session.specs.declared.act.Act.TheVariants.{Nothing, Line}
use Rattle.session.specs.declared.act.Client.{Client}
use Rattle.session.specs.declared.act.ItemError.TheVariants.{Breaks}
use Rattle.session.specs.declared.phase.Phase.{Phase}
use Rattle.session.specs.declared.phase.Phase.TheVariants as due
use Rattle.session.specs.declared.served.Fed.TheVariants as fed
use Rattle.session.specs.declared.served.Served.{Served}
use Rattle.session.specs.declared.served.Served.TheVariants as served
use Rattle.session.specs.declared.served.Stop.{Stop}
use Rattle.session.specs.declared.served.Stop.TheVariants as stop
use Rattle.session.specs.Asked.{Means, asked_by, line_act}
use Rattle.session.specs.Cuts.{Cuts, line_of, next_phase, whole_item}
use Rattle.session.specs.Items.{Remains}
use Rattle.session.specs.Ledger.{Grew}
use Rattle.session.specs.Sessions.{fed_of}
use Rattle.session.specs.Standings.{stage}
use Rattle.session.proofs.Grew.{grew_none, rises_none}
use Rattle.session.proofs.NextCut.{whole_alone, whole_within}
use Rattle.poll_steps.specs.declared.ask.Next.{Next}
use Rattle.poll_steps.specs.declared.ask.Next.TheVariants as next
use Rattle.poll_laws.specs.declared.course.Turn.{Turn}
use Rattle.poll_laws.specs.declared.course.Turn.TheVariants as turn
use Rattle.poll_laws.specs.Courses.{Around, Inside, Place, Sight, Standing, met_by, place_of, sight}
use Rattle.poll_ends.specs.Outside.{Counts}
use Rattle.poll_laws.specs.Polls.{EndsAs, IsWhole}
use Rattle.poll_laws.proofs.Joining.{some_none}
use Rattle.poll_steps.specs.Steps.{ActDone, ActIs, AsksNext, Stops, turned}
use Rattle.poll_steps.proofs.StepRuns.{asked_one, not_outside, nothing, runs_asked, runs_none, runs_turned}

-- ---- a busy desk

-- where the desk was busy nothing is new of the seat's own
pub put_off_grew : (a b : Seated) (request again : Request) → IsPutOff a request again b → Grew a [] b
put_off_grew a b request again h = record {
  moved = h.moved;
  steps = [];
  mine = h.mine ∙ sym (append-nil a.mine);
  alike = tt;
  refusals = h.refusals ∙ rises_none a.refusals;
  caused = tt;
}

-- what a line asks asks nothing of the portal
line_silent : (found : AuthAnswer) (act : Act) (request : Request) → line_act found ≡ Ok act → asked_by act ≡ request ∷ [] → ⊥
line_silent (Say reply) act request is asked =
    let same : act ≡ Line reply = cc in
    let none : asked_by act ≡ [] = ap asked_by same in
    absurd (cc)
line_silent Begin act request is asked =
    let same : act ≡ Nothing = cc in
    let none : asked_by act ≡ [] = ap asked_by same in
    absurd (cc)
line_silent Early act request is asked = absurd (cc)

-- what is due stays behind an item that asks something
due_stays : (c : Client) (p : Phase) (item : List ℕ) (act : Act) (request : Request) → Means c p item (Ok act) → asked_by act ≡ request ∷ [] → next_phase c p item ≡ p
due_stays c due.ZeroByte item act request means asked =
    let same : act ≡ Nothing = cc in
    let none : asked_by act ≡ [] = ap asked_by same in
    absurd (cc)
due_stays c (due.Handshake h) item act request means asked = absurd (line_silent (step h (line_of item)).0 act request (sym means) asked)
due_stays c due.Messages item act request means asked = refl
due_stays c due.Frames item act request means asked = refl

-- ---- an item

abbrev pub phased : Standing → Phase → Standing
phased s p = record s { stage = stage p s.stage.serial }

module _ (s : Standing) (serves : s.turn ≡ turn.Serve) (sent : s.unsent ≡ []) (a : Seated) (n : ℕ) (l : Option (List ℕ)) (r : Counts) (o : Option (List ℕ)) (k : Counts) where
  inside_still : Around s.client (place_of s.turn) [] [] Inside
  inside_still = subst (λ (p : Place). Around s.client p [] [] Inside) (sym (ap place_of serves)) refl

  never_met : (e : Served) (x : Option Served) → met_by s.turn ≡ Some e → x ≡ Some e
  never_met e x was = let none : met_by s.turn ≡ None = ap met_by serves in absurd (cc)

  -- an ending is met here, and nothing is asked
  pub meets_here : (e : Served) → ((v w : Sight) → EndsAs e (turned s (turn.Leave e)) v w [] []) → AsksNext next.Met s (sight a n l r o k) (turned s (turn.Leave e)) (sight a n l r o k)
  meets_here e ends = (
    nothing,
    refl,
    runs_turned s a a n n l r o k (turn.Leave e) [] (omega arith) inside_still (grew_none a) (λ f was. never_met f (Some e) was) (λ f out was. absurd (not_outside s [] serves out)) (λ from to. sent),
    (e, refl, ends (sight a n l r o k) (sight a n l r o k)),
  )

  -- no item stands at the front
  ends_at : (what : Stop) (e : Served) → fed_of s.before what ≡ fed.Over e → Remains s.client s.stage.phase s.left what → (v w : Sight) → EndsAs e (turned s (turn.Leave e)) v w [] []
  ends_at stop.More e is remains = absurd (cc)
  ends_at (stop.Bad rule) e is remains =
      let same : served.Malformed s.before rule ≡ e = cc in
      subst (λ (z : Served). (v w : Sight) → EndsAs z (turned s (turn.Leave z)) v w [] []) same (λ v w. (refl, remains, sent))
  ends_at stop.TooLong e is remains =
      let same : served.LineTooLong s.before ≡ e = cc in
      subst (λ (z : Served). (v w : Sight) → EndsAs z (turned s (turn.Leave z)) v w [] []) same (λ v w. (refl, remains, sent))

  idle_at : (what : Stop) → ((e : Served) → fed_of s.before what ≡ fed.Over e → ⊥) → Remains s.client s.stage.phase s.left what → Remains s.client s.stage.phase s.left stop.More
  idle_at stop.More never remains = remains
  idle_at (stop.Bad rule) never remains = absurd (never (served.Malformed s.before rule) refl)
  idle_at stop.TooLong never remains = absurd (never (served.LineTooLong s.before) refl)

  pub stops_here : (found : Next) (what : Stop) (t : Standing) → Stops found what s t → Remains s.client s.stage.phase s.left what → AsksNext found s (sight a n l r o k) t (sight a n l r o k)
  stops_here next.Met what t (e, is, same) remains =
      subst (λ (z : Standing). AsksNext next.Met s (sight a n l r o k) z (sight a n l r o k)) (sym same) (meets_here e (ends_at what e is remains))
  stops_here next.NoItem what t (never, same) remains =
      subst (λ (z : Standing). AsksNext next.NoItem s (sight a n l r o k) z (sight a n l r o k)) (sym same) (nothing, refl, runs_none s (sight a n l r o k), (serves, (idle_at what never remains, sent)))
  stops_here next.Asked what t h remains = absurd h
  stops_here next.Busy what t h remains = absurd h

  -- a whole item stands there
  module _ (len : ℕ) (act : Act) (cuts : Cuts s.stage.phase s.left (whole_item len)) (means : Means s.client s.stage.phase (take len s.left) (Ok act)) where
    abbrev pub after_item : Phase
    after_item = next_phase s.client s.stage.phase (take len s.left)

    item_len : length (take len s.left) ≡ len
    item_len = length-take-le len s.left (whole_within s.stage.phase s.left len cuts).1

    module _ (t : Standing) (b : Seated) (m : ℕ) (h : ActDone act len (phased s after_item) a n t b m) (there : place_of t.turn ≡ Inside) where
      left_is : s.left ≡ take len s.left ++ t.left
      left_is = sym (take-append-drop len s.left) ∙ ap (λ (z : List ℕ). take len s.left ++ z) (sym h.left)

      before_is : t.before ≡ s.before + length (take len s.left)
      before_is = h.before ∙ ap (λ (z : ℕ). s.before + z) (sym item_len)

      busy_is : n ≤ m
      busy_is = let e = h.busy in omega (arith, e)

      shorter : length t.left < length s.left
      shorter =
          let w = whole_within s.stage.phase s.left len cuts in
          let e = ap length h.left in
          omega (arith, w.0, w.1, e, length-drop len s.left)

    pub act_asks : (found : Next) (t : Standing) (b : Seated) (m : ℕ) → ActIs found act len (phased s after_item) a n t b m → AsksNext found s (sight a n l r o k) t (sight b m l r o k)
    act_asks next.Asked t b m (h, serves_on, serial, unsent) =
        let there : place_of t.turn ≡ Inside = ap place_of serves_on in (
          asked_one s.client s.stage.serial (take len s.left) act h.outcomes,
          refl,
          runs_asked s t serves there sent h.client (take len s.left) act h.outcomes (left_is t b m h there) (whole_alone s.stage.phase s.left len cuts, means) h.phase (before_is t b m h there) h.each a b n m l r o k (busy_is t b m h there) h.grew (λ whole. (unsent, serial)) (λ to. absurd (some_none (met_by t.turn) served.Memory (ap met_by serves_on) to)),
          (serves_on, shorter t b m h there),
        )
    act_asks next.Busy t b m (request, asked, off, more, risen, same) =
        let stays : phased s after_item ≡ s = ap (phased s) (due_stays s.client s.stage.phase (take len s.left) act request means asked) in
        subst (λ (z : Standing). AsksNext next.Busy s (sight a n l r o k) z (sight b m l r o k)) (sym (same ∙ stays))
        (nothing, refl, runs_turned s a b n m l r o k s.turn [] more (subst (λ (p : Place). Around s.client (place_of s.turn) [] [] p) (sym (ap place_of serves)) inside_still) (put_off_grew a b request request off) (λ e was. was) (λ e out was. absurd (not_outside s [] serves out)) (λ from to. sent), (serves, risen))
    act_asks next.Met t b m (inl ((request, asked), desk, busy, same)) =
        let stays : phased s after_item ≡ s = ap (phased s) (due_stays s.client s.stage.phase (take len s.left) act request means asked) in
        rw (desk, busy, same) (subst (λ (z : Standing). AsksNext next.Met s (sight a n l r o k) (turned z (turn.Leave served.Memory)) (sight a n l r o k)) (sym stays) (meets_here served.Memory (λ v w. omega arith)))
    act_asks next.Met t b m (inr (h, leaves, lacks)) =
        let there : place_of t.turn ≡ Inside = ap place_of leaves in (
          asked_one s.client s.stage.serial (take len s.left) act h.outcomes,
          refl,
          runs_asked s t serves there sent h.client (take len s.left) act h.outcomes (left_is t b m h there) (whole_alone s.stage.phase s.left len cuts, means) h.phase (before_is t b m h there) h.each a b n m l r o k (busy_is t b m h there) h.grew (λ whole. absurd (subst (λ (z : Turn). IsWhole (met_by z)) leaves whole)) (λ to. lacks),
          (served.Memory, leaves, omega arith),
        )
    act_asks next.NoItem t b m h = absurd h

  -- what is read of the item that stands there
  module _ (len : ℕ) (item : List ℕ) (cuts : Cuts s.stage.phase s.left (whole_item len)) (same : item ≡ take len s.left) (p : Phase) where
    pub read_asked : (act : Act) → Means s.client s.stage.phase item (Ok act) → p ≡ next_phase s.client s.stage.phase item → (found : Next) (t : Standing) (b : Seated) (m : ℕ) → ActIs found act len (phased s p) a n t b m → AsksNext found s (sight a n l r o k) t (sight b m l r o k)
    read_asked act means moves found t b m h =
        act_asks len act cuts (subst (λ (z : List ℕ). Means s.client s.stage.phase z (Ok act)) same means) found t b m
        (subst (λ (z : Phase). ActIs found act len (phased s z) a n t b m) (moves ∙ ap (next_phase s.client s.stage.phase) same) h)

    pub read_breaks : (rule : ℕ) → Means s.client s.stage.phase item (Err (Breaks rule)) → p ≡ s.stage.phase → (found : Next) (t : Standing) → Stops found (stop.Bad rule) (phased s p) t → AsksNext found s (sight a n l r o k) t (sight a n l r o k)
    read_breaks rule means stays found t h =
        stops_here found (stop.Bad rule) t (subst (λ (z : Phase). Stops found (stop.Bad rule) (phased s z) t) stays h)
        (inr (len, cuts, subst (λ (z : List ℕ). Means s.client s.stage.phase z (Err (Breaks rule))) same means))

    pub read_lacks : p ≡ s.stage.phase → (t : Standing) → t ≡ turned (phased s p) (turn.Leave served.Memory) → AsksNext next.Met s (sight a n l r o k) t (sight a n l r o k)
    read_lacks stays t is =
        subst (λ (z : Standing). AsksNext next.Met s (sight a n l r o k) z (sight a n l r o k))
        (sym (is ∙ ap (λ (z : Phase). turned (phased s z) (turn.Leave served.Memory)) stays)) (meets_here served.Memory (λ v w. omega arith))
