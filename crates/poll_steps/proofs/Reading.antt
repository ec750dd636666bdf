-- What reading a piece comes to.
use Rattle.std.proofs.Common.{◌≡◌, inl, inr, ℕ, ◌+◌, ◌≤◌, List, [], ◌∷◌, ◌++◌, length, Option, Some, None, refl, sym, ap, ◌∙◌, subst, arith}
use Rattle.std.proofs.lemmas.List.{append-nil, length-append}
use Rattle.portal_base.specs.Outside.{behind}
use Rattle.portal_model.specs.Seated.{Seated}
use Rattle.session.specs.declared.served.Served.{Served}
use Rattle.session.specs.declared.served.Served.TheVariants as served
use Rattle.session.specs.Pumps.{longest_piece}
use Rattle.session.specs.Sessions.{ending_at}
use Rattle.session.specs.Standings.{longest}
use Rattle.session.proofs.Grew.{grew_none}
use Rattle.poll_ends.specs.Outside.{Counts, Faulted, NoneFalls, Waited}
use Rattle.poll_laws.specs.declared.course.Turn.TheVariants as turn
use Rattle.poll_laws.specs.Courses.{Around, Inside, Place, Sight, Standing, met_by, place_of, sight}
use Rattle.poll_laws.specs.Polls.{EndsAs, IsDry, IsIdle}
use Rattle.poll_laws.proofs.Joining.{behind_none}
use Rattle.poll_steps.specs.declared.read.Taken.{Taken}
use Rattle.poll_steps.specs.declared.read.Taken.TheVariants as taken
use Rattle.poll_steps.specs.Steps.{Holds, Takes, turned}
use Rattle.poll_steps.proofs.StepRuns.{not_outside, nothing, read_one, reads_alone, runs_passed, runs_read, runs_turned}

-- where the counts of the source stand still
pub takes_still : (s : Standing) (a : Seated) (n : ℕ) (l l' : Option (List ℕ)) (r r' : Counts) (o : Option (List ℕ)) (k : Counts) (found : Taken) (t : Standing) → r' ≡ r → Takes found s (sight a n l r o k) t (sight a n l' r o k) → Takes found s (sight a n l r o k) t (sight a n l' r' o k)
takes_still s a n l l' r r' o k found t still h = subst (λ (z : Counts). Takes found s (sight a n l r o k) t (sight a n l' z o k)) (sym still) h

module _ (s : Standing) (serves : s.turn ≡ turn.Serve) (idle : IsIdle s) (a : Seated) (n : ℕ) (l : Option (List ℕ)) (r : Counts) (o : Option (List ℕ)) (k : Counts) where
  inside_here : Around s.client (place_of s.turn) [] [] Inside
  inside_here = subst (λ (p : Place). Around s.client p [] [] Inside) (sym (ap place_of serves)) refl

  no_fall : NoneFalls r r
  no_fall = record { faults = omega arith; waits = omega arith }

  -- a piece came
  pub takes_piece : (found : Taken) (piece : List ℕ) (l' : Option (List ℕ)) (t : Standing) → 1 ≤ length piece → length piece ≤ longest_piece → l ≡ behind piece l' → Holds found s piece t → Takes found s (sight a n l r o k) t (sight a n l' r o k)
  takes_piece (taken.Got m) piece l' t least most came_in (size, same, room) =
      subst (λ (z : Standing). Takes (taken.Got m) s (sight a n l r o k) z (sight a n l' r o k)) (sym same)
      (read_one piece [], runs_read s serves a n l l' r r o k no_fall piece came_in idle (λ h. let e = length-append s.left piece in omega (arith, e, room)), (serves, omega (arith, size, least), omega (arith, size, most), sym size), inr (reads_alone s serves a n l l' r r o k no_fall piece came_in [] idle))
  takes_piece taken.NotYet piece l' t least most came_in h = absurd h
  takes_piece taken.Met piece l' t least most came_in (inl same) =
      subst (λ (z : Standing). Takes taken.Met s (sight a n l r o k) z (sight a n l' r o k)) (sym same)
      (read_one piece piece, runs_passed s serves a n l l' r r o k no_fall piece came_in idle served.Memory (λ h. absurd h), (served.Memory, refl, most), inr (reads_alone s serves a n l l' r r o k no_fall piece came_in piece idle))
  takes_piece taken.Met piece l' t least most came_in (inr (over, same)) =
      subst (λ (z : Standing). Takes taken.Met s (sight a n l r o k) z (sight a n l' r o k)) (sym same)
      (read_one piece piece, runs_passed s serves a n l l' r r o k no_fall piece came_in idle served.Spent (λ h. absurd h), (served.Spent, refl, (over, most, idle)), inr (reads_alone s serves a n l l' r r o k no_fall piece came_in piece idle))

  -- the source ended
  ends_dry : (left : List ℕ) → left ≡ s.left → (e : Served) → e ≡ ending_at left → (v w : Sight) → IsDry w → EndsAs e (turned s (turn.Leave e)) v w [] []
  ends_dry [] same e is v w dry = subst (λ (z : Served). EndsAs z (turned s (turn.Leave z)) v w [] []) (sym is) (dry, sym same, idle)
  ends_dry (x ∷ xs) same e is v w dry =
      subst (λ (z : Served). EndsAs z (turned s (turn.Leave z)) v w [] []) (sym is) (dry, omega arith, ap length same, idle)

  pub takes_end : (e : Served) (t : Standing) → e ≡ ending_at s.left → IsDry (sight a n l r o k) → t ≡ turned s (turn.Leave e) → Takes taken.Met s (sight a n l r o k) t (sight a n l r o k)
  takes_end e t is dry same =
      subst (λ (z : Standing). Takes taken.Met s (sight a n l r o k) z (sight a n l r o k)) (sym same)
      (nothing, runs_turned s a a n n l r o k (turn.Leave e) [] (omega arith) inside_here (grew_none a) (λ f was. absurd (unmet f was)) (λ f out was. absurd (not_outside s [] serves out)) (λ from to. idle.1), (e, refl, ends_dry s.left refl e is (sight a n l r o k) (sight a n l r o k) dry), inl refl)
    where
      unmet : (f : Served) → met_by s.turn ≡ Some f → ⊥
      unmet f was = let none : met_by s.turn ≡ None = ap met_by serves in absurd (cc)

module _ (s : Standing) (serves : s.turn ≡ turn.Serve) (idle : IsIdle s) (a : Seated) (n : ℕ) (l l' : Option (List ℕ)) (r r' : Counts) (o : Option (List ℕ)) (k : Counts) (same : l' ≡ l) where
  nothing_came : l ≡ behind [] l'
  nothing_came = behind_none l ∙ ap (behind []) (sym same)

  -- the source ended
  pub takes_dry : (e : Served) (t : Standing) → e ≡ ending_at s.left → IsDry (sight a n l r o k) → r' ≡ r → t ≡ turned s (turn.Leave e) → Takes taken.Met s (sight a n l r o k) t (sight a n l' r' o k)
  takes_dry e t is dry still turned_is =
      takes_still s a n l l' r r' o k taken.Met t still
      (subst (λ (z : Option (List ℕ)). Takes taken.Met s (sight a n l r o k) t (sight a n z r o k)) (sym same) (takes_end s serves idle a n l r o k e t is dry turned_is))

  -- nothing came yet
  pub takes_wait : Waited r r' → Takes taken.NotYet s (sight a n l r o k) s (sight a n l' r' o k)
  takes_wait waited =
      let none : record s { left = s.left ++ [] } ≡ s = ap (λ (z : List ℕ). record s { left = z }) (append-nil s.left) in
      subst (λ (z : Standing). Takes taken.NotYet s (sight a n l r o k) z (sight a n l' r' o k)) none
      (read_one [] [], runs_read s serves a n l l' r r' o k waited.falls [] nothing_came idle (λ h. subst (λ (z : List ℕ). s.before + length z ≤ longest) (sym (append-nil s.left)) h), (none, refl, waited.risen), inl refl)

  -- a read failed
  pub takes_fault : (t : Standing) → Faulted r r' → t ≡ turned s (turn.Leave served.ReadFault) → Takes taken.Met s (sight a n l r o k) t (sight a n l' r' o k)
  takes_fault t faulted turned_is =
      subst (λ (z : Standing). Takes taken.Met s (sight a n l r o k) z (sight a n l' r' o k)) (sym turned_is)
      (read_one [] [], runs_passed s serves a n l l' r r' o k faulted.falls [] nothing_came idle served.ReadFault (λ h. refl), (served.ReadFault, refl, (faulted.risen, idle)), inl refl)
