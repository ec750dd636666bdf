-- A load, run at the portal that its script opens, and what is written of it.
use Rattle.std.proofs.Common.{◌≡◌, ℕ, ◌+◌, ◌<◌, ◌≤◌, List, [], ◌∷◌, ◌++◌, length, take, drop, get_or, Option, None, true, false, refl, sym, ap, ◌∙◌, subst, add-one, arith}
use Rattle.std.proofs.Math.Seq.{take-suc}
use Rattle.std.proofs.lemmas.List.{append-nil, take-append-drop, take_all}
use Rattle.portal_base.specs.declared.outside.WriteAnswer.TheVariants.{Failed}
use Rattle.portal_base.specs.Outside.{HasRisen, Short, WriteCounts, Writes, onto}
use Rattle.portal_steps.specs.Story.{state_first}
use Rattle.portal_load.specs.declared.load.Load.{Load}
use Rattle.portal_load.specs.Lines.{load_of, most_requests}
use Rattle.portal_load.proofs.Lengths.{are_short}
use Rattle.portal_load.proofs.Scripts.{are_scripts}
use Rattle.portal_model.specs.declared.entry.Entry.{Entry}
use Rattle.portal_model.specs.History.{cost}
use Rattle.portal_model.specs.State.{State}
use Rattle.portal_model.specs.Store.{Entries}
use Rattle.script_lines.specs.declared.script.ScriptLine.{ScriptLine}
use Rattle.script_lines.specs.Lines.{text_of}
use Rattle.script_form.specs.Order.{IsRead, IsScript}
use Rattle.script_replay.specs.declared.status.Status.{Status}
use Rattle.script_replay.specs.declared.status.Status.TheVariants.{Done, Usage, ScriptFault, ReadFault, WriteFault, Memory, TooLong}
use Rattle.script_replay.specs.Outcomes.{done_in, refused_in}
use Rattle.script_command.specs.Generated.{five_lines, Generates, RanLoad, WritesLines, lines_of_load, load_lines, load_lines_at}
use Rattle.script_command.specs.Inputs.{script_limit}
use Rattle.script_replay.specs.Plays.{Plays, PlaysAll, PlayStops}
use Rattle.script_command.specs.Runs.{Risen}
use Rattle.script_replay.specs.Scenes.{Scene, ScriptPortal, first_scene, opening_state}
use Rattle.script_replay.specs.Started.{StartsScript}
use Rattle.script_replay.specs.Steps.{MayPlay, scene}
use Rattle.script_command.proofs.ReplayScript.{is_replay_with, itself, may_replay, scene_is}
use Rattle.script_replay.proofs.RunLines.{onto_more, onto_none, short_after, short_more}

-- ---- at the portal that the load's script opens

module _ (count : ℕ) (slice : List ScriptLine) (p : ScriptPortal) (few : count ≤ most_requests) (is : slice ≡ lines_of_load count) (h : StartsScript (lines_of_load count) p) where
  size : length (text_of (lines_of_load count)) ≤ script_limit
  size = are_short count few

  script : IsRead (text_of (lines_of_load count)) (lines_of_load count)
  script = itself (lines_of_load count) (are_scripts count)

  pub may_run_load : MayPlay [] p [] slice
  may_run_load = may_replay (text_of (lines_of_load count)) (lines_of_load count) slice p size script is h

  begins : scene p [] ≡ first_scene h.entries (lines_of_load count)
  begins = scene_is (text_of (lines_of_load count)) (lines_of_load count) slice p size script is h

  pub ran_load : (q : ScriptPortal) → state_first q.story ≡ state_first p.story → PlaysAll p q slice None None → RanLoad count q
  ran_load q same k =
      let lines : List ScriptLine = lines_of_load count in
      let grown : q.story.history ≡ k.history = k.stored ∙ ap (λ (z : List Entry). z ++ k.history) h.history in
      let plays : Plays (scene p []) lines k.history k.out k.last = subst (λ (x : List ScriptLine). Plays (scene p []) x k.history k.out k.last) is k.plays in
      let replay = is_replay_with h.entries (text_of lines) lines lines [] q.story.history k.out k.last h.kept size script (sym (append-nil lines)) h.valid
      (subst (λ (z : List Entry). Plays (first_scene h.entries lines) lines z k.out k.last) (sym grown) (subst (λ (z : Scene). Plays z lines k.history k.out k.last) begins plays)) in
      record { out = k.out; last = k.last; replay = replay.0; first = same ∙ (h.state ∙ ap (λ (z : Entries). opening_state z lines) (sym replay.1)) }

  -- the sink takes all, so no write fails
  none_risen : HasRisen 0 0 → ⊥
  none_risen r = omega (arith, r)

  stops : (status : Status) → PlayStops (first_scene h.entries (lines_of_load count)) (lines_of_load count) None 0 None 0 status → status ≡ Memory
  stops Done k = absurd k
  stops Usage k = absurd k
  stops (ScriptFault line) k = absurd k
  stops ReadFault k = absurd k
  stops WriteFault k = absurd (none_risen k.0)
  stops Memory k = refl
  stops TooLong k = absurd k

  pub load_stops : (status : Status) → PlayStops (scene p []) slice None 0 None 0 status → status ≡ Memory
  load_stops status k = stops status (subst (λ (z : Scene). PlayStops z (lines_of_load count) None 0 None 0 status) begins (subst (λ (x : List ScriptLine). PlayStops (scene p []) x None 0 None 0 status) is k))

-- its lines are a script
pub load_is_script : (lines : List ScriptLine) (count : ℕ) → lines ≡ lines_of_load count → IsScript lines
load_is_script lines count is = subst IsScript (sym is) (are_scripts count)

-- ---- what is written

abbrev pub Generated : ℕ → Option (List (List ℕ)) → Option (List (List ℕ)) → Status → Type 0
Generated count told told' status = (pieces : List (List ℕ)) × (told' ≡ onto told pieces) × Generates count pieces status

pub nothing_for_memory : (count : ℕ) (told : Option (List (List ℕ))) → Generated count told told Memory
nothing_for_memory count told = ([], onto_none told, refl)

pub nothing_said : (count : ℕ) (told : Option (List (List ℕ))) (status : Status) → status ≡ Memory → Generated count told told status
nothing_said count told status is = subst (Generated count told told) (sym is) (nothing_for_memory count told)

pub nothing_risen : (faults : ℕ) (status : Status) → status ≡ Memory → Risen status 0 0 faults faults
nothing_risen faults status is = subst (λ (s : Status). Risen s 0 0 faults faults) (sym is) (refl, refl)

-- the tree of a load's portal tells its files
pub load_tells : (count : ℕ) (p : ScriptPortal) → RanLoad count p → (state_first p.story).told ≡ true
load_tells count p ran = ap (λ (z : State). z.told) ran.first

-- a load has the lines of as many requests as it says
pub load_lines_are : (load : Load) (count : ℕ) → load ≡ load_of count → load.script.lines ≡ lines_of_load load.requests
load_lines_are load count e = ap (λ (z : Load). z.script.lines) e ∙ ap lines_of_load (sym (ap (λ (z : Load). z.requests) e))

pub load_short : (load : Load) (count : ℕ) → load ≡ load_of count → count ≤ most_requests → load.requests ≤ most_requests
load_short load count e h = let same : load.requests ≡ count = ap (λ (z : Load). z.requests) e in omega arith

pub generated_as : (load : Load) (count : ℕ) (told told' : Option (List (List ℕ))) (status : Status) → load ≡ load_of count → Generated load.requests told told' status → Generated count told told' status
generated_as load count told told' status e g = subst (λ (z : ℕ). Generated z told told' status) (ap (λ (z : Load). z.requests) e) g

module _ (count : ℕ) (p : ScriptPortal) (ran : RanLoad count p) (lines slice : List (List ℕ)) (told told' : Option (List (List ℕ))) (faults faults' : ℕ) (made : lines ≡ load_lines_at count p.story) (is : slice ≡ lines) where
  said_is : slice ≡ load_lines count (opening_state ran.replay.entries (lines_of_load count)) p.story.history
  said_is = is ∙ (made ∙ ap (λ (z : State). load_lines count z p.story.history) ran.first)

  pub all_said : WritesLines slice told faults told' faults' true → Generated count told told' Done
  all_said w = (slice, w.1, record { history = p.story.history; out = ran.out; last = ran.last; replay = ran.replay; said = said_is })

  pub part_said : WritesLines slice told faults told' faults' false → Generated count told told' WriteFault
  part_said w = (
    w.1.0,
    w.1.2,
    record { history = p.story.history; out = ran.out; last = ran.last; replay = ran.replay; said = subst (Short w.1.0) said_is w.1.1 },
  )

-- ---- writing lines

-- so many lines are written
pub record Written (lines : List (List ℕ)) (told : Option (List (List ℕ))) (faults index : ℕ) (told' : Option (List (List ℕ))) (faults' : ℕ) : Type 0 where
  pub told_is : told' ≡ onto told (take index lines)
  pub faults_are : faults' ≡ faults

pub none_written : (lines : List (List ℕ)) (told : Option (List (List ℕ))) (faults : ℕ) → Written lines told faults 0 told faults
none_written lines told faults = record { told_is = onto_none told; faults_are = refl }

taken : (lines : List (List ℕ)) (index : ℕ) (line : List ℕ) → index < length lines → line ≡ get_or lines index line → take (index + 1) lines ≡ take index lines ++ line ∷ []
taken lines index line h is = rw (add-one, take-suc lines index line) (ap (λ (x : List ℕ). take index lines ++ x ∷ []) (sym is))

module _ (lines : List (List ℕ)) (told : Option (List (List ℕ))) (faults index : ℕ) (mid : Option (List (List ℕ))) (mid_faults : ℕ) (before : Written lines told faults index mid mid_faults) (line : List ℕ) (inside : index < length lines) (at : line ≡ get_or lines index line) (given : List ℕ) (is : given ≡ line) where
  pub one_written : (told' : Option (List (List ℕ))) (faults' : ℕ) → told' ≡ onto mid (given ∷ []) → faults' ≡ mid_faults → Written lines told faults (index + 1) told' faults'
  one_written told' faults' wrote counts = record {
    told_is = wrote ∙ (ap (λ (z : List ℕ). onto mid (z ∷ [])) is ∙ (ap (λ (z : Option (List (List ℕ))). onto z (line ∷ [])) before.told_is ∙ (onto_more told (take index lines) (line ∷ []) ∙ ap (onto told) (sym (taken lines index line inside at)))));
    faults_are = counts ∙ before.faults_are;
  }

  -- a part of the next line stays one behind the lines that are written
  front_of : (ws : List (List ℕ)) → Short ws (given ∷ []) → Short (take index lines ++ ws) lines
  front_of ws h =
      let line_front : Short ws (line ∷ []) = subst (λ (z : List ℕ). Short ws (z ∷ [])) is h in
      let all : lines ≡ (take index lines ++ line ∷ []) ++ drop (index + 1) lines =
      sym (take-append-drop (index + 1) lines) ∙ ap (λ (z : List (List ℕ)). z ++ drop (index + 1) lines) (taken lines index line inside at) in
      subst (λ (z : List (List ℕ)). Short (take index lines ++ ws) z) (sym all) (short_more (take index lines ++ ws) (take index lines ++ line ∷ []) (drop (index + 1) lines) (short_after (take index lines) ws (line ∷ []) line_front))

  risen : (faults' : ℕ) → HasRisen mid_faults faults' → HasRisen faults faults'
  risen faults' h = subst (λ (z : ℕ). HasRisen z faults') before.faults_are h

  pub one_failed : (told' : Option (List (List ℕ))) (faults' : ℕ) → Writes mid given Failed told' → WriteCounts mid_faults Failed faults' → WritesLines lines told faults told' faults' false
  one_failed told' faults' wrote counts = (
    risen faults' counts.1,
    (
      take index lines ++ wrote.0,
      front_of wrote.0 wrote.1,
      wrote.2 ∙ (ap (λ (z : Option (List (List ℕ))). onto z wrote.0) before.told_is ∙ onto_more told (take index lines) wrote.0),
    ),
  )

pub all_written : (lines : List (List ℕ)) (told : Option (List (List ℕ))) (faults index : ℕ) (told' : Option (List (List ℕ))) (faults' : ℕ) → length lines ≤ index → Written lines told faults index told' faults' → WritesLines lines told faults told' faults' true
all_written lines told faults index told' faults' all w = (w.faults_are, w.told_is ∙ ap (onto told) (take_all index lines all))

-- ---- the five lines

-- five lines, each put behind those ahead of it
pub five_added : (l l1 l2 l3 l4 l5 : List (List ℕ)) (a b c d e : List ℕ) → l ≡ [] → l1 ≡ l ++ a ∷ [] → l2 ≡ l1 ++ b ∷ [] → l3 ≡ l2 ++ c ∷ [] → l4 ≡ l3 ++ d ∷ [] → l5 ≡ l4 ++ e ∷ [] → l5 ≡ a ∷ b ∷ c ∷ d ∷ e ∷ []
five_added l l1 l2 l3 l4 l5 a b c d e none one two three four five =
    five
    ∙ ap (λ (z : List (List ℕ)). z ++ e ∷ []) (four
    ∙ ap (λ (z : List (List ℕ)). z ++ d ∷ []) (three
    ∙ ap (λ (z : List (List ℕ)). z ++ c ∷ []) (two
    ∙ ap (λ (z : List (List ℕ)). z ++ b ∷ []) (one
    ∙ ap (λ (z : List (List ℕ)). z ++ a ∷ []) none))))

-- those of a portal's counts
pub five_of : (count : ℕ) (s : State) (h : List Entry) (lines : List (List ℕ)) (requests done refused entries cost_now : ℕ) → lines ≡ five_lines requests done refused entries cost_now
    → requests ≡ count → done ≡ done_in s h → refused ≡ refused_in s h → entries ≡ length h → cost_now ≡ cost h → lines ≡ load_lines count s h
five_of count s h lines requests done refused entries cost_now made r d f n k =
    made
    ∙ (ap (λ (z : ℕ). five_lines z done refused entries cost_now) r
    ∙ (ap (λ (z : ℕ). five_lines count z refused entries cost_now) d
    ∙ (ap (λ (z : ℕ). five_lines count (done_in s h) z entries cost_now) f
    ∙ (ap (λ (z : ℕ). five_lines count (done_in s h) (refused_in s h) z cost_now) n
    ∙ ap (λ (z : ℕ). five_lines count (done_in s h) (refused_in s h) (length h) z) k))))
