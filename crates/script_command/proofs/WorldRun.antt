-- A script that is run at the portal that it opens, and an application's trace in its history.
use Rattle.std.proofs.Common.{◌≡◌, ℕ, ◌+◌, ◌≤◌, List, [], ◌++◌, length, Some, None, Result, Ok, Err, IfOk, sym, ap, ◌∙◌, subst, arith}
use Rattle.std.proofs.lemmas.List.{append-nil}
use Rattle.app_trace.specs.declared.trace.Trace as plain
use Rattle.app_trace.specs.Told.{trace_told}
use Rattle.app_world.specs.World.{Trace, trace}
use Rattle.file_generations.specs.Generations.{Held, held_with}
use Rattle.portal_base.specs.declared.files.File.{File}
use Rattle.portal_model.specs.declared.entry.Entry.{Entry}
use Rattle.portal_model.specs.declared.opening.OpeningState.{OpeningState}
use Rattle.portal_desk.specs.Opening.{IsOpeningState}
use Rattle.portal_model.specs.History.{Legal, cost}
use Rattle.portal_model.proofs.OpeningLaws.{items-first}
use Rattle.portal_model.specs.Opening.{opened, opened_over}
use Rattle.portal_model.specs.State.{State}
use Rattle.portal_model.specs.Store.{Entries}
use Rattle.record_keeper.proofs.KeptFacts.{kept_in_one_way}
use Rattle.script_lines.specs.declared.script.ScriptLine.{ScriptLine}
use Rattle.script_lines.specs.Lines.{text_of}
use Rattle.script_form.specs.Devices.{held_files}
use Rattle.script_form.specs.Opening.{entries_of}
use Rattle.script_form.specs.Order.{IsRead, IsScript}
use Rattle.script_command.specs.Inputs.{script_limit}
use Rattle.script_command.specs.Openings.{StandsFor}
use Rattle.script_replay.specs.Plays.{Plays, PlaysAll}
use Rattle.script_replay.specs.Scenes.{Scene, ScriptPortal, first_scene, opening_state, run_limits}
use Rattle.script_replay.specs.Started.{StartsScript}
use Rattle.script_replay.specs.Steps.{MayPlay, scene}
use Rattle.script_command.specs.Worlds.{IsTraceIn, RanAt}
use Rattle.script_command.proofs.ReplayScript.{is_replay, itself, may_replay, scene_is}

-- ---- the run

module _ (lines slice : List ScriptLine) (p : ScriptPortal) (good : IsScript lines) (size : length (text_of lines) ≤ script_limit) (is : slice ≡ lines) (h : StartsScript lines p) where
  script : IsRead (text_of lines) lines
  script = itself lines good

  pub may_run : MayPlay [] p [] slice
  may_run = may_replay (text_of lines) lines slice p size script is h

  begins : scene p [] ≡ first_scene h.entries lines
  begins = scene_is (text_of lines) lines slice p size script is h

  pub ran_at : (q : ScriptPortal) → PlaysAll p q slice None None → RanAt lines q
  ran_at q k =
      let grown : q.story.history ≡ k.history = k.stored ∙ ap (λ (z : List Entry). z ++ k.history) h.history in
      let plays : Plays (scene p []) lines k.history k.out k.last = subst (λ (x : List ScriptLine). Plays (scene p []) x k.history k.out k.last) is k.plays in
      record {
        out = k.out;
        last = k.last;
        replay = is_replay h.entries (text_of lines) lines lines [] q.story.history k.out k.last h.kept size script (sym (append-nil lines)) h.valid
            (subst (λ (z : List Entry). Plays (first_scene h.entries lines) lines z k.out k.last) (sym grown) (subst (λ (z : Scene). Plays z lines k.history k.out k.last) begins plays));
      }

-- ---- the trace

module _ (lines : List ScriptLine) (p : ScriptPortal) (o : OpeningState) (entries : List Entry) (good : IsScript lines) (ran : RanAt lines p) (stands : StandsFor lines o) (is : entries ≡ p.story.history) where
  same_entries : o.entries ≡ ran.replay.entries
  same_entries = kept_in_one_way (entries_of lines) o.entries ran.replay.entries stands.entries ran.replay.kept

  first : opened o ≡ opening_state ran.replay.entries lines
  first =
      ap (λ (held : Held). opened_over (Some held) o) (items-first o.files stands.first)
      ∙ (ap (λ (fs : List File). opened_over (Some (held_with fs [])) o) stands.files
      ∙ (ap (λ (x : OpeningState). opened_over (Some (held_files lines)) x) stands.whole ∙ ap (λ (z : Entries). opening_state z lines) same_entries))

  pub legal : Legal (opened o) entries
  legal = subst (λ (s : State). Legal s entries) (sym first) (subst (λ (h : List Entry). Legal (opening_state ran.replay.entries lines) h) (sym is) ran.replay.sound.legal)

  pub within : cost entries ≤ o.limits.history
  within =
      let room = ran.replay.room [] (sym (append-nil lines)) in
      let same : cost entries ≡ cost p.story.history = ap cost is in
      let limit : o.limits.history ≡ run_limits.history = ap (λ (x : OpeningState). x.limits.history) stands.whole in
      omega arith

  pub started : IsOpeningState (opened o)
  started = subst IsOpeningState (sym first) ran.replay.sound.started

  traced : (app : List ℕ) (told : Trace) → told ≡ trace app (opened o) entries → IsTraceIn app lines told
  traced app told e = (
    record { history = p.story.history; out = ran.out; last = ran.last; replay = ran.replay },
    e ∙ (ap (λ (s : State). trace app s entries) first ∙ ap (trace app (opening_state ran.replay.entries lines)) is),
  )

  pub traced_ok : {E : Type 0} (app : List ℕ) (r : Result plain.Trace E) → IfOk r (λ (t : plain.Trace). trace_told t ≡ trace app (opened o) entries) → IfOk r (λ (t : plain.Trace). IsTraceIn app lines (trace_told t))
  traced_ok app (Ok t) e = traced app (trace_told t) e
  traced_ok app (Err x) e = tt
