-- Two scripts compared: the parts of a text, two runs, and what is written of them.
use Rattle.std.proofs.Common.{◌≡◌, ℕ, ◌+◌, ◌<◌, ◌≤◌, ◌^◌, List, [], ◌∷◌, ◌++◌, length, Option, refl, sym, ap, ◌∙◌, subst, length-append, arith}
use Rattle.app_trace.specs.declared.matching.TraceMatch.{TraceMatch}
use Rattle.app_trace.specs.Matches.{Matches}
use Rattle.app_world.specs.World.{Trace, app_run}
use Rattle.portal_base.specs.Outside.{behind, onto}
use Rattle.script_form.specs.declared.error.ScriptError.TheVariants as refused
use Rattle.script_lines.specs.declared.script.ScriptLine.{ScriptLine}
use Rattle.script_lines.specs.Lines.{text_of}
use Rattle.script_form.specs.Order.{IsFault, IsRead}
use Rattle.script_form.proofs.ScriptFacts.{lines_short}
use Rattle.script_command.specs.declared.input.InputError.{InputError}
use Rattle.script_command.specs.declared.input.InputError.TheVariants as input
use Rattle.script_replay.specs.declared.status.Status.{Status}
use Rattle.script_replay.specs.declared.status.Status.TheVariants.{Done, Usage, ScriptFault, ReadFault, WriteFault, Memory, TooLong}
use Rattle.script_command.specs.Inputs.{IsWhole, Stops, script_limit}
use Rattle.script_command.specs.Parting.{IsParted, parting}
use Rattle.script_command.specs.Runs.{Risen}
use Rattle.script_replay.specs.Texts.{line_feed}
use Rattle.script_command.specs.Worlds.{AreRefused, AreScripts, RunsCompare, Compares, IsTraceIn}
use Rattle.script_command.specs.Worlds.{RanWorlds, ScriptsCompare, Tells, WhyCompared, number_behind, trace_in}
use Rattle.script_command.proofs.ReplayScript.{status_of}
use Rattle.script_replay.proofs.RunLines.{onto_none}

-- ---- the parts of a text

module _ (text first second : List ℕ) (p : IsParted text first second) where
  sizes : length text ≡ length first + length (parting ++ line_feed ∷ second)
  sizes = ap length p.whole ∙ length-append first (parting ++ line_feed ∷ second)

  pub short_first : length text ≤ script_limit → length first ≤ script_limit
  short_first h = let e = sizes in omega arith

  pub short_second : length text ≤ script_limit → length second ≤ script_limit
  short_second h = let e = sizes in omega arith

  pub are_scripts : (one two : List ScriptLine) → IsRead first one → IsRead second two → AreScripts text one two
  are_scripts one two a b = record {
    parted = subst (λ (x : List ℕ). IsParted text x (text_of two)) a.whole (subst (IsParted text first) b.whole p);
    first_good = a.good;
    second_good = b.good;
  }

pub read_short : (text : List ℕ) (lines : List ScriptLine) → IsRead text lines → length text ≤ script_limit → length (text_of lines) ≤ script_limit
read_short text lines r h = let e : length text ≡ length (text_of lines) = ap length r.whole in omega arith

-- ---- numbers of lines

-- a script has no more lines than bytes
pub few_lines : (lines : List ScriptLine) → length (text_of lines) ≤ script_limit → length lines ≤ script_limit
few_lines lines h = let e = lines_short lines in omega arith

fault_within : (text : List ℕ) (line : ℕ) → IsFault text line → length text ≤ script_limit → line ≤ script_limit + 1
fault_within text line f h =
    let e = f.number_is in
    let size = ap length f.parts ∙ length-append (text_of f.lines) f.rest in
    let few = lines_short f.lines in
    omega arith

pub fault_fits : (text : List ℕ) (lines : List ScriptLine) (line : ℕ) → length lines ≤ script_limit → IsFault text line → length text ≤ script_limit → number_behind lines line < 2 ^ 64
fault_fits text lines line n f h = let e = fault_within text line f h in omega arith

-- ---- two worlds

module _ (app : List ℕ) (first second : List ScriptLine) (one two : Trace) (a : IsTraceIn app first one) (b : IsTraceIn app second two) where
  pub are_worlds : (found : TraceMatch) → Matches one two found → RunsCompare app first second found
  are_worlds found m = record {
    one = a.0;
    two = b.0;
    matches = subst (λ (t : Trace). Matches t (trace_in app second b.0) found) a.1 (subst (λ (t : Trace). Matches one t found) b.1 m);
    replies_alike = λ e.
        let same : one ≡ two = subst (Matches one two) e m in
        a.0.replay.sound.isolated app ∙ (ap app_run (sym a.1 ∙ (same ∙ b.1)) ∙ sym (b.0.replay.sound.isolated app));
  }

-- ---- what is written

-- pieces are written behind what was, and they are such
abbrev pub Writes : (List (List ℕ) → Status → Type 0) → Option (List (List ℕ)) → Option (List (List ℕ)) → Status → Type 0
Writes IsSuch told told' status = (pieces : List (List ℕ)) × (told' ≡ onto told pieces) × IsSuch pieces status

module _ (app : List ℕ) (first second : List ScriptLine) (told told' : Option (List (List ℕ))) where
  tells : (found : TraceMatch) (pieces : List (List ℕ)) (status : Status) → RunsCompare app first second found → Tells found pieces status → ScriptsCompare app first second pieces status
  tells found pieces Done w t = (found, w, t)
  tells found pieces Usage w t = absurd t
  tells found pieces (ScriptFault line) w t = absurd t
  tells found pieces ReadFault w t = absurd t
  tells found pieces WriteFault w t = (found, w, t)
  tells found pieces Memory w t = t
  tells found pieces TooLong w t = absurd t

  -- the line is written
  pub line_told : (found : TraceMatch) (status : Status) → RunsCompare app first second found → Writes (Tells found) told told' status → Writes (ScriptsCompare app first second) told told' status
  line_told found status w t = (t.0, t.1, tells found t.0 status w t.2)

-- ---- the text

module _ (app text : List ℕ) (first second : List ScriptLine) (s : AreScripts text first second) where
  compares : (pieces : List (List ℕ)) (status : Status) → ScriptsCompare app first second pieces status → Compares app text pieces status
  compares pieces Done c = (first, second, s, c)
  compares pieces Usage c = absurd c
  compares pieces (ScriptFault line) c = absurd c
  compares pieces ReadFault c = absurd c
  compares pieces WriteFault c = (first, second, s, c)
  compares pieces Memory c = c
  compares pieces TooLong c = absurd c

  pub text_compares : (told told' : Option (List (List ℕ))) (status : Status) → Writes (ScriptsCompare app first second) told told' status → Writes (Compares app text) told told' status
  text_compares told told' status w = (w.0, w.1, compares w.0 status w.2)

pub text_refused : (app text : List ℕ) (line : ℕ) (told : Option (List (List ℕ))) → AreRefused text line → Writes (Compares app text) told told (ScriptFault line)
text_refused app text line told r = ([], onto_none told, (r, refl))

pub text_memory : (app text : List ℕ) (told : Option (List (List ℕ))) → Writes (Compares app text) told told Memory
text_memory app text told = ([], onto_none told, refl)

-- ---- the whole run

module _ (app text : List ℕ) (left left' : Option (List ℕ)) (told told' : Option (List (List ℕ))) (whole : IsWhole left text left') where
  why : (pieces : List (List ℕ)) (status : Status) → Compares app text pieces status → WhyCompared app text left' pieces status
  why pieces Done c = (whole.within, whole.ended, c)
  why pieces Usage c = absurd c.3
  why pieces (ScriptFault line) c = (whole.within, whole.ended, c)
  why pieces ReadFault c = absurd c.3
  why pieces WriteFault c = (whole.within, whole.ended, c)
  why pieces Memory c = c
  why pieces TooLong c = absurd c.3

  pub compared_whole : (status : Status) → Writes (Compares app text) told told' status → RanWorlds app left left' told told' status
  compared_whole status w = record { text = text; pieces = w.0; read = whole.read; wrote = w.1; cause = why w.0 status w.2 }

pub compared_risen : (status : Status) (app text : List ℕ) (pieces : List (List ℕ)) (reads reads' writes writes' : ℕ) → reads' ≡ reads → Compares app text pieces status → Risen status 0 0 writes writes' → Risen status reads reads' writes writes'
compared_risen Done app text pieces reads reads' writes writes' same c h = (same, h.1)
compared_risen Usage app text pieces reads reads' writes writes' same c h = absurd c.3
compared_risen (ScriptFault line) app text pieces reads reads' writes writes' same c h = (same, h.1)
compared_risen ReadFault app text pieces reads reads' writes writes' same c h = absurd c.3
compared_risen WriteFault app text pieces reads reads' writes writes' same c h = (same, h.1)
compared_risen Memory app text pieces reads reads' writes writes' same c h = (same, h.1)
compared_risen TooLong app text pieces reads reads' writes writes' same c h = absurd c.3

-- how it ends where the input isn't read whole
pub compared_not : (app : List ℕ) (left left' : Option (List ℕ)) (told : Option (List (List ℕ))) (faults faults' : ℕ) (e : InputError) → Stops left faults left' faults' e → RanWorlds app left left' told told (status_of e)
compared_not app left left' told faults faults' input.Failed s = record { text = s.1.0; pieces = []; read = s.1.1; wrote = onto_none told; cause = (s.1.2, refl) }
compared_not app left left' told faults faults' input.TooLong s = record { text = s.1.0; pieces = []; read = s.1.1; wrote = onto_none told; cause = (s.1.2, refl) }
compared_not app left left' told faults faults' input.Memory s = record { text = s.1.0; pieces = []; read = s.1.1; wrote = onto_none told; cause = refl }
