-- Two scripts in one text, and what their runs are compared as: two worlds, as an application sees
-- them.
use Rattle.std.specs.Prelude.{◌≡◌, ◌⊎◌, ℕ, ◌+◌, ◌<◌, ◌≤◌, List, [], ◌∷◌, ◌++◌, length, Option, codes}
use Rattle.std.specs.Fmt.{decimal}
use Rattle.app_trace.specs.declared.matching.TraceMatch.{TraceMatch}
use Rattle.app_trace.specs.declared.matching.TraceMatch.TheVariants.{Same, Opening, At}
use Rattle.app_trace.specs.Matches.{Matches}
use Rattle.app_world.specs.World.{Trace, trace}
use Rattle.portal_base.specs.Outside.{Short, behind, onto}
use Rattle.portal_model.specs.declared.entry.Entry.{Entry}
use Rattle.portal_model.specs.declared.reply.Reply.{Reply}
use Rattle.portal_model.specs.History.{replies}
use Rattle.portal_model.specs.State.{State}
use Rattle.script_form.specs.declared.error.ScriptError.{ScriptError}
use Rattle.script_form.specs.declared.error.ScriptError.TheVariants as refused
use Rattle.script_lines.specs.declared.script.ScriptLine.{ScriptLine}
use Rattle.script_lines.specs.Lines.{text_of}
use Rattle.script_form.specs.Order.{IsFault, IsRead, IsScript}
use Rattle.script_replay.specs.declared.status.Status.{Status}
use Rattle.script_replay.specs.declared.status.Status.TheVariants.{Done, ScriptFault, ReadFault}
use Rattle.script_replay.specs.declared.status.Status.TheVariants.{WriteFault, Memory, TooLong}
use Rattle.script_command.specs.Inputs.{AtEnd, script_limit}
use Rattle.script_command.specs.Parting.{IsParted, IsUnparted}
use Rattle.script_command.specs.Runs.{IsReplay}
use Rattle.script_replay.specs.Scenes.{Scene, ScriptPortal, opening_state}
use Rattle.script_replay.specs.Texts.{line_feed}

-- ---- a world

-- what a script comes to that is run to its end
pub record ScriptRun (lines : List ScriptLine) : Type 0 where
  pub history : List Entry
  pub out : List (List ℕ)
  pub last : Scene
  pub replay : IsReplay lines lines history out last

-- the state that it opens with
abbrev pub first_in : (lines : List ScriptLine) → ScriptRun lines → State
first_in lines w = opening_state w.replay.entries lines

-- what an application's trace in it is, and the replies to the application
abbrev pub trace_in : List ℕ → (lines : List ScriptLine) → ScriptRun lines → Trace
trace_in app lines w = trace app (first_in lines w) w.history

abbrev pub replies_in : List ℕ → (lines : List ScriptLine) → ScriptRun lines → List Reply
replies_in app lines w = replies app (first_in lines w) w.history

-- this is the application's trace in what the script comes to
abbrev pub IsTraceIn : List ℕ → List ScriptLine → Trace → Type 0
IsTraceIn app lines told = (w : ScriptRun lines) × (told ≡ trace_in app lines w)

-- a script was run to its end at this portal, whose history is that of the script
pub record RanAt (lines : List ScriptLine) (p : ScriptPortal) : Type 0 where
  pub out : List (List ℕ)
  pub last : Scene
  pub replay : IsReplay lines lines p.story.history out last

-- ---- two worlds

-- the application's traces in what two scripts come to compare so; where they are the same, so are
-- the replies to it
pub record RunsCompare (app : List ℕ) (first second : List ScriptLine) (found : TraceMatch)
    : Type 0 where
  pub one : ScriptRun first
  pub two : ScriptRun second
  pub matches : Matches (trace_in app first one) (trace_in app second two) found
  pub replies_alike : found ≡ Same → replies_in app first one ≡ replies_in app second two

-- the line that says how traces compare
abbrev pub match_line : TraceMatch → List ℕ
match_line Same = codes "same trace, same replies" ++ line_feed ∷ []
match_line Opening = codes "opening views differ" ++ line_feed ∷ []
match_line (At place) = codes "traces differ at " ++ (decimal place ++ line_feed ∷ [])

-- what is written of it
abbrev pub Tells : TraceMatch → List (List ℕ) → Status → Type 0
Tells found pieces Done = pieces ≡ match_line found ∷ []
Tells found pieces WriteFault = Short pieces (match_line found ∷ [])
Tells found pieces Memory = pieces ≡ []
Tells found pieces status = ⊥

-- the number, in a text of two scripts, of a line of the second
abbrev pub number_behind : List ScriptLine → ℕ → ℕ
number_behind first number = length first + 1 + number

-- what two scripts come to, with these pieces written
abbrev pub ScriptsCompare : List ℕ → List ScriptLine → List ScriptLine → List (List ℕ) → Status
    → Type 0
ScriptsCompare app first second pieces Done = (found : TraceMatch)
    × RunsCompare app first second found × Tells found pieces Done
ScriptsCompare app first second pieces WriteFault = (found : TraceMatch)
    × RunsCompare app first second found × Tells found pieces WriteFault
ScriptsCompare app first second pieces Memory = pieces ≡ []
ScriptsCompare app first second pieces status = ⊥

-- ---- a text

-- two scripts, parted by the first line "===="
pub record AreScripts (text : List ℕ) (first second : List ScriptLine) : Type 0 where
  pub parted : IsParted text (text_of first) (text_of second)
  pub first_good : IsScript first
  pub second_good : IsScript second

-- Of a text that is parted so, the line of this number is the first that is none of a script.
abbrev pub PartsFault : List ℕ → List ℕ → ℕ → Type 0
PartsFault first second number = IsFault first number
    ⊎ ((lines : List ScriptLine) × IsRead first lines × ((line : ℕ) × IsFault second line
    × (number ≡ number_behind lines line)))

-- Of a text that isn't parted it is; or the text is a script, and the line behind its last is
-- missing.
abbrev pub OneFaults : List ℕ → ℕ → Type 0
OneFaults text number = IsFault text number
    ⊎ ((lines : List ScriptLine) × IsRead text lines × (number ≡ length lines + 1))

-- the text isn't two scripts, and the line of this number is the first that is refused
abbrev pub AreRefused : List ℕ → ℕ → Type 0
AreRefused text number =
    ((first : List ℕ) × (second : List ℕ) × IsParted text first second
    × PartsFault first second number)
    ⊎ (IsUnparted text × OneFaults text number)

-- why no two scripts were read: what is refused, or there was no memory
abbrev pub PartsRefused : List ℕ → List ℕ → ScriptError → Type 0
PartsRefused first second (refused.AtLine number) = PartsFault first second number
PartsRefused first second refused.Memory = Unit {0}

abbrev pub OneRefused : List ℕ → ScriptError → Type 0
OneRefused text (refused.AtLine number) = OneFaults text number
OneRefused text refused.Memory = Unit {0}

abbrev pub TextRefused : List ℕ → ScriptError → Type 0
TextRefused text (refused.AtLine number) = AreRefused text number
TextRefused text refused.Memory = Unit {0}

-- what a text of allowed length comes to, with these pieces written
abbrev pub Compares : List ℕ → List ℕ → List (List ℕ) → Status → Type 0
Compares app text pieces (ScriptFault line) = AreRefused text line × (pieces ≡ [])
Compares app text pieces Memory = pieces ≡ []
Compares app text pieces status = (first : List ScriptLine) × (second : List ScriptLine)
    × AreScripts text first second × ScriptsCompare app first second pieces status

-- ---- the run

-- Why a comparison ends so that read this text, left this of the source, and wrote these pieces.
abbrev pub WhyCompared : List ℕ → List ℕ → Option (List ℕ) → List (List ℕ) → Status → Type 0
WhyCompared app text left pieces ReadFault = (length text ≤ script_limit) × (pieces ≡ [])
WhyCompared app text left pieces Memory = pieces ≡ []
WhyCompared app text left pieces TooLong = (script_limit < length text) × (pieces ≡ [])
WhyCompared app text left pieces status = (length text ≤ script_limit) × AtEnd left
    × Compares app text pieces status

-- a comparison for an application: what it read stood ahead of what is left, and what it wrote
-- stands behind what was written
pub record RanWorlds (app : List ℕ) (left left' : Option (List ℕ))
    (told told' : Option (List (List ℕ))) (status : Status) : Type 0 where
  pub text : List ℕ
  pub pieces : List (List ℕ)
  pub read : left ≡ behind text left'
  pub wrote : told' ≡ onto told pieces
  pub cause : WhyCompared app text left' pieces status
