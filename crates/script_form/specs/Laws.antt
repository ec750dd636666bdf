-- What is true of every script.
use Rattle.std.specs.Prelude.{◌≡◌, ℕ, List}
use Rattle.portal_base.specs.declared.limits.Limits.{Limits}
use Rattle.record_keeper.specs.BadRecords.{AreGood}
use Rattle.script_lines.specs.Lines.{text_of}
use Rattle.portal_model.specs.declared.opening.OpeningState.{OpeningState}
use Rattle.script_form.specs.Opening.{records_of, HoldsScripts, IsOpening}
use Rattle.script_form.specs.Order.{IsRead, IsFault, IsScript}
use Rattle.script_lines.specs.declared.script.ScriptLine.{ScriptLine}

-- a text is read in one way
abbrev pub ReadInOneWay : Type 0
ReadInOneWay = (text : List ℕ) (lines others : List ScriptLine) → IsRead text lines
    → IsRead text others → lines ≡ others

-- it has one first line that is no line of a script
abbrev pub RefusedInOneWay : Type 0
RefusedInOneWay = (text : List ℕ) (number other : ℕ) → IsFault text number → IsFault text other
    → number ≡ other

-- and none where it is a script
abbrev pub ReadOrRefused : Type 0
ReadOrRefused = (text : List ℕ) (lines : List ScriptLine) (number : ℕ) → IsRead text lines
    → IsFault text number → ⊥

-- what a script's lines are written as is that script, whole
abbrev pub ReadAgain : Type 0
ReadAgain = (lines : List ScriptLine) → IsScript lines → IsRead (text_of lines) lines

-- no record of a script is bad, under limits that hold whatever a script keeps
abbrev pub NeverBad : Type 0
NeverBad = (limits : Limits) (lines : List ScriptLine) → IsScript lines → HoldsScripts limits
    → AreGood limits (records_of lines)

-- a script opens with one state
abbrev pub OpensInOneWay : Type 0
OpensInOneWay = (limits : Limits) (lines : List ScriptLine) (one other : OpeningState)
    → IsOpening limits lines one → IsOpening limits lines other → one ≡ other
