-- What running lines one after another comes to.
use Rattle.std.specs.Prelude.{◌≡◌, ℕ, List, [], ◌∷◌, ◌++◌, Option}
use Rattle.portal_base.specs.Outside.{HasRisen, Short, onto}
use Rattle.portal_steps.specs.Story.{state_now}
use Rattle.portal_model.specs.declared.entry.Entry.{Entry}
use Rattle.script_lines.specs.declared.script.ScriptLine.{ScriptLine}
use Rattle.script_replay.specs.declared.status.Status.{Status}
use Rattle.script_replay.specs.declared.status.Status.TheVariants.{Done, Usage, ScriptFault, ReadFault}
use Rattle.script_replay.specs.declared.status.Status.TheVariants.{WriteFault, Memory, TooLong}
use Rattle.script_replay.specs.declared.error.LineError.{LineError}
use Rattle.script_replay.specs.declared.error.LineError.TheVariants as line
use Rattle.script_replay.specs.Lines.{Does}
use Rattle.script_replay.specs.Scenes.{Scene, ScriptPortal}
use Rattle.script_replay.specs.Steps.{scene}

-- Lines are run, each from the scene that the one before it left: these are their entries and their
-- output.
abbrev pub Plays : Scene → List ScriptLine → List Entry → List (List ℕ) → Scene → Type 0
Plays a [] entries out b = (entries ≡ []) × (out ≡ []) × (b ≡ a)
Plays a (line ∷ lines) entries out b =
    (first : List Entry) × (more : List Entry) × (said : List (List ℕ)) × (later : List (List ℕ))
    × (mid : Scene)
    × (entries ≡ first ++ more) × (out ≡ said ++ later) × Does a line first said mid
    × Plays mid lines more later b

-- a front of the lines is run, with this history and this output, up to this scene
abbrev pub PlaysFront : Scene → List ScriptLine → List ScriptLine → List Entry → List (List ℕ)
    → Scene → Type 0
PlaysFront a lines front history out b =
    (later : List ScriptLine) × (lines ≡ front ++ later) × Plays a front history out b

-- ---- what was written

-- All lines are run at a portal with no connection open, and their output is written. The portal
-- has stored their history behind its own, and is in the state after it.
pub record PlaysAll (old new : ScriptPortal) (lines : List ScriptLine)
    (told told' : Option (List (List ℕ))) : Type 0 where
  pub history : List Entry
  pub out : List (List ℕ)
  pub last : Scene
  pub plays : Plays (scene old []) lines history out last
  pub stored : new.story.history ≡ old.story.history ++ history
  pub state : state_now new.story ≡ last.portal
  pub output : told' ≡ onto told out

-- of the output of some of them some whole pieces are written, and a front of the next or nothing
pub record PlaysPart (a : Scene) (lines : List ScriptLine) (told told' : Option (List (List ℕ)))
    : Type 0 where
  pub front : List ScriptLine
  pub history : List Entry
  pub out : List (List ℕ)
  pub last : Scene
  pub plays : PlaysFront a lines front history out last
  pub pieces : List (List ℕ)
  pub part : Short pieces out
  pub output : told' ≡ onto told pieces

-- There was no memory at one of the lines: all output of those before it is written, and nothing of
-- its own, whichever of its requests were answered.
pub record PlaysUpTo (a : Scene) (lines : List ScriptLine) (told told' : Option (List (List ℕ)))
    : Type 0 where
  pub front : List ScriptLine
  pub line : ScriptLine
  pub later : List ScriptLine
  pub ahead : lines ≡ front ++ line ∷ later
  pub history : List Entry
  pub out : List (List ℕ)
  pub last : Scene
  pub plays : Plays a front history out last
  pub output : told' ≡ onto told out

-- why not all lines are run; only a fault is counted
abbrev pub PlayStops : Scene → List ScriptLine → Option (List (List ℕ)) → ℕ → Option (List (List ℕ))
    → ℕ → Status → Type 0
PlayStops a lines told faults told' faults' Done = ⊥
PlayStops a lines told faults told' faults' Usage = ⊥
PlayStops a lines told faults told' faults' (ScriptFault line) = ⊥
PlayStops a lines told faults told' faults' ReadFault = ⊥
PlayStops a lines told faults told' faults' WriteFault =
    HasRisen faults faults' × PlaysPart a lines told told'
PlayStops a lines told faults told' faults' Memory =
    (faults' ≡ faults) × PlaysUpTo a lines told told'
PlayStops a lines told faults told' faults' TooLong = ⊥

-- how a run ends of which a line is not run
abbrev pub status_of : LineError → Status
status_of line.WriteFault = WriteFault
status_of line.Memory = Memory
