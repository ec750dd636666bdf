-- What running a generated load comes to, and any run of the program.
use Rattle.std.specs.Prelude.{◌≡◌, ◌⊎◌, ℕ, Bool, true, false, List, [], ◌∷◌, ◌++◌, length, Option, codes}
use Rattle.std.specs.Fmt.{decimal}
use Rattle.portal_base.specs.Outside.{HasRisen, Short, onto}
use Rattle.portal_steps.specs.Story.{Story, state_first}
use Rattle.portal_load.specs.Lines.{load_of}
use Rattle.portal_model.specs.declared.entry.Entry.{Entry}
use Rattle.portal_model.specs.History.{cost}
use Rattle.portal_model.specs.State.{State}
use Rattle.script_lines.specs.declared.script.ScriptLine.{ScriptLine}
use Rattle.script_command.specs.declared.command.Command.TheVariants.{Generate, Worlds}
use Rattle.script_replay.specs.declared.status.Status.{Status}
use Rattle.script_replay.specs.declared.status.Status.TheVariants.{Done, Usage, ScriptFault, ReadFault, WriteFault, Memory, TooLong}
use Rattle.script_command.specs.Commands.{IsCommand}
use Rattle.script_replay.specs.Outcomes.{done_in, refused_in}
use Rattle.script_command.specs.Runs.{IsReplay, Ran}
use Rattle.script_replay.specs.Scenes.{Scene, ScriptPortal, opening_state}
use Rattle.script_replay.specs.Texts.{line_feed, space}
use Rattle.script_command.specs.Worlds.{RanWorlds}

-- ---- the five lines

-- the line "WORD N"
abbrev pub count_line : List ℕ → ℕ → List ℕ
count_line word count = word ++ (space ∷ (decimal count ++ line_feed ∷ []))

-- how many requests there are, how many were done and how many refused, how many entries the
-- history has and what it costs
abbrev pub five_lines : ℕ → ℕ → ℕ → ℕ → ℕ → List (List ℕ)
five_lines requests done refused entries cost_now =
    count_line (codes "requests") requests
    ∷ count_line (codes "done") done
    ∷ count_line (codes "refused") refused
    ∷ count_line (codes "history") entries
    ∷ count_line (codes "cost") cost_now
    ∷ []

-- what is said of a load of so many requests with this history from this state
abbrev pub load_lines : ℕ → State → List Entry → List (List ℕ)
load_lines count s history =
    five_lines count (done_in s history) (refused_in s history) (length history) (cost history)

-- ---- the load

abbrev pub lines_of_load : ℕ → List ScriptLine
lines_of_load count = (load_of count).script.lines

-- the lines of the load were run at this portal: its history is theirs
pub record RanLoad (count : ℕ) (p : ScriptPortal) : Type 0 where
  pub out : List (List ℕ)
  pub last : Scene
  pub replay : IsReplay (lines_of_load count) (lines_of_load count) p.story.history out last
  pub first : state_first p.story ≡ opening_state replay.entries (lines_of_load count)

-- what is said of a portal's history
abbrev pub load_lines_at : ℕ → Story → List (List ℕ)
load_lines_at count p = load_lines count (state_first p) p.history

-- ---- what is written

-- the load has this history, of which such a part is said
pub record SaysPart (IsPart : List (List ℕ) → List (List ℕ) → Type 0) (count : ℕ)
    (pieces : List (List ℕ)) : Type 0 where
  pub history : List Entry
  pub out : List (List ℕ)
  pub last : Scene
  pub replay : IsReplay (lines_of_load count) (lines_of_load count) history out last
  pub said : IsPart pieces
      (load_lines count (opening_state replay.entries (lines_of_load count)) history)

-- these are all of the lines
abbrev pub AreAll : List (List ℕ) → List (List ℕ) → Type 0
AreAll pieces lines = pieces ≡ lines

-- How the load of so many requests is run, with these pieces written: all five lines behind the
-- whole load; at a fault of writing a part of them; at want of memory nothing. It ends in no other
-- way.
abbrev pub Generates : ℕ → List (List ℕ) → Status → Type 0
Generates count pieces Done = SaysPart AreAll count pieces
Generates count pieces Usage = ⊥
Generates count pieces (ScriptFault line) = ⊥
Generates count pieces ReadFault = ⊥
Generates count pieces WriteFault = SaysPart Short count pieces
Generates count pieces Memory = pieces ≡ []
Generates count pieces TooLong = ⊥

-- lines were written, or broke off at a fault, which is counted
abbrev pub WritesLines : List (List ℕ) → Option (List (List ℕ)) → ℕ → Option (List (List ℕ)) → ℕ
    → Bool → Type 0
WritesLines lines told faults told' faults' true =
    (faults' ≡ faults) × (told' ≡ onto told lines)
WritesLines lines told faults told' faults' false = HasRisen faults faults'
    × ((pieces : List (List ℕ)) × Short pieces lines × (told' ≡ onto told pieces))

-- ---- any run of the program

-- a run of the load of so many requests: nothing was read, and what it wrote stands behind what was
-- written
pub record RanGenerate (words : List (List ℕ)) (left left' : Option (List ℕ))
    (told told' : Option (List (List ℕ))) (status : Status) : Type 0 where
  pub count : ℕ
  pub asked : IsCommand words (Generate count)
  pub unread : left' ≡ left
  pub pieces : List (List ℕ)
  pub wrote : told' ≡ onto told pieces
  pub generates : Generates count pieces status

-- a load was run where the words ask for one, and two scripts were compared where they ask for that
abbrev pub RanAny : List (List ℕ) → Option (List ℕ) → Option (List ℕ) → Option (List (List ℕ))
    → Option (List (List ℕ)) → Status → Type 0
RanAny words left left' told told' status = RanGenerate words left left' told told' status
    ⊎ (((app : List ℕ) × IsCommand words (Worlds app) × RanWorlds app left left' told told' status)
    ⊎ Ran words left left' told told' status)
