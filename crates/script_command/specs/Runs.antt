-- What a run of the program comes to.
use Rattle.std.specs.Prelude.{◌≡◌, ◌⊎◌, ℕ, ◌+◌, ◌*◌, ◌<◌, ◌≤◌, List, [], ◌∷◌, ◌++◌, length, Option}
use Rattle.portal_base.specs.Outside.{behind, onto, HasRisen, Short}
use Rattle.portal_model.specs.declared.entry.Entry.{Entry}
use Rattle.portal_desk.specs.Opening.{IsOpeningState}
use Rattle.portal_model.specs.History.{Legal, cost, replies}
use Rattle.portal_model.specs.Store.{Entries}
use Rattle.record_keeper.specs.KeptEntries.{KeepEntries}
use Rattle.script_form.specs.Opening.{entries_of}
use Rattle.app_world.specs.World.{app_run, trace}
use Rattle.script_lines.specs.declared.script.ScriptLine.{ScriptLine}
use Rattle.script_lines.specs.Lines.{text_of}
use Rattle.script_form.specs.Order.{IsRead, IsFault}
use Rattle.script_replay.specs.declared.status.Status.{Status}
use Rattle.script_replay.specs.declared.status.Status.TheVariants.{Done, Usage, ScriptFault, ReadFault, WriteFault, Memory, TooLong}
use Rattle.script_command.specs.Commands.{replay_words, IsNoCommand}
use Rattle.script_command.specs.Inputs.{script_limit, AtEnd}
use Rattle.script_replay.specs.Plays.{Plays}
use Rattle.script_replay.specs.Scenes.{Scene, first_scene, held_in, opening_state, run_limits}

-- the history of the lines is legal from an opening state, and the replies to each application are
-- those of its own machine over its trace
pub record IsSound (entries : Entries) (lines : List ScriptLine) (history : List Entry)
    : Type 0 where
  pub started : IsOpeningState (opening_state entries lines)
  pub legal : Legal (opening_state entries lines) history
  pub isolated : (app : List ℕ)
      → replies app (opening_state entries lines) history
      ≡ app_run (trace app (opening_state entries lines) history)

-- The lines of a front have this history and this output, from the state that the lines open with,
-- with the entries that they keep, and no others; the history is sound, and within its limit with
-- all that can be asked by the bytes that the sessions hold and by the lines behind, at eight times
-- the bytes of their text.
pub record IsReplay (lines front : List ScriptLine) (history : List Entry) (out : List (List ℕ))
    (last : Scene) : Type 0 where
  pub entries : Entries
  pub kept : KeepEntries (entries_of lines) entries
  pub plays : Plays (first_scene entries lines) front history out last
  pub only : (held : Entries) (h : List Entry) (o : List (List ℕ)) (b : Scene)
      → KeepEntries (entries_of lines) held → Plays (first_scene held lines) front h o b
      → (h ≡ history) × (o ≡ out) × (b ≡ last)
  pub sound : IsSound entries lines history
  pub room : (later : List ScriptLine) → lines ≡ front ++ later
      → cost history + 8 * (held_in last + length (text_of later)) ≤ run_limits.history

-- the text is a script, and the pieces are its output
pub record WroteAll (text : List ℕ) (pieces : List (List ℕ)) : Type 0 where
  pub lines : List ScriptLine
  pub script : IsRead text lines
  pub history : List Entry
  pub last : Scene
  pub replay : IsReplay lines lines history pieces last

-- The text is a script, and the pieces are a part of the output of some of its lines: some whole
-- pieces, and then a front of the next or nothing.
pub record WroteShort (text : List ℕ) (pieces : List (List ℕ)) : Type 0 where
  pub lines : List ScriptLine
  pub script : IsRead text lines
  pub front : List ScriptLine
  pub later : List ScriptLine
  pub ahead : lines ≡ front ++ later
  pub history : List Entry
  pub out : List (List ℕ)
  pub last : Scene
  pub replay : IsReplay lines front history out last
  pub output : Short pieces out

-- The text is a script, and at one of its lines there was no memory. The pieces are the output of the
-- lines before it, whole, and nothing of its own: so a request that finds no memory ends the run,
-- and nothing that answers its line is written.
pub record WroteUpTo (text : List ℕ) (pieces : List (List ℕ)) : Type 0 where
  pub lines : List ScriptLine
  pub script : IsRead text lines
  pub front : List ScriptLine
  pub line : ScriptLine
  pub later : List ScriptLine
  pub ahead : lines ≡ front ++ line ∷ later
  pub history : List Entry
  pub last : Scene
  pub replay : IsReplay lines front history pieces last

-- Why a run ends so that was told these words, read this text, left this of the source, and wrote
-- these pieces.
abbrev pub Cause : List (List ℕ) → List ℕ → Option (List ℕ) → List (List ℕ) → Status → Type 0
Cause words text left pieces Done = (words ≡ replay_words) × (length text ≤ script_limit)
    × AtEnd left × WroteAll text pieces
Cause words text left pieces Usage = IsNoCommand words × (text ≡ []) × (pieces ≡ [])
Cause words text left pieces (ScriptFault line) = (words ≡ replay_words)
    × (length text ≤ script_limit) × AtEnd left × IsFault text line × (pieces ≡ [])
Cause words text left pieces ReadFault = (words ≡ replay_words) × (length text ≤ script_limit)
    × (pieces ≡ [])
Cause words text left pieces WriteFault = (words ≡ replay_words) × (length text ≤ script_limit)
    × AtEnd left × WroteShort text pieces
Cause words text left pieces Memory = (words ≡ replay_words)
    × ((pieces ≡ []) ⊎ ((length text ≤ script_limit) × AtEnd left × WroteUpTo text pieces))
Cause words text left pieces TooLong = (words ≡ replay_words) × (script_limit < length text)
    × (pieces ≡ [])

-- a run: what it read stood ahead of what is left, and what it wrote stands behind what was written
pub record Ran (words : List (List ℕ)) (left left' : Option (List ℕ))
    (told told' : Option (List (List ℕ))) (status : Status) : Type 0 where
  pub text : List ℕ
  pub pieces : List (List ℕ)
  pub read : left ≡ behind text left'
  pub wrote : told' ≡ onto told pieces
  pub cause : Cause words text left' pieces status

-- Each fault of reading or writing is told: the counts of both rise where the status says so, and
-- only there.
abbrev pub Risen : Status → ℕ → ℕ → ℕ → ℕ → Type 0
Risen Done reads reads' writes writes' = (reads' ≡ reads) × (writes' ≡ writes)
Risen Usage reads reads' writes writes' = (reads' ≡ reads) × (writes' ≡ writes)
Risen (ScriptFault line) reads reads' writes writes' = (reads' ≡ reads) × (writes' ≡ writes)
Risen ReadFault reads reads' writes writes' = HasRisen reads reads' × (writes' ≡ writes)
Risen WriteFault reads reads' writes writes' = (reads' ≡ reads) × HasRisen writes writes'
Risen Memory reads reads' writes writes' = (reads' ≡ reads) × (writes' ≡ writes)
Risen TooLong reads reads' writes writes' = (reads' ≡ reads) × (writes' ≡ writes)

-- how a text of allowed length is replayed, with these pieces written
abbrev pub Replays : List ℕ → List (List ℕ) → Status → Type 0
Replays text pieces Done = WroteAll text pieces
Replays text pieces Usage = ⊥
Replays text pieces (ScriptFault line) = IsFault text line × (pieces ≡ [])
Replays text pieces ReadFault = ⊥
Replays text pieces WriteFault = WroteShort text pieces
Replays text pieces Memory = (pieces ≡ []) ⊎ WroteUpTo text pieces
Replays text pieces TooLong = ⊥
