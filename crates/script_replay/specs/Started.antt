-- What a portal is that a script opens.
use Rattle.std.specs.Prelude.{◌≡◌, List, []}
use Rattle.portal_steps.specs.Story.{state_first}
use Rattle.portal_model.specs.Store.{Entries}
use Rattle.portal_model.specs.Valid.{Valid}
use Rattle.record_keeper.specs.KeptEntries.{KeepEntries}
use Rattle.script_form.specs.Opening.{entries_of}
use Rattle.script_lines.specs.declared.script.ScriptLine.{ScriptLine}
use Rattle.script_replay.specs.Scenes.{ScriptPortal, first_scene, opening_state, outside_at}

-- it has no history yet, and is in the state that the script opens with, which is valid, with the
-- entries that the script keeps; its devices are those of the script, of which only the keeper was
-- asked
pub record StartsScript (lines : List ScriptLine) (p : ScriptPortal) : Type 0 where
  pub history : p.story.history ≡ []
  pub entries : Entries
  pub kept : KeepEntries (entries_of lines) entries
  pub state : state_first p.story ≡ opening_state entries lines
  pub valid : Valid (opening_state entries lines)
  pub outside : outside_at p ≡ (first_scene entries lines).outside
