-- The state that a script opens with, as plain data.
use Rattle.std.specs.Prelude.{◌≡◌, ℕ, List, map, true}
use Rattle.std.specs.List.{list_all}
use Rattle.portal_base.specs.declared.files.File.{File}
use Rattle.portal_model.specs.declared.opening.FileItem.{FileItem}
use Rattle.portal_model.specs.declared.opening.OpeningState.{OpeningState}
use Rattle.portal_model.specs.Opening.{file_of, is_first_item}
use Rattle.record_keeper.specs.KeptEntries.{KeepEntries}
use Rattle.script_lines.specs.declared.script.ScriptLine.{ScriptLine}
use Rattle.script_form.specs.Devices.{tree_files}
use Rattle.script_form.specs.Opening.{entries_of, opening_with}
use Rattle.script_replay.specs.Scenes.{run_limits}

-- the files of a table by path, in the order of the paths
abbrev pub files_in : List (List ℕ × FileItem) → List File
files_in table = map (λ e. file_of e.1) table

-- in a table by path each file stands at its own
abbrev pub AreAtTheirs : List (List ℕ × FileItem) → Type 0
AreAtTheirs table = map (λ e. e.0) table ≡ map (λ e. e.1.path) table

-- and each is the first of its path
abbrev pub AreFirst : List (List ℕ × FileItem) → Type 0
AreFirst table = list_all is_first_item (map (λ e. e.1) table) ≡ true

-- The plain data are the state that the lines open with, but their files stand in the order of the
-- paths, as a tree has them, each the first of its path.
pub record StandsFor (lines : List ScriptLine) (o : OpeningState) : Type 0 where
  pub whole : o ≡ record (opening_with o.entries run_limits lines) { files = o.files }
  pub entries : KeepEntries (entries_of lines) o.entries
  pub files : map file_of o.files ≡ tree_files lines
  pub first : list_all is_first_item o.files ≡ true
