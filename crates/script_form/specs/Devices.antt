-- The devices of a script, before their first use.
use Rattle.std.specs.Prelude.{ℕ, List, [], ◌∷◌}
use Rattle.host_tree.specs.Devices.{TreeState}
use Rattle.host_tree.specs.Trees.{Held, held_with, put_file, unnoted}
use Rattle.portal_base.specs.Calls.{uncalled}
use Rattle.portal_base.specs.declared.files.File.{File}
use Rattle.portal_model.specs.Opening.{each, file_of}
use Rattle.portal_model.specs.declared.opening.FileItem.{FileItem}
use Rattle.record_keeper.specs.Devices.{KeeperState}
use Rattle.script_form.specs.Opening.{files_of, records_of, time_behind}
use Rattle.script_form.specs.Outside.{keeper_call_in, tree_call_in, word_in}
use Rattle.script_lines.specs.declared.script.ScriptLine.{ScriptLine}

-- the time behind lines
abbrev pub time_after : ℕ → List ScriptLine → ℕ
time_after time [] = time
time_after time (line ∷ lines) = time_after (time_behind time line) lines

-- these files and others that are added to them, in the order of their paths
abbrev pub with_files : List File → List FileItem → List File
with_files files [] = files
with_files files (item ∷ items) = with_files (put_file (file_of item) files) items

-- the files of a script, as a tree has them
abbrev pub tree_files : List ScriptLine → List File
tree_files lines = with_files [] (files_of lines)

-- and none beside them
abbrev pub held_files : List ScriptLine → Held
held_files lines = held_with (tree_files lines) []

-- a tree with these files, all of them present, before its first call, and with the numbers of the
-- calls that fail
abbrev pub tree_with : List File → List ℕ → TreeState
tree_with files fails = record {
  began = held_with files [];
  files = held_with files [];
  count = uncalled fails;
  noted = unnoted;
}

abbrev pub script_tree : List ScriptLine → TreeState
script_tree lines = tree_with (tree_files lines) (each tree_call_in lines)

abbrev pub script_keeper : List ScriptLine → KeeperState
script_keeper lines = record {
  began = records_of lines;
  records = records_of lines;
  count = uncalled (each keeper_call_in lines);
}

abbrev pub script_words : List ScriptLine → List ℕ
script_words lines = each word_in lines
