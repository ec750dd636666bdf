use Rattle.std.proofs.Common.{◌≡◌, take}
use Rattle.script_form.specs.Devices.{time_after, tree_files}
use Rattle.script_command.specs.Openings.{AreAtTheirs, AreFirst, files_in}
use Rattle.script_command.proofs.opening.table_of.Given as goal

-- the files of the lines so far, and the time behind them
abbrev pub invariant-loop-line : goal.invariant-loop-line
invariant-loop-line l = record {
  files : files_in l.table.entries ≡ tree_files (take l.line-index l.lines);
  keyed : AreAtTheirs l.table.entries;
  first : AreFirst l.table.entries;
  time : l.time ≡ time_after 0 (take l.line-index l.lines);
}
