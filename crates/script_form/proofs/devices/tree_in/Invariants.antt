use Rattle.std.proofs.Common.{◌≡◌, take}
use Rattle.script_form.specs.Devices.{time_after, tree_files, tree_with}
use Rattle.script_form.proofs.devices.tree_in.Given as goal

-- the files of the lines so far, and the time behind them
abbrev pub invariant-loop-line : goal.invariant-loop-line
invariant-loop-line l = record {
  tree : l.tree ≡ tree_with (tree_files (take l.line-index l.lines)) l.fn.fails;
  time : l.time ≡ time_after 0 (take l.line-index l.lines);
}
