use Rattle.std.proofs.Common.{◌≡◌, ◌++◌, drop}
use Rattle.script_form.specs.Opening.{files_of, files_from}
use Rattle.script_form.proofs.opening.files_in.Given as goal

-- the files so far, and those of the lines to come behind the time that is in force, are all
abbrev pub invariant-loop-line : goal.invariant-loop-line
invariant-loop-line l = files_of l.lines ≡ l.files ++ files_from l.time (drop l.line-index l.lines)
