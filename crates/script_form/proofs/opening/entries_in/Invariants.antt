use Rattle.std.proofs.Common.{◌≡◌, take}
use Rattle.script_form.specs.Opening.{entries_of}
use Rattle.script_form.proofs.opening.entries_in.Given as goal

abbrev pub invariant-loop-line : goal.invariant-loop-line
invariant-loop-line l = l.entries ≡ entries_of (take l.line-index l.lines)
