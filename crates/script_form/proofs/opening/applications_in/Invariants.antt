use Rattle.std.proofs.Common.{◌≡◌, take}
use Rattle.script_form.specs.Opening.{applications_of}
use Rattle.script_form.proofs.opening.applications_in.Given as goal

abbrev pub invariant-loop-line : goal.invariant-loop-line
invariant-loop-line l = l.named ≡ applications_of (take l.line-index l.lines)
