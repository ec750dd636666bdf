use Rattle.std.proofs.Common.{◌≡◌, take}
use Rattle.script_form.specs.Opening.{documents_of}
use Rattle.script_form.proofs.opening.documents_in.Given as goal

abbrev pub invariant-loop-line : goal.invariant-loop-line
invariant-loop-line l = l.documents ≡ documents_of (take l.line-index l.lines)
