use Rattle.std.proofs.Common.{◌≡◌, take}
use Rattle.portal_model.specs.Opening.{each}
use Rattle.script_form.specs.Outside.{keeper_call_in}
use Rattle.script_form.proofs.outside.keeper_calls_in.Given as goal

abbrev pub invariant-loop-line : goal.invariant-loop-line
invariant-loop-line l = l.calls ≡ each keeper_call_in (take l.line-index l.lines)
