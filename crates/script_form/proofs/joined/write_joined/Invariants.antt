use Rattle.std.proofs.Common.{◌≡◌, ◌++◌, take}
use Rattle.script_form.proofs.WrittenFacts.{behind_first}
use Rattle.script_form.proofs.joined.write_joined.Given as goal

-- those so far are written behind the first
abbrev pub invariant-loop-item : goal.invariant-loop-item
invariant-loop-item g l = l.out ≡ l.initial.out ++ behind_first l.separator g.T.Written.text (take l.item-index l.others)
