use Rattle.std.proofs.Common.{◌≡◌, take}
use Rattle.portal_model.specs.Opening.{each}
use Rattle.script_form.specs.Outside.{word_in}
use Rattle.script_form.proofs.outside.words_in.Given as goal

abbrev pub invariant-loop-line : goal.invariant-loop-line
invariant-loop-line l = l.words ≡ each word_in (take l.line-index l.lines)
