use Rattle.std.proofs.Common.{◌≡◌, ◌++◌, length}
use Rattle.script_lines.specs.Lines.{text_of}
use Rattle.script_form.specs.Order.{IsScript}
use Rattle.script_form.specs.Preceding.{Tracks}
use Rattle.script_form.proofs.reader.read_script.Given as goal

-- the text is the good lines so far, and then what is left
abbrev pub invariant-loop-rest : goal.invariant-loop-rest
invariant-loop-rest l = record {
  cut : l.text ≡ text_of l.preceding.lines ++ l.rest;
  good : IsScript l.preceding.lines;
  tracks : Tracks l.preceding;
}

abbrev pub decreases-loop-rest : goal.decreases-loop-rest
decreases-loop-rest l = length l.rest
