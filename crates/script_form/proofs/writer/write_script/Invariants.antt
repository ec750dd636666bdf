use Rattle.std.proofs.Common.{◌≡◌, take}
use Rattle.script_lines.specs.Lines.{text_of}
use Rattle.script_form.proofs.writer.write_script.Given as goal

-- the lines so far are written
abbrev pub invariant-loop-line : goal.invariant-loop-line
invariant-loop-line l = l.text ≡ text_of (take l.line-index l.line-items)
