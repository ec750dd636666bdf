use Rattle.std.proofs.Common.{◌<◌, ◌^◌, List, sym, subst}
use Rattle.script_lines.specs.declared.script.ScriptLine.{ScriptLine}
use Rattle.script_command.specs.Worlds.{number_behind}
use Rattle.script_command.proofs.WorldsCompared.{fault_fits, few_lines, read_short}
use Rattle.script_command.proofs.worlds.read_parts.Goals as goal

pub number_behind-line-requires : goal.number_behind-line-requires
number_behind-line-requires c =
    let lines = c.in_ok-first.first.lines in
    let few = few_lines lines (read_short c.args.first.now lines c.in_ok-first.ensures.read c.requires.short_first) in
    let fits = fault_fits c.args.second.now lines c.in-Err-AtLine.line few (rw c.in-Err-AtLine.field-0-is at c.in-Err-AtLine.ensures.refused) c.requires.short_second in
    subst (λ (ls : List ScriptLine). number_behind ls c.in-Err-AtLine.line < 2 ^ 64) (sym c.as_slice.ensures) fits
