use Rattle.std.proofs.Common.{◌<◌, ◌∙◌, arith, length}
use Rattle.script_form.proofs.FilesPlaced.{next_files, next_placed, next_time}
use Rattle.script_command.specs.Openings.{files_in}
use Rattle.script_command.proofs.opening.table_of.Goals as goal

pub add_line-requires-clause-placed : goal.add_line-requires-clause-placed
add_line-requires-clause-placed c =
    let inside : c.loop-line.line-index < length c.args.lines.now = omega arith in
    next_placed c.args.lines.now c.loop-line.line-index c.line-item.result c.loop-line.time (files_in c.loop-line.table.entries) inside c.line-item.is c.loop-line.invariant.files c.loop-line.invariant.time c.requires

pub loop-line-preserved : goal.loop-line-preserved
loop-line-preserved c =
    let inside : c.loop-line.line-index < length c.args.lines.now = omega arith in
    let lines = c.args.lines.now in
    let index = c.loop-line.line-index in
    let line = c.line-item.result in
    let files = files_in c.loop-line.table.entries in
    record {
      files = c.in-Ok.ensures.files ∙ next_files lines index line c.loop-line.time files inside c.line-item.is c.loop-line.invariant.files c.loop-line.invariant.time;
      keyed = c.in-Ok.ensures.keyed;
      first = c.in-Ok.ensures.first;
      time = c.in-Ok.ensures.time ∙ next_time lines index line c.loop-line.time files inside c.line-item.is c.loop-line.invariant.files c.loop-line.invariant.time;
    }
