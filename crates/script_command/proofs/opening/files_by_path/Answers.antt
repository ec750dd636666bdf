use Rattle.script_form.specs.Devices.{tree_files}
use Rattle.script_command.proofs.TreeTable.{first_taken, in_order}
use Rattle.script_command.proofs.opening.files_by_path.Goals as goal

pub returns-clause-files : goal.returns-clause-files
returns-clause-files c = in_order c.files_of.result c.in_ok-table.table.entries (tree_files c.args.lines.now) c.in_ok-table.ensures.files c.files_of.ensures

pub returns-clause-first : goal.returns-clause-first
returns-clause-first c = first_taken c.files_of.result c.in_ok-table.table.entries c.in_ok-table.ensures.first c.files_of.ensures
