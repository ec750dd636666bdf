use Rattle.std.proofs.Common.{refl}
use Rattle.portal_model.specs.declared.opening.FileItem.{FileItem}
use Rattle.portal_model.specs.Opening.{first_item}
use Rattle.script_command.proofs.TreeTable.{file_added, first_added, keyed_added}
use Rattle.script_command.proofs.opening.add_file.Goals as goal

pub returns-clause-files : goal.returns-clause-files
returns-clause-files c =
    let item : FileItem = first_item c.args.path.now c.args.content.now c.args.moment in
    file_added item c.in_ok-file.file c.in-Ok.key c.args.table.now.entries c.insert.new.self.entries c.in_ok-file.ensures c.in-Ok.ensures c.requires.keyed c.requires.placed c.in_ok-insert.ensures.entries

pub returns-clause-keyed : goal.returns-clause-keyed
returns-clause-keyed c =
    let item : FileItem = first_item c.args.path.now c.args.content.now c.args.moment in
    keyed_added item c.in_ok-file.file c.in-Ok.key c.args.table.now.entries c.insert.new.self.entries c.in_ok-file.ensures c.in-Ok.ensures c.requires.keyed c.requires.placed c.in_ok-insert.ensures.entries

pub returns-clause-first : goal.returns-clause-first
returns-clause-first c =
    let item : FileItem = first_item c.args.path.now c.args.content.now c.args.moment in
    first_added item c.in_ok-file.file c.in-Ok.key c.args.table.now.entries c.insert.new.self.entries c.in_ok-file.ensures c.in-Ok.ensures c.requires.keyed c.requires.placed c.in_ok-insert.ensures.entries refl c.requires.first
