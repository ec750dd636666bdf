use Rattle.node_looks.proofs.OpenFiles.{told-folder}
use Rattle.node_looks.proofs.described.of_folder.Goals as goal

pub returns : goal.returns
returns c = told-folder c.args.request.now c.attr_of_folder.result c.told.result c.attr_of_folder.ensures c.told.ensures
