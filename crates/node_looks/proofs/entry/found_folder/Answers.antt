use Rattle.node_looks.proofs.Follow.{no-folder, the-folder}
use Rattle.node_looks.proofs.entry.found_folder.Goals as goal

pub returns-in-None : goal.returns-in-None
returns-in-None c = no-folder c.args.request.now c.args.node c.refused.result c.in-None.is c.refused.ensures

pub returns-in-Some : goal.returns-in-Some
returns-in-Some c = the-folder c.args.request.now c.args.node c.in-Some.node c.attr_of_folder.result c.told.result c.in-Some.is c.attr_of_folder.ensures c.told.ensures
