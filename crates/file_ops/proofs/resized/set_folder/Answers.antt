use Rattle.file_ops.specs.Sets.{sets_of}
use Rattle.file_ops.proofs.Sets.{folder-set}
use Rattle.file_ops.proofs.resized.set_folder.Goals as goal

pub returns-else-sets_size-clause-goes : goal.returns-else-sets_size-clause-goes
returns-else-sets_size-clause-goes c = folder-set c.args.request.now (sets_of c.args.setting) c.attr_of_folder-attr.result c.args.may_write c.told.result c.sets_size.result c.sets_size.ensures c.if-sets_size.false c.attr_of_folder-attr.ensures c.told.ensures.goes
