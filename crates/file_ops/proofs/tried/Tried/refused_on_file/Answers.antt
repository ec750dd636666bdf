use Rattle.file_ops.proofs.Tries.{on-file-goes}
use Rattle.file_ops.proofs.tried.Tried.refused_on_file.Goals as goal

pub returns-clause-goes : goal.returns-clause-goes
returns-clause-goes g c = on-file-goes c.args.path.now c.args.errno c.look-look.result c.refusal_on_file.result _ _ c.look-look.ensures.asks c.look-look.ensures.looks c.refusal_on_file.ensures
