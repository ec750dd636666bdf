use Rattle.file_ops.proofs.Tries.{on-name-goes}
use Rattle.file_ops.proofs.tried.Tried.refused_on_name.Goals as goal

pub returns-clause-goes : goal.returns-clause-goes
returns-clause-goes g c = on-name-goes c.args.name.now c.args.errno c.look_named-look.result c.refusal_on_file.result _ _ c.look_named-look.ensures.asks c.look_named-look.ensures.shows c.refusal_on_file.ensures
