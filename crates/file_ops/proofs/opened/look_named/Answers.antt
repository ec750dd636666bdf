use Rattle.file_ops.proofs.Tries.{named-shown}
use Rattle.file_ops.proofs.opened.look_named.Goals as goal

pub returns-in-Is-clause-shows : goal.returns-in-Is-clause-shows
returns-in-Is-clause-shows g c = named-shown _ c.args.name.now c.in-Is.size c.in-Is.moment c.in-Is.ensures.attrs
