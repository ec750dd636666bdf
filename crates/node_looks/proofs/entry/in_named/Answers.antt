use Rattle.node_looks.proofs.OpenFiles.{same-look}
use Rattle.node_looks.proofs.entry.in_named.Goals as goal

pub returns : goal.returns
returns g c = same-look c.args.name.now _ _ c.attr-answer.result _ c.refusal_on_file.result c.look_of_attr-look.result c.look_of_attr-look.ensures c.attr-answer.ensures.asks c.attr-answer.ensures.attrs c.refusal_on_file.ensures
