use Rattle.node_looks.proofs.OpenFiles.{same-look}
use Rattle.node_looks.proofs.entry.named_entry.Goals as goal

pub returns : goal.returns
returns g c = same-look c.args.file.now _ _ c.attr-answer.result _ c.file_by_look.result c.look_of_attr-look.result c.look_of_attr-look.ensures c.attr-answer.ensures.asks c.attr-answer.ensures.attrs c.file_by_look.ensures
