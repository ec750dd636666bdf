use Rattle.node_looks.proofs.OpenFiles.{path-look}
use Rattle.node_looks.proofs.checked.in_below.Goals as goal

pub returns : goal.returns
returns g c = λ view d. path-look c.args.path.now _ _ c.look-look.result _ c.answer_below.result c.look-look.ensures.asks c.look-look.ensures.looks (c.answer_below.ensures view d c.args.path.now)
