use Rattle.node_looks.proofs.OpenFiles.{path-look}
use Rattle.node_looks.proofs.described.of_below.Goals as goal

pub returns : goal.returns
returns g c = λ view d. path-look c.args.path.now _ _ c.look-look.result _ c.attr_below.result c.look-look.ensures.asks c.look-look.ensures.looks (c.attr_below.ensures view d c.args.path.now)
