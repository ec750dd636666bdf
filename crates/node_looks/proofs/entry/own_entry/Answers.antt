use Rattle.std.proofs.Common.{refl}
use Rattle.node_looks.proofs.OpenFiles.{path-look}
use Rattle.node_looks.proofs.entry.own_entry.Goals as goal

pub returns : goal.returns
returns g c = path-look c.args.document.now.path _ _ c.look-look.result _ c.entry_by_look.result c.look-look.ensures.asks c.look-look.ensures.looks (c.entry_by_look.ensures c.args.document.now refl)
