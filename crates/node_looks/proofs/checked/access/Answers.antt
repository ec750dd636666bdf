use Rattle.node_looks.proofs.Follow.{access-tells}
use Rattle.node_looks.proofs.checked.access.Goals as goal

pub returns-clause-ok : goal.returns-clause-ok
returns-clause-ok g c = λ op. access-tells c.args.book.now c.args.who.now c.args.request.now c.args.mask _ _ _ c.checked-asked.result c.done.result _ c.done.ensures op c.checked-asked.ensures
