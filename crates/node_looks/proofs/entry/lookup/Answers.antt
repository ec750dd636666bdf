use Rattle.node_looks.proofs.Follow.{lookup-tells}
use Rattle.node_looks.proofs.entry.lookup.Goals as goal

pub returns-clause-ok : goal.returns-clause-ok
returns-clause-ok g c = λ naming temp seen op. lookup-tells c.args.book.now c.args.who.now c.args.request.now c.args.name.now c.args.place c.args.own _ c.found-asked.result c.done.result _ c.done.ensures c.found-asked.ensures naming temp seen op
