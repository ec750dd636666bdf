use Rattle.node_looks.proofs.FoundBytes.{finds-does}
use Rattle.node_looks.proofs.contents.read.Goals as goal

pub returns-clause-ok : goal.returns-clause-ok
returns-clause-ok g c = λ op. finds-does c.args.book.now c.args.call.now c.args.fh c.args.offset c.args.size c.args.handles.now _ _ c.in_ok-asked.asked c.done.result _ op c.done.ensures c.get-handle.ensures.handle c.in_ok-asked.ensures.ok
