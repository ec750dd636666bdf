use Rattle.node_looks.specs.Sights.{naming_by, temp_by}
use Rattle.file_ops.proofs.Tries.{set_attr-does}
use Rattle.file_ops.proofs.resized.set_attr.Goals as goal

pub returns-clause-ok : goal.returns-clause-ok
returns-clause-ok g c = λ table fh h op. set_attr-does (naming_by c.args.own) (temp_by c.args.own) c.args.book.now c.args.call.now table c.args.valid fh c.args.size _ _ _ _ h op (λ s l. rw c.done.ensures (c.in_ok-tried.ensures.ok s l))
