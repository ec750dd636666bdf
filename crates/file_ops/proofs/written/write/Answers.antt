use Rattle.file_ops.proofs.Tries.{write-does}
use Rattle.file_ops.proofs.written.write.Goals as goal

pub returns-clause-ok : goal.returns-clause-ok
returns-clause-ok g c = λ table fh h op. write-does c.args.book.now c.args.call.now table fh c.args.offset c.args.content.now _ _ _ _ h op (λ s l. rw (c.done.ensures, c.unlooked.ensures) (c.in_ok-ended.ensures.ok s l))
