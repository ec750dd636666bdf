use Rattle.std.proofs.Common.{length}
use Rattle.std.proofs.lemmas.Result.{IfOk-weaker}
use Rattle.std.specs.Option.{option_copied}
use Rattle.portal_model.specs.Errno.{einval}
use Rattle.portal_model.specs.Place.{reach_at}
use Rattle.portal_model.specs.Write.{write_limit, write_open}
use Rattle.file_ops.specs.Tries.{done_of_ended}
use Rattle.file_ops.proofs.Tries.{along, by-open, if-within}
use Rattle.file_ops.proofs.written.written.Goals as goal

pub returns-in-Some-clause-ok : goal.returns-in-Some-clause-ok
returns-in-Some-clause-ok g c =
    IfOk-weaker c.write_open.result _ _
    (λ ended h s l. along _ _ _ ended _ _ (if-within write_limit (length c.args.content.now) einval _ c.if-content-gt-WRITE_LIMIT.false)
    (by-open (write_open (reach_at s c.args.who.now) c.args.book.now.file_limit c.args.offset c.args.content.now) (option_copied c.args.handle) c.open_file.result c.in-Some.file _ (done_of_ended ended) _ _ (c.open_file.ensures _) c.in-Some.is (h s l))) c.write_open.ensures.ok
