use Rattle.std.proofs.lemmas.Result.{IfOk-weaker}
use Rattle.portal_model.specs.Place.{reach_at}
use Rattle.app_view.specs.Opened.{file_of}
use Rattle.file_ops.specs.Tries.{done_of_ended}
use Rattle.file_ops.proofs.Tries.{open-writes}
use Rattle.file_ops.proofs.written.write_open.Goals as goal

pub returns-clause-ok : goal.returns-clause-ok
returns-clause-ok g c =
    IfOk-weaker c.write_where.result _ _
    (λ ended h s l. open-writes (reach_at s c.args.who.now) c.args.book.now.file_limit c.args.offset c.args.content.now (file_of c.args.file) c.allowed_now-allowed.result _ (done_of_ended ended) _ (c.allowed_now-allowed.ensures s l) h) c.write_where.ensures.ok
