use Rattle.std.proofs.lemmas.Result.{IfOk-weaker}
use Rattle.portal_model.specs.Place.{reach_at}
use Rattle.app_view.specs.Opened.{file_of}
use Rattle.node_looks.proofs.FoundBytes.{read-open}
use Rattle.node_looks.proofs.contents.content_of.Goals as goal

pub returns-clause-ok : goal.returns-clause-ok
returns-clause-ok g c =
    IfOk-weaker c.content_where.result _ _
    (λ asked f s l. read-open (reach_at s c.args.who.now) c.args.offset c.args.size (file_of c.args.file) c.allowed_now-allowed.result _ asked _ (c.allowed_now-allowed.ensures s l) f) c.content_where.ensures.ok
