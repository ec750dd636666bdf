use Rattle.std.proofs.lemmas.Result.{IfOk-weaker}
use Rattle.portal_model.specs.Place.{reach_at}
use Rattle.app_view.specs.Opened.{file_of}
use Rattle.file_ops.specs.Sets.{sets_of}
use Rattle.file_ops.specs.Tries.{done_of_tried}
use Rattle.file_ops.proofs.Sets.{open-goes}
use Rattle.file_ops.proofs.resized.set_open_file.Goals as goal

pub returns-clause-ok : goal.returns-clause-ok
returns-clause-ok g c =
    IfOk-weaker c.set_where.result _ _
    (λ tried h s l. open-goes (reach_at s c.args.who.now) c.args.request.now (sets_of c.args.setting) (file_of c.args.file) c.allowed_now-allowed.result c.denial_of.result _ (done_of_tried tried) _ (c.allowed_now-allowed.ensures s l) c.denial_of.ensures h) c.set_where.ensures.ok
