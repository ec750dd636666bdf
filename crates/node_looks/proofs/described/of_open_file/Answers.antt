use Rattle.portal_model.specs.Place.{reach_at}
use Rattle.app_view.specs.Opened.{file_of}
use Rattle.node_looks.proofs.OpenFiles.{open-follows}
use Rattle.node_looks.proofs.described.of_open_file.Goals as goal

pub returns : goal.returns
returns g c = λ s l. open-follows (reach_at s c.args.who.now) c.args.request.now (file_of c.args.file) c.allowed_now-allowed.result _ c.of_file_where.result _ (c.allowed_now-allowed.ensures s l) c.of_file_where.ensures
