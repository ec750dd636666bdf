use Rattle.std.proofs.Common.{List, ap, ◌∙◌}
use Rattle.portal_base.specs.declared.files.File.{File}
use Rattle.portal_model.specs.Ordered.{put_all}
use Rattle.app_world.specs.View.{file_ahead}
use Rattle.app_trace.proofs.FilesInOrder.{sorted-files}
use Rattle.app_trace.proofs.contents.files_below.Goals as goal

pub returns : goal.returns
returns c =
    sorted-files c.in_ok-found.found c.files_by_bytes.result c.in_ok-found.ensures.order c.files_by_bytes.ensures.same c.files_by_bytes.ensures.order
    ∙ ap (λ (files : List File). put_all file_ahead files) c.in_ok-found.ensures.files
