use Rattle.std.proofs.Common.{None, Some}
use Rattle.tree_files.specs.Kept.{file_kept}
use Rattle.app_trace.proofs.ContentsInOrder.{with-file}
use Rattle.app_trace.proofs.contents.content_at.Goals as goal

pub returns-in-Some : goal.returns-in-Some
returns-in-Some c =
    let path = c.args.path.now in
    rw (with-file c.args.files.now.present path (Some (file_kept path c.in-Some.file.now)) c.in-Some.ensures)
    c.file_content.ensures

pub returns-in-None : goal.returns-in-None
returns-in-None c =
    rw (with-file c.args.files.now.present c.args.path.now None c.in-None.ensures)
    c.content_without_file.ensures
