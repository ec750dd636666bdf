use Rattle.app_trace.proofs.ContentsInOrder.{contents-once}
use Rattle.app_trace.proofs.contents.contents_of.Goals as goal

pub returns : goal.returns
returns c =
    let all = contents-once c.args.files.now.present c.in_ok-paths.paths c.by_bytes-paths.result c.by_bytes-paths.ensures.same c.by_bytes-paths.ensures.order in
    rw (← c.in_ok-paths.ensures, ← all, ← c.as_slice.ensures) c.contents_at.ensures
