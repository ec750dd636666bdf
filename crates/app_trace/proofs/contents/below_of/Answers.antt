use Rattle.app_trace.proofs.ContentsInOrder.{below-once}
use Rattle.app_trace.proofs.contents.below_of.Goals as goal

pub returns : goal.returns
returns c =
    let all = below-once c.args.files.now.present c.in_ok-paths.paths c.by_bytes-paths.result c.by_bytes-paths.ensures.same c.by_bytes-paths.ensures.order in
    rw (← c.in_ok-paths.ensures, ← all, ← c.as_slice.ensures) c.below_at.ensures
