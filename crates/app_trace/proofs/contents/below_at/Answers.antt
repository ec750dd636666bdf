use Rattle.std.proofs.Common.{Bool, map, ap, ◌++◌, cond, [], ◌∷◌, ◌∙◌}
use Rattle.app_world.specs.View.{path_below}
use Rattle.app_trace.specs.Contents.{comes_again}
use Rattle.app_trace.specs.Told.{below_told}
use Rattle.app_trace.proofs.ContentsInOrder.{once-more}
use Rattle.app_trace.proofs.contents.below_at.Goals as goal

pub loop-index-preserved : goal.loop-index-preserved
loop-index-preserved c =
    let files = c.args.files.now.present in
    let path = c.index-paths-index.result in
    let again = c.comes_again-again.ensures ∙ ap (comes_again path) c.next_of.ensures in
    once-more (path_below files) (map below_told c.loop-index.below) (map below_told c.push_below.new.below) c.args.paths.now c.loop-index.index path c.loop-index-test.true c.index-paths-index.is
    (c.in_ok-push_below.ensures ∙ ap (λ (b : Bool). map below_told c.loop-index.below ++ cond b [] (path_below files path ∷ [])) again)
    c.loop-index.invariant
