use Rattle.std.proofs.Common.{◌<◌, ◌+◌, ◌++◌, ap, ◌∙◌, length, List, arith}
use Rattle.portal_model.specs.Applications.{name_of_number}
use Rattle.portal_model.specs.declared.reply.DirName.{DirName}
use Rattle.app_view.specs.Entries.{view_of}
use Rattle.app_view.proofs.SortedNames.{views-next}
use Rattle.app_view.proofs.order.views.Goals as goal

pub loop-index-preserved : goal.loop-index-preserved
loop-index-preserved c =
    let more : c.loop-index.index < length c.args.applications.now = omega (arith, c.len-index-end.ensures.count, c.loop-index-test.true) in
    c.in_ok-push_view.ensures
    ∙ (ap (λ (es : List DirName). es ++ view_of (c.loop-index.index + 1) (name_of_number c.args.applications.now (c.loop-index.index + 1))) c.loop-index.invariant
    ∙ views-next c.args.applications.now c.loop-index.index more)
