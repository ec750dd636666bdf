use Rattle.app_view.proofs.SortedNames.{sorted-views}
use Rattle.app_view.proofs.order.names_of_views.Goals as goal

pub returns : goal.returns
returns c =
    sorted-views c.args.applications.now c.in_ok-views.views c.by_name.result c.in_ok-views.ensures.views c.in_ok-views.ensures.known.differ
    c.by_name.ensures.same c.by_name.ensures.order
