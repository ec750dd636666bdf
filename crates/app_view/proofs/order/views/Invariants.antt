use Rattle.std.proofs.Common.{◌≡◌, take}
use Rattle.portal_model.specs.OpenDir.{views_from}
use Rattle.app_view.proofs.order.views.Given as goal

-- the views of the applications so far
abbrev pub invariant-loop-index : goal.invariant-loop-index
invariant-loop-index l = l.views ≡ views_from 1 (take l.index l.applications)
