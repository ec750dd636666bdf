use Rattle.std.proofs.Common.{subst, sym}
use Rattle.portal_model.specs.NodeVerdict.{HandlesStay, NodeVerdict}
use Rattle.portal_model.specs.Walk.{Walk}
use Rattle.file_ops.specs.Tries.{Goes}
use Rattle.file_ops.proofs.created.create_nowhere.Goals as goal

pub returns-clause-ok : goal.returns-clause-ok
returns-clause-ok g c = λ b who r room namings temps.
    subst (λ (w : Walk NodeVerdict). Goes w (g.T.HostTree.is c.args.tree.now) c.done.result HandlesStay (g.T.HostTree.is c.refused_at-tried.new.tree)) (sym (c.find_target.ensures b who r room namings temps))
    (rw c.done.ensures c.refused_at-tried.ensures.goes)
