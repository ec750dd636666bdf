use Rattle.portal_model.specs.Errno.{enotdir}
use Rattle.portal_model.specs.NodeVerdict.{errs_on_file}
use Rattle.portal_model.specs.Walk.{Named}
use Rattle.portal_model.specs.declared.request.NodeOp.TheVariants as NodeOp
use Rattle.file_ops.proofs.OneLook.{behind-so}
use Rattle.file_ops.proofs.folders.in_named.Goals as goal

pub returns : goal.returns
returns g c = λ seat table.
    behind-so NodeOp.OpenDir tt seat (Named c.args.name.now) (errs_on_file enotdir) c.refusal_on_file.result table (g.T.HostTree.is c.args.tree.now) (g.T.HostTree.is c.look_named-look.new.tree)
    c.look_named-look.result c.refusal_on_file.ensures c.look_named-look.ensures.asks c.look_named-look.ensures.shows
