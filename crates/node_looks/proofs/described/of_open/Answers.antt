use Rattle.std.proofs.Common.{ap, Some}
use Rattle.portal_model.specs.declared.handle.Handle.{Handle}
use Rattle.portal_model.specs.GetAttr.{get_attr_by_handle}
use Rattle.portal_model.specs.Place.{reach_at}
use Rattle.node_looks.specs.Sights.{node_seen}
use Rattle.node_looks.proofs.OpenFiles.{with-handle}
use Rattle.node_looks.proofs.described.of_open.Goals as goal

pub returns-in-File : goal.returns-in-File
returns-in-File g c = λ s l. with-handle (get_attr_by_handle (reach_at s c.args.who.now) c.args.request.now (node_seen s c.args.who.now c.args.own c.args.request.now.node)) _ _ _ _ _ (ap (λ (h : Handle). Some h) c.in-File.is) (c.of_open_file.ensures s l)

pub returns-in-Folder : goal.returns-in-Folder
returns-in-Folder g c = λ s l. with-handle (get_attr_by_handle (reach_at s c.args.who.now) c.args.request.now (node_seen s c.args.who.now c.args.own c.args.request.now.node)) _ _ _ _ _ (ap (λ (h : Handle). Some h) c.in-Folder.is) (c.of_node.ensures s l)
