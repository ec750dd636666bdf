use Rattle.std.proofs.Common.{ap}
use Rattle.std.specs.Option.{option_copied}
use Rattle.portal_model.specs.GetAttr.{get_attr_by_handle}
use Rattle.portal_model.specs.Place.{reach_at}
use Rattle.node_looks.specs.Sights.{node_seen}
use Rattle.node_looks.proofs.OpenFiles.{with-handle}
use Rattle.node_looks.proofs.described.of_handle.Goals as goal

pub returns-in-None : goal.returns-in-None
returns-in-None g c = λ s l. with-handle (get_attr_by_handle (reach_at s c.args.who.now) c.args.request.now (node_seen s c.args.who.now c.args.own c.args.request.now.node)) _ _ _ _ _ (ap option_copied c.in-None.is) (c.refused.ensures _)

pub returns-in-Some : goal.returns-in-Some
returns-in-Some g c = λ s l. with-handle (get_attr_by_handle (reach_at s c.args.who.now) c.args.request.now (node_seen s c.args.who.now c.args.own c.args.request.now.node)) _ _ _ _ _ (ap option_copied c.in-Some.is) (c.of_open.ensures s l)
