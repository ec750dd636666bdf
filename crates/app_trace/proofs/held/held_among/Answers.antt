use Rattle.portal_base.specs.Names.{is_host_path}
use Rattle.portal_model.specs.declared.state.Document.{Document}
use Rattle.portal_model.specs.Opening.{document_kept}
use Rattle.document_records.proofs.Loops.{all_map}
use Rattle.app_trace.proofs.held.held_among.Goals as goal

pub push_held-requires : goal.push_held-requires
push_held-requires c = all_map document_kept (λ (d : Document). is_host_path d.path) c.args.items.now c.loop-item.item-index c.item-item.result c.loop-item-test.true c.item-item.is c.requires
