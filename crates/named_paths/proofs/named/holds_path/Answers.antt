use Rattle.std.proofs.Common.{◌&&◌, List, ap, sym, ◌∙◌}
use Rattle.std.specs.List.{list_any}
use Rattle.portal_model.specs.declared.state.Document.{Document}
use Rattle.portal_model.specs.State.{held_of}
use Rattle.rights_rule.specs.Rights.{holds_any}
use Rattle.app_world.specs.View.{is_of_document}
use Rattle.named_paths.proofs.PathsHeld.{paths-held}
use Rattle.named_paths.proofs.named.holds_path.Goals as goal

pub returns : goal.returns
returns c =
    c.any_holds.ensures
    ∙ (ap (λ (ds : List Document). list_any (λ (d : Document). holds_any (held_of c.args.rights.now c.args.app.now d.id.number) && is_of_document d c.args.path.now) ds) c.live.ensures.value
    ∙ sym (paths-held (held_of c.args.rights.now c.args.app.now) c.args.path.now c.args.documents.now.live c.live.ensures.kept.live_differ))
