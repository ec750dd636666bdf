use Rattle.std.proofs.Common.{Option, option_copied, ap, ◌∙◌}
use Rattle.portal_model.specs.declared.state.Document.{Document}
use Rattle.portal_model.specs.Place.{place_of}
use Rattle.trace_items.specs.FilesChanged.{made_in, path_of_below}
use Rattle.trace_items.proofs.NodeParts.{if-ok}
use Rattle.trace_items.proofs.nodes.made_in.Goals as goal

pub returns-in-Some : goal.returns-in-Some
returns-in-Some c = if-ok c.made_beside.result c.made_beside.ensures (λ update f s lends.
    let naming = option_copied c.args.at.now.naming in
    let temp = option_copied c.args.at.now.temp in
    let below = path_of_below (place_of s c.args.at.now.who.now naming temp c.args.at.now.node) in
    f below ∙ ap (λ (d : Option Document). made_in c.args.name.now c.args.generation d below c.args.now) (c.in-Some.ensures s naming temp lends))
