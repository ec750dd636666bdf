use Rattle.std.proofs.Common.{Some, option_copied, ap, ◌∙◌}
use Rattle.portal_base.specs.Names.{name_of}
use Rattle.portal_model.specs.NodeVerdict.{Stands}
use Rattle.portal_model.specs.Place.{place_named, place_of}
use Rattle.trace_items.proofs.LentParts.{renamed-to, same-name}
use Rattle.trace_items.proofs.SeenFolders.{view-seen}
use Rattle.trace_items.proofs.nodes.renamed.Goals as goal

pub returns-in_ok-replica-in-Some-temp_called : goal.returns-in_ok-replica-in-Some-temp_called
returns-in_ok-replica-in-Some-temp_called c = λ s own lends e.
    let naming = option_copied c.args.at.now.naming in
    let temp = option_copied c.args.at.now.temp in
    let who = c.args.at.now.who.now in
    let d = c.in-Some.document.now in
    let seen = c.in-Some.ensures s naming temp lends in
    ap Stands c.in_ok-replica-in-Some-temp_called.ensures
    ∙ renamed-to c.args.old_name.now c.args.new_name.now own (place_of s who naming temp c.args.at.now.node) d c.folder_view.result (Some c.in-Some-temp_called.temp.now) seen
    (c.folder_view.ensures ∙ view-seen s who naming temp (place_named c.args.at.now.node) d seen)
    (same-name c.name.result.now c.args.new_name.now (name_of d.path) c.ne.result c.ne.ensures c.if-ne.false c.name.ensures)
    (c.in-Some-temp_called.ensures own e)
