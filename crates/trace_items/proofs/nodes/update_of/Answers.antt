use Rattle.std.proofs.Common.{option_copied, sym, ap, ◌∙◌}
use Rattle.portal_model.specs.Place.{place_of}
use Rattle.trace_items.specs.FilesChanged.{attributes_set, document_of_folder, made_in, opened, path_of_below, renamed, view_of_folder}
use Rattle.trace_items.proofs.LentParts.{change_here, moment-lent, place-lent}
use Rattle.trace_items.proofs.NodeParts.{if-ok}
use Rattle.trace_items.proofs.nodes.update_of.Goals as goal

pub returns-in-SetAttr : goal.returns-in-SetAttr
returns-in-SetAttr c = if-ok c.attributes_set.result c.attributes_set.ensures (λ update f s has own lends h o.
    let node = c.args.request.now.node in
    let d = c.args.connection.now in
    let naming = option_copied c.get.result in
    let temp = option_copied c.get-2.result in
    let seen = place-lent c.args.lent.now s d.who node d.seat c.id_of.result c.id_of-2.result naming temp has own c.id_of.ensures c.id_of-2.ensures c.get.ensures.naming c.get-2.ensures.temp h o in
    let now = c.unwrap_or-now.ensures ∙ moment-lent c.args.given.now.now in
    f (place_of s d.who naming temp node) (c.file_seen.ensures s lends)
    ∙ ((λ i. attributes_set c.in-SetAttr.valid c.in-SetAttr.size (seen i) (c.get-handle-in-SetAttr.ensures.handle i) (c.as_slice-looks.ensures i) (now i))
    ∙ ap (change_here c.args.lent.now s d c.args.request.now c.args.given.now has own) (sym c.in-SetAttr.is)))

pub returns-in-Open : goal.returns-in-Open
returns-in-Open c = if-ok c.opened.result c.opened.ensures (λ update f s has own lends h o.
    let node = c.args.request.now.node in
    let d = c.args.connection.now in
    let naming = option_copied c.get.result in
    let temp = option_copied c.get-2.result in
    let seen = place-lent c.args.lent.now s d.who node d.seat c.id_of.result c.id_of-2.result naming temp has own c.id_of.ensures c.id_of-2.ensures c.get.ensures.naming c.get-2.ensures.temp h o in
    let now = c.unwrap_or-now.ensures ∙ moment-lent c.args.given.now.now in
    f (place_of s d.who naming temp node) (c.file_seen-in-Open.ensures s lends)
    ∙ ((λ i. opened c.in-Open.flags (seen i) (c.as_slice-looks.ensures i) (now i))
    ∙ ap (change_here c.args.lent.now s d c.args.request.now c.args.given.now has own) (sym c.in-Open.is)))

pub returns-in-Create : goal.returns-in-Create
returns-in-Create c = if-ok c.made_in.result c.made_in.ensures (λ update f s has own lends h o.
    let node = c.args.request.now.node in
    let d = c.args.connection.now in
    let naming = option_copied c.get.result in
    let temp = option_copied c.get-2.result in
    let seen = place-lent c.args.lent.now s d.who node d.seat c.id_of.result c.id_of-2.result naming temp has own c.id_of.ensures c.id_of-2.ensures c.get.ensures.naming c.get-2.ensures.temp h o in
    let now = c.unwrap_or-now.ensures ∙ moment-lent c.args.given.now.now in
    f s lends
    ∙ ((λ i. made_in (c.as_slice-in-Create.ensures i) c.args.given.now.generation (document_of_folder (seen i)) (path_of_below (seen i)) (now i))
    ∙ ap (change_here c.args.lent.now s d c.args.request.now c.args.given.now has own) (sym c.in-Create.is)))

pub returns-in-Rename : goal.returns-in-Rename
returns-in-Rename c = if-ok c.renamed.result c.renamed.ensures (λ update f s has own lends h o.
    let node = c.args.request.now.node in
    let d = c.args.connection.now in
    let naming = option_copied c.get.result in
    let temp = option_copied c.get-2.result in
    let seen = place-lent c.args.lent.now s d.who node d.seat c.id_of.result c.id_of-2.result naming temp has own c.id_of.ensures c.id_of-2.ensures c.get.ensures.naming c.get-2.ensures.temp h o in
    f s own lends o
    ∙ ((λ i. renamed (c.as_slice-in-Rename.ensures i) (c.as_slice-in-Rename-2.ensures i) own (view_of_folder (seen i)) (document_of_folder (seen i)))
    ∙ ap (change_here c.args.lent.now s d c.args.request.now c.args.given.now has own) (sym c.in-Rename.is)))
