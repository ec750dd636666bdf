use Rattle.std.proofs.Common.{◌∙◌, ap, sym, Option}
use Rattle.std.specs.Option.{option_map}
use Rattle.portal_base.specs.declared.names.doc_id.DocId.{DocId}
use Rattle.portal_model.specs.Place.{folder_node}
use Rattle.app_view.specs.Books.{who_is}
use Rattle.node_looks.specs.Names.{where_seen}
use Rattle.node_looks.specs.Sights.{sees}
use Rattle.node_looks.proofs.SeenNumbers.{folder-named}
use Rattle.node_looks.proofs.entry.folder_named.Goals as goal

pub returns-in-Some : goal.returns-in-Some
returns-in-Some c = λ h.
    c.seen_folder.ensures
    ∙ sym (folder-named c.args.view c.args.book.now.grants.now (who_is c.args.subject) c.args.book.now.documents.now.live c.args.name.now c.id_named.result c.id_named.ensures h
    ∙ ap (λ (o : Option DocId). option_map (folder_node c.args.view) (where_seen o (sees c.args.book.now.grants.now (who_is c.args.subject) c.args.book.now.documents.now.live))) c.in-Some.is)

pub returns-in-None : goal.returns-in-None
returns-in-None c = λ h.
    sym (folder-named c.args.view c.args.book.now.grants.now (who_is c.args.subject) c.args.book.now.documents.now.live c.args.name.now c.id_named.result c.id_named.ensures h
    ∙ ap (λ (o : Option DocId). option_map (folder_node c.args.view) (where_seen o (sees c.args.book.now.grants.now (who_is c.args.subject) c.args.book.now.documents.now.live))) c.in-None.is)
