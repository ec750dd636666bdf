use Rattle.app_view.specs.Books.{who_is}
use Rattle.app_view.proofs.SeenFolders.{readable-number}
use Rattle.app_view.proofs.sight.seen_by.Goals as goal

pub returns-clause-number : goal.returns-clause-number
returns-clause-number c =
    readable-number c.args.book.now.grants.now (who_is c.args.subject) c.in_ok-document.document.now c.args.book.now.documents.now.live c.args.id.number c.in_ok-document.ensures
