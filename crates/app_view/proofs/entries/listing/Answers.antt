use Rattle.std.proofs.Common.{None}
use Rattle.std.proofs.lemmas.Result.{IfOk-weaker}
use Rattle.app_view.proofs.SeenFolders.{document-there, folder-opened, no-file, no-naming, no-temp, root-there}
use Rattle.app_view.proofs.entries.listing.Goals as goal

pub unreachable-requires : goal.unreachable-requires
unreachable-requires c =
    root-there c.args.book.now c.args.who.now c.args.place c.in-Root.view c.subject_of.result c.in-Root.is c.in-None.is c.subject_of.ensures.subject c.requires

pub unreachable-requires-in-None-seen_document : goal.unreachable-requires-in-None-seen_document
unreachable-requires-in-None-seen_document c =
    document-there c.args.book.now c.args.who.now c.args.place c.in-Folder.view c.in-Folder.id c.seen_document.result c.in-Folder.is
    c.in-None-seen_document.is (λ s l. c.seen_document.ensures.folder s None None l) c.requires

pub unreachable-requires-in-File : goal.unreachable-requires-in-File
unreachable-requires-in-File c = no-file c.args.book.now c.args.who.now c.args.place c.in-File.view c.in-File.id c.in-File.is c.requires

pub unreachable-requires-in-Named : goal.unreachable-requires-in-Named
unreachable-requires-in-Named c = no-naming c.args.book.now c.args.who.now c.args.place c.in-Named.view c.in-Named.k c.in-Named.is c.requires

pub unreachable-requires-in-Temporary : goal.unreachable-requires-in-Temporary
unreachable-requires-in-Temporary c = no-temp c.args.book.now c.args.who.now c.args.place c.in-Temporary.view c.in-Temporary.k c.in-Temporary.is c.requires

pub returns-in-Some-seen_document : goal.returns-in-Some-seen_document
returns-in-Some-seen_document c =
    IfOk-weaker c.document_folder.result _ _
    (λ names e. folder-opened c.args.book.now c.args.who.now c.args.place c.in-Folder.view c.in-Folder.id c.args.look names c.in-Some-seen_document.seen
    c.in-Folder.is (λ s l. c.in-Some-seen_document.ensures.folder s None None l) c.in-Some-seen_document.ensures.number e)
    c.document_folder.ensures
