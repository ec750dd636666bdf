use Rattle.std.proofs.Common.{subst}
use Rattle.node_looks.specs.OwnFiles.{IsFoundIn}
use Rattle.node_looks.specs.declared.sight.SeenPlace.{SeenPlace}
use Rattle.node_looks.proofs.Follow.{at-place, same-folder}
use Rattle.node_looks.proofs.entry.in_place.Goals as goal

pub returns-in-File : goal.returns-in-File
returns-in-File g c = λ ns ts h f. at-place c.args.place _ c.args.book.now c.args.who.now _ _ _ _ _ c.in-File.is c.in_file.ensures

pub returns-in-Temporary : goal.returns-in-Temporary
returns-in-Temporary g c = λ ns ts h f. at-place c.args.place _ c.args.book.now c.args.who.now _ _ _ _ _ c.in-Temporary.is c.in_named.ensures

pub returns-in-Folder : goal.returns-in-Folder
returns-in-Folder g c = λ ns ts h f. at-place c.args.place _ c.args.book.now c.args.who.now _ _ _ _ _ c.in-Folder.is
    (c.in_folder.ensures ns ts (subst (λ (p : SeenPlace). IsFoundIn p c.args.own c.args.name.now ts) c.in-Folder.is f))

pub returns-in-Root : goal.returns-in-Root
returns-in-Root g c = λ ns ts h f. at-place c.args.place _ c.args.book.now c.args.who.now _ _ _ _ _ c.in-Root.is (same-folder c.args.request.now _ _ _ (c.named_in_root.ensures h) c.found_folder.ensures _)

pub returns-in-Views : goal.returns-in-Views
returns-in-Views g c = λ ns ts h f. at-place c.args.place _ c.args.book.now c.args.who.now _ _ _ _ _ c.in-Views.is (same-folder c.args.request.now _ _ _ c.named_in_views.ensures c.found_folder-in-Views.ensures _)
