use Rattle.std.proofs.Common.{refl}
use Rattle.node_looks.proofs.Follow.{at-folder, at-place}
use Rattle.node_looks.proofs.described.at_place.Goals as goal

pub returns-in-File : goal.returns-in-File
returns-in-File g c = at-place c.args.place _ c.args.book.now c.args.who.now _ _ _ _ _ c.in-File.is c.of_file.ensures

pub returns-in-Folder : goal.returns-in-Folder
returns-in-Folder g c = at-folder c.args.place _ c.args.book.now c.args.who.now _ _ _ _ c.in-Folder.is _ refl refl (c.of_folder.ensures _)

pub returns-in-Root : goal.returns-in-Root
returns-in-Root g c = at-folder c.args.place _ c.args.book.now c.args.who.now _ _ _ _ c.in-Root.is _ refl refl (c.of_folder-in-Root.ensures _)

pub returns-in-Views : goal.returns-in-Views
returns-in-Views g c = at-folder c.args.place _ c.args.book.now c.args.who.now _ _ _ _ c.in-Views.is _ refl refl (c.of_folder-in-Views.ensures _)

pub returns-in-Temporary : goal.returns-in-Temporary
returns-in-Temporary g c = at-place c.args.place _ c.args.book.now c.args.who.now _ _ _ _ _ c.in-Temporary.is c.of_file_named.ensures

pub returns-in-Below : goal.returns-in-Below
returns-in-Below g c = at-place c.args.place _ c.args.book.now c.args.who.now _ _ _ _ _ c.in-Below.is (c.of_below.ensures c.in-Below.view c.in-Below.below.seen.document.now)
