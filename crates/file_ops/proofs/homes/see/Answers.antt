use Rattle.std.proofs.Common.{◌∙◌, Some, ap}
use Rattle.portal_model.specs.Place.{FolderOf}
use Rattle.node_looks.specs.Sights.{sight_of}
use Rattle.file_ops.proofs.SeenHomes.{any-no-home, below-at, file-at, file-no-home, folder-at, node_looked, nothing-at, root-at, temp-at, views-at}
use Rattle.file_ops.proofs.homes.see.Goals as goal

pub returns-in-None-clause-seen : goal.returns-in-None-clause-seen
returns-in-None-clause-seen g c = λ b who. nothing-at b who c.args.place c.unlooked.result _ c.in-None.is c.unlooked.ensures

pub returns-in-Some-File-clause-seen : goal.returns-in-Some-File-clause-seen
returns-in-Some-File-clause-seen g c = λ b who. file-at b who c.args.place (node_looked c.look-look.result c.file_in.result) _ c.in-Some-File.seen c.look-look.result _ _ (c.in-Some-File.is ∙ ap Some (rw c.in-Some-File.is at c.in-Some-File.field-0-is)) (ap (node_looked c.look-look.result) c.file_in.ensures) c.look-look.ensures.asks c.look-look.ensures.looks

pub returns-in-Some-File-clause-still : goal.returns-in-Some-File-clause-still
returns-in-Some-File-clause-still g c = λ h. absurd (file-no-home c.look-look.result (node_looked c.look-look.result c.file_in.result) (ap (node_looked c.look-look.result) c.file_in.ensures) h)

pub returns-in-Some-Temporary-clause-seen : goal.returns-in-Some-Temporary-clause-seen
returns-in-Some-Temporary-clause-seen g c = λ b who.
    temp-at b who c.args.place (node_looked c.look_named-look.result c.file_in-in-Some-Temporary.result) _ c.in-Some-Temporary.temp c.look_named-look.result _ _ (c.in-Some-Temporary.is ∙ ap Some (rw c.in-Some-Temporary.is at c.in-Some-Temporary.field-0-is)) (ap (node_looked c.look_named-look.result) c.file_in-in-Some-Temporary.ensures) c.look_named-look.ensures.asks c.look_named-look.ensures.shows

pub returns-in-Some-Temporary-clause-still : goal.returns-in-Some-Temporary-clause-still
returns-in-Some-Temporary-clause-still g c = λ h. absurd (file-no-home c.look_named-look.result (node_looked c.look_named-look.result c.file_in-in-Some-Temporary.result) (ap (node_looked c.look_named-look.result) c.file_in-in-Some-Temporary.ensures) h)

pub returns-in-Some-Below-clause-seen : goal.returns-in-Some-Below-clause-seen
returns-in-Some-Below-clause-seen g c = λ b who.
    below-at b who c.args.place (node_looked c.look-look-in-Some-Below.result c.any_in.result) _ c.in-Some-Below.below c.look-look-in-Some-Below.result _ _ (c.in-Some-Below.is ∙ ap Some (rw c.in-Some-Below.is at c.in-Some-Below.field-0-is)) (ap (node_looked c.look-look-in-Some-Below.result) c.any_in.ensures) c.look-look-in-Some-Below.ensures.asks c.look-look-in-Some-Below.ensures.looks

pub returns-in-Some-Below-clause-still : goal.returns-in-Some-Below-clause-still
returns-in-Some-Below-clause-still g c = λ h. absurd (any-no-home c.look-look-in-Some-Below.result (node_looked c.look-look-in-Some-Below.result c.any_in.result) (ap (node_looked c.look-look-in-Some-Below.result) c.any_in.ensures) h)

pub returns-in-Some-Folder-clause-seen : goal.returns-in-Some-Folder-clause-seen
returns-in-Some-Folder-clause-seen g c = λ b who.
    folder-at b who c.args.place c.unlooked-in-Some-Folder.result c.in-Some-Folder.field-0 (FolderOf c.in-Some-Folder.view c.in-Some-Folder.seen.document.now c.in-Some-Folder.seen.may_write) c.home_in.result _
    (ap (sight_of b who) (rw c.in-Some-Folder.is at c.in-Some-Folder.field-0-is)) c.home_in.ensures c.in-Some-Folder.is c.unlooked-in-Some-Folder.ensures

pub returns-in-Some-Root-clause-seen : goal.returns-in-Some-Root-clause-seen
returns-in-Some-Root-clause-seen g c = λ b who. root-at b who c.args.place c.unlooked-in-Some-Root.result _ _ _ (c.in-Some-Root.is ∙ ap Some (rw c.in-Some-Root.is at c.in-Some-Root.field-0-is)) c.unlooked-in-Some-Root.ensures

pub returns-in-Some-Views-clause-seen : goal.returns-in-Some-Views-clause-seen
returns-in-Some-Views-clause-seen g c = λ b who. views-at b who c.args.place c.unlooked-in-Some-Views.result _ (c.in-Some-Views.is ∙ ap Some (rw c.in-Some-Views.is at c.in-Some-Views.field-0-is)) c.unlooked-in-Some-Views.ensures
