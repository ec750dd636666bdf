use Rattle.std.specs.Option.{option_copied}
use Rattle.portal_model.specs.declared.place.Place.TheVariants as Place
use Rattle.app_view.specs.Sights.{below_sight, file_sight, folder_sight, temp_sight}
use Rattle.app_view.proofs.SeenPlaces.{seen-at}
use Rattle.app_view.proofs.sight.is_seen.Goals as goal

pub returns-in-Folder : goal.returns-in-Folder
returns-in-Folder c = λ s l. seen-at s c.args.who.now (option_copied c.args.naming) (option_copied c.args.temp) c.args.place (Place.Folder c.in-Folder.view c.in-Folder.id) (folder_sight c.in-Folder.view) c.seen_document.result _
    c.in-Folder.is (c.seen_document.ensures.folder s (option_copied c.args.naming) (option_copied c.args.temp) l) c.is_some-in-Folder.ensures

pub returns-in-File : goal.returns-in-File
returns-in-File c = λ s l. seen-at s c.args.who.now (option_copied c.args.naming) (option_copied c.args.temp) c.args.place (Place.File c.in-File.view c.in-File.id) (file_sight c.in-File.view) c.seen_document-in-File.result _
    c.in-File.is (c.seen_document-in-File.ensures.file s (option_copied c.args.naming) (option_copied c.args.temp) l) c.is_some-in-File.ensures

pub returns-in-Named : goal.returns-in-Named
returns-in-Named c = λ s l. seen-at s c.args.who.now (option_copied c.args.naming) (option_copied c.args.temp) c.args.place (Place.Named c.in-Named.view c.in-Named.k) (below_sight c.in-Named.view) c.seen_naming.result _
    c.in-Named.is (c.seen_naming.ensures.below c.in-Named.k s (option_copied c.args.temp) l) c.is_some-in-Named.ensures

pub returns-in-Temporary : goal.returns-in-Temporary
returns-in-Temporary c = λ s l. seen-at s c.args.who.now (option_copied c.args.naming) (option_copied c.args.temp) c.args.place (Place.Temporary c.in-Temporary.view c.in-Temporary.k) temp_sight c.seen_temp.result _
    c.in-Temporary.is (c.seen_temp.ensures.temp c.in-Temporary.k s (option_copied c.args.naming) l) c.is_some-in-Temporary.ensures
