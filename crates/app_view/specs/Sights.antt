-- What a caller sees of a document, as it is told.
use Rattle.std.specs.Prelude.{ℕ, List}
use Rattle.portal_base.specs.declared.files.FileName.{FileName}
use Rattle.portal_model.specs.Place.{FolderOf, Sight, SightBelow, SightOfFolder, SightOfTemp, sight_at_path}
use Rattle.app_view.specs.declared.sight.SeenBelow.{SeenBelow}
use Rattle.app_view.specs.declared.sight.SeenDocument.{SeenDocument}
use Rattle.app_view.specs.declared.sight.SeenTemp.{SeenTemp}

-- as the file of the document, or the folder that it is, in a view
abbrev pub file_sight : ℕ → SeenDocument → Sight
file_sight view d = sight_at_path view d.document.now d.document.now.folder d.may_write

-- as its folder
abbrev pub folder_sight : ℕ → SeenDocument → Sight
folder_sight view d = SightOfFolder (FolderOf view d.document.now d.may_write)

-- as what lies at or below the folder that it is
abbrev pub path_sight : ℕ → List ℕ → SeenDocument → Sight
path_sight view path d = SightBelow view d.document.now path d.may_write

abbrev pub below_sight : ℕ → SeenBelow → Sight
below_sight view b = path_sight view b.path.now b.seen

-- as a temporary in its folder
abbrev pub name_sight : FileName → SeenDocument → Sight
name_sight file d = SightOfTemp d.document.now file d.may_write

abbrev pub temp_sight : SeenTemp → Sight
temp_sight t = name_sight t.file.now t.seen
