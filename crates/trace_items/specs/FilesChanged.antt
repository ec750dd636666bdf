-- How a request on a node changes the files, where it is done; and what a view is told of the file
-- that it changes.
use Rattle.std.specs.Prelude.{◌≡◌, ℕ, ◌==◌, List, [], ◌∷◌, Bool, true, false, Option, Some, None, cond}
use Rattle.portal_base.specs.Content.{file_at}
use Rattle.file_generations.specs.Generations.{Held, all_held, is_held}
use Rattle.portal_base.specs.Names.{is_same, name_of, named_child}
use Rattle.portal_base.specs.declared.files.File.{File}
use Rattle.portal_base.specs.declared.files.FileName.{FileName}
use Rattle.portal_base.specs.declared.files.Look.{Look}
use Rattle.portal_model.specs.declared.handle.Handle.{Handle}
use Rattle.portal_model.specs.declared.place.Place.{Place}
use Rattle.portal_model.specs.declared.request.NodeOp.{NodeOp}
use Rattle.portal_model.specs.declared.state.Document.{Document}
use Rattle.portal_model.specs.declared.temporary.OwnTemp.{OwnTemp}
use Rattle.portal_model.specs.NodeVerdict.{FileChange, FilesStay, Writes, Resizes, Creates, Adds, Stands}
use Rattle.portal_model.specs.Open.{truncates}
use Rattle.portal_model.specs.Place.{Exported, FolderOf, RootOf, Views, Sight, SightBelow, SightOfFile, SightOfFolder, SightOfTemp}
use Rattle.portal_model.specs.SeatNames.{found_temp}
use Rattle.portal_model.specs.SetAttr.{sets_by_handle, sets_size}
use Rattle.app_world.specs.Effect.{Effect, Bytes, Turned}
use Rattle.app_world.specs.Node.{content_named, first_of, has_file}
use Rattle.app_world.specs.View.{AppView, knows}
use Rattle.tree_files.specs.Kept.{NamesDiffer}

-- ---- what a request names

abbrev pub file_open : Option Handle → Option FileName
file_open None = None
file_open (Some (Handle.File name node document strict read write)) = Some name
file_open (Some (Handle.Folder node names)) = None

-- the path at which a file may be seen
abbrev pub path_of_file : Option Sight → Option (List ℕ)
path_of_file None = None
path_of_file (Some (SightOfFile d may_write)) = Some d.path
path_of_file (Some (SightOfTemp d name may_write)) = Some name.path
path_of_file (Some (SightBelow view d path may_write)) = Some path
path_of_file (Some (SightOfFolder f)) = None

-- that of an exported folder or of what lies below one, where it is seen
abbrev pub path_of_below : Option Sight → Option (List ℕ)
path_of_below None = None
path_of_below (Some (SightOfFile d may_write)) = None
path_of_below (Some (SightOfTemp d name may_write)) = None
path_of_below (Some (SightBelow view d path may_write)) = Some path
path_of_below (Some (SightOfFolder (RootOf view numbers has_views))) = None
path_of_below (Some (SightOfFolder (Views applications))) = None
path_of_below (Some (SightOfFolder (FolderOf view d may_write))) = None
path_of_below (Some (SightOfFolder (Exported view d path may_write))) = Some path

-- the document whose folder is seen
abbrev pub document_of_folder : Option Sight → Option Document
document_of_folder None = None
document_of_folder (Some (SightOfFile d may_write)) = None
document_of_folder (Some (SightOfTemp d name may_write)) = None
document_of_folder (Some (SightBelow view d path may_write)) = None
document_of_folder (Some (SightOfFolder (RootOf view numbers has_views))) = None
document_of_folder (Some (SightOfFolder (Views applications))) = None
document_of_folder (Some (SightOfFolder (FolderOf view d may_write))) = Some d
document_of_folder (Some (SightOfFolder (Exported view d path may_write))) = None

-- and the view in which that is
abbrev pub view_of_folder : Option Sight → ℕ
view_of_folder (Some (SightOfFolder (FolderOf view d may_write))) = view
view_of_folder sight = 0

-- the view of a document's folder that a number names
abbrev pub view_in : Option Place → ℕ
view_in (Some (Place.Folder view id)) = view
view_in place = 0

-- the file at a path, as the first look showed it
abbrev pub file_shown : List ℕ → List Look → Option FileName
file_shown path [] = None
file_shown path (Look.File generation size moment ∷ looks) =
    Some (record { path = path; generation = generation })
file_shown path (Look.Folder ∷ looks) = None
file_shown path (Look.Missing ∷ looks) = None

abbrev pub file_shown_at : Option (List ℕ) → List Look → Option FileName
file_shown_at None looks = None
file_shown_at (Some path) looks = file_shown path looks

-- ---- the change

abbrev pub writes_to : Option FileName → ℕ → List ℕ → ℕ → FileChange
writes_to None offset content now = FilesStay
writes_to (Some name) offset content now = Writes name offset content now

abbrev pub resizes : Option FileName → ℕ → ℕ → FileChange
resizes None size now = FilesStay
resizes (Some name) size now = Resizes name size now

abbrev pub creates : Option (List ℕ) → ℕ → FileChange
creates None now = FilesStay
creates (Some path) now = Creates path now

-- a temporary, by the generation that was given
abbrev pub adds : List ℕ → Option ℕ → ℕ → FileChange
adds path None now = FilesStay
adds path (Some generation) now = Adds (record { path = path; generation = generation }) now

abbrev pub child_of_below : List ℕ → Option (List ℕ) → Option (List ℕ)
child_of_below name None = None
child_of_below name (Some path) = named_child path name

-- in a document's folder the document's own name is that of its file, and another a temporary's; at
-- an exported folder and below it each name is that of a file
abbrev pub made_in : List ℕ → Option ℕ → Option Document → Option (List ℕ) → ℕ → FileChange
made_in name generation (Some d) below now =
    cond (is_same name (name_of d.path)) (Creates d.path now) (adds d.path generation now)
made_in name generation None below now = creates (child_of_below name below) now

-- a temporary that is renamed onto the document's own name
abbrev pub stands : Option OwnTemp → FileChange
stands None = FilesStay
stands (Some t) = Stands t.temp.file

abbrev pub renamed : List ℕ → List ℕ → List OwnTemp → ℕ → Option Document → FileChange
renamed old_name new_name temps view None = FilesStay
renamed old_name new_name temps view (Some d) =
    cond (is_same new_name (name_of d.path)) (stands (found_temp temps view d.id old_name))
    FilesStay

-- a write of no bytes changes nothing
abbrev pub written : ℕ → List ℕ → Option Handle → ℕ → FileChange
written offset [] handle now = FilesStay
written offset (b ∷ bs) handle now = writes_to (file_open handle) offset (b ∷ bs) now

abbrev pub attributes_set : ℕ → ℕ → Option Sight → Option Handle → List Look → ℕ → FileChange
attributes_set valid size sight handle looks now =
    cond (sets_size valid)
    (resizes (cond (sets_by_handle valid) (file_open handle)
    (file_shown_at (path_of_file sight) looks)) size now)
    FilesStay

-- with truncation the file has no bytes
abbrev pub opened : ℕ → Option Sight → List Look → ℕ → FileChange
opened flags sight looks now =
    cond (truncates flags) (resizes (file_shown_at (path_of_file sight) looks) 0 now) FilesStay

-- what a request on a node was given, and what its connection has: the open handle of each number,
-- and its temporaries
pub record Circumstance : Type 0 where
  pub sight : Option Sight
  pub handle : ℕ → Option Handle
  pub temps : List OwnTemp
  pub looks : List Look
  pub now : ℕ
  pub generation : Option ℕ

abbrev pub file_change : Circumstance → NodeOp → FileChange
file_change c (NodeOp.Write fh offset content) = written offset content (c.handle fh) c.now
file_change c (NodeOp.SetAttr valid fh size) =
    attributes_set valid size c.sight (c.handle fh) c.looks c.now
file_change c (NodeOp.Open flags) = opened flags c.sight c.looks c.now
file_change c (NodeOp.Create name flags) =
    made_in name c.generation (document_of_folder c.sight) (path_of_below c.sight) c.now
file_change c (NodeOp.Rename new_parent flags old_name new_name) =
    renamed old_name new_name c.temps (view_of_folder c.sight) (document_of_folder c.sight)
file_change c (NodeOp.Unlink name) = FilesStay
file_change c (NodeOp.Lookup name) = FilesStay
file_change c (NodeOp.Forget count) = FilesStay
file_change c (NodeOp.BatchForget nodes) = FilesStay
file_change c (NodeOp.GetAttr flags fh) = FilesStay
file_change c (NodeOp.Read fh offset size) = FilesStay
file_change c (NodeOp.Flush fh) = FilesStay
file_change c (NodeOp.Fsync fh) = FilesStay
file_change c (NodeOp.Release fh) = FilesStay
file_change c NodeOp.OpenDir = FilesStay
file_change c (NodeOp.ReadDir fh offset size) = FilesStay
file_change c (NodeOp.ReleaseDir fh) = FilesStay
file_change c (NodeOp.Access mask) = FilesStay

-- a file is made only where its path has none
abbrev pub IsFree : FileChange → Held → Type 0
IsFree (Creates path now) held = file_at held.present path ≡ None
IsFree change held = Unit {0}

-- and files are found by their names
pub record CanCome (change : FileChange) (held : Held) : Type 0 where
  pub free : IsFree change held
  pub names : NamesDiffer held

-- the file is there that changes
abbrev pub IsThere : FileChange → Held → Type 0
IsThere (Writes name offset content now) held = is_held held name ≡ true
IsThere (Resizes name size now) held = is_held held name ≡ true
IsThere (Stands name) held = is_held held name ≡ true
IsThere change held = Unit {0}

-- the file of a name is the present one of its path
abbrev pub is_of_generation : ℕ → Option File → Bool
is_of_generation generation None = false
is_of_generation generation (Some f) = f.generation == generation

abbrev pub is_present : Held → FileName → Bool
is_present held name = is_of_generation name.generation (file_at held.present name.path)

-- ---- what a view is told of it

-- the file of a name, as it is afterwards
abbrev pub told_alone : FileName → Held → List Effect
told_alone name after =
    Bytes name.path name.generation (content_named (all_held after) name) ∷ []

abbrev pub turned_alone : FileName → Held → List Effect
turned_alone name after =
    Turned name.path name.generation (content_named (all_held after) name) ∷ []

-- what is told of a change, if anything; one that is made is the first of its path
abbrev pub news_of : FileChange → Held → List Effect
news_of FilesStay after = []
news_of (Writes name offset [] now) after = []
news_of (Writes name offset (b ∷ bs) now) after = told_alone name after
news_of (Resizes name size now) after = told_alone name after
news_of (Creates path now) after = told_alone (first_of path) after
news_of (Adds name now) after = []
news_of (Stands name) after = turned_alone name after

-- whether a view is told of it: it has the file that changes, or tells what is at the path
abbrev pub is_news_to : AppView → FileChange → Bool
is_news_to v FilesStay = false
is_news_to v (Writes name offset [] now) = false
is_news_to v (Writes name offset (b ∷ bs) now) = has_file v name
is_news_to v (Resizes name size now) = has_file v name
is_news_to v (Creates path now) = knows v path
is_news_to v (Adds name now) = false
is_news_to v (Stands name) = knows v name.path

-- the file that was changed, as it is afterwards
abbrev pub told_of_change : AppView → FileChange → Held → List Effect
told_of_change v change after = cond (is_news_to v change) (news_of change after) []
