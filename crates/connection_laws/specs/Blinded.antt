-- What is in sight of an application: of its view the bytes of those files alone that it may read
-- now, be it by its right to read a document or by a file that it has open. Of every other file
-- of which its view tells it sees the generation, the length and the moment of the last change.
use Rattle.std.specs.Prelude.{ℕ, ◌==◌, List, length, map, replicate, Bool, false, ◌&&◌, ◌||◌, cond}
use Rattle.std.specs.List.{list_any}
use Rattle.portal_base.specs.Names.{is_same}
use Rattle.portal_base.specs.declared.files.File.{File}
use Rattle.portal_base.specs.declared.files.FileName.{FileName}
use Rattle.portal_model.specs.declared.handle.Handle.{Handle}
use Rattle.portal_model.specs.Content.{Content, OfFile, OfFolder, NotThere}
use Rattle.portal_model.specs.Reach.{Reaching, may_read_now, open_file_of}
use Rattle.app_world.specs.Node.{own_reach}
use Rattle.app_world.specs.Own.{Own}
use Rattle.app_world.specs.View.{Alone, AppView, Below, HeldDocument, Holding, NamedFile, OwnConnection, PathBelow, PathContent, is_of_document}

-- ---- which files it may read

abbrev pub file_of : List ℕ → ℕ → FileName
file_of path generation = record { path = path; generation = generation }

-- by the right to read a document: a file of its path, present or not, or one that lies below a
-- document that is a folder
abbrev pub reads_document : FileName → HeldDocument → Bool
reads_document name d = d.rights.read && is_of_document d.document name.path

-- by an open file: the very file that it is of, where a READ of it is done now
abbrev pub reads_handle : Reaching → FileName → Handle → Bool
reads_handle reach name (Handle.File file node document strict read write) =
    is_same file.path name.path
    && (file.generation == name.generation
    && may_read_now reach (open_file_of file node document strict read write))
reads_handle reach name (Handle.Folder node names) = false

abbrev pub reads_connection : Reaching → FileName → OwnConnection → Bool
reads_connection reach name c = list_any (λ h. reads_handle reach name h.handle) c.handles

abbrev pub reads : AppView → FileName → Bool
reads v name =
    list_any (reads_document name) v.documents
    || list_any (reads_connection (own_reach v) name) v.connections

-- ---- what is left of a view

-- in place of a file's bytes as many zero bytes
abbrev pub hidden : Content → Content
hidden (OfFile generation bytes moment) = OfFile generation (replicate (length bytes) 0) moment
hidden OfFolder = OfFolder
hidden (NotThere room) = NotThere room

-- the same of a file that isn't in sight
abbrev pub blind_at : (FileName → Bool) → List ℕ → Content → Content
blind_at sees path (OfFile generation bytes moment) =
    cond (sees (file_of path generation)) (OfFile generation bytes moment)
    (hidden (OfFile generation bytes moment))
blind_at sees path OfFolder = OfFolder
blind_at sees path (NotThere room) = NotThere room

abbrev pub blind_content : (FileName → Bool) → PathContent → PathContent
blind_content sees c = record c { content = blind_at sees c.path c.content }

-- the same of a file below a folder
abbrev pub hidden_file : File → File
hidden_file f = record f { bytes = replicate (length f.bytes) 0 }

abbrev pub blind_file : (FileName → Bool) → File → File
blind_file sees f = cond (sees (file_of f.path f.generation)) f (hidden_file f)

abbrev pub blind_below : (FileName → Bool) → PathBelow → PathBelow
blind_below sees b = record b { files = map (blind_file sees) b.files }

-- and of a file that is known by its name
abbrev pub hidden_named : NamedFile → NamedFile
hidden_named f = record f { bytes = replicate (length f.bytes) 0 }

abbrev pub blind_named : (FileName → Bool) → NamedFile → NamedFile
blind_named sees f = cond (sees f.name) f (hidden_named f)

-- all but the bytes of files that aren't in sight
abbrev pub blind_but : (FileName → Bool) → AppView → AppView
blind_but sees v = record v {
  contents = map (blind_content sees) v.contents;
  below = map (blind_below sees) v.below;
  files = map (blind_named sees) v.files;
}

abbrev pub blinded : AppView → AppView
blinded v = blind_but (reads v) v

-- all but bytes
abbrev pub nothing : FileName → Bool
nothing name = false

-- a request, and what the outside gave it: of the files that an Add was shown all but the bytes
abbrev pub hidden_holding : Holding → Holding
hidden_holding (Alone content) = Alone (hidden content)
hidden_holding (Below files) = Below (map hidden_file files)

abbrev pub own_blinded : Own → Own
own_blinded own = record own { shown = map hidden_holding own.shown }
