-- What others change of the view of one application.
use Rattle.std.specs.Prelude.{ℕ, ◌==◌, List, [], ◌∷◌, not, map, cond, is_some, Bool, Option, Some, None}
use Rattle.std.specs.List.{filter}
use Rattle.portal_base.specs.Content.{file_at}
use Rattle.portal_base.specs.FileChanges.{change_named}
use Rattle.portal_base.specs.Names.{is_same}
use Rattle.portal_base.specs.declared.files.File.{File}
use Rattle.portal_base.specs.declared.files.FileName.{FileName}
use Rattle.portal_base.specs.declared.names.doc_id.DocId.{DocId}
use Rattle.rights_rule.specs.Rights.{RightSet, union, minus}
use Rattle.portal_model.specs.declared.state.Document.{Document}
use Rattle.portal_model.specs.Content.{Content, OfFile, OfFolder, NotThere}
use Rattle.portal_model.specs.Ordered.{put}
use Rattle.app_world.specs.View.{AppView, Alone, Below, HeldDocument, Holding, NamedFile, PathBelow, PathContent, number_of, lower, ahead, below_ahead, file_ahead, found_below, found_document, found_content, is_at_or_below, named_ahead, prune}

pub data Effect : Type 0 where
  -- rights in a document, which joins the view with what there is for it where it was not there
  Gained : Document → RightSet → Holding → Effect
  -- rights in a document are taken away
  Lost : DocId → RightSet → Effect
  -- a document is deleted
  Gone : DocId → Effect
  -- the file of this path and generation has another content
  Bytes : List ℕ → ℕ → Content → Effect
  -- the file of this path and generation stands at the path from now on, with this content
  Turned : List ℕ → ℕ → Content → Effect

-- A document that was there stays as it was, with more rights. One that was not joins with these
abbrev pub with_more : Document → RightSet → Option HeldDocument → HeldDocument
with_more d more None = record { document = d; rights = more }
with_more d more (Some x) = record x { rights = union x.rights more }

-- what was there stays
abbrev pub with_content : List ℕ → Content → Option PathContent → PathContent
with_content path content None = record { path = path; content = content }
with_content path content (Some c) = c

abbrev pub with_below : List ℕ → List File → Option PathBelow → PathBelow
with_below path files None = record { path = path; files = files }
with_below path files (Some b) = b

abbrev pub with_holding : Document → Holding → AppView → AppView
with_holding d (Alone content) v = record v {
  contents = put ahead (with_content d.path content (found_content v.contents d.path)) v.contents;
}
with_holding d (Below files) v = record v {
  below = put below_ahead (with_below d.path files (found_below v.below d.path)) v.below;
}

-- the document of this number with fewer rights
abbrev pub less_held : ℕ → RightSet → HeldDocument → HeldDocument
less_held number less d = cond (number_of d == number) (record d { rights = minus d.rights less }) d

abbrev pub is_other : ℕ → HeldDocument → Bool
is_other number d = not (number_of d == number)

-- a file of another generation stays, and so does a folder; where nothing is, a first file may
-- come
abbrev pub changed_content : ℕ → Content → Content → Content
changed_content generation new (OfFile g bytes moment) =
    cond (g == generation) new (OfFile g bytes moment)
changed_content generation new OfFolder = OfFolder
changed_content generation new (NotThere room) = cond (generation == 0) new (NotThere room)

abbrev pub with_bytes : List ℕ → ℕ → Content → PathContent → PathContent
with_bytes path generation new c =
    cond (is_same c.path path)
    (record c { content = changed_content generation new c.content })
    c

-- whatever is there gives way to a file that stands there from now on
abbrev pub with_turned : List ℕ → Content → PathContent → PathContent
with_turned path new c = cond (is_same c.path path) (record c { content = new }) c

-- ---- among the files at or below a folder

abbrev pub with_content_of : Content → File → File
with_content_of (OfFile generation bytes moment) f =
    record f { generation = generation; bytes = bytes; moment = moment }
with_content_of OfFolder f = f
with_content_of (NotThere room) f = f

abbrev pub file_of : List ℕ → ℕ → List ℕ → ℕ → File
file_of path generation bytes moment =
    record { path = path; generation = generation; bytes = bytes; moment = moment }

-- a file comes to its path, in place of the one that stood there, if any
abbrev pub with_file_at : List ℕ → Content → List File → List File
with_file_at path (OfFile generation bytes moment) files =
    put file_ahead (file_of path generation bytes moment) files
with_file_at path OfFolder files = files
with_file_at path (NotThere room) files = files

-- a file of another generation stays; where nothing is, a first file may come
abbrev pub with_file : List ℕ → ℕ → Content → List File → List File
with_file path generation new files =
    cond (is_some (file_at files path))
    (change_named (record { path = path; generation = generation }) (with_content_of new) files)
    (cond (generation == 0) (with_file_at path new files) files)

abbrev pub with_bytes_below : List ℕ → ℕ → Content → PathBelow → PathBelow
with_bytes_below path generation new b =
    cond (is_at_or_below b.path path)
    (record b { files = with_file path generation new b.files })
    b

abbrev pub with_turned_below : List ℕ → Content → PathBelow → PathBelow
with_turned_below path new b =
    cond (is_at_or_below b.path path) (record b { files = with_file_at path new b.files }) b

-- ---- among the files that are known by their names

-- a file that is there is known so; where nothing names it, it leaves the view again
abbrev pub with_named : FileName → Content → List NamedFile → List NamedFile
with_named name (OfFile generation bytes moment) files =
    put named_ahead (record { name = name; bytes = bytes; moment = moment }) files
with_named name OfFolder files = files
with_named name (NotThere room) files = files

-- ---- what is changed

abbrev pub changed : AppView → Effect → AppView
changed v (Gained d more holding) = with_holding d holding (record v {
  documents = put lower (with_more d more (found_document v.documents d.id.number)) v.documents;
})
changed v (Lost id less) = record v { documents = map (less_held id.number less) v.documents }
changed v (Gone id) = record v { documents = filter (is_other id.number) v.documents }
changed v (Bytes path generation new) = record v {
  contents = map (with_bytes path generation new) v.contents;
  below = map (with_bytes_below path generation new) v.below;
  files = with_named (record { path = path; generation = generation }) new v.files;
}
-- the files that are known by their names stay, also the one that stood there
changed v (Turned path generation new) = record v {
  contents = map (with_turned path new) v.contents;
  below = map (with_turned_below path new) v.below;
}

-- and what then has no right or no name leaves the view
abbrev pub apply : AppView → Effect → AppView
apply v f = prune (changed v f)

abbrev pub apply_all : AppView → List Effect → AppView
apply_all v [] = v
apply_all v (f ∷ fs) = apply_all (apply v f) fs
