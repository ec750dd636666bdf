-- What the portal is to one application. It holds nothing of other applications' rights,
-- documents, numbers or connections.
use Rattle.std.specs.Prelude.{◌≡◌, ℕ, ◌==◌, ◌&&◌, ◌||◌, nat_lt, List, [], ◌∷◌, ◌++◌, Bool, true, map, not, cond, Option, Some, None}
use Rattle.std.specs.List.{filter, find, flat_map, list_any}
use Rattle.portal_base.specs.Content.{file_named, is_above}
use Rattle.file_generations.specs.Generations.{Held, all_held}
use Rattle.portal_base.specs.Names.{is_same}
use Rattle.portal_base.specs.declared.files.File.{File}
use Rattle.portal_base.specs.declared.files.FileName.{FileName}
use Rattle.portal_base.specs.declared.limits.Limits.{Limits}
use Rattle.portal_base.specs.declared.who.Kind.{Kind}
use Rattle.rights_rule.specs.Rights.{RightSet, holds_any}
use Rattle.portal_model.specs.declared.handle.Handle.{Handle}
use Rattle.portal_model.specs.declared.handle.OpenHandle.{OpenHandle}
use Rattle.portal_model.specs.declared.naming.Naming.{Naming}
use Rattle.portal_model.specs.declared.state.Connection.{Connection}
use Rattle.portal_model.specs.declared.state.Document.{Document}
use Rattle.portal_model.specs.declared.temporary.OwnTemp.{OwnTemp}
use Rattle.portal_model.specs.Content.{Content, content_at}
use Rattle.portal_model.specs.State.{State, document_of, handles_of, held_in, held_of, is_app}
use Rattle.portal_model.specs.Ordered.{bytes_less, put_all}

-- a document in which the application has a right, and the rights that it has in it
pub record HeldDocument : Type 0 where
  pub document : Document
  pub rights : RightSet

pub record OwnHandle : Type 0 where
  pub fh : ℕ
  pub handle : Handle

-- a connection that is bound to the application. Nothing waits to be told to one
pub record OwnConnection : Type 0 where
  pub seat : ℕ
  pub app : List ℕ
  pub kind : Kind
  pub queue : List (List ℕ)
  pub opens : ℕ
  -- in the order in which they were opened, which is that of their numbers
  pub handles : List OwnHandle
  -- what was named on it below folders that are documents, and the temporaries that are there of
  -- those that were made on it
  pub namings : List Naming
  pub temps : List OwnTemp
  pub added : ℕ

pub record PathContent : Type 0 where
  pub path : List ℕ
  pub content : Content

-- the files that stand at or below the path of a document that is a folder, in byte order of their
-- paths
pub record PathBelow : Type 0 where
  pub path : List ℕ
  pub files : List File

-- a file by its name, be it the one that stands at its path or another
pub record NamedFile : Type 0 where
  pub name : FileName
  pub bytes : List ℕ
  pub moment : ℕ

-- What there is for a document: the content of its path, or of one that is a folder the files at or
-- below it.
pub data Holding : Type 0 where
  Alone : Content → Holding
  Below : List File → Holding

pub record AppView : Type 0 where
  -- the limits on open handles, on presented files that wait, and on the size of a file
  pub handles : ℕ
  pub queued : ℕ
  pub file_bytes : ℕ
  -- in rising order of their numbers
  pub documents : List HeldDocument
  -- in the order in which they were opened
  pub connections : List OwnConnection
  -- what the tree has at each path that a document which is no folder or an open file names, in
  -- order of the paths
  pub contents : List PathContent
  -- and at or below that of each document which is a folder, in order of these
  pub below : List PathBelow
  -- the files that are there of those that open files and temporaries name, in order of their paths
  -- and then of their generations
  pub files : List NamedFile

-- ---- the lists and their orders

abbrev pub number_of : HeldDocument → ℕ
number_of d = d.document.id.number

abbrev pub path_of : PathContent → List ℕ
path_of c = c.path

abbrev pub lower : HeldDocument → HeldDocument → Bool
lower x y = nat_lt (number_of x) (number_of y)

abbrev pub ahead : PathContent → PathContent → Bool
ahead x y = bytes_less (path_of x) (path_of y)

abbrev pub found_document : List HeldDocument → ℕ → Option HeldDocument
found_document documents number = find (λ d. number_of d == number) documents

abbrev pub found_content : List PathContent → List ℕ → Option PathContent
found_content contents path = find (λ c. is_same (path_of c) path) contents

-- the open connection of a seat
abbrev pub found_connection : List OwnConnection → ℕ → Option OwnConnection
found_connection connections seat = find (λ c. c.seat == seat) connections

-- ---- documents

abbrev pub is_held : HeldDocument → Bool
is_held d = holds_any d.rights

-- where these are the application's rights in the document of each number
abbrev pub held_document : (ℕ → RightSet) → Document → HeldDocument
held_document held d = record { document = d; rights = held d.id.number }

abbrev pub held_documents : (ℕ → RightSet) → List Document → List HeldDocument
held_documents held documents = put_all lower (filter is_held (map (held_document held) documents))

-- ---- connections

abbrev pub own_handle : OpenHandle → OwnHandle
own_handle h = record { fh = h.fh; handle = h.handle }

-- what the connection of a seat has open, of what all have open
abbrev pub own_handles : List OpenHandle → ℕ → List OwnHandle
own_handles handles seat = map own_handle (handles_of handles seat)

abbrev pub own_connection : List ℕ → List OpenHandle → Connection → OwnConnection
own_connection app handles c = record {
  seat = c.seat;
  app = app;
  kind = c.kind;
  queue = c.queue;
  opens = c.opens;
  handles = own_handles handles c.seat;
  namings = c.namings;
  temps = c.temps;
  added = c.added;
}

abbrev pub own_connections : List ℕ → List OpenHandle → List Connection → List OwnConnection
own_connections app handles connections =
    map (own_connection app handles) (filter (λ c. is_app app c.who) connections)

-- ---- contents

-- an open file names its path, an open folder none
abbrev pub paths_of_handle : Handle → List (List ℕ)
paths_of_handle (Handle.File name node document strict read write) = name.path ∷ []
paths_of_handle (Handle.Folder node names) = []

abbrev pub paths_of_connection : OwnConnection → List (List ℕ)
paths_of_connection c = flat_map (λ h. paths_of_handle h.handle) c.handles

-- the paths of the documents that pass a test
abbrev pub paths_where : (Document → Bool) → List HeldDocument → List (List ℕ)
paths_where test documents =
    map (λ d. d.document.path) (filter (λ d. test d.document) documents)

abbrev pub is_folder_document : Document → Bool
is_folder_document d = d.folder

abbrev pub is_plain_document : Document → Bool
is_plain_document d = not d.folder

-- the paths that documents which are no folders and the open files name
abbrev pub named_paths : List HeldDocument → List OwnConnection → List (List ℕ)
named_paths documents connections =
    paths_where is_plain_document documents ++ flat_map paths_of_connection connections

-- and those of the documents that are folders
abbrev pub folder_paths : List HeldDocument → List (List ℕ)
folder_paths documents = paths_where is_folder_document documents

abbrev pub is_among : List (List ℕ) → List ℕ → Bool
is_among paths path = list_any (λ p. is_same p path) paths

abbrev pub path_content : List File → List ℕ → PathContent
path_content files path = record { path = path; content = content_at files path }

abbrev pub contents_at : List File → List (List ℕ) → List PathContent
contents_at files paths = put_all ahead (map (path_content files) paths)

-- ---- at and below folders

abbrev pub is_at_or_below : List ℕ → List ℕ → Bool
is_at_or_below folder path = is_same path folder || is_above folder path

-- the path is that of the document, or lies below one that is a folder
abbrev pub is_of_document : Document → List ℕ → Bool
is_of_document d path = cond d.folder (is_at_or_below d.path path) (is_same d.path path)

abbrev pub file_ahead : File → File → Bool
file_ahead x y = bytes_less x.path y.path

abbrev pub files_below : List File → List ℕ → List File
files_below files folder = put_all file_ahead (filter (λ f. is_at_or_below folder f.path) files)

abbrev pub folder_of : PathBelow → List ℕ
folder_of b = b.path

abbrev pub below_ahead : PathBelow → PathBelow → Bool
below_ahead x y = bytes_less (folder_of x) (folder_of y)

abbrev pub found_below : List PathBelow → List ℕ → Option PathBelow
found_below below path = find (λ b. is_same (folder_of b) path) below

abbrev pub path_below : List File → List ℕ → PathBelow
path_below files path = record { path = path; files = files_below files path }

abbrev pub below_at : List File → List (List ℕ) → List PathBelow
below_at files paths = put_all below_ahead (map (path_below files) paths)

-- what there is for a document
abbrev pub holding_at : List File → Document → Holding
holding_at files d =
    cond d.folder (Below (files_below files d.path)) (Alone (content_at files d.path))

-- ---- files by their names

abbrev pub same_name : FileName → FileName → Bool
same_name a b = is_same a.path b.path && a.generation == b.generation

abbrev pub name_less : FileName → FileName → Bool
name_less a b =
    cond (is_same a.path b.path) (nat_lt a.generation b.generation) (bytes_less a.path b.path)

abbrev pub named_as : NamedFile → FileName
named_as f = f.name

abbrev pub named_ahead : NamedFile → NamedFile → Bool
named_ahead x y = name_less (named_as x) (named_as y)

abbrev pub found_named : List NamedFile → FileName → Option NamedFile
found_named files name = find (λ f. same_name (named_as f) name) files

-- an open file names itself, an open folder none
abbrev pub names_of_handle : Handle → List FileName
names_of_handle (Handle.File name node document strict read write) = name ∷ []
names_of_handle (Handle.Folder node names) = []

abbrev pub names_of_connection : OwnConnection → List FileName
names_of_connection c =
    flat_map (λ h. names_of_handle h.handle) c.handles ++ map (λ t. t.temp.file) c.temps

-- the files that open files and temporaries name
abbrev pub names_held : List OwnConnection → List FileName
names_held connections = flat_map names_of_connection connections

abbrev pub is_held_name : List FileName → FileName → Bool
is_held_name names name = list_any (λ n. same_name n name) names

-- the file, where it is there
abbrev pub file_if : FileName → Option File → List NamedFile
file_if name None = []
file_if name (Some f) = record { name = name; bytes = f.bytes; moment = f.moment } ∷ []

abbrev pub named_file : List File → FileName → List NamedFile
named_file files name = file_if name (file_named files name)

-- of these files
abbrev pub files_at : List File → List FileName → List NamedFile
files_at files names = put_all named_ahead (flat_map (named_file files) names)

-- ---- the view

-- what stands at paths are the present files; by their names the others are known too
abbrev pub view_over : Limits → Held → List HeldDocument → List OwnConnection → AppView
view_over limits tree documents connections = record {
  handles = limits.handles;
  queued = limits.queued;
  file_bytes = limits.file_bytes;
  documents = documents;
  connections = connections;
  contents = contents_at tree.present (named_paths documents connections);
  below = below_at tree.present (folder_paths documents);
  files = files_at (all_held tree) (names_held connections);
}

abbrev pub view : State → List ℕ → AppView
view s app =
    view_over s.limits (held_in s)
    (held_documents (held_of s.rights app) s.documents)
    (own_connections app s.handles s.connections)

-- documents without a right leave the view, and so do paths without a name, and files that nothing
-- names
abbrev pub pruned : List HeldDocument → AppView → AppView
pruned documents v = record v {
  documents = documents;
  contents = filter (λ c. is_among (named_paths documents v.connections) (path_of c)) v.contents;
  below = filter (λ b. is_among (folder_paths documents) (folder_of b)) v.below;
  files = filter (λ f. is_held_name (names_held v.connections) (named_as f)) v.files;
}

abbrev pub prune : AppView → AppView
prune v = pruned (filter is_held v.documents) v

-- ---- what a view takes from the state

-- a document as these rights show it
abbrev pub seen : RightSet → Option Document → Option HeldDocument
seen held None = None
seen held (Some d) = cond (holds_any held) (Some (record { document = d; rights = held })) None

-- whether a document which is no folder or an open file of the view names the path
abbrev pub names : AppView → List ℕ → Bool
names v path = is_among (named_paths v.documents v.connections) path

-- whether it is that of a document which is a folder, or lies below one
abbrev pub covers : AppView → List ℕ → Bool
covers v path = list_any (λ folder. is_at_or_below folder path) (folder_paths v.documents)

-- the view tells what is at the path
abbrev pub knows : AppView → List ℕ → Bool
knows v path = names v path || covers v path

-- an open file or a temporary of the view names the file
abbrev pub holds_name : AppView → FileName → Bool
holds_name v name = is_held_name (names_held v.connections) name

-- the document of a number, as the application sees it
abbrev pub seen_at : State → List ℕ → ℕ → Option HeldDocument
seen_at s app number = seen (held_of s.rights app number) (document_of s.documents number)

-- What the view takes from the state is the same in both: the limits that the application meets,
-- its connections, the document of each number as it sees it, what is at each path that it names,
-- what is at or below each folder, and each file that its connections name.
pub record TakesAlike (app : List ℕ) (s t : State) : Type 0 where
  pub handles : s.limits.handles ≡ t.limits.handles
  pub queued : s.limits.queued ≡ t.limits.queued
  pub file_bytes : s.limits.file_bytes ≡ t.limits.file_bytes
  pub connections :
      own_connections app s.handles s.connections ≡ own_connections app t.handles t.connections
  pub documents : (number : ℕ) → seen_at s app number ≡ seen_at t app number
  pub contents :
      (path : List ℕ) → names (view s app) path ≡ true →
      content_at s.files path ≡ content_at t.files path
  pub below :
      (path : List ℕ) → is_among (folder_paths (view s app).documents) path ≡ true →
      files_below s.files path ≡ files_below t.files path
  pub files :
      (name : FileName) → holds_name (view s app) name ≡ true →
      named_file (all_held (held_in s)) name ≡ named_file (all_held (held_in t)) name
