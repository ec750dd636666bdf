-- FUSE_OPENDIR (include/uapi/linux/fuse.h): a folder, and the entries that it has then.
use Rattle.std.specs.Prelude.{ℕ, ◌+◌, ◌==◌, codes, List, [], ◌∷◌, ◌++◌, map, Bool, true, false, Option, cond}
use Rattle.portal_base.specs.Names.{doc_text, is_same, name_of}
use Rattle.portal_base.specs.declared.files.ChildName.{ChildName}
use Rattle.portal_base.specs.declared.files.Look.{Look}
use Rattle.portal_model.specs.declared.handle.Handle.{Handle}
use Rattle.portal_model.specs.declared.reply.DirName.{DirName}
use Rattle.portal_model.specs.declared.reply.NodeAnswer.TheVariants as NodeAnswer
use Rattle.portal_model.specs.declared.request.NodeRequest.{NodeRequest}
use Rattle.portal_model.specs.declared.state.Document.{Document}
use Rattle.portal_model.specs.declared.temporary.OwnTemp.{OwnTemp}
use Rattle.portal_model.specs.Errno.{emfile, enoent, enotdir}
use Rattle.portal_model.specs.Lookup.{by_app}
use Rattle.portal_model.specs.NodeVerdict.{NodeVerdict, Errs, FilesStay, NamesStay, Opens, Room, Yields, by_place, errs_if, next_handle, no_file}
use Rattle.portal_model.specs.Ordered.{bytes_less, put_all}
use Rattle.portal_model.specs.Place.{Folder, RootOf, Views, FolderOf, Exported, Sight, by_app_node, file_node, folder_node, root_node, temp_node}
use Rattle.portal_model.specs.SeatNames.{temps_in}
use Rattle.portal_model.specs.Walk.{Walk, Answers, Lists, Looks, AtPath}

-- ---- the entries of a folder

abbrev pub folder_entry : ℕ → List ℕ → DirName
folder_entry node name = record { node = node; name = name; folder = true }

abbrev pub file_entry : ℕ → List ℕ → DirName
file_entry node name = record { node = node; name = name; folder = false }

-- each folder begins with itself and the one that it stands in
abbrev pub with_dots : ℕ → ℕ → List DirName → List DirName
with_dots node parent names =
    folder_entry node (codes ".") ∷ folder_entry parent (codes "..") ∷ names

-- the root of the caller's own view stands in itself, that of another in the folder of all views
abbrev pub parent_of_root : ℕ → ℕ
parent_of_root view = cond (view == 0) (root_node 0) by_app_node

-- identifiers stand in byte order, which is that of their numbers; the folder of all views is last
abbrev pub names_in_root : ℕ → List ℕ → Bool → List DirName
names_in_root view numbers has_views =
    map (λ number. folder_entry (folder_node view number) (doc_text number)) numbers
    ++ cond has_views (folder_entry by_app_node by_app ∷ []) []

abbrev pub views_from : ℕ → List (List ℕ) → List DirName
views_from view [] = []
views_from view (name ∷ names) = folder_entry (root_node view) name ∷ views_from (view + 1) names

abbrev pub name_less : DirName → DirName → Bool
name_less a b = bytes_less a.name b.name

-- applications stand in byte order of their names
abbrev pub names_of_views : List (List ℕ) → List DirName
names_of_views applications = put_all name_less (views_from 1 applications)

-- a document's folder has its file where the tree has one, and of a document that is a folder that
-- folder too
abbrev pub names_of_look : ℕ → Document → Look → List DirName
names_of_look node d (Look.File generation size moment) = file_entry node (name_of d.path) ∷ []
names_of_look node d Look.Folder = cond d.folder (folder_entry node (name_of d.path) ∷ []) []
names_of_look node d Look.Missing = []

-- behind it the seat's own temporaries, in byte order of their names
abbrev pub entry_of_temp : ℕ → OwnTemp → DirName
entry_of_temp view t = file_entry (temp_node view t.k) t.temp.name

abbrev pub names_of_temps : ℕ → List OwnTemp → List DirName
names_of_temps view temps = put_all name_less (map (entry_of_temp view) temps)

-- what an exported folder has, and one below it: no entry has a node of its own before it is named
abbrev pub unnamed_node : ℕ
unnamed_node = 4294967295

abbrev pub entry_of_child : ChildName → DirName
entry_of_child c = record { node = unnamed_node; name = c.name; folder = c.folder }

abbrev pub names_of_children : List ChildName → List DirName
names_of_children names = map entry_of_child names

-- The parent of the exported folder is the document's. That of one below it is told without a
-- number: paths of namings lie strictly below the document's.
abbrev pub parent_of_exported : ℕ → Document → List ℕ → ℕ
parent_of_exported view d path =
    cond (is_same path d.path) (folder_node view d.id.number) unnamed_node

-- ---- the request

abbrev pub opened_folder : NodeRequest → Room → ℕ → List DirName → NodeVerdict
opened_folder r room parent names = Yields (record {
  answer = NodeAnswer.Opened (next_handle room);
  file = FilesStay;
  handle = Opens (Handle.Folder r.node (with_dots r.node parent names));
  names = NamesStay;
})

abbrev pub open_found : NodeRequest → Room → List OwnTemp → Folder → Walk NodeVerdict
open_found r room temps (RootOf view numbers has_views) =
    Answers (opened_folder r room (parent_of_root view) (names_in_root view numbers has_views))
open_found r room temps (Views applications) =
    Answers (opened_folder r room (root_node 0) (names_of_views applications))
open_found r room temps (FolderOf view d may_write) =
    Looks (AtPath d.path) (λ look. Answers
    (opened_folder r room (root_node view)
    (names_of_look (file_node view d.id.number) d look
    ++ names_of_temps view (temps_in temps view d.id))))
open_found r room temps (Exported view d path may_write) =
    Lists path
    (λ children. opened_folder r room (parent_of_exported view d path) (names_of_children children))
    (Errs enoent)

abbrev pub open_dir_in : NodeRequest → Room → List OwnTemp → Folder → Walk NodeVerdict
open_dir_in r room temps folder = errs_if room.full emfile (open_found r room temps folder)

abbrev pub open_dir : NodeRequest → Option Sight → Room → List OwnTemp → Walk NodeVerdict
open_dir r sight room temps = by_place sight (no_file enotdir) (open_dir_in r room temps)
