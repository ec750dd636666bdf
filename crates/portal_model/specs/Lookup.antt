-- FUSE_LOOKUP (include/uapi/linux/fuse.h): a name in a folder.
use Rattle.std.specs.Prelude.{ℕ, ◌&&◌, codes, List, Bool, false, Option, Some, None, cond, option_map}
use Rattle.std.specs.List.{find}
use Rattle.portal_base.specs.Names.{doc_text, is_same, name_of, named_child}
use Rattle.portal_base.specs.declared.files.Look.{Look}
use Rattle.portal_model.specs.declared.naming.Naming.{Naming}
use Rattle.portal_model.specs.declared.reply.Attr.{Attr}
use Rattle.portal_model.specs.declared.reply.NodeAnswer.TheVariants as NodeAnswer
use Rattle.portal_model.specs.declared.request.NodeRequest.{NodeRequest}
use Rattle.portal_model.specs.declared.state.Document.{Document}
use Rattle.portal_model.specs.declared.temporary.OwnTemp.{OwnTemp}
use Rattle.portal_model.specs.Applications.{number_of}
use Rattle.portal_model.specs.Attributes.{attr_of_file, attr_of_folder, on_node}
use Rattle.portal_model.specs.Errno.{emfile, enametoolong, enoent, enotdir}
use Rattle.portal_model.specs.NodeVerdict.{NodeVerdict, OnFile, at_name, by_place, errs, errs_if, is_too_long, names_path, no_file, told}
use Rattle.portal_model.specs.Place.{Folder, RootOf, Views, FolderOf, Exported, Sight, by_app_node, file_node, folder_node, named_node, root_node, temp_node}
use Rattle.portal_model.specs.SeatNames.{found_temp, lacks_number, number_of_naming}
use Rattle.portal_model.specs.Walk.{Walk, Answers, Looks, AtPath}

-- the name of the folder of all views
abbrev pub by_app : List ℕ
by_app = codes "by-app"

-- the node of a folder that has the name, where there is one
abbrev pub found_folder : NodeRequest → Option ℕ → Walk NodeVerdict
found_folder r None = errs enoent
found_folder r (Some node) = told (NodeAnswer.Entry (attr_of_folder (on_node r node) false))

-- an identifier names the folder of its document where that is seen
abbrev pub folder_in_root : ℕ → List ℕ → List ℕ → Option ℕ
folder_in_root view numbers name =
    option_map (folder_node view) (find (λ number. is_same (doc_text number) name) numbers)

abbrev pub named_in_root : ℕ → List ℕ → Bool → List ℕ → Option ℕ
named_in_root view numbers has_views name =
    cond (has_views && is_same name by_app) (Some by_app_node) (folder_in_root view numbers name)

-- the name of a numbered application names the root of its view
abbrev pub named_in_views : List (List ℕ) → List ℕ → Option ℕ
named_in_views applications name = option_map root_node (number_of applications name)

abbrev pub entry_of_file : NodeRequest → ℕ → Bool → OnFile
entry_of_file r node may_write generation size moment =
    told (NodeAnswer.Entry (attr_of_file (on_node r node) may_write size moment))

-- the name of a document in its folder: a file, and of one that is exported a folder too
abbrev pub found_document : NodeRequest → ℕ → Document → Bool → Look → Walk NodeVerdict
found_document r node d may_write (Look.File generation size moment) =
    entry_of_file r node may_write generation size moment
found_document r node d may_write Look.Folder =
    cond d.folder (told (NodeAnswer.Entry (attr_of_folder (on_node r node) may_write)))
    (errs enoent)
found_document r node d may_write Look.Missing = errs enoent

-- a temporary of the seat in a document's folder
abbrev pub found_own : NodeRequest → ℕ → Bool → Option OwnTemp → Walk NodeVerdict
found_own r view may_write None = errs enoent
found_own r view may_write (Some t) =
    at_name t.temp.file (entry_of_file r (temp_node view t.k) may_write)

-- ---- below an exported folder

abbrev pub naming_in : ℕ → Document → List ℕ → Naming
naming_in view d path = record { view = view; document = d.id; path = path }

-- the node of a naming: one that was named before has its number
abbrev pub node_of_naming : List Naming → Naming → ℕ
node_of_naming namings naming = named_node naming.view (number_of_naming namings naming)

abbrev pub entry_named : List Naming → Naming → Attr → Walk NodeVerdict
entry_named namings naming attr =
    errs_if (lacks_number namings naming) emfile
    (Answers (names_path naming (NodeAnswer.Entry attr)))

abbrev pub found_child : NodeRequest → List Naming → Naming → Bool → Look → Walk NodeVerdict
found_child r namings naming may_write (Look.File generation size moment) =
    entry_named namings naming
    (attr_of_file (on_node r (node_of_naming namings naming)) may_write size moment)
found_child r namings naming may_write Look.Folder =
    entry_named namings naming
    (attr_of_folder (on_node r (node_of_naming namings naming)) may_write)
found_child r namings naming may_write Look.Missing = errs enoent

abbrev pub lookup_child :
    NodeRequest → List Naming → ℕ → Document → Bool → Option (List ℕ) → Walk NodeVerdict
lookup_child r namings view d may_write None = errs enoent
lookup_child r namings view d may_write (Some path) =
    Looks (AtPath path) (found_child r namings (naming_in view d path) may_write)

-- ---- the request

-- a document's folder has the document's name, and those of the seat's own temporaries
abbrev pub lookup_in :
    NodeRequest → List Naming → List OwnTemp → List ℕ → Folder → Walk NodeVerdict
lookup_in r namings temps name (RootOf view numbers has_views) =
    found_folder r (named_in_root view numbers has_views name)
lookup_in r namings temps name (Views applications) =
    found_folder r (named_in_views applications name)
lookup_in r namings temps name (FolderOf view d may_write) =
    cond (is_same name (name_of d.path))
    (Looks (AtPath d.path) (found_document r (file_node view d.id.number) d may_write))
    (found_own r view may_write (found_temp temps view d.id name))
lookup_in r namings temps name (Exported view d path may_write) =
    lookup_child r namings view d may_write (named_child path name)

abbrev pub lookup :
    NodeRequest → List Naming → List OwnTemp → List ℕ → Option Sight → Walk NodeVerdict
lookup r namings temps name sight =
    errs_if (is_too_long name) enametoolong
    (by_place sight (no_file enotdir) (lookup_in r namings temps name))
