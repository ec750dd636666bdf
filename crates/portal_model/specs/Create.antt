-- FUSE_CREATE (include/uapi/linux/fuse.h): a file is made, and opened: that of a document in its
-- folder, a temporary there, or one in an exported folder or below it.
use Rattle.std.specs.Prelude.{ℕ, ◌+◌, ◌||◌, List, true, not, Bool, Option, Some, None, cond, is_some}
use Rattle.portal_base.specs.Names.{is_same, name_of, named_child}
use Rattle.portal_base.specs.declared.files.FileName.{FileName}
use Rattle.portal_base.specs.declared.files.Look.{Look}
use Rattle.portal_model.specs.declared.naming.Naming.{Naming}
use Rattle.portal_model.specs.declared.reply.NodeAnswer.TheVariants as NodeAnswer
use Rattle.portal_model.specs.declared.request.NodeRequest.{NodeRequest}
use Rattle.portal_model.specs.declared.state.Document.{Document}
use Rattle.portal_model.specs.declared.temporary.Temp.{Temp}
use Rattle.portal_model.specs.Attributes.{attr_of_file, on_node}
use Rattle.portal_model.specs.Errno.{eacces, eexist, einval, emfile, enametoolong, enoent, enotdir, eperm}
use Rattle.portal_model.specs.Lookup.{naming_in, node_of_naming}
use Rattle.portal_model.specs.NodeVerdict.{NodeVerdict, Adds, Creates, Errs, Names, NameChange, NamesStay, Opens, Room, Temps, Yields, by_place, errs, errs_if, is_too_long, next_handle, no_file, is_dots}
use Rattle.portal_model.specs.Open.{file_handle, has_no_mode}
use Rattle.portal_model.specs.Place.{Folder, RootOf, Views, FolderOf, Exported, Sight, file_node, temp_node}
use Rattle.portal_model.specs.SeatNames.{Begins, SeatTemps, found_temp, lacks_number, lacks_temp}
use Rattle.portal_model.specs.Walk.{Walk, Looks, Ends, AtPath, Makes, Freshens}

-- ---- at a path

-- what is made: the document, the path, the node, and how what the seat has named changes
pub record Made : Type 0 where
  pub document : Document
  pub path : List ℕ
  pub node : ℕ
  pub names : NameChange

-- an empty file with the moment of now, the first of its path
abbrev pub created : NodeRequest → ℕ → Room → Made → ℕ → NodeVerdict
created r flags room made now = Yields (record {
  answer = NodeAnswer.Created (attr_of_file (on_node r made.node) true 0 now) (next_handle room);
  file = Creates made.path now;
  handle = Opens (file_handle made.document (record { path = made.path; generation = 0 })
      made.node flags);
  names = made.names;
})

abbrev pub create_there : NodeRequest → ℕ → Room → Made → Look → Walk NodeVerdict
create_there r flags room made (Look.File generation size moment) = errs eexist
create_there r flags room made Look.Folder = errs eexist
create_there r flags room made Look.Missing =
    Ends (Makes made.path) (created r flags room made) (Errs enoent)

abbrev pub create_at : NodeRequest → ℕ → Room → Made → Walk NodeVerdict
create_at r flags room made = Looks (AtPath made.path) (create_there r flags room made)

-- ---- in the folder of a document

-- the document's own file
abbrev pub own_made : ℕ → Document → Made
own_made view d = record {
  document = d;
  path = d.path;
  node = file_node view d.id.number;
  names = NamesStay;
}

abbrev pub create_own : NodeRequest → ℕ → Room → ℕ → Document → Bool → Walk NodeVerdict
create_own r flags room view d may_write =
    errs_if (not may_write) eacces
    (errs_if room.full emfile (create_at r flags room (own_made view d)))

-- a temporary: another file of the document's path, by the next generation of it
abbrev pub next_file : SeatTemps → Document → FileName
next_file temps d = record { path = d.path; generation = temps.next d.path }

abbrev pub temp_made : ℕ → Document → List ℕ → FileName → Temp
temp_made view d name file =
    record { document = d.id; view = view; name = name; file = file }

-- the node of the next one
abbrev pub next_temp_node : SeatTemps → ℕ → ℕ
next_temp_node temps view = temp_node view (temps.added + 1)

abbrev pub created_temp :
    NodeRequest → ℕ → Room → ℕ → Document → Temp → ℕ → NodeVerdict
created_temp r flags room node d temp now = Yields (record {
  answer = NodeAnswer.Created (attr_of_file (on_node r node) true 0 now) (next_handle room);
  file = Adds temp.file now;
  handle = Opens (file_handle d temp.file node flags);
  names = Temps (Begins temp);
})

abbrev pub add_temp : NodeRequest → ℕ → Room → ℕ → Document → Temp → Walk NodeVerdict
add_temp r flags room node d temp =
    Ends (Freshens temp.file) (created_temp r flags room node d temp) (Errs enoent)

abbrev pub create_temp :
    NodeRequest → List ℕ → ℕ → Room → SeatTemps → ℕ → Document → Bool → Walk NodeVerdict
create_temp r name flags room temps view d may_write =
    errs_if (is_dots name) eacces
    (errs_if (not may_write) eacces
    (errs_if (is_some (found_temp temps.temps view d.id name)) eexist
    (errs_if (room.full || lacks_temp temps) emfile
    (add_temp r flags room (next_temp_node temps view) d
    (temp_made view d name (next_file temps d))))))

-- another name than the document's is a temporary's, but for a document that is a folder
abbrev pub create_other :
    NodeRequest → List ℕ → ℕ → Room → SeatTemps → ℕ → Document → Bool → Walk NodeVerdict
create_other r name flags room temps view d may_write =
    errs_if d.folder eacces (create_temp r name flags room temps view d may_write)

-- ---- in an exported folder and below it

abbrev pub child_made : List Naming → Document → Naming → Made
child_made namings d naming = record {
  document = d;
  path = naming.path;
  node = node_of_naming namings naming;
  names = Names naming;
}

abbrev pub create_named :
    NodeRequest → ℕ → Room → List Naming → Document → Bool → Naming → Walk NodeVerdict
create_named r flags room namings d may_write naming =
    errs_if (not may_write) eacces
    (errs_if (room.full || lacks_number namings naming) emfile
    (create_at r flags room (child_made namings d naming)))

abbrev pub create_child :
    NodeRequest → ℕ → Room → List Naming → ℕ → Document → Bool → Option (List ℕ)
    → Walk NodeVerdict
create_child r flags room namings view d may_write None = errs eacces
create_child r flags room namings view d may_write (Some path) =
    create_named r flags room namings d may_write (naming_in view d path)

-- ---- the request

-- in a document's folder the document's own name is that of its file
abbrev pub create_in :
    NodeRequest → List ℕ → ℕ → Room → List Naming → SeatTemps → Folder → Walk NodeVerdict
create_in r name flags room namings temps (RootOf view numbers has_views) = errs eperm
create_in r name flags room namings temps (Views applications) = errs eperm
create_in r name flags room namings temps (FolderOf view d may_write) =
    cond (is_same name (name_of d.path)) (create_own r flags room view d may_write)
    (create_other r name flags room temps view d may_write)
create_in r name flags room namings temps (Exported view d path may_write) =
    create_child r flags room namings view d may_write (named_child path name)

abbrev pub create :
    NodeRequest → List ℕ → ℕ → Option Sight → Room → List Naming → SeatTemps
    → Walk NodeVerdict
create r name flags sight room namings temps =
    errs_if (has_no_mode flags) einval
    (errs_if (is_too_long name) enametoolong
    (by_place sight (no_file enotdir) (create_in r name flags room namings temps)))
