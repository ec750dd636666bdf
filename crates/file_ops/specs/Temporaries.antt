-- The temporaries of a seat, as they are told, and their entries in the folder of a document.
use Rattle.std.specs.Prelude.{ℕ, List, [], ◌∷◌, Bool, false, Option, Some, None, cond}
use Rattle.portal_base.specs.Names.{is_same}
use Rattle.portal_base.specs.declared.files.FileName.{FileName}
use Rattle.portal_base.specs.declared.names.doc_id.DocId.{DocId}
use Rattle.portal_model.specs.declared.reply.DirName.{DirName}
use Rattle.portal_model.specs.declared.state.Document.{Document}
use Rattle.portal_model.specs.declared.temporary.OwnTemp.{OwnTemp}
use Rattle.portal_model.specs.OpenDir.{entry_of_temp, name_less}
use Rattle.portal_model.specs.Ordered.{put}
use Rattle.portal_model.specs.SeatNames.{is_temp_in, next_generation, own_temp}
use Rattle.save_files.specs.Tables.{TempTable}
use Rattle.file_ops.specs.declared.temporaries.OwnEntry.{OwnEntry}

abbrev pub entry_told : OwnEntry → OwnTemp
entry_told e = own_temp e.k e.temp.now

-- the next file of a document's path
abbrev pub next_name : TempTable → Document → FileName
next_name table d = record { path = d.path; generation = next_generation table.taken d.path }

-- ---- entries

-- that of a temporary which is in the folder
abbrev pub entries_of : ℕ → DocId → Option OwnTemp → List DirName
entries_of view id None = []
entries_of view id (Some t) = cond (is_temp_in view id t) (entry_of_temp view t ∷ []) []

-- each put in its place by its name, the last one first
abbrev pub puts : List DirName → List DirName → List DirName
puts [] names = names
puts (entry ∷ entries) names = put name_less entry (puts entries names)

-- an entry is there, and has the name
abbrev pub is_called_so : List ℕ → Option DirName → Bool
is_called_so name None = false
is_called_so name (Some entry) = is_same entry.name name
