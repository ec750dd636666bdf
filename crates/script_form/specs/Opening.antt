-- The state that a script opens with.
use Rattle.std.specs.Prelude.{◌≡◌, ℕ, ◌^◌, ◌<◌, ◌≤◌, true, false, List, [], ◌∷◌, ◌++◌, map}
use Rattle.portal_base.specs.declared.limits.Limits.{Limits}
use Rattle.portal_model.specs.RecordChanges.{records_version}
use Rattle.portal_model.specs.Opening.{each, first_item, first_named, id_of, names_kept}
use Rattle.portal_model.specs.declared.opening.FileItem.{FileItem}
use Rattle.portal_model.specs.declared.opening.OpeningDocument.{OpeningDocument}
use Rattle.portal_model.specs.declared.opening.OpeningState.{OpeningState}
use Rattle.portal_model.specs.declared.records.EntryRecord.{EntryRecord}
use Rattle.portal_model.specs.declared.records.Records.{Records}
use Rattle.portal_model.specs.Store.{Entries}
use Rattle.record_keeper.specs.KeptEntries.{KeepEntries}
use Rattle.script_lines.specs.Lines.{kept_document}
use Rattle.script_lines.specs.declared.script.ScriptLine.{ScriptLine}
use Rattle.script_lines.specs.declared.script.ScriptLine.TheVariants.{File, Doc, Entry, Now}

-- the document that a line keeps
abbrev pub document_in : ScriptLine → List OpeningDocument
document_in (Doc id reusable strict path grants) =
    record {
      kept = kept_document id reusable strict path grants;
      persistent = true;
      folder = false;
    } ∷ []
document_in line = []

-- the entry that a line keeps
abbrev pub entry_in : ScriptLine → List EntryRecord
entry_in (Entry entry) = entry ∷ []
entry_in line = []

abbrev pub documents_of : List ScriptLine → List OpeningDocument
documents_of lines = each document_in lines

abbrev pub entries_of : List ScriptLine → List EntryRecord
entries_of lines = each entry_in lines

-- the time behind a line, where it is this ahead of it
abbrev pub time_behind : ℕ → ScriptLine → ℕ
time_behind time (Now moment) = moment
time_behind time line = time

-- the file that a line adds, with the moment now in force
abbrev pub file_in : ℕ → ScriptLine → List FileItem
file_in time (File path content) = first_item path content time ∷ []
file_in time line = []

-- the files that lines add behind this time
abbrev pub files_from : ℕ → List ScriptLine → List FileItem
files_from time [] = []
files_from time (line ∷ lines) = file_in time line ++ files_from (time_behind time line) lines

-- the clock begins at 0
abbrev pub files_of : List ScriptLine → List FileItem
files_of lines = files_from 0 lines

-- the applications, in the order in which the documents' rights first name them
abbrev pub applications_of : List ScriptLine → List (List ℕ)
applications_of lines = first_named (each names_kept (documents_of lines))

-- the documents and the files of a script, and these entries; each document persists, and no other
-- was made
abbrev pub opening_with : Entries → Limits → List ScriptLine → OpeningState
opening_with entries limits lines = record {
  limits = limits;
  documents = documents_of lines;
  made = map (λ d. id_of d.kept.number) (documents_of lines);
  applications = applications_of lines;
  entries = entries;
  files = files_of lines;
  taken = [];
}

-- the state that a script opens with: its entries are those that the lines keep
pub record IsOpening (limits : Limits) (lines : List ScriptLine) (state : OpeningState)
    : Type 0 where
  pub whole : state ≡ opening_with state.entries limits lines
  pub entries : KeepEntries (entries_of lines) state.entries

-- the records that a script keeps
abbrev pub records_of : List ScriptLine → Records
records_of lines = record {
  version = records_version;
  documents = map (λ d. d.kept) (documents_of lines);
  entries = entries_of lines;
}

-- limits that hold whatever a script keeps
pub record HoldsScripts (limits : Limits) : Type 0 where
  pub documents : 65536 ≤ limits.documents
  pub made : 65536 ≤ limits.made
  pub made_limit : limits.made < 2 ^ 32
  pub queued_limit : limits.queued < 2 ^ 32
