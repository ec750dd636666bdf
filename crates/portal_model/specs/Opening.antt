-- The state that an opening state of a portal stands for.
use Rattle.std.specs.Prelude.{◌≡◌, ◌≤◌, ◌<◌, ◌^◌, ◌&&◌, length, nat_eq, nat_le, nat_lt, ℕ, ◌==◌, ◌/◌, ◌%◌, List, [], ◌∷◌, map, fold, not, Bool, true, false, Option, Some, None}
use Rattle.std.specs.List.{filter, flat_map, list_all, IsDistinct}
use Rattle.file_generations.specs.Generations.{Held, held_with}
use Rattle.portal_base.specs.Names.{is_same, is_app_name, is_host_path}
use Rattle.portal_base.specs.declared.names.doc_id.DocId.{DocId}
use Rattle.portal_model.specs.declared.opening.FileItem.{FileItem}
use Rattle.portal_model.specs.declared.opening.OpeningDocument.{OpeningDocument}
use Rattle.portal_model.specs.declared.opening.OpeningState.{OpeningState}
use Rattle.portal_model.specs.declared.records.GrantRecord.{GrantRecord}
use Rattle.portal_model.specs.declared.rights.Right.{Right}
use Rattle.portal_model.specs.declared.rights.Right.TheVariants.{Read, Write, GrantPermissions, Delete}
use Rattle.portal_model.specs.declared.state.Document.{Document}
use Rattle.portal_base.specs.declared.files.File.{File}
use Rattle.portal_model.specs.declared.state.Triple.{Triple}
use Rattle.portal_model.specs.Content.{is_folder}
use Rattle.portal_model.specs.Rights.{add_rights}
use Rattle.portal_model.specs.State.{State, bit_of}
use Rattle.rights_rule.specs.Rights.{RightSet}
use Rattle.portal_model.specs.Valid.{Valid, applications_limit, is_sound_folder, is_valid_entry, same_entry}

abbrev pub id_of : ℕ → DocId
id_of number = record { number = number }

abbrev pub document_kept : OpeningDocument → Document
document_kept d = record {
  id = id_of d.kept.number;
  path = d.kept.path;
  persistent = d.persistent;
  reusable = d.kept.reusable;
  strict = d.kept.strict;
  folder = d.folder;
}

-- whether a record of rights has this one
abbrev pub has_bit : ℕ → Right → Bool
has_bit rights right = rights / bit_of right % 2 == 1

-- the rights that a record's number stands for
abbrev pub set_of_bits : ℕ → RightSet
set_of_bits rights = record {
  read = has_bit rights Read;
  write = has_bit rights Write;
  grant_permissions = has_bit rights GrantPermissions;
  delete = has_bit rights Delete;
}

-- the rights with those that a record gives an application in a document
abbrev pub with_grant : ℕ → List Triple → GrantRecord → List Triple
with_grant number rights grant =
    add_rights grant.app (id_of number) (set_of_bits grant.rights) rights

abbrev pub with_grants : List Triple → OpeningDocument → List Triple
with_grants rights d = fold (with_grant d.kept.number) rights d.kept.grants

abbrev pub rights_kept : List OpeningDocument → List Triple
rights_kept documents = fold with_grants [] documents

-- the lists that f makes of the items, one after another
abbrev pub each : {X Y : Type 0} → (X → List Y) → List X → List Y
each f xs = flat_map f xs

abbrev pub file_of : FileItem → File
file_of f =
    record { path = f.path; generation = f.generation; bytes = f.content; moment = f.moment }

-- the files, by whether they are present
abbrev pub held_items : List FileItem → Held
held_items items = held_with (map file_of (filter (λ f. f.present) items))
    (map file_of (filter (λ f. not f.present) items))

-- the first file of a path, which stands there
abbrev pub first_item : List ℕ → List ℕ → ℕ → FileItem
first_item path content moment = record {
  path = path;
  content = content;
  moment = moment;
  generation = 0;
  present = true;
}

abbrev pub is_first_item : FileItem → Bool
is_first_item f = f.generation == 0 && f.present

abbrev pub is_told : Option Held → Bool
is_told None = false
is_told (Some held) = true

abbrev pub files_of : Option Held → List File
files_of None = []
files_of (Some held) = held.present

abbrev pub hidden_of : Option Held → List File
hidden_of None = []
hidden_of (Some held) = held.hidden

-- the state over a tree that tells these files, or tells nothing
abbrev pub opened_over : Option Held → OpeningState → State
opened_over files o = record {
  limits = o.limits;
  documents = map document_kept o.documents;
  made = o.made;
  rights = rights_kept o.documents;
  applications = o.applications;
  connections = [];
  handles = [];
  told = is_told files;
  files = files_of files;
  hidden = hidden_of files;
  taken = o.taken;
  entries = o.entries;
}

-- the state over a tree that tells the files of the opening state
abbrev pub opened : OpeningState → State
opened o = opened_over (Some (held_items o.files)) o

-- the names, each where it stands first
abbrev pub first_named : List (List ℕ) → List (List ℕ)
first_named [] = []
first_named (name ∷ names) = name ∷ filter (λ other. not (is_same name other)) (first_named names)

abbrev pub names_kept : OpeningDocument → List (List ℕ)
names_kept d = map (λ g. g.app) d.kept.grants

-- a record gives one to all of the four rights
abbrev pub is_grant : GrantRecord → Bool
is_grant g = nat_le 1 g.rights && nat_le g.rights 15

abbrev pub has_grants : OpeningDocument → Bool
has_grants d = list_all is_grant d.kept.grants

-- No document was made but those that are live, and the applications are numbered as the records
-- first name them, each by a right.
pub record ValidOpening (files : Option Held) (o : OpeningState) : Type 0 where
  pub valid : Valid (opened_over files o)
  pub grants : list_all has_grants o.documents ≡ true
  pub made : o.made ≡ map (λ d. id_of d.kept.number) o.documents
  pub applications : o.applications ≡ first_named (each names_kept o.documents)

-- a document that is a folder is kept where these files have one
abbrev pub is_folder_kept : List File → OpeningDocument → Bool
is_folder_kept files d = is_sound_folder true files (document_kept d)

-- no application has two records in a document
abbrev pub GrantsDiffer : List OpeningDocument → Type 0
GrantsDiffer [] = Unit {0}
GrantsDiffer (d ∷ ds) = IsDistinct is_same (names_kept d) × GrantsDiffer ds

-- what the records of an opening state have to keep, so that it is valid
pub record SoundOpening (o : OpeningState) : Type 0 where
  pub made : o.made ≡ map (λ d. id_of d.kept.number) o.documents
  pub applications : o.applications ≡ first_named (each names_kept o.documents)
  pub numbers_differ : IsDistinct nat_eq (map (λ d. d.kept.number) o.documents)
  pub identifiers : list_all (λ d. nat_lt d.kept.number (2 ^ 32)) o.documents ≡ true
  pub paths : list_all (λ d. is_host_path d.kept.path) o.documents ≡ true
  pub names : list_all (λ d. list_all is_app_name (names_kept d)) o.documents ≡ true
  pub grants : list_all has_grants o.documents ≡ true
  pub grants_differ : GrantsDiffer o.documents
  pub entries_differ : IsDistinct same_entry o.entries
  pub entries_sound : list_all is_valid_entry o.entries ≡ true
  pub files_differ : IsDistinct is_same (map (λ f. f.path) o.files)
  pub files_apart : list_all (λ f. not (is_folder (map file_of o.files) f.path)) o.files ≡ true
  pub files_named : list_all (λ f. is_host_path f.path) o.files ≡ true
  pub folders_sound : list_all (is_folder_kept (map file_of o.files)) o.documents ≡ true
  -- no file was made to be renamed later
  pub files_first : list_all is_first_item o.files ≡ true
  pub none_taken : o.taken ≡ []
  pub documents_within : length o.documents ≤ o.limits.documents
  pub made_within : length o.documents ≤ o.limits.made
  pub applications_within : length o.applications ≤ applications_limit
  pub made_limit : o.limits.made < 2 ^ 32
  pub queued_limit : o.limits.queued < 2 ^ 32
