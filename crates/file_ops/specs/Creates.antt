-- What a CREATE comes to, and what it leaves of the open handles and of the names.
use Rattle.std.specs.Prelude.{◌≡◌, ℕ, List, Bool, true, false, Some}
use Rattle.host_tree.specs.Trees.{TreeIs}
use Rattle.host_tree.specs.declared.tree.LookAnswer.{LookAnswer}
use Rattle.host_tree.specs.declared.tree.LookAnswer.TheVariants as look
use Rattle.open_handles.specs.Opened.{HandleTable}
use Rattle.folder_documents.specs.Named.{Named}
use Rattle.portal_base.specs.declared.files.Look.{Look}
use Rattle.portal_model.specs.declared.naming.Naming.{Naming}
use Rattle.portal_model.specs.declared.request.NodeRequest.{NodeRequest}
use Rattle.portal_model.specs.Bus.{is_tree, moment_given}
use Rattle.portal_model.specs.Create.{Made, add_temp, create_other, next_file, next_temp_node, own_made, temp_made}
use Rattle.portal_model.specs.Errno.{eio, enotdir}
use Rattle.portal_model.specs.NodeVerdict.{NodeVerdict, HandleChange, HandlesStay, NameChange, NamesStay, Room, at_file, at_name, errs, errs_on_file}
use Rattle.portal_model.specs.Place.{FolderOf, Sight, SightOfFolder}
use Rattle.portal_model.specs.SeatNames.{SeatTemps}
use Rattle.portal_model.specs.Walk.{Walk, walked_with}
use Rattle.node_looks.specs.Done.{name_change}
use Rattle.node_looks.specs.OpenHandles.{Handled}
use Rattle.file_ops.specs.SeatNames.{SeatNamed, namings_on}
use Rattle.file_ops.specs.SeatTemps.{HeldTemps, SeatSavedBy, seat_temps, temps_on}
use Rattle.file_ops.specs.Tries.{Goes, done_of_ended, refuses}
use Rattle.file_ops.specs.declared.created.DocumentFolder.{DocumentFolder}
use Rattle.file_ops.specs.declared.created.Target.{Target}
use Rattle.node_looks.specs.declared.sight.SeenPlace.{SeenPlace}
use Rattle.app_view.specs.declared.sight.SeenDocument.{SeenDocument}
use Rattle.save_files.specs.Tables.{TempTable}
use Rattle.node_looks.specs.declared.served.NodeDone.{NodeDone}
use Rattle.file_ops.specs.declared.tried.Ended.{Ended}

-- ---- by the target

-- where no file can be made
abbrev pub target_walk : Target → Walk NodeVerdict
target_walk (Target.Refused errno) = errs errno
target_walk (Target.File path) = at_file path.now (errs_on_file enotdir)
target_walk (Target.Named name) = at_name name.now (errs_on_file enotdir)

-- no file can be made there, whatever its name
abbrev pub is_nowhere : SeenPlace → Bool
is_nowhere (SeenPlace.File view seen) = true
is_nowhere (SeenPlace.Below view below) = false
is_nowhere (SeenPlace.Temporary view temp) = true
is_nowhere (SeenPlace.Folder view seen) = false
is_nowhere (SeenPlace.Root view subject) = true
is_nowhere SeenPlace.Views = true

-- ---- in the folder of a document

-- what is seen, by a copy
abbrev pub folder_seen : ℕ → SeenDocument → DocumentFolder
folder_seen view seen =
    record { view = view; document = seen.document.now; may_write = seen.may_write }

abbrev pub folder_sight : DocumentFolder → Sight
folder_sight f = SightOfFolder (FolderOf f.view f.document f.may_write)

-- the document's own file
abbrev pub own_file : DocumentFolder → Made
own_file f = own_made f.view f.document

-- a CREATE of another name that its document doesn't refuse
abbrev pub other_made :
    NodeRequest → List ℕ → ℕ → Room → DocumentFolder → SeatTemps → Walk NodeVerdict
other_made r name flags room f temps =
    create_other r name flags room temps f.view f.document f.may_write

-- a temporary for which there is room
abbrev pub temp_added :
    NodeRequest → List ℕ → ℕ → Room → DocumentFolder → SeatTemps → Walk NodeVerdict
temp_added r name flags room f temps =
    add_temp r flags room (next_temp_node temps f.view) f.document
    (temp_made f.view f.document name (next_file temps f.document))

-- ---- by a walk

-- the walk is followed, and the open handles of the seat change as it says
pub record Opening (walk : Walk NodeVerdict) (seat : ℕ) (table : HandleTable) (old : TreeIs)
    (done : NodeDone) (after : HandleTable) (new : TreeIs) : Type 0 where
  pub change : HandleChange
  pub goes : Goes walk old done change new
  pub handled : Handled seat change table after

-- behind a look that was answered so
abbrev pub OpeningBehind : (Look → Walk NodeVerdict) → LookAnswer → ℕ → HandleTable → TreeIs →
    Ended → HandleTable → TreeIs → Type 0
OpeningBehind next (look.Is shown) seat table old ended after new =
    Opening (next shown) seat table old (done_of_ended ended) after new
OpeningBehind next look.Failed seat table old ended after new =
    (ended ≡ refuses eio) × Handled seat HandlesStay table after × (new ≡ old)

-- and what the seat's connection has named changes as the walk says
pub record Numbering (walk : Walk NodeVerdict) (seat : ℕ) (table : HandleTable)
    (before : List (ℕ × Named)) (old : TreeIs) (done : NodeDone) (after : HandleTable)
    (named : List (ℕ × Named)) (new : TreeIs) : Type 0 where
  pub opening : Opening walk seat table old done after new
  pub change : NameChange
  pub naming : name_change (walked_with walk (moment_given done.now) done.listed done.looks
      (is_tree done.fault)) ≡ change
  pub names : SeatNamed seat change before named

-- by what the seat's connection has named
abbrev pub NumberingWith : (List Naming → Walk NodeVerdict) → ℕ → HandleTable → List (ℕ × Named)
    → TreeIs → NodeDone → HandleTable → List (ℕ × Named) → TreeIs → Type 0
NumberingWith walk seat table names old done after named new = (namings : List Naming) →
    namings_on names seat ≡ Some namings →
    Numbering (walk namings) seat table names old done after named new

-- behind a look that was answered so
abbrev pub NumberingBehind : (Look → Walk NodeVerdict) → LookAnswer → ℕ → HandleTable
    → List (ℕ × Named) → TreeIs → Ended → HandleTable → List (ℕ × Named) → TreeIs → Type 0
NumberingBehind next (look.Is shown) seat table names old ended after named new =
    Numbering (next shown) seat table names old (done_of_ended ended) after named new
NumberingBehind next look.Failed seat table names old ended after named new =
    (ended ≡ refuses eio) × Handled seat HandlesStay table after
    × SeatNamed seat NamesStay names named × (new ≡ old)

-- ---- by the temporaries

-- the walk is followed, and the open handles and the temporaries of the seat change as it says
pub record Saving (walk : Walk NodeVerdict) (seat : ℕ) (table : HandleTable) (before : TempTable)
    (old : TreeIs) (done : NodeDone) (after : HandleTable) (temps : TempTable) (new : TreeIs)
    : Type 0 where
  pub opening : Opening walk seat table old done after new
  pub saved : SeatSavedBy seat opening.goes.verdict before temps

-- by those that the seat's connection has
abbrev pub SavingWith : (SeatTemps → Walk NodeVerdict) → ℕ → HandleTable → TempTable → TreeIs
    → NodeDone → HandleTable → TempTable → TreeIs → Type 0
SavingWith walk seat table before old done after temps new = (has : HeldTemps) →
    temps_on before.seats seat ≡ Some has →
    Saving (walk (seat_temps before has)) seat table before old done after temps new
