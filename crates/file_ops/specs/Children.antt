-- What is asked of a name in a folder that is a document, or lies below one.
use Rattle.std.specs.Prelude.{◌≡◌, ℕ, List, Bool, Option, Some, None}
use Rattle.host_tree.specs.Trees.{TreeIs}
use Rattle.host_tree.specs.declared.tree.LookAnswer.{LookAnswer}
use Rattle.host_tree.specs.declared.tree.LookAnswer.TheVariants as look
use Rattle.folder_documents.specs.Named.{Named}
use Rattle.open_handles.specs.Opened.{HandleTable}
use Rattle.portal_base.specs.declared.files.Look.{Look}
use Rattle.portal_model.specs.declared.naming.Naming.{Naming}
use Rattle.portal_model.specs.declared.reply.Answer.{Answer}
use Rattle.portal_model.specs.declared.reply.Attr.{Attr}
use Rattle.portal_model.specs.declared.reply.Code.TheVariants as Code
use Rattle.portal_model.specs.declared.request.NodeRequest.{NodeRequest}
use Rattle.portal_model.specs.Attributes.{attr_of_file, attr_of_folder}
use Rattle.portal_model.specs.Create.{child_made, create_child, create_named, create_there}
use Rattle.portal_model.specs.Errno.{eio, enoent, enotdir}
use Rattle.portal_model.specs.Lookup.{found_child, lookup_child, naming_in}
use Rattle.portal_model.specs.NodeVerdict.{NodeVerdict, Room}
use Rattle.portal_model.specs.Place.{Sight, SightBelow}
use Rattle.portal_model.specs.Walk.{Walk}
use Rattle.app_view.specs.declared.sight.SeenBelow.{SeenBelow}
use Rattle.file_ops.specs.Creates.{NumberingWith}
use Rattle.file_ops.specs.Tries.{done_of_tried}
use Rattle.file_ops.specs.declared.children.Parent.{Parent}
use Rattle.file_ops.specs.declared.tried.TriedBelow.{TriedBelow}

-- what is seen, by copies
abbrev pub parent_seen : ℕ → SeenBelow → Parent
parent_seen view below = record {
  view = view;
  document = below.seen.document.now;
  path = below.path.now;
  may_write = below.seen.may_write;
}

abbrev pub parent_sight : Parent → Sight
parent_sight p = SightBelow p.view p.document p.path p.may_write

-- a child is named in the parent's view
abbrev pub naming_below : Parent → List ℕ → Naming
naming_below p path = naming_in p.view p.document path

-- a LOOKUP of a child, and what comes behind the look for it
abbrev pub found_below :
    NodeRequest → Parent → Option (List ℕ) → List Naming → Walk NodeVerdict
found_below r p path namings = lookup_child r namings p.view p.document p.may_write path

abbrev pub shown_below :
    NodeRequest → Parent → List ℕ → Look → List Naming → Walk NodeVerdict
shown_below r p path look namings = found_child r namings (naming_below p path) p.may_write look

-- a CREATE of a child, of one that may be named so, and what comes behind the look for it
abbrev pub made_below :
    NodeRequest → ℕ → Room → Parent → Option (List ℕ) → List Naming → Walk NodeVerdict
made_below r flags room p path namings =
    create_child r flags room namings p.view p.document p.may_write path

abbrev pub named_below :
    NodeRequest → ℕ → Room → Parent → Naming → List Naming → Walk NodeVerdict
named_below r flags room p naming namings =
    create_named r flags room namings p.document p.may_write naming

abbrev pub there_below :
    NodeRequest → ℕ → Room → Parent → Naming → Look → List Naming → Walk NodeVerdict
there_below r flags room p naming look namings =
    create_there r flags room (child_made namings p.document naming) look

-- what a look shows is there
abbrev pub IsThere : Look → Type 0
IsThere (Look.File generation size moment) = Unit {0}
IsThere Look.Folder = Unit {0}
IsThere Look.Missing = ⊥

-- its attributes
abbrev pub attr_shown : NodeRequest → Bool → Look → Attr
attr_shown r may_write (Look.File generation size moment) = attr_of_file r may_write size moment
attr_shown r may_write Look.Folder = attr_of_folder r may_write
attr_shown r may_write Look.Missing = attr_of_folder r may_write

-- ---- where no folder is

-- the answer at a look that shows none
abbrev pub refusal_at : LookAnswer → Answer
refusal_at (look.Is (Look.File generation size moment)) = Answer.Refused (Code.Errno enotdir)
refusal_at (look.Is Look.Folder) = Answer.Refused (Code.Errno enoent)
refusal_at (look.Is Look.Missing) = Answer.Refused (Code.Errno enoent)
refusal_at look.Failed = Answer.Refused (Code.Errno eio)

abbrev pub refused_there : LookAnswer → TriedBelow
refused_there shown = record {
  first = None;
  then = record { look = Some shown; ended = record { answer = refusal_at shown; call = None } };
}

-- ---- behind the look for the folder

-- no folder is there, and nothing more is asked or done
abbrev pub IsRefused : LookAnswer → HandleTable → List (ℕ × Named) → TreeIs → TriedBelow
    → HandleTable → List (ℕ × Named) → TreeIs → Type 0
IsRefused shown table names old below after named new =
    (below ≡ refused_there shown) × (after ≡ table) × (named ≡ names) × (new ≡ old)

-- where it shows one, that is first, and then what is asked of the names in it is done
abbrev pub NumberingBelow : (List Naming → Walk NodeVerdict) → LookAnswer → ℕ → HandleTable
    → List (ℕ × Named) → TreeIs → TriedBelow → HandleTable → List (ℕ × Named) → TreeIs → Type 0
NumberingBelow walk (look.Is Look.Folder) seat table names old below after named new =
    (below.first ≡ Some Look.Folder)
    × NumberingWith walk seat table names old (done_of_tried below.then) after named new
NumberingBelow walk (look.Is (Look.File g s m)) seat table names old below after named new =
    IsRefused (look.Is (Look.File g s m)) table names old below after named new
NumberingBelow walk (look.Is Look.Missing) seat table names old below after named new =
    IsRefused (look.Is Look.Missing) table names old below after named new
NumberingBelow walk look.Failed seat table names old below after named new =
    IsRefused look.Failed table names old below after named new
