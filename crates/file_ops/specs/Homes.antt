-- What is seen at the nodes of folders in which temporaries are renamed and removed.
use Rattle.std.specs.Prelude.{◌≡◌, ℕ, Bool, true, false, Option, Some, None}
use Rattle.host_tree.specs.Trees.{TreeIs}
use Rattle.host_tree.specs.declared.tree.LookAnswer.{LookAnswer}
use Rattle.host_tree.specs.declared.tree.LookAnswer.TheVariants as look
use Rattle.portal_base.specs.declared.files.Look.{Look}
use Rattle.portal_model.specs.Errno.{eio, enoent}
use Rattle.portal_model.specs.NodeVerdict.{HandleChange, HandlesStay, NodeVerdict}
use Rattle.portal_model.specs.Place.{Folder, Sight}
use Rattle.portal_model.specs.Rename.{AFile, AFolder, Home, Seen, home, home_of, with_seen}
use Rattle.portal_model.specs.Walk.{Walk}
use Rattle.node_looks.specs.declared.served.NodeDone.{NodeDone}
use Rattle.file_ops.specs.Tries.{Goes, done_behind_first, done_of_tried, refuses}
use Rattle.file_ops.specs.declared.homes.HomeSeen.{HomeSeen}
use Rattle.file_ops.specs.declared.homes.What.{What}

abbrev pub home_told : HomeSeen → Home
home_told h = home h.view h.document.now h.may_write

-- temporaries may be there
abbrev pub is_home : What → Bool
is_home (What.Nothing errno) = false
is_home What.File = false
is_home (What.Folder None) = false
is_home (What.Folder (Some told)) = true

-- ---- by the look

abbrev pub file_shown : LookAnswer → What
file_shown (look.Is (Look.File generation size moment)) = What.File
file_shown (look.Is Look.Folder) = What.Nothing enoent
file_shown (look.Is Look.Missing) = What.Nothing enoent
file_shown look.Failed = What.Nothing eio

abbrev pub any_shown : LookAnswer → What
any_shown (look.Is (Look.File generation size moment)) = What.File
any_shown (look.Is Look.Folder) = What.Folder None
any_shown (look.Is Look.Missing) = What.Nothing enoent
any_shown look.Failed = What.Nothing eio

abbrev pub shown_of : Option LookAnswer → Option Look
shown_of None = None
shown_of (Some (look.Is shown)) = Some shown
shown_of (Some look.Failed) = None

-- ---- by the walk

-- a look that was taken didn't fail
abbrev pub Unfailed : Option LookAnswer → Type 0
Unfailed None = Unit {0}
Unfailed (Some (look.Is shown)) = Unit {0}
Unfailed (Some look.Failed) = ⊥

-- whatever comes behind what is seen there comes behind the look for it
pub record Leads (sight : Option Sight) (old : TreeIs) (shown : Option LookAnswer) (seen : Seen)
    (new : TreeIs) : Type 0 where
  pub unfailed : Unfailed shown
  pub goes : (next : Seen → Walk NodeVerdict) (done : NodeDone) (change : HandleChange)
      (last : TreeIs) → Goes (next seen) new done change last →
      Goes (with_seen sight next) old (done_behind_first (shown_of shown) done) change last

-- nothing is there, whatever was to come behind it
abbrev pub IsRefusedAt : Option Sight → TreeIs → Option LookAnswer → ℕ → TreeIs → Type 0
IsRefusedAt sight old shown errno new = (next : Seen → Walk NodeVerdict) →
    Goes (with_seen sight next) old (done_of_tried (record { look = shown; ended = refuses errno }))
    HandlesStay new

-- a folder is there without a look
pub record IsAtOnce (sight : Option Sight) (old : TreeIs) (shown : Option LookAnswer)
    (folder : Folder) (new : TreeIs) : Type 0 where
  pub look : shown ≡ None
  pub tree : new ≡ old
  pub walk : (next : Seen → Walk NodeVerdict) → with_seen sight next ≡ next (AFolder folder)

abbrev pub IsSeenAs : Option Sight → TreeIs → Option LookAnswer → What → TreeIs → Type 0
IsSeenAs sight old shown (What.Nothing errno) new = IsRefusedAt sight old shown errno new
IsSeenAs sight old shown What.File new = Leads sight old shown AFile new
IsSeenAs sight old shown (What.Folder None) new =
    (folder : Folder) × (home_of folder ≡ None) × Leads sight old shown (AFolder folder) new
IsSeenAs sight old shown (What.Folder (Some told)) new =
    (folder : Folder) × (home_of folder ≡ Some (home_told told))
    × IsAtOnce sight old shown folder new
