-- What a RENAME and an UNLINK come to, by what is seen at the folders.
use Rattle.std.specs.Prelude.{◌≡◌, ℕ, List, Bool, true, false, Option, Some, None}
use Rattle.host_tree.specs.Trees.{Changes, TreeIs, may_turn, turned}
use Rattle.host_tree.specs.declared.tree.TreeCall.TheVariants as TreeCall
use Rattle.portal_base.specs.declared.files.FileName.{FileName}
use Rattle.portal_model.specs.declared.reply.NodeAnswer.TheVariants as NodeAnswer
use Rattle.portal_model.specs.declared.temporary.OwnTemp.{OwnTemp}
use Rattle.portal_model.specs.declared.temporary.Temp.{Temp}
use Rattle.portal_model.specs.Errno.{eacces, enoent, enotdir, eperm, exdev}
use Rattle.portal_model.specs.NodeVerdict.{Errs, HandlesStay, NodeVerdict, changes_temps, errs}
use Rattle.portal_model.specs.Place.{Folder, Sight}
use Rattle.portal_model.specs.Rename.{AFile, AFolder, RenameCall, Seen, rename_call, rename_in, same_home, saved, with_seen}
use Rattle.portal_model.specs.SeatNames.{Drops, Renames, own_temp}
use Rattle.portal_model.specs.Unlink.{unlink_in}
use Rattle.portal_model.specs.Walk.{Answers, Ends, Turns, Walk}
use Rattle.save_files.specs.Own.{Own, temp_of}
use Rattle.file_ops.specs.Homes.{home_told}
use Rattle.file_ops.specs.Tries.{Goes, done_of_below, done_of_tried, refuses, tree_done}
use Rattle.file_ops.specs.declared.homes.HomeSeen.{HomeSeen}
use Rattle.file_ops.specs.declared.homes.What.{What}
use Rattle.file_ops.specs.declared.renamed.Common.{Common}
use Rattle.file_ops.specs.declared.renamed.Moving.{Moving}
use Rattle.file_ops.specs.declared.renamed.RenameCall.{RenameCall as CallLent}
use Rattle.file_ops.specs.declared.tried.Came.{Came}
use Rattle.file_ops.specs.declared.tried.Tried.{Tried}
use Rattle.file_ops.specs.declared.unlinked.Removing.{Removing}

abbrev pub call_told : CallLent → RenameCall
call_told c = rename_call c.flags c.old_name.now c.new_name.now

-- ---- the last steps

-- the file of a temporary becomes the present one
abbrev pub save_walk : ℕ → Temp → Walk NodeVerdict
save_walk k temp = Ends (Turns temp.file) (λ now. saved (own_temp k temp)) (Errs enoent)

-- it has another name
abbrev pub name_walk : ℕ → Temp → List ℕ → Walk NodeVerdict
name_walk k temp name = Answers (changes_temps (Renames k temp name) NodeAnswer.Empty)

-- it is gone
abbrev pub drop_walk : ℕ → Walk NodeVerdict
drop_walk k = Answers (changes_temps (Drops k) NodeAnswer.Empty)

-- the call by which the file becomes the present one came to this
abbrev pub Turned : FileName → TreeIs → Came → TreeIs → Type 0
Turned name old came new =
    Changes TreeCall.Turn (λ held. may_turn held name) (turned name) old (tree_done came) new

-- ---- where it is refused

-- the walk is followed to a refusal
pub record IsRefusal (walk : Walk NodeVerdict) (old : TreeIs) (tried : Tried) (new : TreeIs)
    : Type 0 where
  pub errno : ℕ
  pub ended : tried.ended ≡ refuses errno
  pub goes : Goes walk old (done_of_tried tried) HandlesStay new

-- ---- RENAME

-- the two folders, behind the checks of the names
abbrev pub rename_seen : RenameCall → List OwnTemp → Option Sight → Option Sight → Walk NodeVerdict
rename_seen call temps sight new_sight =
    with_seen sight (λ first. with_seen new_sight (rename_in call temps first))

-- The walk is followed to a refusal; or the tree wasn't asked, and what is to be done with the
-- temporary of a number is all that is left of the walk.
abbrev pub IsMoved : Walk NodeVerdict → List ℕ → Option Own → TreeIs → Moving → TreeIs → Type 0
IsMoved walk name own old (Moving.Refused tried) new =
    (errno : ℕ) × (tried.then.ended ≡ refuses errno)
    × Goes walk old (done_of_below tried) HandlesStay new
IsMoved walk name own old (Moving.Saved k) new = (temp : Temp) × (temp_of own k ≡ Some temp)
    × (walk ≡ save_walk k temp) × (new ≡ old)
IsMoved walk name own old (Moving.Named named) new = (temp : Temp)
    × (temp_of own named.k ≡ Some temp) × (walk ≡ name_walk named.k temp name)
    × (temp.view ≡ named.view) × (temp.document ≡ named.document) × (new ≡ old)

-- no call was reached where it is refused
abbrev pub IsUncalled : Moving → Type 0
IsUncalled (Moving.Refused tried) = tried.then.ended.call ≡ None
IsUncalled (Moving.Saved k) = Unit {0}
IsUncalled (Moving.Named named) = Unit {0}

-- the number of the temporary that is left of it
abbrev pub number_left : Moving → Option ℕ
number_left (Moving.Refused tried) = None
number_left (Moving.Saved k) = Some k
number_left (Moving.Named named) = Some named.k

-- something is seen
abbrev pub IsSomething : What → Type 0
IsSomething (What.Nothing errno) = ⊥
IsSomething What.File = Unit {0}
IsSomething (What.Folder told) = Unit {0}

-- the one home of two, or the refusal
abbrev pub IsCommonHome : Option HomeSeen → Option HomeSeen → Common → Type 0
IsCommonHome None second (Common.Refused errno) = errno ≡ eperm
IsCommonHome (Some first) None (Common.Refused errno) = errno ≡ eperm
IsCommonHome (Some first) (Some second) (Common.Refused errno) =
    (same_home (home_told first) (home_told second) ≡ false) × (errno ≡ exdev)
IsCommonHome None second (Common.Home home) = ⊥
IsCommonHome (Some first) None (Common.Home home) = ⊥
IsCommonHome (Some first) (Some second) (Common.Home home) =
    (same_home (home_told first) (home_told second) ≡ true) × (home ≡ first)

abbrev pub IsCommon : What → What → Common → Type 0
IsCommon first (What.Nothing errno) common = common ≡ Common.Refused errno
IsCommon (What.Nothing errno) What.File common = common ≡ Common.Refused enotdir
IsCommon What.File What.File common = common ≡ Common.Refused enotdir
IsCommon (What.Folder first) What.File common = common ≡ Common.Refused enotdir
IsCommon (What.Nothing errno) (What.Folder second) common = common ≡ Common.Refused errno
IsCommon What.File (What.Folder second) common = common ≡ Common.Refused enotdir
IsCommon (What.Folder first) (What.Folder second) common = IsCommonHome first second common

-- ---- UNLINK

-- the folder, behind the check of the name
abbrev pub unlink_seen : List ℕ → List OwnTemp → Seen → Walk NodeVerdict
unlink_seen name temps AFile = errs enotdir
unlink_seen name temps (AFolder folder) = unlink_in name temps folder

-- a temporary is removed where the file may be written
abbrev pub removing_by : Bool → ℕ → Removing
removing_by true k = Removing.Temp k
removing_by false k = Removing.Refused (record { look = None; ended = refuses eacces })

abbrev pub IsUncalledThere : Removing → Type 0
IsUncalledThere (Removing.Refused tried) = tried.ended.call ≡ None
IsUncalledThere (Removing.Temp k) = Unit {0}

abbrev pub IsRemoved : Walk NodeVerdict → TreeIs → Removing → TreeIs → Type 0
IsRemoved walk old (Removing.Refused tried) new = IsRefusal walk old tried new
IsRemoved walk old (Removing.Temp k) new = (walk ≡ drop_walk k) × (new ≡ old)
