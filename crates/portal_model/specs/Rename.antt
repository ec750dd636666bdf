-- FUSE_RENAME and FUSE_RENAME2 (include/uapi/linux/fuse.h, renameat2(2)): a temporary gets another
-- name in the folder of its document, or its file becomes the present one of the document's path.
use Rattle.std.specs.Prelude.{ℕ, ◌==◌, ◌&&◌, ◌||◌, List, Bool, not, Option, Some, None, cond}
use Rattle.portal_base.specs.Names.{is_same, name_of}
use Rattle.portal_model.specs.declared.reply.NodeAnswer.TheVariants as NodeAnswer
use Rattle.portal_model.specs.declared.state.Document.{Document}
use Rattle.portal_model.specs.declared.temporary.OwnTemp.{OwnTemp}
use Rattle.portal_model.specs.Errno.{eacces, einval, enametoolong, enoent, enotdir, eperm, exdev}
use Rattle.portal_model.specs.NodeVerdict.{NodeVerdict, Errs, HandlesStay, Stands, Temps, Yields, by_place, changes_temps, errs, errs_if, is_too_long, is_dots}
use Rattle.portal_model.specs.Place.{Folder, RootOf, Views, FolderOf, Exported, Sight}
use Rattle.portal_model.specs.SeatNames.{Drops, Renames, found_temp}
use Rattle.portal_model.specs.Walk.{Walk, Answers, Ends, Turns}

-- what is asked of the folder of the old name
pub record RenameCall : Type 0 where
  pub flags : ℕ
  pub old_name : List ℕ
  pub new_name : List ℕ

abbrev pub rename_call : ℕ → List ℕ → List ℕ → RenameCall
rename_call flags old_name new_name =
    record { flags = flags; old_name = old_name; new_name = new_name }

-- ---- the folders

-- what is seen at a node
pub data Seen : Type 0 where
  AFile : Seen
  AFolder : Folder → Seen

-- a node that is no place is answered at once, and nothing behind it is asked
abbrev pub with_seen : Option Sight → (Seen → Walk NodeVerdict) → Walk NodeVerdict
with_seen sight next =
    by_place sight (λ at generation size moment. next AFile) (λ folder. next (AFolder folder))

-- the folder of a document that is none itself: the view, the document, and whether the subject
-- may write its file
pub record Home : Type 0 where
  pub view : ℕ
  pub document : Document
  pub may_write : Bool

abbrev pub home : ℕ → Document → Bool → Home
home view d may_write = record { view = view; document = d; may_write = may_write }

abbrev pub home_of : Folder → Option Home
home_of (RootOf view numbers has_views) = None
home_of (Views applications) = None
home_of (FolderOf view d may_write) = cond d.folder None (Some (home view d may_write))
home_of (Exported view d path may_write) = None

abbrev pub same_home : Home → Home → Bool
same_home a b = a.view == b.view && a.document.id.number == b.document.id.number

-- the temporary of a name there
abbrev pub temp_at : List OwnTemp → Home → List ℕ → Option OwnTemp
temp_at temps h name = found_temp temps h.view h.document.id name

abbrev pub is_own_name : Home → List ℕ → Bool
is_own_name h name = is_same name (name_of h.document.path)

-- ---- the temporary

-- its file is the present one of its path, and it is no temporary any more
abbrev pub saved : OwnTemp → NodeVerdict
saved t = Yields (record {
  answer = NodeAnswer.Empty;
  file = Stands t.temp.file;
  handle = HandlesStay;
  names = Temps (Drops t.k);
})

abbrev pub rename_to : Home → List ℕ → OwnTemp → Walk NodeVerdict
rename_to h name t =
    cond (is_own_name h name)
    (Ends (Turns t.temp.file) (λ now. saved t) (Errs enoent))
    (Answers (changes_temps (Renames t.k t.temp name) NodeAnswer.Empty))

abbrev pub rename_temp : Home → List ℕ → Option OwnTemp → Walk NodeVerdict
rename_temp h name None = errs enoent
rename_temp h name (Some t) =
    errs_if (not h.may_write) eacces (errs_if (is_dots name) eacces (rename_to h name t))

abbrev pub rename_at : RenameCall → List OwnTemp → Home → Walk NodeVerdict
rename_at call temps h =
    errs_if (is_own_name h call.old_name) eperm
    (rename_temp h call.new_name (temp_at temps h call.old_name))

-- ---- the request

abbrev pub rename_homes :
    RenameCall → List OwnTemp → Option Home → Option Home → Walk NodeVerdict
rename_homes call temps None second = errs eperm
rename_homes call temps (Some first) None = errs eperm
rename_homes call temps (Some first) (Some second) =
    errs_if (not (same_home first second)) exdev (rename_at call temps first)

abbrev pub rename_in : RenameCall → List OwnTemp → Seen → Seen → Walk NodeVerdict
rename_in call temps AFile second = errs enotdir
rename_in call temps (AFolder first) AFile = errs enotdir
rename_in call temps (AFolder first) (AFolder second) =
    rename_homes call temps (home_of first) (home_of second)

abbrev pub are_too_long : RenameCall → Bool
are_too_long call = is_too_long call.old_name || is_too_long call.new_name

-- the folder of the old name is looked at first
abbrev pub rename :
    RenameCall → List OwnTemp → Option Sight → Option Sight → Walk NodeVerdict
rename call temps sight new_sight =
    errs_if (not (call.flags == 0)) einval
    (errs_if (are_too_long call) enametoolong
    (with_seen sight (λ first. with_seen new_sight (rename_in call temps first))))
