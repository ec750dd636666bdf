-- FUSE_UNLINK (include/uapi/linux/fuse.h, unlink(2)): a temporary is gone from the folder of its
-- document. What is open of its file stays.
use Rattle.std.specs.Prelude.{ℕ, List, not, Option, Some, None}
use Rattle.portal_model.specs.declared.reply.NodeAnswer.TheVariants as NodeAnswer
use Rattle.portal_model.specs.declared.temporary.OwnTemp.{OwnTemp}
use Rattle.portal_model.specs.Errno.{eacces, enametoolong, enoent, enotdir, eperm}
use Rattle.portal_model.specs.NodeVerdict.{NodeVerdict, by_place, changes_temps, errs, errs_if, is_too_long, no_file}
use Rattle.portal_model.specs.Place.{Folder, Sight}
use Rattle.portal_model.specs.Rename.{Home, home_of, is_own_name, temp_at}
use Rattle.portal_model.specs.SeatNames.{Drops}
use Rattle.portal_model.specs.Walk.{Walk, Answers}

abbrev pub unlink_temp : Home → Option OwnTemp → Walk NodeVerdict
unlink_temp h None = errs enoent
unlink_temp h (Some t) =
    errs_if (not h.may_write) eacces (Answers (changes_temps (Drops t.k) NodeAnswer.Empty))

abbrev pub unlink_at : List ℕ → List OwnTemp → Option Home → Walk NodeVerdict
unlink_at name temps None = errs eperm
unlink_at name temps (Some h) =
    errs_if (is_own_name h name) eperm (unlink_temp h (temp_at temps h name))

abbrev pub unlink_in : List ℕ → List OwnTemp → Folder → Walk NodeVerdict
unlink_in name temps folder = unlink_at name temps (home_of folder)

abbrev pub unlink : List ℕ → List OwnTemp → Option Sight → Walk NodeVerdict
unlink name temps sight =
    errs_if (is_too_long name) enametoolong
    (by_place sight (no_file enotdir) (unlink_in name temps))
