-- FUSE_ACCESS (include/uapi/linux/fuse.h), with the mask of access(2).
use Rattle.std.specs.Prelude.{ℕ, ◌/◌, ◌%◌, ◌==◌, ◌&&◌, ◌||◌, nat_lt, Bool, not, Option}
use Rattle.portal_model.specs.declared.reply.NodeAnswer.TheVariants as NodeAnswer
use Rattle.portal_model.specs.Attributes.{is_writable}
use Rattle.portal_model.specs.Errno.{eacces, einval}
use Rattle.portal_model.specs.NodeVerdict.{NodeVerdict, OnFile, Spot, by_place, errs_if, told}
use Rattle.portal_model.specs.Place.{Folder, Sight}
use Rattle.portal_model.specs.Walk.{Walk}

-- X_OK and W_OK; R_OK, the bit 4, is granted at each place
abbrev pub executes : ℕ → Bool
executes mask = mask % 2 == 1

abbrev pub writes_to : ℕ → Bool
writes_to mask = mask / 2 % 2 == 1

abbrev pub access_file : ℕ → Spot → OnFile
access_file mask at generation size moment =
    errs_if (executes mask || writes_to mask && not at.may_write) eacces (told NodeAnswer.Empty)

abbrev pub access_folder : ℕ → Folder → Walk NodeVerdict
access_folder mask folder =
    errs_if (writes_to mask && not (is_writable folder)) eacces (told NodeAnswer.Empty)

abbrev pub access : ℕ → Option Sight → Walk NodeVerdict
access mask sight =
    errs_if (nat_lt 7 mask) einval (by_place sight (access_file mask) (access_folder mask))
