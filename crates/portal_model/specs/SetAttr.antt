-- FUSE_SETATTR (include/uapi/linux/fuse.h): of the attributes a file's length alone may be set.
use Rattle.std.specs.Prelude.{ℕ, ◌/◌, ◌%◌, ◌==◌, nat_lt, Bool, not, ◌&&◌, Option, cond}
use Rattle.portal_base.specs.declared.files.FileName.{FileName}
use Rattle.portal_model.specs.declared.handle.Handle.{Handle}
use Rattle.portal_model.specs.declared.reply.NodeAnswer.TheVariants as NodeAnswer
use Rattle.portal_model.specs.declared.request.NodeRequest.{NodeRequest}
use Rattle.portal_model.specs.Attributes.{attr_of_file, attr_of_folder, is_writable, on_node}
use Rattle.portal_model.specs.Errno.{eacces, ebadf, efbig, eisdir, enoent, eperm}
use Rattle.portal_model.specs.NodeVerdict.{NodeVerdict, OnFile, OnHandle, Errs, Resizes, Spot, at_name, by_file_handle, by_place, changes, errs_if, name_at, told}
use Rattle.portal_model.specs.Place.{Folder, Sight}
use Rattle.portal_model.specs.Reach.{OpenFile, Reaching, may_write_now, reaches}
use Rattle.portal_model.specs.Walk.{Walk, Ends, Changes}

-- FATTR_MODE, FATTR_UID, FATTR_GID
abbrev pub sets_owner_or_mode : ℕ → Bool
sets_owner_or_mode valid = not (valid % 8 == 0)

-- FATTR_SIZE
abbrev pub sets_size : ℕ → Bool
sets_size valid = valid / 8 % 2 == 1

-- FATTR_FH
abbrev pub sets_by_handle : ℕ → Bool
sets_by_handle valid = valid / 64 % 2 == 1

-- what is asked: which attributes, the length, and how long a file may be
pub record SetsAttr : Type 0 where
  pub valid : ℕ
  pub size : ℕ
  pub limit : ℕ

-- the length that is asked for, at the moment of now
abbrev pub resize : NodeRequest → SetsAttr → FileName → Bool → Walk NodeVerdict
resize r a name may_write =
    Ends (Changes name)
    (λ now. changes (Resizes name a.size now)
    (NodeAnswer.Attr (attr_of_file r may_write a.size now)))
    (Errs enoent)

-- a file of this name that was looked at
abbrev pub set_attr_of : NodeRequest → SetsAttr → FileName → Bool → ℕ → ℕ → Walk NodeVerdict
set_attr_of r a name may_write size moment =
    cond (sets_size a.valid)
    (errs_if (not may_write) eacces
    (errs_if (nat_lt a.limit a.size) efbig (resize r a name may_write)))
    (told (NodeAnswer.Attr (attr_of_file r may_write size moment)))

abbrev pub set_attr_at : NodeRequest → SetsAttr → Spot → OnFile
set_attr_at r a at generation size moment =
    set_attr_of r a (name_at at generation) at.may_write size moment

abbrev pub set_attr_of_folder : NodeRequest → SetsAttr → Folder → Walk NodeVerdict
set_attr_of_folder r a folder =
    errs_if (sets_size a.valid) eisdir
    (told (NodeAnswer.Attr (attr_of_folder r (is_writable folder))))

abbrev pub set_attr_of_open : Reaching → NodeRequest → SetsAttr → OpenFile → OnFile
set_attr_of_open reach r a file generation size moment =
    errs_if (sets_size a.valid && not file.write) ebadf
    (set_attr_of (on_node r file.node) a file.name (may_write_now reach file) size moment)

abbrev pub set_attr_open : Reaching → NodeRequest → SetsAttr → OnHandle
set_attr_open reach r a file =
    errs_if (not (reaches reach file)) eacces
    (at_name file.name (set_attr_of_open reach r a file))

abbrev pub set_attr :
    Reaching → NodeRequest → SetsAttr → Option Sight → Option Handle → Walk NodeVerdict
set_attr reach r a sight handle =
    errs_if (sets_owner_or_mode a.valid) eperm
    (cond (sets_by_handle a.valid) (by_file_handle handle (set_attr_open reach r a))
    (by_place sight (set_attr_at r a) (set_attr_of_folder r a)))
