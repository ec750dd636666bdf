-- FUSE_READ (include/uapi/linux/fuse.h): by the handle, whatever its document and the rights in it
-- have become, but for a handle of a strict document.
use Rattle.std.specs.Prelude.{ℕ, nat_lt, List, not, Option}
use Rattle.portal_base.specs.FileChanges.{bytes_from}
use Rattle.portal_base.specs.declared.files.FileName.{FileName}
use Rattle.portal_model.specs.declared.handle.Handle.{Handle}
use Rattle.portal_model.specs.declared.reply.NodeAnswer.TheVariants as NodeAnswer
use Rattle.portal_model.specs.Errno.{eacces, ebadf, einval, enoent}
use Rattle.portal_model.specs.NodeVerdict.{NodeVerdict, Errs, OnHandle, by_file_handle, errs_if, tells}
use Rattle.portal_model.specs.Reach.{Reaching, may_read_now}
use Rattle.portal_model.specs.Walk.{Walk, Ends, Uses}

-- the most that a READ or a READDIR asks for, in bytes
abbrev pub read_limit : ℕ
read_limit = 1048576

-- bytes are those of each file, as far as they are told
abbrev pub read_name : (FileName → List ℕ) → ℕ → ℕ → FileName → Walk NodeVerdict
read_name bytes offset size name =
    Ends (Uses name) (λ now. tells (NodeAnswer.Content (bytes_from (bytes name) offset size)))
    (Errs enoent)

abbrev pub read_open : Reaching → (FileName → List ℕ) → ℕ → ℕ → OnHandle
read_open reach bytes offset size file =
    errs_if (not file.read) ebadf
    (errs_if (not (may_read_now reach file)) eacces (read_name bytes offset size file.name))

abbrev pub read : Reaching → (FileName → List ℕ) → ℕ → ℕ → Option Handle → Walk NodeVerdict
read reach bytes offset size handle =
    errs_if (nat_lt read_limit size) einval
    (by_file_handle handle (read_open reach bytes offset size))
