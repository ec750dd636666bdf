-- FUSE_WRITE (include/uapi/linux/fuse.h): by the handle, whatever its document and the rights in it
-- have become, but for a handle of a strict document.
use Rattle.std.specs.Prelude.{ℕ, ◌+◌, nat_lt, List, [], ◌∷◌, length, not, Option}
use Rattle.portal_base.specs.declared.files.FileName.{FileName}
use Rattle.portal_model.specs.declared.handle.Handle.{Handle}
use Rattle.portal_model.specs.declared.reply.NodeAnswer.TheVariants as NodeAnswer
use Rattle.portal_model.specs.Errno.{eacces, ebadf, efbig, einval, enoent}
use Rattle.portal_model.specs.NodeVerdict.{NodeVerdict, Errs, OnHandle, Writes, by_file_handle, changes, errs_if, told}
use Rattle.portal_model.specs.Reach.{Reaching, may_write_now}
use Rattle.portal_model.specs.Walk.{Walk, Ends, Changes}

-- the most that is written at once, in bytes
abbrev pub write_limit : ℕ
write_limit = 131072

abbrev pub write_name : ℕ → FileName → ℕ → List ℕ → Walk NodeVerdict
write_name limit name offset content =
    errs_if (nat_lt limit (offset + length content)) efbig
    (Ends (Changes name)
    (λ now. changes (Writes name offset content now) (NodeAnswer.Written (length content)))
    (Errs enoent))

-- a write of no bytes needs no file
abbrev pub write_content : ℕ → FileName → ℕ → List ℕ → Walk NodeVerdict
write_content limit name offset [] = told (NodeAnswer.Written 0)
write_content limit name offset (b ∷ bs) = write_name limit name offset (b ∷ bs)

abbrev pub write_open : Reaching → ℕ → ℕ → List ℕ → OnHandle
write_open reach limit offset content file =
    errs_if (not file.write) ebadf
    (errs_if (not (may_write_now reach file)) eacces
    (write_content limit file.name offset content))

-- the limit is that of a file's length
abbrev pub write : Reaching → ℕ → ℕ → List ℕ → Option Handle → Walk NodeVerdict
write reach limit offset content handle =
    errs_if (nat_lt write_limit (length content)) einval
    (by_file_handle handle (write_open reach limit offset content))
