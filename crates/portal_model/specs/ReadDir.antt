-- FUSE_READDIR (include/uapi/linux/fuse.h): the entries that the folder had when it was opened.
use Rattle.std.specs.Prelude.{ℕ, nat_lt, Option, Some, None}
use Rattle.portal_model.specs.declared.handle.Handle.{Handle}
use Rattle.portal_model.specs.declared.reply.NodeAnswer.TheVariants as NodeAnswer
use Rattle.portal_model.specs.Errno.{ebadf, einval}
use Rattle.portal_model.specs.NodeVerdict.{NodeVerdict, errs, errs_if, told}
use Rattle.portal_model.specs.Read.{read_limit}
use Rattle.portal_model.specs.Walk.{Walk}

abbrev pub read_names : ℕ → ℕ → Option Handle → Walk NodeVerdict
read_names offset size None = errs ebadf
read_names offset size (Some (Handle.File name node document strict read write)) = errs ebadf
read_names offset size (Some (Handle.Folder node names)) =
    told (NodeAnswer.Names names offset size)

abbrev pub read_dir : ℕ → ℕ → Option Handle → Walk NodeVerdict
read_dir offset size handle =
    errs_if (nat_lt read_limit size) einval (read_names offset size handle)
