-- FUSE_FSYNC (include/uapi/linux/fuse.h): the tree is asked to keep the file.
use Rattle.std.specs.Prelude.{Option}
use Rattle.portal_model.specs.declared.handle.Handle.{Handle}
use Rattle.portal_model.specs.declared.reply.NodeAnswer.TheVariants as NodeAnswer
use Rattle.portal_model.specs.Errno.{enoent}
use Rattle.portal_model.specs.NodeVerdict.{NodeVerdict, Errs, OnHandle, by_file_handle, tells}
use Rattle.portal_model.specs.Walk.{Walk, Ends, Uses}

abbrev pub fsync_open : OnHandle
fsync_open file = Ends (Uses file.name) (λ now. tells NodeAnswer.Empty) (Errs enoent)

abbrev pub fsync : Option Handle → Walk NodeVerdict
fsync handle = by_file_handle handle fsync_open
