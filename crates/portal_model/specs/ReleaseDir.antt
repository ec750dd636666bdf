-- FUSE_RELEASEDIR (include/uapi/linux/fuse.h): an open folder is gone.
use Rattle.std.specs.Prelude.{ℕ, Option, Some, None}
use Rattle.portal_model.specs.declared.handle.Handle.{Handle}
use Rattle.portal_model.specs.Errno.{ebadf}
use Rattle.portal_model.specs.NodeVerdict.{NodeVerdict, errs}
use Rattle.portal_model.specs.Release.{closed}
use Rattle.portal_model.specs.Walk.{Walk, Answers}

abbrev pub release_dir : ℕ → Option Handle → Walk NodeVerdict
release_dir fh None = errs ebadf
release_dir fh (Some (Handle.File name node document strict read write)) = errs ebadf
release_dir fh (Some (Handle.Folder node names)) = Answers (closed fh)
