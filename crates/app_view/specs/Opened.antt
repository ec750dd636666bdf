-- Open files, and what they may do now.
use Rattle.std.specs.Prelude.{◌≡◌, Option, Some, None}
use Rattle.portal_model.specs.Errno.{ebadf}
use Rattle.portal_model.specs.NodeVerdict.{NodeVerdict, OnHandle, errs}
use Rattle.portal_model.specs.Reach.{OpenFile, Reaching, may_read_now, may_write_now, open_file_of, reaches}
use Rattle.portal_model.specs.Walk.{Walk}
use Rattle.app_view.specs.declared.opened.Allowed.{Allowed}
use Rattle.app_view.specs.declared.opened.OpenFile.{OpenFile as FileLent}

-- the open file of the model
abbrev pub file_of : FileLent → OpenFile
file_of file =
    open_file_of file.name.now file.node file.document file.strict file.read file.write

-- the walk by the open file of a handle, which is refused where there is none
abbrev pub by_open_file : Option FileLent → OnHandle → Walk NodeVerdict
by_open_file None next = errs ebadf
by_open_file (Some file) next = next (file_of file)

-- it may do this by the rights that there are
pub record IsAllowed (reach : Reaching) (file : OpenFile) (allowed : Allowed) : Type 0 where
  pub reach_is : allowed.reach ≡ reaches reach file
  pub read_is : allowed.read ≡ may_read_now reach file
  pub write_is : allowed.write ≡ may_write_now reach file
