-- FUSE_GETATTR (include/uapi/linux/fuse.h).
use Rattle.std.specs.Prelude.{ℕ, ◌%◌, ◌==◌, Bool, not, Option, Some, None, cond}
use Rattle.portal_model.specs.declared.handle.Handle.{Handle}
use Rattle.portal_model.specs.declared.reply.NodeAnswer.TheVariants as NodeAnswer
use Rattle.portal_model.specs.declared.request.NodeRequest.{NodeRequest}
use Rattle.portal_model.specs.Attributes.{attr_of_file, attr_of_folder, is_writable, on_node}
use Rattle.portal_model.specs.Errno.{eacces, ebadf}
use Rattle.portal_model.specs.NodeVerdict.{NodeVerdict, OnFile, OnHandle, at_name, by_place, errs, errs_if, told}
use Rattle.portal_model.specs.Place.{Folder, Sight}
use Rattle.portal_model.specs.Reach.{Reaching, may_write_now, open_file_of, reaches}
use Rattle.portal_model.specs.Walk.{Walk}

-- FUSE_GETATTR_FH: the request names an open handle
abbrev pub names_handle : ℕ → Bool
names_handle flags = flags % 2 == 1

abbrev pub tells_file : NodeRequest → Bool → OnFile
tells_file r may_write generation size moment =
    told (NodeAnswer.Attr (attr_of_file r may_write size moment))

abbrev pub tells_folder : NodeRequest → Folder → Walk NodeVerdict
tells_folder r folder = told (NodeAnswer.Attr (attr_of_folder r (is_writable folder)))

abbrev pub get_attr_by_place : NodeRequest → Option Sight → Walk NodeVerdict
get_attr_by_place r sight =
    by_place sight (λ at. tells_file r at.may_write) (tells_folder r)

-- an open file is told by its own node and by whether it may itself be written
abbrev pub get_attr_open : Reaching → NodeRequest → OnHandle
get_attr_open reach r file =
    errs_if (not (reaches reach file)) eacces
    (at_name file.name (tells_file (on_node r file.node) (may_write_now reach file)))

-- an open folder leaves the request to its node
abbrev pub get_attr_by_handle :
    Reaching → NodeRequest → Option Sight → Option Handle → Walk NodeVerdict
get_attr_by_handle reach r sight None = errs ebadf
get_attr_by_handle reach r sight (Some (Handle.File name node document strict read write)) =
    get_attr_open reach r (open_file_of name node document strict read write)
get_attr_by_handle reach r sight (Some (Handle.Folder node names)) = get_attr_by_place r sight

abbrev pub get_attr :
    Reaching → NodeRequest → ℕ → Option Sight → Option Handle → Walk NodeVerdict
get_attr reach r flags sight handle =
    cond (names_handle flags) (get_attr_by_handle reach r sight handle) (get_attr_by_place r sight)
