-- FUSE_OPEN (include/uapi/linux/fuse.h), with the flags of open(2).
use Rattle.std.specs.Prelude.{ℕ, ◌/◌, ◌%◌, ◌==◌, ◌&&◌, ◌||◌, Bool, not, Option, cond}
use Rattle.portal_base.specs.declared.files.FileName.{FileName}
use Rattle.portal_model.specs.declared.handle.Handle.{Handle}
use Rattle.portal_model.specs.declared.reply.NodeAnswer.TheVariants as NodeAnswer
use Rattle.portal_model.specs.declared.request.NodeRequest.{NodeRequest}
use Rattle.portal_model.specs.declared.state.Document.{Document}
use Rattle.portal_model.specs.Errno.{eacces, einval, eisdir, emfile, enoent}
use Rattle.portal_model.specs.NodeVerdict.{NodeVerdict, FileChange, FilesStay, NamesStay, OnFile, Errs, Opens, Resizes, Room, Spot, Yields, by_place, errs, errs_if, name_at, next_handle}
use Rattle.portal_model.specs.Place.{Folder, Sight}
use Rattle.portal_model.specs.Walk.{Walk, Answers, Ends, Changes}

-- O_ACCMODE: 0 to read, 1 to write, 2 to do both; 3 is none
abbrev pub mode_of : ℕ → ℕ
mode_of flags = flags % 4

abbrev pub has_no_mode : ℕ → Bool
has_no_mode flags = mode_of flags == 3

abbrev pub mode_reads : ℕ → Bool
mode_reads flags = mode_of flags == 0 || mode_of flags == 2

abbrev pub mode_writes : ℕ → Bool
mode_writes flags = mode_of flags == 1 || mode_of flags == 2

-- O_TRUNC
abbrev pub truncates : ℕ → Bool
truncates flags = flags / 512 % 2 == 1

abbrev pub opens_to_write : ℕ → Bool
opens_to_write flags = mode_writes flags || truncates flags

-- the file of a document, as it is opened with these flags at a node
abbrev pub file_handle : Document → FileName → ℕ → ℕ → Handle
file_handle d name node flags =
    Handle.File name node d.id d.strict (mode_reads flags) (mode_writes flags)

abbrev pub opened_file : Room → Handle → FileChange → NodeVerdict
opened_file room handle change = Yields (record {
  answer = NodeAnswer.Opened (next_handle room);
  file = change;
  handle = Opens handle;
  names = NamesStay;
})

-- with truncation the file has the length 0 and the moment of now
abbrev pub open_name : NodeRequest → ℕ → Room → Document → FileName → Walk NodeVerdict
open_name r flags room d name =
    cond (truncates flags)
    (Ends (Changes name)
    (λ now. opened_file room (file_handle d name r.node flags) (Resizes name 0 now))
    (Errs enoent))
    (Answers (opened_file room (file_handle d name r.node flags) FilesStay))

abbrev pub open_file : NodeRequest → ℕ → Room → Spot → OnFile
open_file r flags room at generation size moment =
    errs_if (opens_to_write flags && not at.may_write) eacces
    (errs_if room.full emfile (open_name r flags room at.document (name_at at generation)))

abbrev pub open_folder : Folder → Walk NodeVerdict
open_folder folder = errs eisdir

abbrev pub open_node : NodeRequest → ℕ → Option Sight → Room → Walk NodeVerdict
open_node r flags sight room =
    errs_if (has_no_mode flags) einval (by_place sight (open_file r flags room) open_folder)
