-- What a SETATTR asks of a file.
use Rattle.std.specs.Prelude.{ℕ, nat_lt, Bool, cond, not}
use Rattle.host_tree.specs.declared.tree.LookAnswer.{LookAnswer}
use Rattle.host_tree.specs.declared.tree.LookAnswer.TheVariants as look
use Rattle.portal_base.specs.declared.files.FileName.{FileName}
use Rattle.portal_base.specs.declared.files.Look.{Look}
use Rattle.portal_model.specs.declared.request.NodeRequest.{NodeRequest}
use Rattle.portal_model.specs.declared.reply.NodeAnswer.TheVariants as NodeAnswer
use Rattle.portal_model.specs.Attributes.{attr_of_file, on_node}
use Rattle.portal_model.specs.Errno.{eacces, ebadf, efbig}
use Rattle.portal_model.specs.NodeVerdict.{NodeVerdict, OnFile, errs_if, told}
use Rattle.portal_model.specs.SetAttr.{SetsAttr, resize, sets_size}
use Rattle.portal_model.specs.Walk.{Walk}
use Rattle.file_ops.specs.declared.resized.Setting.{Setting}
use Rattle.file_ops.specs.declared.resized.Subject.{Subject}

abbrev pub sets_of : Setting → SetsAttr
sets_of setting =
    record { valid = setting.valid; size = setting.size; limit = setting.limit }

-- the request on a file of this name, where the length is to be set: this is the error where the
-- file may not be written
abbrev pub sets_length : NodeRequest → SetsAttr → ℕ → FileName → Bool → Walk NodeVerdict
sets_length r a errno name may_write =
    errs_if (not may_write) errno
    (errs_if (nat_lt a.limit a.size) efbig (resize r a name may_write))

-- and whatever is to be set
abbrev pub sets_file : NodeRequest → SetsAttr → ℕ → FileName → Bool → ℕ → ℕ → Walk NodeVerdict
sets_file r a errno name may_write size moment =
    cond (sets_size a.valid) (sets_length r a errno name may_write)
    (told (NodeAnswer.Attr (attr_of_file r may_write size moment)))

abbrev pub set_subject : NodeRequest → SetsAttr → Subject → FileName → OnFile
set_subject r a subject name generation size moment =
    sets_file (on_node r subject.node) a subject.denial name subject.may_write size moment

-- the error of an open file whose length may not be set
abbrev pub denial_of : Bool → ℕ
denial_of opened = cond opened eacces ebadf

-- which of the files of a path was shown
abbrev pub generation_of : LookAnswer → ℕ
generation_of (look.Is (Look.File generation size moment)) = generation
generation_of (look.Is Look.Folder) = 0
generation_of (look.Is Look.Missing) = 0
generation_of look.Failed = 0
