-- FUSE_RELEASE (include/uapi/linux/fuse.h): an open file is gone.
use Rattle.std.specs.Prelude.{ℕ, Option}
use Rattle.portal_model.specs.declared.handle.Handle.{Handle}
use Rattle.portal_model.specs.declared.reply.NodeAnswer.TheVariants as NodeAnswer
use Rattle.portal_model.specs.NodeVerdict.{NodeVerdict, Closes, FilesStay, NamesStay, Yields, by_file_handle}
use Rattle.portal_model.specs.Walk.{Walk, Answers}

-- the handle of this number is gone
abbrev pub closed : ℕ → NodeVerdict
closed fh =
    Yields (record {
      answer = NodeAnswer.Empty;
      file = FilesStay;
      handle = Closes fh;
      names = NamesStay;
    })

abbrev pub release : ℕ → Option Handle → Walk NodeVerdict
release fh handle = by_file_handle handle (λ file. Answers (closed fh))
