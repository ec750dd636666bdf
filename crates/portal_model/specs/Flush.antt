-- FUSE_FLUSH (include/uapi/linux/fuse.h): nothing waits to be written.
use Rattle.std.specs.Prelude.{Option}
use Rattle.portal_model.specs.declared.handle.Handle.{Handle}
use Rattle.portal_model.specs.declared.reply.NodeAnswer.TheVariants as NodeAnswer
use Rattle.portal_model.specs.NodeVerdict.{NodeVerdict, by_file_handle, told}
use Rattle.portal_model.specs.Walk.{Walk}

abbrev pub flush : Option Handle → Walk NodeVerdict
flush handle = by_file_handle handle (λ file. told NodeAnswer.Empty)
