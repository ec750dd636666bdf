-- FUSE_FORGET and FUSE_BATCH_FORGET (include/uapi/linux/fuse.h), which have no reply. No reply
-- depends on what the kernel still remembers.
use Rattle.portal_model.specs.declared.reply.NodeAnswer.TheVariants as NodeAnswer
use Rattle.portal_model.specs.NodeVerdict.{NodeVerdict, told}
use Rattle.portal_model.specs.Walk.{Walk}

abbrev pub forget : Walk NodeVerdict
forget = told NodeAnswer.Quiet
