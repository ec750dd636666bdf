-- The last number that a connection was given: a handle gets the next one, which FUSE_OPEN,
-- FUSE_CREATE and FUSE_OPENDIR answer (the field `fh` of include/uapi/linux/fuse.h).
use Rattle.std.specs.Prelude.{ℕ, ◌==◌, List, Bool, Option, Some, None}
use Rattle.portal_model.specs.declared.reply.Answer.{Answer}
use Rattle.portal_model.specs.declared.reply.NodeAnswer.TheVariants as NodeAnswer
use Rattle.portal_model.specs.declared.state.Connection.{Connection}
use Rattle.portal_model.specs.RecordChanges.{change_first}

-- the number of the handle that an answer gives
abbrev pub handle_given : Answer → Option ℕ
handle_given (Answer.Node (NodeAnswer.Opened fh)) = Some fh
handle_given (Answer.Node (NodeAnswer.Created attr fh)) = Some fh
handle_given answer = None

abbrev pub is_of : ℕ → Connection → Bool
is_of seat c = c.seat == seat

abbrev pub with_last : ℕ → Connection → Connection
with_last fh c = record c { opens = fh }

-- the connection of a seat was given this number last, where there is one
abbrev pub numbered : ℕ → Option ℕ → List Connection → List Connection
numbered seat None connections = connections
numbered seat (Some fh) connections = change_first (is_of seat) (with_last fh) connections
