use Rattle.connection_laws.proofs.Unread.{no-reply}
use Rattle.connection_laws.proofs.laws.unread_bytes_are_in_no_reply.Goals as goal

pub returns : goal.returns
returns c = no-reply
