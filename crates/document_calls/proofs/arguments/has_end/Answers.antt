use Rattle.document_calls.proofs.PathArguments.{last-is}
use Rattle.document_calls.proofs.arguments.has_end.Goals as goal

pub returns-in-len1-up : goal.returns-in-len1-up
returns-in-len1-up c = last-is c.args.bytes.now c.in-len1-up.len_at_least
