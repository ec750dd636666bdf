use Rattle.document_calls.proofs.PathArguments.{no-path}
use Rattle.document_calls.proofs.arguments.ended_path.Goals as goal

pub returns-in-Err-BadName : goal.returns-in-Err-BadName
returns-in-Err-BadName c = no-path c.args.bytes.now c.ahead_of_end.result.now c.in-Err-BadName.field-0-0 c.ahead_of_end.ensures (rw c.in-Err-BadName.field-0-is at c.in-Err-BadName.ensures.bad)
