use Rattle.add_files.proofs.ArgumentLemmas.{last-is}
use Rattle.add_files.proofs.arguments.has_end.Goals as goal

pub returns-in-len1-up : goal.returns-in-len1-up
returns-in-len1-up c = last-is c.args.bytes.now c.in-len1-up.len_at_least
