use Rattle.document_records.proofs.NameLemmas.{no_break_of_name}
use Rattle.document_records.proofs.known.known_name.Goals as goal

pub unreachable-requires : goal.unreachable-requires
unreachable-requires c = no_break_of_name c.args.text.now c.in-Err-BadName.field-0-0 c.requires (rw c.in-Err-BadName.field-0-is at c.in-Err-BadName.ensures.bad)
