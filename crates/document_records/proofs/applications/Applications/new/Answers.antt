use Rattle.document_records.proofs.ApplicationLemmas.{found-none}
use Rattle.document_records.proofs.applications.Applications.new.Goals as goal

pub invariant_of-result : goal.invariant_of-result
invariant_of-result c = rw c.new.ensures (found-none c.new-2.result c.new-2.ensures.empty)
