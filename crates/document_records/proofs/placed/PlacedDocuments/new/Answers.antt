use Rattle.document_records.proofs.DocumentLemmas.{indexed-none}
use Rattle.document_records.proofs.placed.PlacedDocuments.new.Goals as goal

pub invariant_of-result : goal.invariant_of-result
invariant_of-result c = rw (c.new.ensures, c.new-2.ensures, c.new-4.ensures) (indexed-none c.args.limits.now.documents c.args.limits.now.made c.new-3.result c.new-3.ensures.empty c.requires)
