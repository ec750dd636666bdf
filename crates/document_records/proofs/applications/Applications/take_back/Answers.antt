use Rattle.document_records.proofs.ApplicationLemmas.{found-fewer}
use Rattle.document_records.proofs.applications.Applications.take_back.Goals as goal

pub invariant_of-self : goal.invariant_of-self
invariant_of-self c =
    found-fewer c.self.inside.names c.pop.new.self c.in-Some.last c.self.inside.numbers
    c.remove.new.self c.self.invariant c.in-Some.ensures
    (rw c.as_bytes.ensures.bytes at c.remove.ensures.updates)
