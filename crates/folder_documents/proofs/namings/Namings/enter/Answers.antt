use Rattle.std.proofs.Common.{subst}
use Rattle.folder_documents.specs.Named.{AtSeat, Enters}
use Rattle.folder_documents.proofs.NamedLemmas.{enters-as}
use Rattle.folder_documents.proofs.namings.Namings.enter.Goals as goal

pub returns-clause-ok : goal.returns-clause-ok
returns-clause-ok c =
    subst (λ es. AtSeat Enters es c.insert.new.self.entries c.args.seat) c.self.view_is
    (enters-as _ _ c.args.seat c.new.result c.in_ok-insert.ensures.updates.1 c.new.ensures c.in_ok-insert.ensures.updates.2)
