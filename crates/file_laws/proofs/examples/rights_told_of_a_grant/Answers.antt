use Rattle.std.proofs.Common.{sym, subst}
use Rattle.file_laws.specs.TouchExamples.{IsToldOfAGrant}
use Rattle.file_laws.proofs.TouchExampleProofs.{told_of_a_grant}
use Rattle.file_laws.proofs.examples.rights_told_of_a_grant.Goals as goal

pub returns : goal.returns
returns c = subst IsToldOfAGrant (sym c.union.ensures) told_of_a_grant
