use Rattle.std.proofs.Common.{Bool, sym, subst}
use Rattle.folder_laws.specs.Examples.{IsSecondNumber}
use Rattle.folder_laws.proofs.LawExamples.{second_elsewhere, second_here}
use Rattle.folder_laws.proofs.examples.number_of_a_second_name.Goals as goal

pub returns-then-same_connection : goal.returns-then-same_connection
returns-then-same_connection c = subst (λ (b : Bool). IsSecondNumber b 2) (sym c.if-same_connection.true) second_here

pub returns-else-same_connection : goal.returns-else-same_connection
returns-else-same_connection c = subst (λ (b : Bool). IsSecondNumber b 1) (sym c.if-same_connection.false) second_elsewhere
