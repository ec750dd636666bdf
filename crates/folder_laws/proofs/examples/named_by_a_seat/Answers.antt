use Rattle.std.proofs.Common.{Bool, sym, subst}
use Rattle.folder_laws.specs.Examples.{AreNamed}
use Rattle.folder_laws.proofs.LawExamples.{none_named, two_named}
use Rattle.folder_laws.proofs.examples.named_by_a_seat.Goals as goal

pub returns-then-entered_again : goal.returns-then-entered_again
returns-then-entered_again c = subst (λ (b : Bool). AreNamed b 0) (sym c.if-entered_again.true) none_named

pub returns-else-entered_again : goal.returns-else-entered_again
returns-else-entered_again c = subst (λ (b : Bool). AreNamed b 2) (sym c.if-entered_again.false) two_named
