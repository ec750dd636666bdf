use Rattle.std.proofs.Common.{Bool, sym, subst}
use Rattle.file_laws.specs.TouchExamples.{AreItemsTold}
use Rattle.file_laws.proofs.TouchExampleProofs.{items_of_one, items_of_two}
use Rattle.file_laws.proofs.examples.items_of_a_trace.Goals as goal

pub returns-then-same_path : goal.returns-then-same_path
returns-then-same_path c = subst (λ (b : Bool). AreItemsTold b 4) (sym c.if-same_path.true) items_of_one

pub returns-else-same_path : goal.returns-else-same_path
returns-else-same_path c = subst (λ (b : Bool). AreItemsTold b 3) (sym c.if-same_path.false) items_of_two
