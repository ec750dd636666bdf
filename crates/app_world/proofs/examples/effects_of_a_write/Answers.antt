use Rattle.std.proofs.Common.{Bool, sym, subst}
use Rattle.app_world.specs.FileExamples.{AreTold}
use Rattle.app_world.proofs.FileExampleProofs.{told_to_editor, told_to_stranger}
use Rattle.app_world.proofs.examples.effects_of_a_write.Goals as goal

pub returns-then-held : goal.returns-then-held
returns-then-held c = subst (λ (b : Bool). AreTold b 1) (sym c.if-held.true) told_to_editor

pub returns-else-held : goal.returns-else-held
returns-else-held c = subst (λ (b : Bool). AreTold b 0) (sym c.if-held.false) told_to_stranger
