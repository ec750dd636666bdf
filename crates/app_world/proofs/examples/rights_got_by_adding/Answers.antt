use Rattle.std.proofs.Common.{Bool, true, sym, subst}
use Rattle.app_world.specs.ComputedExamples.{IsGotByAdding}
use Rattle.app_world.proofs.ComputedExampleProofs.{got_alone, got_with_reuse}
use Rattle.app_world.proofs.examples.rights_got_by_adding.Goals as goal

pub returns-then-reuse : goal.returns-then-reuse
returns-then-reuse c = subst (λ (b : Bool). IsGotByAdding b c.minus.result) (sym c.if-reuse.true) (subst (IsGotByAdding true) (sym c.minus.ensures) got_with_reuse)

pub returns-else-reuse : goal.returns-else-reuse
returns-else-reuse c = subst (λ (b : Bool). IsGotByAdding b (record { read = true; write = true; grant_permissions = true; delete = true })) (sym c.if-reuse.false) got_alone
