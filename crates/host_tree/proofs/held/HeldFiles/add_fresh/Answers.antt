use Rattle.std.proofs.Common.{◌≡◌, true, sym, ap, subst, ◌∙◌}
use Rattle.file_generations.specs.Generations.{fresh_file, freshened, held_with}
use Rattle.host_tree.specs.Beside.{AreBeside}
use Rattle.host_tree.specs.Trees.{may_fresh}
use Rattle.host_tree.proofs.BesideFiles.{beside-added}
use Rattle.host_tree.proofs.HeldChanges.{may-be-fresh}
use Rattle.host_tree.proofs.held.HeldFiles.add_fresh.Goals as goal

pub invariant_of-self-2 : goal.invariant_of-self-2
invariant_of-self-2 c =
    let name = c.args.name.now in
    let present = c.self.inside.present in
    let hidden = c.self.inside.hidden in
    let may : may_fresh name (held_with present hidden) ≡ true = ap (may_fresh name) c.self.view_is ∙ c.requires in
    let free = may-be-fresh name present hidden may in
    subst (AreBeside present) (sym c.in_ok-add_empty.ensures.ok)
    (beside-added (fresh_file name c.args.now) present hidden c.self.invariant free.1.1.0 free.1.1.1 free.1.0 free.0)

pub returns-clause-ok : goal.returns-clause-ok
returns-clause-ok c =
    let name = c.args.name.now in
    ap (held_with c.self.inside.present) c.in_ok-add_empty.ensures.ok ∙ ap (freshened name c.args.now) c.self.view_is
