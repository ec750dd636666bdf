use Rattle.std.proofs.Common.{List, sym, ap, subst, ◌∙◌}
use Rattle.portal_base.specs.Content.{IsTree}
use Rattle.file_generations.specs.Generations.{Held, held_with}
use Rattle.portal_base.specs.declared.files.File.{File}
use Rattle.host_tree.specs.Beside.{AreBeside}
use Rattle.host_tree.specs.Trees.{without}
use Rattle.host_tree.proofs.held.HeldFiles.take_back.Goals as goal

pub take_back-requires : goal.take_back-requires
take_back-requires c = subst (λ (h : Held). IsTree (without c.args.path.now h.present)) (sym c.self.view_is) c.requires.tree

pub invariant_of-self : goal.invariant_of-self
invariant_of-self c =
    subst (λ (fs : List File). AreBeside fs c.self.inside.hidden) (sym c.take_back.ensures)
    (subst (λ (h : Held). AreBeside (without c.args.path.now h.present) h.hidden) (sym c.self.view_is) c.requires.held)

pub returns : goal.returns
returns c =
    ap (λ (fs : List File). held_with fs c.self.inside.hidden) c.take_back.ensures
    ∙ ap (λ (h : Held). held_with (without c.args.path.now h.present) h.hidden) c.self.view_is
