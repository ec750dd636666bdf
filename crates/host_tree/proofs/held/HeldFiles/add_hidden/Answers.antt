use Rattle.std.proofs.Common.{◌≡◌, List, [], ◌∷◌, ◌++◌, sym, ap, subst, ◌∙◌}
use Rattle.file_generations.specs.Generations.{Held, held_with}
use Rattle.portal_base.specs.declared.files.File.{File}
use Rattle.host_tree.specs.Beside.{AreBeside, AreHeld}
use Rattle.host_tree.specs.Devices.{put_hidden}
use Rattle.host_tree.proofs.held.HeldFiles.add_hidden.Goals as goal

pub invariant_of-self-2 : goal.invariant_of-self-2
invariant_of-self-2 c =
    let file = c.args.file in
    let hidden = c.self.inside.hidden in
    subst (AreBeside c.self.inside.present) (sym (c.in_ok-add.ensures.ok ∙ ap (λ (f : File). hidden ++ f ∷ []) c.parts-path.ensures))
    (subst (λ (h : Held). AreHeld (put_hidden file h)) (sym c.self.view_is) c.requires)

pub returns-clause-ok : goal.returns-clause-ok
returns-clause-ok c =
    let hidden = c.self.inside.hidden in
    ap (held_with c.self.inside.present) (c.in_ok-add.ensures.ok ∙ ap (λ (f : File). hidden ++ f ∷ []) c.parts-path.ensures)
    ∙ ap (put_hidden c.args.file) c.self.view_is
