use Rattle.std.proofs.Common.{◌≡◌, List, sym, ap, subst, ◌∙◌}
use Rattle.portal_base.specs.Content.{ArePlaced, paths_of}
use Rattle.file_generations.specs.Generations.{Held, held_with, put_present}
use Rattle.portal_base.specs.declared.files.File.{File}
use Rattle.host_tree.specs.Beside.{AreBeside, AreHeld}
use Rattle.host_tree.specs.Trees.{put_file}
use Rattle.host_tree.proofs.held.HeldFiles.add_present.Goals as goal

pub add-requires : goal.add-requires
add-requires c =
    subst (λ (f : File). ArePlaced (paths_of (put_file f c.self.inside.present))) (sym c.parts-path.ensures)
    (subst (λ (h : Held). ArePlaced (paths_of (put_file c.args.file h.present))) (sym c.self.view_is) c.requires.placed)

pub invariant_of-self-2 : goal.invariant_of-self-2
invariant_of-self-2 c =
    let file = c.args.file in
    let present = c.self.inside.present in
    let hidden = c.self.inside.hidden in
    subst (λ (fs : List File). AreBeside fs hidden) (sym (c.in_ok-add.ensures.ok ∙ ap (λ (f : File). put_file f present) c.parts-path.ensures))
    (subst (λ (h : Held). AreHeld (put_present file h)) (sym c.self.view_is) c.requires.held)

pub returns-clause-ok : goal.returns-clause-ok
returns-clause-ok c =
    let hidden = c.self.inside.hidden in
    ap (λ (fs : List File). held_with fs hidden) (c.in_ok-add.ensures.ok ∙ ap (λ (f : File). put_file f c.self.inside.present) c.parts-path.ensures)
    ∙ ap (put_present c.args.file) c.self.view_is
