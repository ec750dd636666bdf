use Rattle.std.proofs.Common.{◌≡◌, None, List, refl, sym, ap, subst, ◌∙◌}
use Rattle.portal_base.specs.Content.{ArePlaced, file_at, paths_of}
use Rattle.file_generations.specs.Generations.{Held, held_with, put_present}
use Rattle.portal_base.specs.declared.files.File.{File}
use Rattle.host_tree.specs.Beside.{AreBeside}
use Rattle.host_tree.specs.Trees.{file_with, put_file}
use Rattle.host_tree.proofs.BesideFiles.{beside-put, first-is-new}
use Rattle.host_tree.proofs.Entries.{put-is-new}
use Rattle.host_tree.proofs.held.HeldFiles.add.Goals as goal

pub add-requires : goal.add-requires
add-requires c =
    let file = file_with c.args.path c.args.bytes c.args.moment in
    subst (λ (h : Held). ArePlaced (paths_of (put_file file h.present))) (sym c.self.view_is) c.requires

pub invariant_of-self-2 : goal.invariant_of-self-2
invariant_of-self-2 c =
    let file = file_with c.args.path c.args.bytes c.args.moment in
    let present = c.self.inside.present in
    let hidden = c.self.inside.hidden in
    let placed : ArePlaced (paths_of (put_file file present)) = subst (λ (h : Held). ArePlaced (paths_of (put_file file h.present))) (sym c.self.view_is) c.requires in
    let none : file_at present c.args.path ≡ None = put-is-new file present placed.in_order in
    subst (λ (fs : List File). AreBeside fs hidden) (sym c.in_ok-add.ensures.ok)
    (beside-put file present hidden c.self.invariant (first-is-new file present hidden c.self.invariant refl none))

pub returns-clause-ok : goal.returns-clause-ok
returns-clause-ok c =
    let file = file_with c.args.path c.args.bytes c.args.moment in
    ap (λ (fs : List File). held_with fs c.self.inside.hidden) c.in_ok-add.ensures.ok ∙ ap (put_present file) c.self.view_is
