use Rattle.std.proofs.Common.{◌∙◌, ap, sym}
use Rattle.std.specs.Option.{option_map}
use Rattle.portal_base.specs.Content.{file_at}
use Rattle.file_generations.specs.Generations.{Held}
use Rattle.tree_files.specs.Kept.{file_kept}
use Rattle.tree_files.proofs.Entries.{found-at}
use Rattle.tree_files.proofs.files.TreeFiles.at.Goals as goal

pub returns : goal.returns
returns c =
    ap (λ (h : Held). file_at h.present c.args.path.now) (sym c.self.view_is)
    ∙ (found-at c.args.path.now c.self.inside.map.entries
    ∙ ap (option_map (file_kept c.args.path.now)) (sym c.get.ensures.value))
