use Rattle.std.proofs.Common.{sym, ap, ◌∙◌}
use Rattle.std.specs.List.{list_any}
use Rattle.portal_base.specs.Content.{is_above}
use Rattle.portal_base.specs.declared.files.File.{File}
use Rattle.file_generations.specs.Generations.{Held}
use Rattle.tree_files.proofs.FilesBelow.{below-first, seen-at-first}
use Rattle.tree_files.proofs.files.TreeFiles.has_file_below.Goals as goal

pub returns-in-Some : goal.returns-in-Some
returns-in-Some c =
    let path = c.args.path.now in
    c.lies_above.ensures
    ∙ ((λ i. is_above (c.as_bytes.ensures.bytes i) (c.as_bytes-in-Some.ensures.bytes i))
    ∙ (ap (below-first path) (sym c.in-Some.ensures.steps ∙ c.range-behind.ensures.between tt)
    ∙ (seen-at-first path c.self.inside.map.entries c.range-behind.ensures.ordered
    ∙ ap (λ (h : Held). list_any (λ (f : File). is_above path f.path) h.present) c.self.view_is)))

pub returns-in-None : goal.returns-in-None
returns-in-None c =
    let path = c.args.path.now in
    ap (below-first path) (sym c.in-None.ensures.steps.0 ∙ c.range-behind.ensures.between tt)
    ∙ (seen-at-first path c.self.inside.map.entries c.range-behind.ensures.ordered
    ∙ ap (λ (h : Held). list_any (λ (f : File). is_above path f.path) h.present) c.self.view_is)
