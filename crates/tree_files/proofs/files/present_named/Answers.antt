use Rattle.std.proofs.Common.{Option, ap, sym, ◌∙◌}
use Rattle.std.specs.Option.{option_map}
use Rattle.tree_files.specs.Kept.{file_kept, of_generation}
use Rattle.tree_files.specs.declared.kept.KeptFile.{KeptFile}
use Rattle.tree_files.proofs.Entries.{found-named}
use Rattle.tree_files.proofs.files.present_named.Goals as goal

pub returns-in-Some : goal.returns-in-Some
returns-in-Some c =
    let name = c.args.name.now in
    found-named name c.args.map.now.entries c.len.ensures.ordered
    ∙ (ap (λ (o : Option KeptFile). option_map (file_kept name.path) (of_generation name.generation o)) (sym c.in-Some.ensures.value)
    ∙ ap (option_map (file_kept name.path)) (sym c.of_generation.ensures))

pub returns-in-None : goal.returns-in-None
returns-in-None c =
    let name = c.args.name.now in
    found-named name c.args.map.now.entries c.len.ensures.ordered
    ∙ ap (λ (o : Option KeptFile). option_map (file_kept name.path) (of_generation name.generation o)) (sym c.in-None.ensures.value)
