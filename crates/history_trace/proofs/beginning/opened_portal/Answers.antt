use Rattle.std.proofs.Common.{map, refl, ◌∙◌}
use Rattle.std.proofs.lemmas.List.Folds.{list_all-map}
use Rattle.portal_base.specs.Names.{is_host_path}
use Rattle.portal_base.specs.declared.files.File.{File}
use Rattle.portal_model.specs.Opening.{file_of}
use Rattle.app_trace.proofs.FilesPlaced.{all-listed}
use Rattle.history_trace.proofs.BesideItems.{items-beside}
use Rattle.history_trace.proofs.beginning.opened_portal.Goals as goal

pub tree_of-requires-clause-names : goal.tree_of-requires-clause-names
tree_of-requires-clause-names c = rw c.as_slice.ensures (list_all-map is_host_path (λ (f : File). f.path) (map file_of c.args.opening.now.files)
    ∙ all-listed (λ (f : File). is_host_path f.path) c.args.opening.now.files c.requires.valid.files_named c.requires.valid.generations_sound.named)

pub tree_of-requires-clause-placed : goal.tree_of-requires-clause-placed
tree_of-requires-clause-placed c = rw c.as_slice.ensures (c.requires.started.files refl).placed

pub tree_of-requires-clause-held : goal.tree_of-requires-clause-held
tree_of-requires-clause-held c = rw c.as_slice.ensures (items-beside c.args.opening.now c.requires.valid)

pub reopen-requires-clause-started : goal.reopen-requires-clause-started
reopen-requires-clause-started c = rw (c.in-Ok.ensures, c.in_ok-tree.ensures, c.as_slice.ensures) c.requires.started
