use Rattle.portal_base.specs.Content.{file_named}
use Rattle.file_generations.specs.Generations.{all_held}
use Rattle.host_tree.proofs.Entries.{none-known, some-known}
use Rattle.host_tree.proofs.held.HeldFiles.has_named.Goals as goal

pub returns-in-Some : goal.returns-in-Some
returns-in-Some c = some-known (file_named (all_held c.args.self.now) c.args.name.now) _ c.in-Some.ensures

pub returns-in-None : goal.returns-in-None
returns-in-None c = none-known (file_named (all_held c.args.self.now) c.args.name.now) c.in-None.ensures
