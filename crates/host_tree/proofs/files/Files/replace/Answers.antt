use Rattle.host_tree.proofs.Entries.{tree-of-keys}
use Rattle.host_tree.proofs.files.Files.replace.Goals as goal

pub invariant_of-self : goal.invariant_of-self
invariant_of-self c = tree-of-keys c.self.inside.map.entries c.replace_in.new.map.entries c.replace_in.ensures.keys c.self.invariant
