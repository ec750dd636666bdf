use Rattle.host_tree.proofs.Entries.{tree-of-keys}
use Rattle.host_tree.proofs.files.Files.set_len.Goals as goal

pub invariant_of-self : goal.invariant_of-self
invariant_of-self c = tree-of-keys c.self.inside.map.entries c.set_len_in.new.map.entries c.set_len_in.ensures.keys c.self.invariant
