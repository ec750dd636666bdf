use Rattle.std.proofs.Common.{◌≡◌, ◌==◌, true, arith}
use Rattle.std.proofs.lemmas.Bool.Decides.{nat_tests}
use Rattle.host_tree.specs.Stored.{stored_resized}
use Rattle.host_tree.proofs.Entries.{outcome-does}
use Rattle.host_tree.proofs.files.Stored.set_len_as.Goals as goal

pub returns-clause-does : goal.returns-clause-does
returns-clause-does c =
    let same : (c.args.self.now.generation == c.args.generation) ≡ true = grind (arith, nat_tests) in
    outcome-does c.set_len.result c.args.generation (stored_resized c.args.size c.args.now) c.args.self.now c.set_len.new.self c.done.result c.done.ensures.ok c.done.ensures.err c.set_len.ensures.ok c.set_len.ensures.err same
