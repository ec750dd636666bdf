use Rattle.std.proofs.Common.{◌≡◌, ◌==◌, true, arith}
use Rattle.std.proofs.lemmas.Bool.Decides.{nat_tests}
use Rattle.host_tree.specs.Stored.{stored_written}
use Rattle.host_tree.proofs.Entries.{outcome-does}
use Rattle.host_tree.proofs.files.Stored.write_as.Goals as goal

pub returns-clause-does : goal.returns-clause-does
returns-clause-does c =
    let same : (c.args.self.now.generation == c.args.generation) ≡ true = grind (arith, nat_tests) in
    outcome-does c.write.result c.args.generation (stored_written c.args.offset c.args.content.now c.args.now) c.args.self.now c.write.new.self c.done.result c.done.ensures.ok c.done.ensures.err c.write.ensures.ok c.write.ensures.err same
