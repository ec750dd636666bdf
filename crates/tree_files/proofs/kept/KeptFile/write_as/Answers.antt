use Rattle.std.proofs.Common.{◌≡◌, ◌==◌, Bool, true, cond, ap, sym, ◌∙◌, arith}
use Rattle.std.proofs.lemmas.Bool.Decides.{nat_tests}
use Rattle.tree_files.specs.Kept.{kept_as, kept_written}
use Rattle.tree_files.proofs.Entries.{ok-then}
use Rattle.tree_files.proofs.kept.KeptFile.write_as.Goals as goal

pub returns-clause-ok : goal.returns-clause-ok
returns-clause-ok c =
    let same : (c.args.self.now.generation == c.args.generation) ≡ true = grind (arith, nat_tests) in
    let change = kept_written c.args.offset c.args.content.now c.args.now in
    ok-then c.write.result (c.write.new.self ≡ change c.args.self.now) (c.write.new.self ≡ kept_as c.args.generation change c.args.self.now)
    (λ e. e ∙ ap (λ (b : Bool). cond b (change c.args.self.now) c.args.self.now) (sym same)) c.write.ensures.ok
