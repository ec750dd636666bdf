use Rattle.std.proofs.Common.{◌≡◌, ◌==◌, Bool, true, cond, ap, sym, ◌∙◌, arith}
use Rattle.std.proofs.lemmas.Bool.Decides.{nat_tests}
use Rattle.tree_files.specs.Kept.{kept_as, kept_resized}
use Rattle.tree_files.proofs.Entries.{ok-then}
use Rattle.tree_files.proofs.kept.KeptFile.set_len_as.Goals as goal

pub returns-clause-ok : goal.returns-clause-ok
returns-clause-ok c =
    let same : (c.args.self.now.generation == c.args.generation) ≡ true = grind (arith, nat_tests) in
    let change = kept_resized c.args.size c.args.now in
    ok-then c.set_len.result (c.set_len.new.self ≡ change c.args.self.now) (c.set_len.new.self ≡ kept_as c.args.generation change c.args.self.now)
    (λ e. e ∙ ap (λ (b : Bool). cond b (change c.args.self.now) c.args.self.now) (sym same)) c.set_len.ensures.ok
