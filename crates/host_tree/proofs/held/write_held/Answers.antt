use Rattle.std.proofs.Common.{sym, ◌∙◌}
use Rattle.host_tree.specs.Trees.{written}
use Rattle.host_tree.proofs.HeldChanges.{hidden-does, present-does}
use Rattle.host_tree.proofs.held.write_held.Goals as goal

pub returns-then-has-clause-does : goal.returns-then-has-clause-does
returns-then-has-clause-does c =
    hidden-does c.args.name.now (written c.args.offset c.args.content.now c.args.now) c.args.present.now c.args.hidden.now c.write.new.self c.write.result
    c.requires (sym c.has.ensures ∙ c.if-has.true) c.write.ensures.does

pub returns-clause-does : goal.returns-clause-does
returns-clause-does c =
    present-does c.args.name.now (written c.args.offset c.args.content.now c.args.now) c.args.present.now c.write-2.new.self c.args.hidden.now c.write-2.result
    (sym c.has.ensures ∙ c.if-has.false) c.write-2.ensures.does
