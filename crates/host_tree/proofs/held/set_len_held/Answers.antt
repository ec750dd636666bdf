use Rattle.std.proofs.Common.{sym, ◌∙◌}
use Rattle.host_tree.specs.Trees.{resized}
use Rattle.host_tree.proofs.HeldChanges.{hidden-does, present-does}
use Rattle.host_tree.proofs.held.set_len_held.Goals as goal

pub returns-then-has-clause-does : goal.returns-then-has-clause-does
returns-then-has-clause-does c =
    hidden-does c.args.name.now (resized c.args.size c.args.now) c.args.present.now c.args.hidden.now c.set_len.new.self c.set_len.result
    c.requires (sym c.has.ensures ∙ c.if-has.true) c.set_len.ensures.does

pub returns-clause-does : goal.returns-clause-does
returns-clause-does c =
    present-does c.args.name.now (resized c.args.size c.args.now) c.args.present.now c.set_len-2.new.self c.args.hidden.now c.set_len-2.result
    (sym c.has.ensures ∙ c.if-has.false) c.set_len-2.ensures.does
