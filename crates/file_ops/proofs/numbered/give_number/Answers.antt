use Rattle.std.proofs.Common.{◌∙◌, refl}
use Rattle.file_ops.proofs.Numbers.{given-names, given-node}
use Rattle.file_ops.proofs.numbered.give_number.Goals as goal

pub returns-clause-node : goal.returns-clause-node
returns-clause-node c = λ has e. c.node_of.ensures.node ∙ given-node c.args.naming has c.in-Ok.k c.args.naming.view c.args.seat c.args.namings.now c.name.new.self refl e c.in-Ok.ensures.ok

pub returns-clause-names : goal.returns-clause-names
returns-clause-names c = given-names c.args.seat c.in-Ok.k c.args.naming c.args.namings.now c.name.new.self c.in-Ok.ensures.ok
