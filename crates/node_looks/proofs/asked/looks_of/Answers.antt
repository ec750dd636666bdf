use Rattle.std.proofs.Common.{◌∙◌, ap, sym, Some}
use Rattle.host_tree.specs.declared.tree.LookAnswer.{LookAnswer}
use Rattle.node_looks.specs.Walks.{taken}
use Rattle.node_looks.proofs.Follow.{set-one}
use Rattle.node_looks.proofs.asked.looks_of.Goals as goal

pub returns-in-Is : goal.returns-in-Is
returns-in-Is c = c.set.ensures ∙ (set-one c.args.room c.in-Is.shown c.requires ∙ sym (ap (λ (a : LookAnswer). taken (Some a)) c.in-Is.is))
