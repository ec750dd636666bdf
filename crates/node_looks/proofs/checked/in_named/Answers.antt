use Rattle.std.proofs.Common.{Bool, subst}
use Rattle.node_looks.specs.Walks.{ComesToBehind, by_denial}
use Rattle.node_looks.proofs.OpenFiles.{same-look}
use Rattle.node_looks.proofs.checked.in_named.Goals as goal

pub returns : goal.returns
returns g c = same-look c.args.name.now _ _ c.attr-answer.result _ c.answer_to_look.result c.look_of_attr-look.result c.look_of_attr-look.ensures c.attr-answer.ensures.asks c.attr-answer.ensures.attrs
    (subst (λ (b : Bool). ComesToBehind (by_denial b) c.look_of_attr-look.result c.answer_to_look.result) c.is_denied.ensures c.answer_to_look.ensures)
