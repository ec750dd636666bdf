use Rattle.std.proofs.Common.{◌≡◌, List, ap, get_or, set, ◌∙◌}
use Rattle.std.specs.List.{position}
use Rattle.portal_model.specs.declared.state.Connection.{Connection}
use Rattle.node_serving.specs.Numbered.{is_of, with_last}
use Rattle.node_serving.proofs.FirstChanged.{first-changed, first-missing}
use Rattle.node_serving.proofs.numbered.keep_last.Goals as goal

pub returns-in-Some-clause-numbered : goal.returns-in-Some-clause-numbered
returns-in-Some-clause-numbered c =
    let cs : List Connection = c.args.connections.now in
    let at = c.in-Some.at in
    let v = c.index_mut-connection.result.now in
    let items : c.into_vec-all.result.items ≡ cs = c.into_vec-all.ensures ∙ c.replace.ensures.value in
    (c.from_vec.ensures ∙ ap (λ (xs : List Connection). set xs at (with_last c.args.fh v)) items)
    ∙ first-changed (is_of c.args.seat) (with_last c.args.fh) cs at v (c.in-Some.ensures ∙ ap (λ (xs : List Connection). position (is_of c.args.seat) xs) c.as_slice.ensures)
    (c.index_mut-connection.ensures.value ∙ ap (λ (xs : List Connection). get_or xs at v) items)

pub returns-in_default-clause-numbered : goal.returns-in_default-clause-numbered
returns-in_default-clause-numbered c =
    first-missing (is_of c.args.seat) (with_last c.args.fh) c.args.connections.now (c.in_default.ensures ∙ ap (λ (xs : List Connection). position (is_of c.args.seat) xs) c.as_slice.ensures)
