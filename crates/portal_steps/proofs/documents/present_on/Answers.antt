use Rattle.std.proofs.Common.{◌≡◌, List, ap, get_or, set, ◌∙◌}
use Rattle.std.specs.List.{position}
use Rattle.portal_model.specs.declared.state.Connection.{Connection}
use Rattle.portal_steps.proofs.SeatQueues.{absent-bus, has_seat, queue-serves, queued_so, queues-set}
use Rattle.portal_steps.proofs.Boxes.{same-queues}
use Rattle.store_serving.specs.Waiting.{silent}
use Rattle.portal_steps.proofs.documents.present_on.Goals as goal

pub returns-in_default-clause-ok : goal.returns-in_default-clause-ok
returns-in_default-clause-ok c = λ s d v connected limit here.
    absurd (absent-bus c.args.seat c.args.connections.now (silent d) (c.in_default.ensures ∙ ap (λ (xs : List Connection). position (has_seat c.args.seat) xs) c.as_slice.ensures) here)

pub returns-in_default-clause-queues : goal.returns-in_default-clause-queues
returns-in_default-clause-queues c = same-queues c.args.connections.now

pub returns-clause-queues : goal.returns-clause-queues
returns-clause-queues c =
    let cs : List Connection = c.args.connections.now in
    let at = c.in-Some.at in
    let v = c.index_mut-connection.result.now in
    let queue = c.present-served.new.queue in
    let items : c.into_vec-all.result.items ≡ cs = c.into_vec-all.ensures ∙ c.replace.ensures.value in
    queues-set at queue cs c.from_vec.result v (c.index_mut-connection.ensures.value ∙ ap (λ (xs : List Connection). get_or xs at v) items)
    (c.from_vec.ensures ∙ ap (λ (xs : List Connection). set xs at (queued_so queue v)) items)

pub returns-clause-ok : goal.returns-clause-ok
returns-clause-ok c =
    let cs : List Connection = c.args.connections.now in
    let at = c.in-Some.at in
    let v = c.index_mut-connection.result.now in
    let queue = c.present-served.new.queue in
    let items : c.into_vec-all.result.items ≡ cs = c.into_vec-all.ensures ∙ c.replace.ensures.value in
    queue-serves c.args.seat cs at v (c.in-Some.ensures ∙ ap (λ (xs : List Connection). position (has_seat c.args.seat) xs) c.as_slice.ensures)
    (c.index_mut-connection.ensures.value ∙ ap (λ (xs : List Connection). get_or xs at v) items)
    c.args.queued c.args.path.now queue c.from_vec.result (c.from_vec.ensures ∙ ap (λ (xs : List Connection). set xs at (queued_so queue v)) items)
    c.present-served.result c.present-served.ensures.ok
