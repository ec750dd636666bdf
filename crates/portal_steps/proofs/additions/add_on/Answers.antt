use Rattle.std.proofs.Common.{◌≡◌, List, ap, get_or, set, ◌∙◌}
use Rattle.std.specs.List.{position}
use Rattle.portal_model.specs.declared.state.Connection.{Connection}
use Rattle.portal_steps.proofs.AddedFiles.{add-draws, add-serves}
use Rattle.portal_steps.proofs.SeatQueues.{absent-bus, has_seat, queued_so, queues-set}
use Rattle.portal_steps.proofs.Boxes.{same-queues}
use Rattle.store_serving.specs.Waiting.{silent}
use Rattle.portal_steps.proofs.additions.add_on.Goals as goal

pub returns-in_default-clause-ok : goal.returns-in_default-clause-ok
returns-in_default-clause-ok g c = λ s d v l f here.
    absurd (absent-bus c.args.seat c.args.connections.now (silent d) (c.in_default.ensures ∙ ap (λ (xs : List Connection). position (has_seat c.args.seat) xs) c.as_slice.ensures) here)

pub returns-in_default-clause-queues : goal.returns-in_default-clause-queues
returns-in_default-clause-queues g c = same-queues c.args.connections.now

pub returns-clause-queues : goal.returns-clause-queues
returns-clause-queues g c =
    let cs : List Connection = c.args.connections.now in
    let at = c.in-Some.at in
    let v = c.index_mut-connection.result.now in
    let queue = c.add-served.new.queue in
    let items : c.into_vec-all.result.items ≡ cs = c.into_vec-all.ensures ∙ c.replace.ensures.value in
    queues-set at queue cs c.from_vec.result v (c.index_mut-connection.ensures.value ∙ ap (λ (xs : List Connection). get_or xs at v) items)
    (c.from_vec.ensures ∙ ap (λ (xs : List Connection). set xs at (queued_so queue v)) items)

pub returns-clause-ok : goal.returns-clause-ok
returns-clause-ok g c =
    let cs : List Connection = c.args.connections.now in
    let at = c.in-Some.at in
    let v = c.index_mut-connection.result.now in
    let after = c.add-served.new in
    let items : c.into_vec-all.result.items ≡ cs = c.into_vec-all.ensures ∙ c.replace.ensures.value in
    add-serves c.args.documents.now c.args.rights.now c.args.applications.now cs (g.T.HostTree.is c.args.tree.now).told c.args.seat at v (c.in-Some.ensures ∙ ap (λ (xs : List Connection). position (has_seat c.args.seat) xs) c.as_slice.ensures)
    (c.index_mut-connection.ensures.value ∙ ap (λ (xs : List Connection). get_or xs at v) items)
    c.args.request.now after.documents after.grants after.applications after.queue c.from_vec.result (c.from_vec.ensures ∙ ap (λ (xs : List Connection). set xs at (queued_so after.queue v)) items)
    (g.K.Keeper.is c.args.keeper.now) (g.K.Keeper.is after.keeper) c.add-served.result c.add-served.ensures.ok

pub returns-clause-made : goal.returns-clause-made
returns-clause-made g c =
    let cs : List Connection = c.args.connections.now in
    let v = c.index_mut-connection.result.now in
    let items : c.into_vec-all.result.items ≡ cs = c.into_vec-all.ensures ∙ c.replace.ensures.value in
    add-draws c.args.documents.now c.args.rights.now c.args.applications.now cs (g.T.HostTree.is c.args.tree.now).told c.args.seat c.in-Some.at v (c.in-Some.ensures ∙ ap (λ (xs : List Connection). position (has_seat c.args.seat) xs) c.as_slice.ensures)
    (c.index_mut-connection.ensures.value ∙ ap (λ (xs : List Connection). get_or xs c.in-Some.at v) items)
    c.args.request.now (g.W.Words.told c.args.words.now) (g.W.Words.told c.add-served.new.words) c.add-served.result c.add-served.ensures.made
