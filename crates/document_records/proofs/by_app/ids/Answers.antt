use Rattle.std.proofs.Common.{◌≡◌, map, rules, ◌∙◌}
use Rattle.std.specs.Prelude.{IfOk}
use Rattle.std.proofs.lemmas.Iterator.{YieldsList-from_map, items_from_collect}
use Rattle.std.proofs.lemmas.Iterator.Consumers.{YieldsList-from_rest}
use Rattle.portal_model.specs.Opening.{id_of}
use Rattle.document_records.proofs.by_app.ids.Goals as goal

pub returns-clause-ids : goal.returns-clause-ids
returns-clause-ids c =
    let made : IfOk c.collect.result (λ ids. ids.items ≡ map id_of c.args.numbers.now.keys) =
    items_from_collect c.collect.result c.collect.ensures.ran
    (YieldsList-from_map _ id_of
    (YieldsList-from_rest c.args.numbers.now.keys (c.map.ensures.source ∙ c.iter.ensures.rest))
    c.map.ensures.closure (λ x r q k. search rules)) in
    c.from_vec.ensures ∙ (rw c.in_ok-ids.was at made)
