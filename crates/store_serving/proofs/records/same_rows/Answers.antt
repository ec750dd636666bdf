use Rattle.std.proofs.Common.{rules, tests}
use Rattle.std.proofs.lemmas.Iterator.{YieldsList-from_slice, YieldsList-from_zip}
use Rattle.std.proofs.lemmas.Iterator.Search.{all_from_yields_List}
use Rattle.store_serving.specs.Records.{same_pair}
use Rattle.store_serving.proofs.SameRows.{pairs-same}
use Rattle.store_serving.proofs.records.same_rows.Goals as goal

pub returns-then-rows-others : goal.returns-then-rows-others
returns-then-rows-others c =
    let rows = c.args.rows.now in
    let others = c.args.others.now in
    pairs-same rows others c.all.result c.if-rows-others.true
    (all_from_yields_List same_pair c.all.new.self _ c.all.result c.all.ensures.ran (YieldsList-from_zip (YieldsList-from_slice rows cc) (YieldsList-from_slice others cc)) (λ x b q k. search (rules, tests)))
