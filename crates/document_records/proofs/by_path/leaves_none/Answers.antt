use Rattle.std.proofs.Common.{rules, ap, sym}
use Rattle.document_records.specs.DocumentIndex.{ids_or_none, other_ids}
use Rattle.document_records.proofs.DocumentsByPath.{changed}
use Rattle.document_records.proofs.by_path.leaves_none.Goals as goal

pub returns-in-Some-clause-others : goal.returns-in-Some-clause-others
returns-in-Some-clause-others c =
    changed c.args.path.now c.args.by_path.now (c.get_mut.follows.lender c.take_id.new.ids)
    (other_ids c.args.id.number) c.in-Some.ids.now c.take_id.new.ids
    (sym (ap ids_or_none c.in-Some.ensures.value)) c.take_id.ensures
    ((c.get_mut.follows.holds c.take_id.new.ids).3 (search rules))
