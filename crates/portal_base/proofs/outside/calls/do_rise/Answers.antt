use Rattle.portal_base.proofs.RisingNumbers.{told_to_rise}
use Rattle.portal_base.proofs.outside.calls.do_rise.Goals as goal

pub returns : goal.returns
returns c = told_to_rise c.args.numbers.now c.as_slice.result.now c.is_sorted.result c.as_slice.ensures c.is_sorted.ensures.cases
