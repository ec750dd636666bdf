use Rattle.std.proofs.Common.{rules}
use Rattle.portal_start.proofs.GoodRecords.{narrow_more}
use Rattle.portal_start.proofs.opening.add_number.Goals as goal

pub returns-clause-narrow : goal.returns-clause-narrow
returns-clause-narrow c = rw (c.in_ok-push.ensures.ok) (narrow_more c.args.numbers.now c.number_of-number.result c.requires (search rules))
