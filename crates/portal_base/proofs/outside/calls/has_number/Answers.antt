use Rattle.std.proofs.Common.{◌∙◌}
use Rattle.portal_base.proofs.RisingNumbers.{found_among}
use Rattle.portal_base.proofs.outside.calls.has_number.Goals as goal

pub returns-then-rising : goal.returns-then-rising
returns-then-rising c =
    c.is_ok.ensures.value
    ∙ found_among c.args.numbers.now c.as_slice.result.now c.args.number c.binary_search.result c.as_slice.ensures (c.requires c.if-rising.true) c.binary_search.ensures.position
