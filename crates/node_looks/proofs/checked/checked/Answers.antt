use Rattle.node_looks.proofs.Follow.{chosen, not-chosen, nothing-there, something-there}
use Rattle.node_looks.proofs.checked.checked.Goals as goal

pub returns-then-has_other_bits : goal.returns-then-has_other_bits
returns-then-has_other_bits g c = λ s l. chosen _ c.has_other_bits.result _ _ _ _ _ c.has_other_bits.ensures c.if-has_other_bits.true (c.refused.ensures _)

pub returns-in-None : goal.returns-in-None
returns-in-None g c = λ s l. not-chosen _ c.has_other_bits.result _ _ _ _ _ c.has_other_bits.ensures c.if-has_other_bits.false
    (nothing-there _ c.seen_place.result c.args.book.now c.args.who.now _ _ _ _ _ (c.seen_place.ensures.sight s l) c.in-None.is (c.refused-in-None.ensures _))

pub returns-in-Some : goal.returns-in-Some
returns-in-Some g c = λ s l. not-chosen _ c.has_other_bits.result _ _ _ _ _ c.has_other_bits.ensures c.if-has_other_bits.false
    (something-there _ c.seen_place.result c.in-Some.place c.args.book.now c.args.who.now _ _ _ _ _ (c.seen_place.ensures.sight s l) c.in-Some.is c.at_place.ensures)
