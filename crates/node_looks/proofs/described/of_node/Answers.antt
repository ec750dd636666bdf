use Rattle.node_looks.proofs.Follow.{nothing-there, something-there}
use Rattle.node_looks.proofs.described.of_node.Goals as goal

pub returns-in-None : goal.returns-in-None
returns-in-None g c = λ s l. nothing-there _ c.seen_place.result c.args.book.now c.args.who.now _ _ _ _ _ (c.seen_place.ensures.sight s l) c.in-None.is (c.refused.ensures _)

pub returns-in-Some : goal.returns-in-Some
returns-in-Some g c = λ s l. something-there _ c.seen_place.result c.in-Some.place c.args.book.now c.args.who.now _ _ _ _ _ (c.seen_place.ensures.sight s l) c.in-Some.is c.at_place.ensures
