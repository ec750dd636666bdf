use Rattle.std.proofs.Common.{refl, subst, Option}
use Rattle.node_looks.specs.OwnFiles.{IsFoundAt}
use Rattle.node_looks.specs.declared.sight.SeenPlace.{SeenPlace}
use Rattle.node_looks.proofs.Follow.{chosen, not-chosen, nothing-there, something-there}
use Rattle.node_looks.proofs.entry.found.Goals as goal

pub returns-then-is_too_long : goal.returns-then-is_too_long
returns-then-is_too_long g c = λ ns ts h f. chosen _ c.is_too_long.result _ _ _ _ _ c.is_too_long.ensures c.if-is_too_long.true (c.refused.ensures _)

pub returns-in-None : goal.returns-in-None
returns-in-None g c = λ ns ts h f. not-chosen _ c.is_too_long.result _ _ _ _ _ c.is_too_long.ensures c.if-is_too_long.false
    (nothing-there _ c.args.place c.args.book.now c.args.who.now _ _ _ _ _ refl c.in-None.is (c.refused-in-None.ensures _))

pub returns-in-Some : goal.returns-in-Some
returns-in-Some g c = λ ns ts h f. not-chosen _ c.is_too_long.result _ _ _ _ _ c.is_too_long.ensures c.if-is_too_long.false
    (something-there _ c.args.place c.in-Some.place c.args.book.now c.args.who.now _ _ _ _ _ refl c.in-Some.is
    (c.in_place.ensures ns ts h (subst (λ (p : Option SeenPlace). IsFoundAt p c.args.own c.args.name.now ts) c.in-Some.is f)))
