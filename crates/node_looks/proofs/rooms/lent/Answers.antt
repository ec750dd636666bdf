use Rattle.std.proofs.Common.{◌≡◌, List, Some, length}
use Rattle.std.proofs.lemmas.List.Elements.{All-pop}
use Rattle.portal_base.specs.declared.files.Look.{Look}
use Rattle.node_looks.proofs.rooms.lent.Goals as goal

abbrev IsRoom : List Look → Type 0
IsRoom room = length room ≡ 1

pub returns-in-Some-clause-rooms : goal.returns-in-Some-clause-rooms
returns-in-Some-clause-rooms c = (All-pop IsRoom c.args.lists.now c.pop.new.self (Some c.in-Some.room) c.in-Some.ensures c.requires).0

pub returns-in-Some-clause-ok : goal.returns-in-Some-clause-ok
returns-in-Some-clause-ok c = (All-pop IsRoom c.args.lists.now c.pop.new.self (Some c.in-Some.room) c.in-Some.ensures c.requires).1
