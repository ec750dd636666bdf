use Rattle.std.proofs.Common.{rules}
use Rattle.turn_desk.proofs.Turns.{joins}
use Rattle.turn_desk.proofs.table.join.Goals as goal

pub join_seat-requires : goal.join_seat-requires
join_seat-requires g c = let s = c.requires.seat in let o = c.requires.other in (search rules, search rules, o.0, search rules, joins g.S.Storied.opening g.S.Storied.entries _ _ _ _ _ s.1 s.2 o.1 o.2)
