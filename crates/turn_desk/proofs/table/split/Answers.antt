use Rattle.std.proofs.Common.{rules}
use Rattle.turn_desk.proofs.Turns.{splits}
use Rattle.turn_desk.proofs.table.split.Goals as goal

pub split_seat-requires : goal.split_seat-requires
split_seat-requires g c = let s = c.requires.seat in (search rules, search rules, splits g.S.Storied.opening g.S.Storied.entries _ _ _ s.2 s.1.free s.1.alone s.3)
