use Rattle.std.proofs.Common.{rules}
use Rattle.turn_desk.proofs.Turns.{looks_as}
use Rattle.turn_desk.proofs.steps.look.Goals as goal

pub load-requires : goal.load-requires
load-requires g c = (search rules, search rules, looks_as g.S.Storied.opening g.S.Storied.entries _ _ _ _ c.requires.seat.0 c.requires.seat.1)
