use Rattle.dbus_marshal.proofs.SpellingsMove.{spelling_moves, spellings_move}
use Rattle.dbus_marshal.proofs.laws.spellings_move.Goals as goal

pub returns-clause-one : goal.returns-clause-one
returns-clause-one c e at other v h = spelling_moves e at other v h

pub returns-clause-several : goal.returns-clause-several
returns-clause-several c e at other vs h = spellings_move e vs at other h
