use Rattle.session.proofs.RoomIsEnough.{room_enough}
use Rattle.session.proofs.laws.room_is_enough.Goals as goal

pub returns : goal.returns
returns c = room_enough
