use Rattle.dbus_message.proofs.Fronts.{bad_followed, front_alike, front_alone, front_followed, front_within}
use Rattle.dbus_message.proofs.laws.fronts_stand.Goals as goal

pub returns : goal.returns
returns c = record { within = front_within; alike = front_alike; alone = front_alone; followed = front_followed; bad = bad_followed }
