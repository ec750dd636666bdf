use Rattle.dbus_message.proofs.WrittenAreMessages.{is_written, is_message}
use Rattle.dbus_message.proofs.write.write_message.Goals as goal

pub returns-in-Return : goal.returns-in-Return
returns-in-Return c = record {
  written = is_written _ c.args.message.now c.args.serial c.requires c.write_with.ensures;
  one = c.write_with.ensures;
  message = is_message _ c.args.message.now c.args.serial c.ranges.serial.fits c.requires c.write_with.ensures;
}

pub returns-in-Signal : goal.returns-in-Signal
returns-in-Signal c = record {
  written = is_written _ c.args.message.now c.args.serial c.requires c.write_with-in-Signal.ensures;
  one = c.write_with-in-Signal.ensures;
  message = is_message _ c.args.message.now c.args.serial c.ranges.serial.fits c.requires c.write_with-in-Signal.ensures;
}

pub returns-in_ok-push-in-Error : goal.returns-in_ok-push-in-Error
returns-in_ok-push-in-Error c = record {
  written = is_written _ c.args.message.now c.args.serial c.requires c.write_with-in-Error.ensures;
  one = c.write_with-in-Error.ensures;
  message = is_message _ c.args.message.now c.args.serial c.ranges.serial.fits c.requires c.write_with-in-Error.ensures;
}
