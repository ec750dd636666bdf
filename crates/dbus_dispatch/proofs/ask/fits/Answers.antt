use Rattle.dbus_dispatch.proofs.ask.fits.Goals as goal

pub returns : goal.returns
returns c = c.ranges.serial.fits
