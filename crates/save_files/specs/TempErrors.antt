-- Why a temporary gets no number: the connection has as many as it may, or there is no memory or no
-- further number.
use Rattle.std.specs.Prelude.{◌<◌, ◌≤◌, length}
use Rattle.save_files.specs.Own.{Own, most_temps}
use Rattle.save_files.specs.declared.own.TempError.{TempError}
use Rattle.save_files.specs.declared.own.TempError.TheVariants.{Full, Memory}

abbrev pub Refuses : Own → TempError → Type 0
Refuses o Full = most_temps ≤ length o.temps
Refuses o Memory = length o.temps < most_temps
