-- The numbers that the program ends with.
use Rattle.std.specs.Prelude.{ℕ}
use Rattle.script_replay.specs.declared.status.Status.{Status}
use Rattle.script_replay.specs.declared.status.Status.TheVariants.{Done, Usage, ScriptFault, ReadFault, WriteFault, Memory, TooLong}

abbrev pub number_of : Status → ℕ
number_of Done = 0
number_of Usage = 1
number_of (ScriptFault line) = 2
number_of ReadFault = 3
number_of WriteFault = 4
number_of Memory = 5
number_of TooLong = 6
