use Rattle.std.proofs.Common.{◌≡◌, Some, take}
use Rattle.file_ops.specs.SeatTemps.{HeldTemps, temps_on}
use Rattle.file_ops.proofs.EntryOrder.{entries_in}
use Rattle.file_ops.proofs.temps_listed.entries_of.Given as goal

-- the entries of the temporaries so far
abbrev pub invariant-loop-place : goal.invariant-loop-place
invariant-loop-place l = (has : HeldTemps) → temps_on l.temps.seats l.seat ≡ Some has → l.entries ≡ entries_in l.view l.document (take l.place has.temps)
