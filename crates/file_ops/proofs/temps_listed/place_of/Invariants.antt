use Rattle.std.proofs.Common.{◌≡◌, take, true}
use Rattle.std.specs.List.{list_all}
use Rattle.file_ops.proofs.EntryOrder.{is_ahead}
use Rattle.file_ops.proofs.temps_listed.place_of.Given as goal

-- those so far stand ahead
abbrev pub invariant-loop-at : goal.invariant-loop-at
invariant-loop-at l = list_all (is_ahead l.name) (take l.at l.names) ≡ true
