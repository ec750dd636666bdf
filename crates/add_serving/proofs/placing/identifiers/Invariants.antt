use Rattle.std.proofs.Common.{◌≡◌, map, take}
use Rattle.add_files.specs.Plans.{id_told}
use Rattle.add_serving.proofs.placing.identifiers.Given as goal

-- the identifiers of the files so far
abbrev pub invariant-loop-id : goal.invariant-loop-id
invariant-loop-id l = l.ids ≡ map id_told (take l.id-index l.used)
