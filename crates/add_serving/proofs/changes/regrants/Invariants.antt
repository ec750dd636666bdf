use Rattle.std.proofs.Common.{◌≡◌, take}
use Rattle.std.specs.List.{flat_map}
use Rattle.add_serving.specs.Changes.{regrant}
use Rattle.add_serving.proofs.changes.regrants.Given as goal

-- the changes of the documents so far
abbrev pub invariant-loop-id : goal.invariant-loop-id
invariant-loop-id l = l.changes ≡ flat_map (regrant l.documents l.grants) (take l.id-index l.used)
