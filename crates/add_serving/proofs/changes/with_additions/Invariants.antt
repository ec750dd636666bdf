use Rattle.std.proofs.Common.{◌≡◌, ◌++◌, take}
use Rattle.std.specs.List.{flat_map}
use Rattle.add_serving.specs.Changes.{addition}
use Rattle.add_serving.proofs.changes.with_additions.Given as goal

-- the changes of the new documents so far, behind the others
abbrev pub invariant-loop-document : goal.invariant-loop-document
invariant-loop-document l = l.changes ≡ l.fn.regrants ++ flat_map (addition l.grants) (take l.document-index l.new)
