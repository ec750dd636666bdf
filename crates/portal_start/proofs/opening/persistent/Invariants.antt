use Rattle.std.proofs.Common.{◌≡◌, ◌++◌, map}
use Rattle.std.specs.Vec.Iter.{into_iter_items}
use Rattle.portal_start.specs.Loading.{document_loaded}
use Rattle.portal_start.proofs.opening.persistent.Given as goal

abbrev pub invariant-loop-kept : goal.invariant-loop-kept
invariant-loop-kept l = l.documents.items ++ map document_loaded (into_iter_items l.kept-iterator) ≡ map document_loaded (into_iter_items l.initial.kept-iterator)
