use Rattle.std.proofs.Common.{◌≡◌, map, take}
use Rattle.portal_start.specs.Renewed.{document_again}
use Rattle.portal_start.proofs.renewed.documents_again.Given as goal

abbrev pub invariant-loop-document : goal.invariant-loop-document
invariant-loop-document l = l.again ≡ map (document_again l.rights) (take l.document-index l.documents)
