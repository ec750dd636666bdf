use Rattle.std.proofs.Common.{◌≡◌, take, map}
use Rattle.portal_model.specs.Opening.{id_of}
use Rattle.script_form.proofs.opening.numbers_of.Given as goal

abbrev pub invariant-loop-document : goal.invariant-loop-document
invariant-loop-document l = l.numbers ≡ map (λ d. id_of d.kept.number) (take l.document-index l.documents)
