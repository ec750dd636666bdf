use Rattle.std.proofs.Common.{◌≡◌, take, map}
use Rattle.script_form.proofs.devices.kept_of.Given as goal

abbrev pub invariant-loop-document : goal.invariant-loop-document
invariant-loop-document l = l.kept ≡ map (λ d. d.kept) (take l.document-index l.documents)
