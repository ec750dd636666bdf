use Rattle.std.proofs.Common.{◌≡◌, take}
use Rattle.document_records.proofs.numbered.applications.Given as goal

abbrev pub invariant-loop-name : goal.invariant-loop-name
invariant-loop-name l = l.applications ≡ take l.name-index l.names
