use Rattle.std.proofs.Common.{◌≡◌, [], fold, take}
use Rattle.portal_model.specs.Opening.{with_grants}
use Rattle.document_records.specs.Given.{given_by}
use Rattle.document_records.proofs.granted.rights.Given as goal

abbrev pub invariant-loop-item : goal.invariant-loop-item
invariant-loop-item l = given_by l.grants ≡ fold with_grants [] (take l.item-index l.items)
