use Rattle.std.proofs.Common.{◌≡◌, fold, take}
use Rattle.portal_model.specs.Opening.{with_grant}
use Rattle.document_records.specs.Given.{given_by}
use Rattle.document_records.proofs.granted.add_grants.Given as goal

abbrev pub invariant-loop-grant : goal.invariant-loop-grant
invariant-loop-grant l = given_by l.grants ≡ fold (with_grant l.item.kept.number) (given_by l.initial.grants) (take l.grant-index l.grant-items)
