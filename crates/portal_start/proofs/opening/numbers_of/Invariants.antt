use Rattle.std.proofs.Common.{◌≡◌, take, map, true}
use Rattle.std.specs.List.{list_all}
use Rattle.portal_model.specs.Opening.{id_of}
use Rattle.portal_model.specs.declared.records.DocRecord.{DocRecord}
use Rattle.portal_start.specs.Loading.{is_narrow}
use Rattle.portal_start.proofs.opening.numbers_of.Given as goal

abbrev pub invariant-loop-item : goal.invariant-loop-item
invariant-loop-item l = (l.numbers ≡ map (λ (d : DocRecord). id_of d.number) (take l.item-index l.items)) × (list_all is_narrow l.numbers ≡ true)
