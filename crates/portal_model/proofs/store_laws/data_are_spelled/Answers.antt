use Rattle.portal_model.proofs.DataLaws.{data-counted, data-free, data-spelled, datum-passes}
use Rattle.portal_model.proofs.store_laws.data_are_spelled.Goals as goal

pub returns : goal.returns
returns c = record { spelled = data-spelled; passes = datum-passes; counted = data-counted; free = data-free }
