use Rattle.std.proofs.Common.{◌∙◌, length, ap, arith}
use Rattle.std.proofs.lemmas.Result.{IfOk-weaker}
use Rattle.bus_answers.proofs.Messages.{few_ids, ids_spelled, place_spelled}
use Rattle.bus_answers.proofs.begun.finish.Goals as goal

pub returns-in-Place-clause-bytes : goal.returns-in-Place-clause-bytes
returns-in-Place-clause-bytes c = λ mountpoint call serial is.
    let little = rw c.in-Place.is at c.requires.little in
    rw c.in-Place.is (IfOk-weaker c.with_place.result _ _ (λ bytes e. e ∙ place_spelled mountpoint call serial c.args.begun is c.in-Place.place little) c.with_place.ensures.bytes)

pub returns-in-Place-clause-room : goal.returns-in-Place-clause-room
returns-in-Place-clause-room c = λ mountpoint call serial is. c.with_place.ensures.room (omega (arith, is.room))

pub returns-in-Ids-clause-bytes : goal.returns-in-Ids-clause-bytes
returns-in-Ids-clause-bytes c = λ mountpoint call serial is.
    let little = rw c.in-Ids.is at c.requires.little in
    let told = rw c.in-Ids.is at c.requires.told in
    rw c.in-Ids.is (IfOk-weaker c.with_ids.result _ _ (λ bytes e. e ∙ ids_spelled mountpoint call serial c.args.begun is c.in-Ids.ids little told) (rw (c.as_slice.ensures, c.as_slice-in-Ids.ensures) at c.with_ids.ensures.bytes))

pub with_ids-requires-clause-short : goal.with_ids-requires-clause-short
with_ids-requires-clause-short c = rw (c.as_slice-in-Ids.ensures) ((few_ids c.args.begun.method c.in-Ids.ids (rw c.in-Ids.is at c.requires.little)).1)

pub returns-in-Ids-clause-room : goal.returns-in-Ids-clause-room
returns-in-Ids-clause-room c = λ mountpoint call serial is.
    let few = few_ids c.args.begun.method c.in-Ids.ids (rw c.in-Ids.is at c.requires.little) in
    c.with_ids.ensures.room (omega (arith, is.room, few.0, ap length c.as_slice.ensures, ap length c.as_slice-in-Ids.ensures))
