use Rattle.std.proofs.Common.{◌≡◌, ℕ, List, sym, ap, ◌∙◌, subst}
use Rattle.session.specs.declared.answer.Due.{Due}
use Rattle.session.specs.Dues.{CanTell, due_of}
use Rattle.session.specs.Ledger.{world}
use Rattle.session.specs.Rooms.{HasRoomFor, IsLonger}
use Rattle.session.proofs.Dues.{answer_ends, answer_lacks, answer_unsaid}
use Rattle.session.proofs.FrameRoom.{act_lacks, fault_lacks, taken_due}
use Rattle.session.proofs.serve.serve_act.Goals as goal

pub answer-requires-clause-can_tell : goal.answer-requires-clause-can_tell
answer-requires-clause-can_tell g c =
    subst (λ (d : Due). CanTell d c.ask-told.result) (sym c.part-request.ensures.due) (c.ask-told.ensures.fits c.args.client.now c.args.act c.requires.answers (sym c.part-request.ensures.request))

pub answer-requires-clause-taken : goal.answer-requires-clause-taken
answer-requires-clause-taken g c =
    subst (λ (d : Due). HasRoomFor c.args.client.now c.args.serial d c.args.room.now) (sym c.part-request.ensures.due) (taken_due c.args.client.now c.args.serial c.args.act c.args.room.now c.requires.taken)

pub returns-in-Ok-clause-ends : goal.returns-in-Ok-clause-ends
returns-in-Ok-clause-ends g c =
    let f = c.send_each-sent in
    answer_ends c.args.client.now c.args.act c.args.serial c.part-request.result.request c.part-request.result.due c.ask-told.result (g.D.Desk.seated c.args.desk.now) (g.D.Desk.seated c.ask-told.new.desk) c.part-request.ensures.request c.part-request.ensures.due c.ask-told.ensures.became
    (g.K.Sink.told c.args.sink.now) (g.K.Sink.told f.new.sink) (g.K.Sink.faults c.args.sink.now) (g.K.Sink.faults f.new.sink) f.result c.in-Ok.speech.pieces c.in-Ok.speech.serial c.in-Ok.ensures.pieces c.in-Ok.ensures.serial (rw c.as_slice.ensures at f.ensures.sends) f.ensures.last

pub returns-in-Err-clause-ends : goal.returns-in-Err-clause-ends
returns-in-Err-clause-ends g c =
    answer_unsaid c.args.client.now c.args.act c.args.serial c.part-request.result.request c.part-request.result.due c.ask-told.result (g.D.Desk.seated c.args.desk.now) (g.D.Desk.seated c.ask-told.new.desk) c.part-request.ensures.request c.part-request.ensures.due c.ask-told.ensures.became
    (g.K.Sink.told c.args.sink.now) (g.K.Sink.faults c.args.sink.now)

-- a write failed
pub returns-in-Ok-clause-lacks : goal.returns-in-Ok-clause-lacks
returns-in-Ok-clause-lacks g c =
    let f = c.send_each-sent in
    fault_lacks c.args.client.now c.args.act c.args.serial (world (g.D.Desk.seated c.args.desk.now) (g.K.Sink.told c.args.sink.now) (g.K.Sink.faults c.args.sink.now))
    (world (g.D.Desk.seated c.ask-told.new.desk) (g.K.Sink.told f.new.sink) (g.K.Sink.faults f.new.sink)) f.result f.ensures.fault

-- there was no memory for the answer, though the room was taken
pub returns-in-Err-clause-lacks : goal.returns-in-Err-clause-lacks
returns-in-Err-clause-lacks g c =
    let told = c.ask-told.result in
    let became = c.ask-told.ensures.became in
    let can : CanTell (due_of c.args.act) told = c.ask-told.ensures.fits c.args.client.now c.args.act c.requires.answers (sym c.part-request.ensures.request) in
    let longer : IsLonger (due_of c.args.act) told = subst (λ (d : Due). IsLonger d told) c.part-request.ensures.due c.in-Err.ensures.lacks in
    answer_lacks c.args.client.now c.args.act c.args.serial c.part-request.result.request c.part-request.result.due told (g.D.Desk.seated c.args.desk.now) (g.D.Desk.seated c.ask-told.new.desk) c.part-request.ensures.request c.part-request.ensures.due became
    (g.K.Sink.told c.args.sink.now) (g.K.Sink.faults c.args.sink.now)
    (act_lacks c.args.act told became.outcomes became.told_is longer can.little (c.ask-told.ensures.short c.args.act (sym c.part-request.ensures.request)))
