use Rattle.std.proofs.Common.{refl, sym, ap, ◌∙◌, subst}
use Rattle.session.specs.declared.answer.Due.{Due}
use Rattle.session.specs.Dues.{CanTell}
use Rattle.session.specs.Rooms.{IsTakenFor}
use Rattle.poll_steps.specs.declared.ask.Next.TheVariants as next
use Rattle.poll_laws.specs.Courses.{Standing, standing}
use Rattle.poll_steps.specs.Steps.{ActIs}
use Rattle.poll_steps.proofs.Acting.{act_asked, act_busy, act_unasked, act_unsaid, may_lack, taken_for}
use Rattle.poll_steps.proofs.ask.ask_act.Goals as goal

pub returns-then-not-take_room-clause-asks : goal.returns-then-not-take_room-clause-asks
returns-then-not-take_room-clause-asks g c =
    act_unasked c.args.act c.args.len (standing c.args.course.now) (standing c.take_room.new.course) (standing c.meet.new.course) (g.D.TryDesk.seated c.args.desk.now) (g.D.TryDesk.busy c.args.desk.now) (c.take_room.ensures.needs c.if-not-take_room.true) c.take_room.ensures.same c.meet.ensures

pub returns-in_default-clause-asks : goal.returns-in_default-clause-asks
returns-in_default-clause-asks g c =
    act_busy c.args.act c.args.len c.part-request.result.request (standing c.args.course.now) (standing c.take_room.new.course) (g.D.TryDesk.seated c.args.desk.now) (g.D.TryDesk.seated c.try_ask.new.desk) (g.D.TryDesk.busy c.args.desk.now) (g.D.TryDesk.busy c.try_ask.new.desk) c.part-request.ensures.request c.in_default.ensures.put_off c.take_room.ensures.same

pub say-requires-clause-sent : goal.say-requires-clause-sent
say-requires-clause-sent g c = ap (λ (z : Standing). z.unsent) c.take_room.ensures.same ∙ c.requires.sent

pub say-requires-clause-can_tell : goal.say-requires-clause-can_tell
say-requires-clause-can_tell g c =
    subst (λ (d : Due). CanTell d c.in-Some.told) (sym c.part-request.ensures.due) (c.in-Some.ensures.fits c.args.course.now.client c.args.act c.requires.may_answer (sym c.part-request.ensures.request))

pub returns-then-say-clause-asks : goal.returns-then-say-clause-asks
returns-then-say-clause-asks g c =
    let became = c.in-Some.ensures.became in
    let same = c.take_room.ensures.same in
    let a = g.D.TryDesk.seated c.args.desk.now in
    let b = g.D.TryDesk.seated c.try_ask.new.desk in
    let n = g.D.TryDesk.busy c.args.desk.now in
    let m = g.D.TryDesk.busy c.try_ask.new.desk in
    subst (λ (z : Standing). ActIs next.Asked c.args.act c.args.len z a n (standing c.say.new.course) b m) same
    (act_asked c.args.act c.args.len c.part-request.result.request c.part-request.result.due c.in-Some.told (standing c.take_room.new.course) a b n m _ _ c.part-request.ensures.request c.part-request.ensures.due became.0 became.1 c.advance.ensures.items refl (standing c.say.new.course) (ap (λ (z : Standing). z.turn) same ∙ c.requires.serves) c.say.ensures.still (rw c.if-say.true at c.say.ensures.says))

pub say-requires-clause-taken : goal.say-requires-clause-taken
say-requires-clause-taken g c =
    let same = c.take_room.ensures.same in
    let taken = c.take_room.ensures.taken c.if-not-take_room.false in
    taken_for c.take_room.new.course.client c.take_room.new.course.stage.serial c.args.act c.part-request.result.due c.take_room.new.course.room c.part-request.ensures.due
    (subst (λ (z : Standing). IsTakenFor z.client z.stage.serial c.args.act c.take_room.new.course.room) (sym same) taken)

pub returns-clause-asks : goal.returns-clause-asks
returns-clause-asks g c =
    let became = c.in-Some.ensures.became in
    let same = c.take_room.ensures.same in
    let a = g.D.TryDesk.seated c.args.desk.now in
    let b = g.D.TryDesk.seated c.try_ask.new.desk in
    let n = g.D.TryDesk.busy c.args.desk.now in
    let m = g.D.TryDesk.busy c.try_ask.new.desk in
    let can = c.in-Some.ensures.fits c.args.course.now.client c.args.act c.requires.may_answer (sym c.part-request.ensures.request) in
    subst (λ (z : Standing). ActIs next.Met c.args.act c.args.len z a n (standing c.meet-2.new.course) b m) same
    (act_unsaid c.args.act c.args.len c.part-request.result.request c.part-request.result.due c.in-Some.told (standing c.take_room.new.course) a b n m _ _ c.part-request.ensures.request c.part-request.ensures.due became.0 became.1 c.advance.ensures.items refl (standing c.say.new.course) (standing c.meet-2.new.course) c.say.ensures.still c.meet-2.ensures
    (may_lack c.args.act c.part-request.result.due c.in-Some.told _ a b c.part-request.ensures.due became.0 (c.say.ensures.lacks c.if-say.false) can (c.in-Some.ensures.short c.args.act (sym c.part-request.ensures.request))))
