use Rattle.std.proofs.Common.{ℕ, List, ◌≤◌, length, take, sym, ap, ◌∙◌, subst, arith}
use Rattle.session.specs.Cuts.{Cuts, no_item, whole_item}
use Rattle.session.proofs.NextCut.{nothing_cut, whole_alone, whole_within}
use Rattle.session.proofs.ServeItems.{remains_cut}
use Rattle.poll_laws.specs.Courses.{standing}
use Rattle.poll_steps.proofs.Asking.{read_asked, read_breaks, read_lacks, stops_here}
use Rattle.poll_steps.proofs.ask.ask_next.Goals as goal

pub next_cut-requires : goal.next_cut-requires
next_cut-requires g c = record { within = omega arith; too_few = nothing_cut c.args.course.now.stage.phase }

pub returns-in-Err-clause-asks : goal.returns-in-Err-clause-asks
returns-in-Err-clause-asks g c l r o k =
    let is = subst (λ (b : List ℕ). Cuts c.args.course.now.stage.phase b (no_item c.in-Err.stop)) c.as_slice.ensures c.in-Err.ensures in
    stops_here (standing c.args.course.now) c.requires.serves c.requires.sent (g.D.TryDesk.seated c.args.desk.now) (g.D.TryDesk.busy c.args.desk.now) l r o k c.stopped.result c.in-Err.stop (standing c.stopped.new.course) c.stopped.ensures
    (remains_cut c.args.course.now.client c.args.course.now.stage.phase c.args.course.now.left.items c.in-Err.stop is)

pub front-item-requires : goal.front-item-requires
front-item-requires g c =
    let p = c.args.course.now.stage.phase in
    let cuts = subst (λ (b : List ℕ). Cuts p b (whole_item c.in-Ok.len)) c.as_slice.ensures c.in-Ok.ensures in
    let within = whole_within p c.args.course.now.left.items c.in-Ok.len cuts in
    subst (λ (b : List ℕ). c.in-Ok.len ≤ length b) (sym c.as_slice-2.ensures) within.1

pub read_item-requires : goal.read_item-requires
read_item-requires g c =
    let p = c.args.course.now.stage.phase in
    let cuts = subst (λ (b : List ℕ). Cuts p b (whole_item c.in-Ok.len)) c.as_slice.ensures c.in-Ok.ensures in
    subst (λ (b : List ℕ). Cuts p b (whole_item (length b))) (sym (c.front-item.ensures ∙ ap (take c.in-Ok.len) c.as_slice-2.ensures)) (whole_alone p c.args.course.now.left.items c.in-Ok.len cuts)

pub ask_act-requires-clause-within : goal.ask_act-requires-clause-within
ask_act-requires-clause-within g c =
    let p = c.args.course.now.stage.phase in
    let cuts = subst (λ (b : List ℕ). Cuts p b (whole_item c.in-Ok.len)) c.as_slice.ensures c.in-Ok.ensures in
    (whole_within p c.args.course.now.left.items c.in-Ok.len cuts).1

pub returns-in-Ok-read_item-clause-asks : goal.returns-in-Ok-read_item-clause-asks
returns-in-Ok-read_item-clause-asks g c l r o k =
    let cuts = subst (λ (b : List ℕ). Cuts c.args.course.now.stage.phase b (whole_item c.in-Ok.len)) c.as_slice.ensures c.in-Ok.ensures in
    read_asked (standing c.args.course.now) c.requires.serves c.requires.sent (g.D.TryDesk.seated c.args.desk.now) (g.D.TryDesk.busy c.args.desk.now) l r o k c.in-Ok.len c.front-item.result.now cuts (c.front-item.ensures ∙ ap (take c.in-Ok.len) c.as_slice-2.ensures) c.read_item.new.phase
    c.in-Ok-read_item.act c.in-Ok-read_item.ensures.means c.in-Ok-read_item.ensures.moves c.ask_act.result (standing c.ask_act.new.course) (g.D.TryDesk.seated c.ask_act.new.desk) (g.D.TryDesk.busy c.ask_act.new.desk) c.ask_act.ensures.asks

pub returns-in-Err-Breaks-clause-asks : goal.returns-in-Err-Breaks-clause-asks
returns-in-Err-Breaks-clause-asks g c l r o k =
    let cuts = subst (λ (b : List ℕ). Cuts c.args.course.now.stage.phase b (whole_item c.in-Ok.len)) c.as_slice.ensures c.in-Ok.ensures in
    read_breaks (standing c.args.course.now) c.requires.serves c.requires.sent (g.D.TryDesk.seated c.args.desk.now) (g.D.TryDesk.busy c.args.desk.now) l r o k c.in-Ok.len c.front-item.result.now cuts (c.front-item.ensures ∙ ap (take c.in-Ok.len) c.as_slice-2.ensures) c.read_item.new.phase
    c.in-Err-Breaks.rule (rw c.in-Err-Breaks.field-0-is at c.in-Err-Breaks.ensures.means) c.in-Err-Breaks.ensures.stays c.stopped-in-Err-Breaks.result (standing c.stopped-in-Err-Breaks.new.course) (rw c.in-Err-Breaks.rule-is at c.stopped-in-Err-Breaks.ensures)

pub returns-in-Err-Memory-clause-asks : goal.returns-in-Err-Memory-clause-asks
returns-in-Err-Memory-clause-asks g c l r o k =
    let cuts = subst (λ (b : List ℕ). Cuts c.args.course.now.stage.phase b (whole_item c.in-Ok.len)) c.as_slice.ensures c.in-Ok.ensures in
    read_lacks (standing c.args.course.now) c.requires.serves c.requires.sent (g.D.TryDesk.seated c.args.desk.now) (g.D.TryDesk.busy c.args.desk.now) l r o k c.in-Ok.len c.front-item.result.now cuts (c.front-item.ensures ∙ ap (take c.in-Ok.len) c.as_slice-2.ensures) c.read_item.new.phase
    c.in-Err-Memory.ensures.stays (standing c.meet.new.course) c.meet.ensures
