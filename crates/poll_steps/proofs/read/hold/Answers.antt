use Rattle.std.proofs.Common.{inl, inr, ℕ, List, refl, ap, ◌∙◌, arith}
use Rattle.session.specs.declared.served.Served.TheVariants as served
use Rattle.poll_laws.specs.declared.course.Turn.TheVariants as turn
use Rattle.poll_laws.specs.Courses.{standing}
use Rattle.poll_steps.specs.Steps.{turned}
use Rattle.poll_steps.proofs.read.hold.Goals as goal

pub returns-then-piece-room : goal.returns-then-piece-room
returns-then-piece-room c = inr (omega (arith, c.if-piece-room.true, c.len.ensures.value, c.args.course.now.within), c.meet.ensures)

pub returns-in-Ok : goal.returns-in-Ok
returns-in-Ok c = (
  refl,
  ap (λ (z : List ℕ). record (standing c.args.course.now) { left = z }) c.in-Ok.ensures.ok,
  omega (arith, c.if-piece-room.false, c.len.ensures.value, c.args.course.now.within),
)

pub returns-in-Err : goal.returns-in-Err
returns-in-Err c = inl (c.meet-in-Err.ensures ∙ ap (λ (z : List ℕ). turned (record (standing c.args.course.now) { left = z }) (turn.Leave served.Memory)) c.in-Err.ensures.err)
