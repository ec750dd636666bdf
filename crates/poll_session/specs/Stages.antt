-- The stages of a poll: Enter, the items, Leave.
use Rattle.std.specs.Prelude.{◌≡◌, Bool, ⊤}
use Rattle.futures.specs.declared.task.Poll.{Poll}
use Rattle.futures.specs.declared.task.Poll.TheVariants as poll
use Rattle.session.specs.declared.served.Served.{Served}
use Rattle.poll_laws.specs.declared.course.Turn.{Turn}
use Rattle.poll_laws.specs.declared.course.Turn.TheVariants as turn
use Rattle.poll_laws.specs.Courses.{Sight, Standing, met_by}
use Rattle.poll_laws.specs.Polls.{Deeds, InOrder, Meets, Runs, Waits}

-- Behind a stage the session is where that stage or an earlier one is due only for this reason.
abbrev pub OwesAfterEnter : Turn → Type 0 → Type 0
OwesAfterEnter turn.Enter reason = reason
OwesAfterEnter turn.Serve reason = ⊤
OwesAfterEnter (turn.Leave e) reason = ⊤
OwesAfterEnter (turn.Over e) reason = ⊤

abbrev pub OwesAfterItems : Turn → Type 0 → Type 0
OwesAfterItems turn.Enter reason = reason
OwesAfterItems turn.Serve reason = reason
OwesAfterItems (turn.Leave e) reason = ⊤
OwesAfterItems (turn.Over e) reason = ⊤

abbrev pub OwesAfterLeave : Turn → Type 0 → Type 0
OwesAfterLeave turn.Enter reason = reason
OwesAfterLeave turn.Serve reason = reason
OwesAfterLeave (turn.Leave e) reason = reason
OwesAfterLeave (turn.Over e) reason = ⊤

-- what a poll did so far, and whether it yields
pub record SoFar (owes : Turn → Type 0 → Type 0) (s : Standing) (v : Sight) (t : Standing)
    (w : Sight) (yields : Bool) : Type 0 where
  pub deeds : Deeds
  pub runs : Runs s v deeds t w
  pub order : InOrder s v deeds t w
  pub meets : Meets (met_by s.turn) (met_by t.turn) t v w deeds.passed deeds.came
  pub waits : owes t.turn (Waits v w t deeds.read yields)

abbrev pub AfterEnter : Standing → Sight → Standing → Sight → Bool → Type 0
AfterEnter s v t w yields = SoFar OwesAfterEnter s v t w yields

abbrev pub AfterItems : Standing → Sight → Standing → Sight → Bool → Type 0
AfterItems s v t w yields = SoFar OwesAfterItems s v t w yields

abbrev pub AfterLeave : Standing → Sight → Standing → Sight → Bool → Type 0
AfterLeave s v t w yields = SoFar OwesAfterLeave s v t w yields

-- once the connection is over its ending is answered, and till then nothing
abbrev pub IsAnswer : Poll Served → Turn → Type 0
IsAnswer (poll.Ready ending) after = after ≡ turn.Over ending
IsAnswer poll.Pending after = (e : Served) → after ≡ turn.Over e → ⊥
