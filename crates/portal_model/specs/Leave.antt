-- Leave, which ends the open connection of its seat.
use Rattle.std.specs.Prelude.{ℕ, ◌==◌, List, not, Option, Some, None}
use Rattle.std.specs.List.{filter}
use Rattle.portal_model.specs.declared.handle.OpenHandle.{OpenHandle}
use Rattle.portal_model.specs.declared.reply.Answer.{Answer}
use Rattle.portal_model.specs.declared.reply.Code.TheVariants as Code
use Rattle.portal_model.specs.declared.state.Connection.{Connection}
use Rattle.portal_model.specs.State.{State, connection_of}

-- the connections of other seats
abbrev pub of_others : ℕ → List Connection → List Connection
of_others seat connections = filter (λ c. not (c.seat == seat)) connections

-- the connections after a Leave of a seat with that open connection, which goes with all that it
-- has
abbrev pub left : ℕ → List Connection → Option Connection → List Connection
left seat connections None = connections
left seat connections (Some c) = of_others seat connections

-- the handles that other seats have open
abbrev pub handles_of_others : ℕ → List OpenHandle → List OpenHandle
handles_of_others seat handles = filter (λ h. not (h.seat == seat)) handles

-- the handles after a Leave of a seat with that open connection
abbrev pub handles_left : ℕ → List OpenHandle → Option Connection → List OpenHandle
handles_left seat handles None = handles
handles_left seat handles (Some c) = handles_of_others seat handles

abbrev pub leave_answer : Option Connection → Answer
leave_answer None = Answer.Refused Code.NotHere
leave_answer (Some c) = Answer.Done

-- the state after, and the answer
abbrev pub leave : State → ℕ → State × Answer
leave s seat =
    let open_one = connection_of s.connections seat in (
      record s {
        connections = left seat s.connections open_one;
        handles = handles_left seat s.handles open_one;
      },
      leave_answer open_one,
    )
