-- How a service ends by what serving it came to.
use Rattle.std.specs.Prelude.{◌≡◌, ◌⊎◌, ℕ, Bool, true, false, List, if◌then◌else◌}
use Rattle.std.specs.List.{list_any}
use Rattle.portal_start.specs.declared.start.StartError.{StartError}
use Rattle.portal_start.specs.declared.start.StartError.TheVariants as start
use Rattle.serve_posts.specs.declared.status.ServeStatus.{ServeStatus}
use Rattle.serve_posts.specs.declared.status.ServeStatus.TheVariants as status
use Rattle.worker_gate.specs.declared.worker.WorkEnd.{WorkEnd}
use Rattle.worker_gate.specs.declared.worker.WorkEnd.TheVariants as work
use Rattle.serve_start.specs.declared.end.ServeEnd.{ServeEnd}
use Rattle.serve_start.specs.declared.end.ServeEnd.TheVariants.{Closed, KeeperFault, BadRecord, Memory, BadVersion, SocketFault}
use Rattle.serve_start.specs.Ends.{number_of}

-- ---- a service whose workers have ended

abbrev pub is_failed : WorkEnd → Bool
is_failed work.Closed = false
is_failed work.Failed = true
is_failed work.Memory = false
is_failed (work.Full cost limit) = false

abbrev pub is_starved : WorkEnd → Bool
is_starved work.Closed = false
is_starved work.Failed = false
is_starved work.Memory = true
is_starved (work.Full cost limit) = false

-- it ends by a fault where one of them did; else for want of memory where one did
abbrev pub end_of : List WorkEnd → ServeEnd
end_of ends = if list_any is_failed ends then SocketFault
    else (if list_any is_starved ends then Memory else Closed)

-- ---- a service whose portal doesn't start

-- it ends as the refusal says: by a fault of the keeper, or for want of memory to tell what that
-- met; and else with the version or the record that the refusal names, or for want of memory
abbrev pub EndsStart : StartError → ServeEnd → Type 0
EndsStart start.KeeperFault end = (number_of end ≡ 3) ⊎ (end ≡ Memory)
EndsStart (start.BadVersion found) end = end ≡ BadVersion found
EndsStart (start.BadRecord index) end = end ≡ BadRecord index
EndsStart start.Memory end = end ≡ Memory

-- ---- either, or no memory before a worker began

abbrev pub EndsStatus : {L T K C W : Type 0} → ServeStatus L T K C W → ServeEnd → Type 0
EndsStatus (status.Ended posts ends portal rounds) end = end ≡ end_of ends
EndsStatus (status.Refused refusal) end = EndsStart refusal.error end
EndsStatus status.Memory end = end ≡ Memory
