-- A Present leaves a valid state valid.
use Rattle.std.proofs.Common.{◌≡◌, ℕ, List, [], ◌∷◌, ◌++◌, length, nat_lt, true, Some}
use Rattle.portal_base.specs.Names.{is_host_path}
use Rattle.portal_model.specs.declared.reply.Answer.{Answer}
use Rattle.portal_model.specs.declared.reply.Code.{Code}
use Rattle.portal_model.specs.declared.state.Connection.{Connection}
use Rattle.portal_model.specs.Arguments.{ahead_of_end, has_end, is_ended_path}
use Rattle.portal_model.specs.Present.{may_present, present, present_path, queue_path, requeued, with_queue}
use Rattle.portal_model.specs.State.{State, connection_of}
use Rattle.portal_model.specs.Valid.{Valid}
use Rattle.portal_model.specs.Verdict.{Doing, does}
use Rattle.portal_model.proofs.DocumentChanges.{second_of_both}
use Rattle.portal_model.proofs.WalkDoings.{IfDoes, if-passes}
use Rattle.portal_model.proofs.SeatsValid.{requeued_same, seats-mapped}
use Rattle.portal_model.proofs.OpenHandles.{requeued-handles}
use Rattle.portal_model.proofs.Queues.{pushed-connections}
use Rattle.portal_model.proofs.SoundParts.{Valid-connections, valid-handles, valid-seats}

pub present-valid : (P : Doing → Type 0) → ((d : Doing) → Valid d.state → P d) → (s : State) (c found : Connection) (bytes : List ℕ) → connection_of s.connections c.seat ≡ Some found → found.queue ≡ c.queue → Valid s →
    IfDoes P (present s c bytes)
present-valid P valid s c found bytes f q v =
    let path = ahead_of_end bytes in
    if-passes P (is_ended_path bytes) Code.InvalidArgument (present_path s c path) (λ ended.
    if-passes P (may_present c.who path) Code.NotAllowed (queue_path s c path) (λ may.
    if-passes P (nat_lt (length c.queue) s.limits.queued) Code.LimitsExceeded (does (with_queue c.seat (λ queue. queue ++ path ∷ []) s) (Answer.Place (length c.queue))) (λ room.
    let host : is_host_path path ≡ true = second_of_both (has_end bytes) (is_host_path path) ended in
    let place : nat_lt (length found.queue) s.limits.queued ≡ true = rw q room in
    valid _ (Valid-connections s _ v (pushed-connections s.limits.queued c.seat path host s.connections found f place (v.seats_differ, v.connections_sound)) (requeued-handles c.seat s.limits.handles (λ queue. queue ++ path ∷ []) s.connections s.handles (valid-handles s v))
    (seats-mapped s.made s.documents s.told s.taken (requeued c.seat (λ queue. queue ++ path ∷ [])) (requeued_same c.seat (λ queue. queue ++ path ∷ [])) s.connections (valid-seats s v))))))
