-- What a Present does to the queue of its connection.
use Rattle.std.specs.Prelude.{ℕ, List, [], ◌∷◌, ◌++◌, length, nat_lt, cond, Option, Some, None}
use Rattle.portal_base.specs.declared.who.Who.{Who}
use Rattle.portal_model.specs.declared.reply.Answer.{Answer}
use Rattle.portal_model.specs.declared.reply.Code.TheVariants as Code
use Rattle.portal_model.specs.Present.{may_present}
use Rattle.document_calls.specs.Arguments.{path_if_ended}

-- the queue after, and the answer
abbrev pub queued : List (List ℕ) → ℕ → List ℕ → List (List ℕ) × Answer
queued queue limit path =
    cond (nat_lt (length queue) limit) (queue ++ path ∷ [], Answer.Place (length queue))
    (queue, Answer.Refused Code.LimitsExceeded)

abbrev pub presented_path : List (List ℕ) → ℕ → Who → Option (List ℕ) → List (List ℕ) × Answer
presented_path queue limit who None = (queue, Answer.Refused Code.InvalidArgument)
presented_path queue limit who (Some path) =
    cond (may_present who path) (queued queue limit path) (queue, Answer.Refused Code.NotAllowed)

abbrev pub presented : List (List ℕ) → ℕ → Who → List ℕ → List (List ℕ) × Answer
presented queue limit who bytes = presented_path queue limit who (path_if_ended bytes)
