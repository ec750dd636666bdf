-- A session that is fed and pushed. Between the pieces of its stream it may be pushed; its items
-- are those of the stream all the same, and each push asks one Collect more, where it stands.
use Rattle.std.specs.Prelude.{◌≡◌, ℕ, ◌+◌, List, [], ◌∷◌, ◌++◌, length, map, true, Option, Some, None}
use Rattle.session.specs.declared.act.Act.{Act}
use Rattle.session.specs.declared.act.Act.TheVariants.{Call}
use Rattle.session.specs.declared.act.Client.{Client}
use Rattle.session.specs.declared.phase.Phase.{Phase}
use Rattle.session.specs.declared.served.Fed.TheVariants as fed
use Rattle.session.specs.declared.served.Stop.TheVariants as stop
use Rattle.session.specs.Answers.{Answers, Outcome}
use Rattle.session.specs.Items.{AreItems, Items, Remains, joined, phase_after}
use Rattle.session.specs.Ledger.{Grows, World}
use Rattle.session.specs.Pushes.{Pushes}
use Rattle.session.specs.Sessions.{FeedsOpen}
use Rattle.session.specs.Standings.{Standing}

-- The turns of a session: the next piece of its stream, or none where it is pushed. Each came to
-- More.
abbrev pub Turns : Standing → World → List (Option (List ℕ)) → Standing → World → Type 0
Turns s v [] t w = (t ≡ s) × (w ≡ v)
Turns s v (Some piece ∷ turns) t w = (m : Standing) × (x : World)
    × FeedsOpen s v piece fed.More m x × Turns m x turns t w
Turns s v (None ∷ turns) t w = (m : Standing) × (x : World)
    × Pushes s v fed.More m x × Turns m x turns t w

-- the bytes of the stream
abbrev pub stream_of : List (Option (List ℕ)) → List ℕ
stream_of [] = []
stream_of (Some piece ∷ turns) = piece ++ stream_of turns
stream_of (None ∷ turns) = stream_of turns

-- what items ask, without the pushes
abbrev pub acts_in : List (Option Act) → List Act
acts_in [] = []
acts_in (Some act ∷ asked) = act ∷ acts_in asked
acts_in (None ∷ asked) = acts_in asked

-- A push asks and is answered as a host's call is that asks nothing of the portal and expects no
-- reply.
abbrev pub act_at : Option Act → Act
act_at (Some act) = act
act_at None = Call None true

-- Where the turns stand among the items. With a piece come the items that are whole with it behind
-- what is held, and what they ask; a push stands between those of the pieces around it.
abbrev pub Placed :
    Client → Phase → List ℕ → List (Option (List ℕ)) → List (List ℕ) → List (Option Act) → Type 0
Placed c p held [] items asked = (items ≡ []) × (asked ≡ [])
Placed c p held (Some piece ∷ turns) items asked = (first : List (List ℕ))
    × (others : List (List ℕ)) × (acts : List Act) × (later : List (Option Act)) × (mid : List ℕ)
    × (items ≡ first ++ others) × (asked ≡ map Some acts ++ later)
    × Items c p (held ++ piece) first acts mid stop.More
    × Placed c (phase_after c p first) mid turns others later
Placed c p held (None ∷ turns) items asked =
    (later : List (Option Act)) × (asked ≡ None ∷ later) × Placed c p held turns items later

-- The whole items of the rest and the stream, in order, are asked and answered, and between them,
-- once for each push, where it stands, what the host wasn't told yet.
pub record TakesTurns (s : Standing) (v : World) (turns : List (Option (List ℕ))) (t : Standing)
    (w : World) : Type 0 where
  pub items : List (List ℕ)
  pub asked : List (Option Act)
  pub outcomes : List Outcome
  pub pieces : List (List ℕ)
  pub bytes : s.rest ++ stream_of turns ≡ joined items ++ t.rest
  pub each : AreItems s.client s.stage.phase items (acts_in asked)
  pub remains : Remains s.client t.stage.phase t.rest stop.More
  pub placed : Placed s.client s.stage.phase s.rest turns items asked
  pub phase : t.stage.phase ≡ phase_after s.client s.stage.phase items
  pub before : t.before ≡ s.before + length (joined items)
  pub client : t.client ≡ s.client
  pub answers :
      Answers s.client s.stage.serial (map act_at asked) outcomes pieces t.stage.serial
  pub grows : Grows v outcomes pieces w
  pub sound : w.faults ≡ v.faults

-- whatever turns come to a session whose rest has too few bytes for an item
abbrev pub TurnsAreTaken : Type 0
TurnsAreTaken = (s : Standing) (v : World) (turns : List (Option (List ℕ))) (t : Standing)
    (w : World) → Remains s.client s.stage.phase s.rest stop.More → Turns s v turns t w
    → TakesTurns s v turns t w
