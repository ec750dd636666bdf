-- What a push does: a host is told what it wasn't told yet, without waiting for its next item.
use Rattle.std.specs.Prelude.{◌≡◌, ◌≢◌, ℕ, List, [], ◌∷◌, Bool, true, false, ◌&&◌, Result, Ok, Err}
use Rattle.portal_base.specs.Outside.{HasRisen, Short}
use Rattle.portal_base.specs.declared.who.Kind.{Kind}
use Rattle.portal_model.specs.declared.request.Request.{Request}
use Rattle.session.specs.declared.phase.Phase.{Phase}
use Rattle.session.specs.declared.phase.Phase.TheVariants as due
use Rattle.session.specs.declared.served.Fed.{Fed}
use Rattle.session.specs.declared.served.Fed.TheVariants.{More, Over, WriteFault, Memory}
use Rattle.session.specs.Answers.{Outcome, IsOf, last_spoken, signals_for, signals_in, spoken}
use Rattle.session.specs.Ledger.{World, Grows}
use Rattle.session.specs.Standings.{Standing, stage}

-- ---- when a session may be pushed

abbrev pub is_bus : Kind → Bool
is_bus Kind.Bus = true
is_bus Kind.Mount = false

-- the handshake is over
abbrev pub has_begun : Phase → Bool
has_begun due.ZeroByte = false
has_begun (due.Handshake h) = false
has_begun due.Messages = true
has_begun due.Frames = false

-- the session isn't over
abbrev pub goes_on : Fed → Bool
goes_on More = true
goes_on (Over ending) = false
goes_on WriteFault = false
goes_on Memory = false

abbrev pub is_ready : Standing → Bool
is_ready s = is_bus s.client.kind && (has_begun s.stage.phase && goes_on s.fed)

-- ---- what it asks and writes

-- One Collect was asked and had this outcome, and these pieces were written.
pub record Told (v w : World) : Type 0 where
  pub outcome : Outcome
  pub is_of : IsOf Request.Collect outcome
  pub written : List (List ℕ)
  pub grows : Grows v (outcome ∷ []) written w

-- there was something to tell
abbrev pub ToldSome : World → World → Type 0
ToldSome v w = (t : Told v w) × (signals_in t.outcome ≢ [])

-- How asking and telling ended behind a serial. The signals are written with the next serials. A
-- Collect that is refused has none, so then nothing is written.
abbrev pub Tells : Result ℕ Fed → ℕ → World → World → Type 0
Tells (Ok last) serial v w = (t : Told v w) × (t.written ≡ spoken serial (signals_for t.outcome))
    × (last ≡ last_spoken serial (signals_for t.outcome)) × (w.faults ≡ v.faults)
Tells (Err WriteFault) serial v w = (t : ToldSome v w)
    × Short t.0.written (spoken serial (signals_for t.0.outcome)) × HasRisen v.faults w.faults
Tells (Err Memory) serial v w =
    (t : ToldSome v w) × (t.0.written ≡ []) × (w.faults ≡ v.faults)
Tells (Err More) serial v w = ⊥
Tells (Err (Over ending)) serial v w = ⊥

-- ---- push

-- the session, but for the serial of its last message
abbrev pub with_serial : ℕ → Standing → Standing
with_serial serial s = record s { stage = stage s.stage.phase serial }

-- the session, but for what it goes on to answer
abbrev pub with_fed : Fed → Standing → Standing
with_fed fed s = record s { fed = fed }

-- The bytes before the rest and the rest stay, whatever a push came to.
abbrev pub Pushes : Standing → World → Fed → Standing → World → Type 0
Pushes s v More t w =
    (last : ℕ) × (t ≡ with_serial last s) × Tells (Ok last) s.stage.serial v w
Pushes s v (Over ending) t w = ⊥
Pushes s v WriteFault t w =
    (t ≡ with_fed WriteFault s) × Tells (Err WriteFault) s.stage.serial v w
Pushes s v Memory t w = (t ≡ with_fed Memory s) × Tells (Err Memory) s.stage.serial v w
