-- What the pieces of a source came to.
use Rattle.std.specs.Prelude.{◌≡◌, ◌⊎◌, ℕ, ◌<◌, ◌≤◌, List, [], ◌++◌, length, Option, IfSome}
use Rattle.portal_base.specs.Outside.{behind, HasRisen}
use Rattle.session.specs.declared.connection.Pumped.{Pumped}
use Rattle.session.specs.declared.connection.Pumped.TheVariants as pumped
use Rattle.session.specs.declared.served.Fed.{Fed}
use Rattle.session.specs.declared.served.Fed.TheVariants as fed
use Rattle.session.specs.declared.served.Stop.{Stop}
use Rattle.session.specs.declared.served.Stop.TheVariants as stop
use Rattle.session.specs.declared.served.Served.{Served}
use Rattle.session.specs.declared.served.Served.TheVariants as served
use Rattle.session.specs.declared.act.Act.{Act}
use Rattle.session.specs.declared.act.Client.{Client}
use Rattle.session.specs.Cuts.{first_phase}
use Rattle.session.specs.Items.{Items, Remains}
use Rattle.session.specs.Ledger.{World, Did, Broke, BrokeUnsaid, Began}
use Rattle.session.specs.Standings.{Standing, first_stage, longest}

-- what a source has left, where it tells it, and its count of faults
pub record Spring : Type 0 where
  pub left : Option (List ℕ)
  pub faults : ℕ

abbrev pub spring : Option (List ℕ) → ℕ → Spring
spring left faults = record { left = left; faults = faults }

-- nothing is told to come
abbrev pub IsDry : Spring → Type 0
IsDry b = IfSome b.left (λ left. left ≡ [])

-- These bytes were read, no more than a connection may have: items, all asked and answered, and
-- then the session's rest, which is this.
pub record Kept (c : Client) (read : List ℕ) (what : Stop) (v : World) (s : Standing) (w : World) :
    Type 0 where
  pub taken : List ℕ
  pub bytes : read ≡ taken ++ s.rest
  pub before : s.before ≡ length taken
  pub did : Did c (first_stage c) v taken s.stage w
  pub remains : Remains c s.stage.phase s.rest what
  pub room : length read ≤ longest

-- how many bytes the last piece has, at most
abbrev pub longest_piece : ℕ
longest_piece = 262144

-- The last of what was read is one piece. Ahead of it stood whole items, and too few bytes of one.
abbrev pub CameLast : Client → List ℕ → Type 0
CameLast c read =
    (before : List ℕ) × (piece : List ℕ) × (items : List (List ℕ)) × (acts : List Act)
    × (left : List ℕ)
    × (read ≡ before ++ piece) × (length piece ≤ longest_piece)
    × Items c (first_phase c.kind) before items acts left stop.More

-- all pieces but the last were taken
abbrev pub IsSpent : Client → List ℕ → World → World → Type 0
IsSpent c read v w = (longest < length read)
    × ((before : List ℕ) × (piece : List ℕ) × (m : Standing) × (read ≡ before ++ piece)
    × (length piece ≤ longest_piece) × Kept c before stop.More v m w)

abbrev pub PumpsInto : Client → Served → List ℕ → World → Standing → World → Type 0
PumpsInto c (served.Malformed at rule) read v s w =
    Kept c read (stop.Bad rule) v s w × (at ≡ s.before)
PumpsInto c (served.LineTooLong at) read v s w = Kept c read stop.TooLong v s w × (at ≡ s.before)
PumpsInto c served.Spent read v s w = IsSpent c read v w
PumpsInto c served.Ended read v s w = ⊥
PumpsInto c (served.Cut n) read v s w = ⊥
PumpsInto c served.ReadFault read v s w = ⊥
PumpsInto c served.WriteFault read v s w = ⊥
PumpsInto c (served.Full cost limit) read v s w = ⊥
PumpsInto c served.Memory read v s w = ⊥

-- how the pieces ended, where the session is over
abbrev pub PumpsOver : Client → Fed → List ℕ → World → Standing → World → Type 0
PumpsOver c fed.More read v s w = ⊥
PumpsOver c (fed.Over ending) read v s w = PumpsInto c ending read v s w
PumpsOver c fed.WriteFault read v s w =
    Broke c (first_stage c) v read w × HasRisen v.faults w.faults × (length read ≤ longest)
PumpsOver c fed.Memory read v s w =
    (Began c (first_stage c) v read w ⊎ BrokeUnsaid c (first_stage c) v read w)
    × (length read ≤ longest)

abbrev pub PumpsUpTo : Client → Pumped → List ℕ → Spring → Spring → World → Standing → World
    → Type 0
PumpsUpTo c pumped.End read a b v s w =
    Kept c read stop.More v s w × (s.fed ≡ fed.More) × IsDry b × (b.faults ≡ a.faults)
PumpsUpTo c pumped.Fault read a b v s w =
    Kept c read stop.More v s w × (s.fed ≡ fed.More) × HasRisen a.faults b.faults
PumpsUpTo c pumped.Over read a b v s w =
    PumpsOver c s.fed read v s w × CameLast c read × (b.faults ≡ a.faults)

abbrev pub Pumps : Client → Pumped → Spring → Spring → World → Standing → World → Type 0
Pumps c r a b v s w = (read : List ℕ) × (a.left ≡ behind read b.left) × (a.faults ≤ b.faults)
    × (s.client ≡ c) × PumpsUpTo c r read a b v s w
