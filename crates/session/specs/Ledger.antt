-- What is done of a stream at a desk and a sink.
use Rattle.std.specs.Prelude.{◌≡◌, ◌⊎◌, ℕ, ◌≤◌, List, [], ◌∷◌, ◌++◌, length, take, drop}
use Rattle.std.specs.Prelude.{Bool, Option, Some, None, Result, Ok, Err}
use Rattle.std.specs.List.{flat_map}
use Rattle.portal_base.specs.Outside.{onto, HasRisen, Short}
use Rattle.portal_model.specs.declared.reply.Change.{Change}
use Rattle.portal_model.specs.declared.reply.Refused.{Refused}
use Rattle.portal_model.specs.declared.request.Request.{Request}
use Rattle.portal_model.specs.Alike.{Alike}
use Rattle.portal_model.specs.Seated.{Exchange, HasCause, Seated, Moved, rises_by}
use Rattle.session.specs.declared.act.Act.{Act}
use Rattle.session.specs.declared.act.Client.{Client}
use Rattle.session.specs.declared.act.ItemError.TheVariants.{Breaks}
use Rattle.session.specs.declared.phase.Phase.{Phase}
use Rattle.session.specs.declared.serve.Run.{Run}
use Rattle.session.specs.declared.serve.Stage.{Stage}
use Rattle.session.specs.declared.served.Fed.{Fed}
use Rattle.session.specs.declared.served.Fed.TheVariants.{More, Over, WriteFault, Memory}
use Rattle.session.specs.declared.served.Stop.{Stop}
use Rattle.session.specs.declared.served.Stop.TheVariants as stop
use Rattle.session.specs.Cuts.{next_phase}
use Rattle.session.specs.Asked.{Means}
use Rattle.session.specs.Items.{IsItem, AreItems, Remains, joined, phase_after}
use Rattle.session.specs.Lacks.{MayLack}
use Rattle.session.specs.Answers.{Outcome, Made, Denied, kept, denied, signals_in, AreOf, Gives, Answers}

-- ---- the desk and the sink

-- the desk came by a state in which the request is refused so
abbrev pub IsCaused : Seated → Seated → Request → Refused → Type 0
IsCaused v w request why = (d : Seated) × Moved v d × Moved d w × HasCause d request why

abbrev pub AreCaused : Seated → Seated → List Outcome → Type 0
AreCaused v w [] = Unit {0}
AreCaused v w (Made x ∷ os) = AreCaused v w os
AreCaused v w (Denied request why ∷ os) = IsCaused v w request why × AreCaused v w os

-- Pair by pair, of exchanges of steps and those that were given: the entry is one, and the reply
-- that was given is alike to the step's.
abbrev pub AreAlike : Bool → List Exchange → List Exchange → Type 0
AreAlike told [] [] = Unit {0}
AreAlike told (x ∷ xs) (y ∷ ys) =
    (y.entry ≡ x.entry) × Alike told x.entry.request x.reply y.reply × AreAlike told xs ys
AreAlike told [] (y ∷ ys) = ⊥
AreAlike told (x ∷ xs) [] = ⊥

-- From one state of a desk to another there came these outcomes, and no others: the seat's own
-- entries grew by steps to which those that were made are alike, and the count of refusals rose by
-- the others, each of which has its cause.
pub record Grew (v : Seated) (outcomes : List Outcome) (w : Seated) : Type 0 where
  pub moved : Moved v w
  pub steps : List Exchange
  pub mine : w.mine ≡ v.mine ++ steps
  pub alike : AreAlike v.opening.told steps (kept outcomes)
  pub refusals : w.refusals ≡ rises_by v.refusals (denied outcomes)
  pub caused : AreCaused v w outcomes

-- a desk, and what a sink tells with its count of faults
pub record World : Type 0 where
  pub seated : Seated
  pub told : Option (List (List ℕ))
  pub faults : ℕ

abbrev pub world : Seated → Option (List (List ℕ)) → ℕ → World
world seated told faults = record { seated = seated; told = told; faults = faults }

-- from one world to another there came these outcomes at the desk, and these pieces at the sink
pub record Grows (v : World) (outcomes : List Outcome) (pieces : List (List ℕ))
    (w : World) : Type 0 where
  pub desk : Grew v.seated outcomes w.seated
  pub told : w.told ≡ onto v.told pieces
  pub faults : v.faults ≤ w.faults

-- ---- pieces

-- these pieces are written in part: where a write failed, some whole and then a front of the next
-- or nothing; where there was no memory for the first, nothing
abbrev pub SendsPart : List (List ℕ) → Fed → Option (List (List ℕ)) → ℕ → Option (List (List ℕ))
    → ℕ → Type 0
SendsPart pieces WriteFault told faults told' faults' = (written : List (List ℕ))
    × Short written pieces × (told' ≡ onto told written) × (faults ≤ faults')
    × HasRisen faults faults'
SendsPart pieces Memory told faults told' faults' = (told' ≡ told) × (faults' ≡ faults)
SendsPart pieces More told faults told' faults' = ⊥
SendsPart pieces (Over ending) told faults told' faults' = ⊥

-- how writing these pieces ended
abbrev pub Sends : {X : Type 0} → List (List ℕ) → Result X Fed → Option (List (List ℕ)) → ℕ
    → Option (List (List ℕ)) → ℕ → Type 0
Sends pieces (Ok x) told faults told' faults' = (told' ≡ onto told pieces) × (faults' ≡ faults)
Sends pieces (Err halt) told faults told' faults' = SendsPart pieces halt told faults told' faults'

-- these requests, and no others, were asked at a desk, and these changes ride in their replies
abbrev pub Collected : List Request → List Change → Seated → Seated → Type 0
Collected requests changes v w = (outcomes : List Outcome) × AreOf requests outcomes
    × Grew v outcomes w × (changes ≡ flat_map signals_in outcomes)

-- ---- one item

-- What an item asks was asked, and its answer is written in part.
pub record Halted (c : Client) (act : Act) (serial : ℕ) (v w : World) : Type 0 where
  pub outcomes : List Outcome
  pub pieces : List (List ℕ)
  pub written : List (List ℕ)
  pub last : ℕ
  pub gives : Gives c act serial outcomes pieces last
  pub grows : Grows v outcomes written w
  pub short : Short written pieces

-- The same, where there was no memory for the answer: nothing of it is written, and no write
-- failed.
abbrev pub Unsaid : Client → Act → ℕ → World → World → Type 0
Unsaid c act serial v w = (h : Halted c act serial v w) × (h.written ≡ []) × (w.faults ≡ v.faults)

-- how asking and answering ended
abbrev pub ActEnds : Client → Result ℕ Fed → Act → ℕ → World → World → Type 0
ActEnds c (Ok last) act serial v w = (outcomes : List Outcome) × (pieces : List (List ℕ))
    × Gives c act serial outcomes pieces last × Grows v outcomes pieces w × (w.faults ≡ v.faults)
ActEnds c (Err WriteFault) act serial v w = Halted c act serial v w × HasRisen v.faults w.faults
ActEnds c (Err Memory) act serial v w = Unsaid c act serial v w
ActEnds c (Err More) act serial v w = ⊥
ActEnds c (Err (Over ending)) act serial v w = ⊥

-- where there was no memory for the answer, it is none that is sure of it
abbrev pub LacksAt : Client → Act → ℕ → World → World → Fed → Type 0
LacksAt c act serial v w Memory = (h : Unsaid c act serial v w) × MayLack act h.0.outcomes
LacksAt c act serial v w halt = Unit {0}

-- what a whole item that asks nothing is
abbrev pub Declines : Client → Phase → List ℕ → Stop → Type 0
Declines c p item stop.More = ⊥
Declines c p item (stop.Bad rule) = Means c p item (Err (Breaks rule))
Declines c p item stop.TooLong = ⊥

-- an item was read, and then asking and answering it ended so
abbrev pub HaltsAt : Client → Fed → Stage → World → List ℕ → World → Type 0
HaltsAt c halt s v item w =
    (act : Act) × Means c s.phase item (Ok act) × ActEnds c (Err halt) act s.serial v w

-- how one whole item ended
abbrev pub ItemEnds : Client → Result (Option Stop) Fed → Stage → World → List ℕ → Stage → World
    → Type 0
ItemEnds c (Ok None) s v item t w = (act : Act) × Means c s.phase item (Ok act)
    × (t.phase ≡ next_phase c s.phase item) × ActEnds c (Ok t.serial) act s.serial v w
ItemEnds c (Ok (Some what)) s v item t w = Declines c s.phase item what × (t ≡ s) × (w ≡ v)
ItemEnds c (Err WriteFault) s v item t w = HaltsAt c WriteFault s v item w
ItemEnds c (Err Memory) s v item t w =
    (w ≡ v) ⊎ ((h : HaltsAt c Memory s v item w) × MayLack h.0 h.2.0.outcomes)
ItemEnds c (Err More) s v item t w = ⊥
ItemEnds c (Err (Over ending)) s v item t w = ⊥

-- ---- items

-- These bytes were items, and each is asked and answered. No write failed.
pub record Did (c : Client) (s : Stage) (v : World) (bytes : List ℕ) (t : Stage)
    (w : World) : Type 0 where
  pub items : List (List ℕ)
  pub acts : List Act
  pub outcomes : List Outcome
  pub pieces : List (List ℕ)
  pub bytes_are : bytes ≡ joined items
  pub each : AreItems c s.phase items acts
  pub phase : t.phase ≡ phase_after c s.phase items
  pub answers : Answers c s.serial acts outcomes pieces t.serial
  pub grows : Grows v outcomes pieces w
  pub sound : w.faults ≡ v.faults

-- These bytes begin with items that are asked and answered, and then one that is asked, and
-- answered in part.
pub record Broke (c : Client) (s : Stage) (v : World) (bytes : List ℕ) (w : World) : Type 0 where
  pub front : List ℕ
  pub item : List ℕ
  pub after : List ℕ
  pub mid : Stage
  pub then : World
  pub act : Act
  pub bytes_are : bytes ≡ front ++ (item ++ after)
  pub did : Did c s v front mid then
  pub is_item : IsItem c mid.phase item act
  pub halted : Halted c act mid.serial then w

-- The same, and nothing of the last answer is written, and no write failed. What was asked last is
-- none that is sure of the memory for its answer.
abbrev pub BrokeUnsaid : Client → Stage → World → List ℕ → World → Type 0
BrokeUnsaid c s v bytes w =
    (b : Broke c s v bytes w) × (b.halted.written ≡ []) × (w.faults ≡ v.faults)
    × MayLack b.act b.halted.outcomes

-- These bytes begin with items that are asked and answered, and nothing more is done.
pub record Began (c : Client) (s : Stage) (v : World) (bytes : List ℕ) (w : World) : Type 0 where
  pub front : List ℕ
  pub after : List ℕ
  pub mid : Stage
  pub bytes_are : bytes ≡ front ++ after
  pub did : Did c s v front mid w

-- what is held behind a run over what was held and a piece: what stands behind its items, and the
-- same as before where it halted
abbrev pub held_after : Result Run Fed → List ℕ → List ℕ → List ℕ
held_after (Ok run) held piece = drop run.len (held ++ piece)
held_after (Err halt) held piece = held

-- how a run over bytes ended
abbrev pub Stops : Client → Result Run Fed → Stage → World → List ℕ → Stage → World → Type 0
Stops c (Ok run) s v bytes t w = (run.len ≤ length bytes) × Did c s v (take run.len bytes) t w
    × Remains c t.phase (drop run.len bytes) run.stop
Stops c (Err WriteFault) s v bytes t w = Broke c s v bytes w × HasRisen v.faults w.faults
Stops c (Err Memory) s v bytes t w = Began c s v bytes w ⊎ BrokeUnsaid c s v bytes w
Stops c (Err More) s v bytes t w = ⊥
Stops c (Err (Over ending)) s v bytes t w = ⊥
