-- What the calls of a session do.
use Rattle.std.specs.Prelude.{◌≡◌, ◌⊎◌, ℕ, ◌+◌, ◌<◌, ◌≤◌, List, [], ◌∷◌, ◌++◌, length, Some}
use Rattle.std.specs.Prelude.{Result, Ok, Err, IfOk}
use Rattle.portal_base.specs.Outside.{HasRisen}
use Rattle.portal_base.specs.declared.who.Kind.{Kind}
use Rattle.portal_base.specs.declared.who.Who.{Who}
use Rattle.portal_model.specs.declared.reply.Refused.{Refused}
use Rattle.portal_model.specs.declared.reply.Refused.TheVariants as refused
use Rattle.portal_model.specs.declared.reply.Reply.{Reply}
use Rattle.portal_model.specs.declared.request.Request.{Request}
use Rattle.portal_model.specs.Seated.{Seated, Asks, bound, state_seen}
use Rattle.session.specs.declared.act.Client.{Client}
use Rattle.session.specs.declared.served.Fed.{Fed}
use Rattle.session.specs.declared.served.Fed.TheVariants as fed
use Rattle.session.specs.declared.served.Stop.{Stop}
use Rattle.session.specs.declared.served.Stop.TheVariants as stop
use Rattle.session.specs.declared.served.Served.{Served}
use Rattle.session.specs.declared.served.Served.TheVariants as served
use Rattle.session.specs.Items.{Remains}
use Rattle.session.specs.Ledger.{World, Did, Broke, BrokeUnsaid, Began}
use Rattle.session.specs.Standings.{Standing, fresh, longest}

-- in the state that the desk has seen, its seat has an open connection, which is bound so
abbrev pub IsBound : Who → Kind → Seated → Type 0
IsBound who kind d = bound (state_seen d) d.seat ≡ Some (record { who = who; kind = kind })

abbrev pub IsOpen : Client → Seated → Type 0
IsOpen c d = IsBound c.who c.kind d

-- ---- begin

abbrev pub enter : Client → Request
enter c = Request.Enter c.who c.kind

-- Enter is asked, or there is no memory to ask it.
abbrev pub Enters : {X : Type 0} → Who → Kind → Seated → Result X Refused → Seated → Type 0
Enters who kind v (Ok x) w = (reply : Reply) × Asks v (Request.Enter who kind) (Ok reply) w
Enters who kind v (Err why) w =
    ((why ≡ refused.Memory) × (w ≡ v)) ⊎ Asks v (Request.Enter who kind) (Err why) w

-- and where it is answered, the session is one before its first byte
abbrev pub Opens : Client → Seated → Result Standing Refused → Seated → Type 0
Opens c v result w = Enters c.who c.kind v result w × IfOk result (λ s. s ≡ fresh c)

-- ---- feed

-- Of the rest and the piece the whole items are asked and answered, and behind them stands this.
pub record TakesUpTo (what : Stop) (s : Standing) (v : World) (piece : List ℕ) (t : Standing)
    (w : World) : Type 0 where
  pub taken : List ℕ
  pub bytes : s.rest ++ piece ≡ taken ++ t.rest
  pub before : t.before ≡ s.before + length taken
  pub did : Did s.client s.stage v taken t.stage w
  pub remains : Remains s.client t.stage.phase t.rest what
  pub client : t.client ≡ s.client
  pub room : t.before + length t.rest ≤ longest

-- with the piece the connection has no more bytes than it may have
abbrev pub HasRoom : Standing → List ℕ → Type 0
HasRoom s piece = s.before + length s.rest + length piece ≤ longest

-- what a piece is told to have come to is what the session goes on to answer
abbrev pub Keeps : Standing → Fed → Standing → Type 0
Keeps s r t = (t.fed ≡ r) × (t.client ≡ s.client)

-- the same is held as before, and no byte of it or of the piece counts as taken
abbrev pub HoldsStill : Standing → Standing → Type 0
HoldsStill s t = (t.before ≡ s.before) × (t.rest ≡ s.rest)

-- the session is where it was, but for what it goes on to answer
abbrev pub StaysAt : Standing → Standing → Type 0
StaysAt s t = (t.stage ≡ s.stage) × HoldsStill s t

-- The ends that a piece alone can bring.
abbrev pub FeedsOver : Standing → World → List ℕ → Served → Standing → World → Type 0
FeedsOver s v piece (served.Malformed at rule) t w =
    TakesUpTo (stop.Bad rule) s v piece t w × (at ≡ t.before)
FeedsOver s v piece (served.LineTooLong at) t w =
    TakesUpTo stop.TooLong s v piece t w × (at ≡ t.before)
FeedsOver s v piece served.Spent t w =
    (longest < s.before + length s.rest + length piece) × (w ≡ v) × StaysAt s t
FeedsOver s v piece served.Ended t w = ⊥
FeedsOver s v piece (served.Cut n) t w = ⊥
FeedsOver s v piece served.ReadFault t w = ⊥
FeedsOver s v piece served.WriteFault t w = ⊥
FeedsOver s v piece (served.Full cost limit) t w = ⊥
FeedsOver s v piece served.Memory t w = ⊥

-- there is no memory: ahead of an item, to hold what stands behind the last one, or for the answer
-- of one
abbrev pub FeedsNot : Standing → World → List ℕ → World → Type 0
FeedsNot s v piece w = Began s.client s.stage v (s.rest ++ piece) w
    ⊎ BrokeUnsaid s.client s.stage v (s.rest ++ piece) w

abbrev pub FeedsOpen : Standing → World → List ℕ → Fed → Standing → World → Type 0
FeedsOpen s v piece fed.More t w = TakesUpTo stop.More s v piece t w × Keeps s fed.More t
FeedsOpen s v piece (fed.Over ending) t w =
    FeedsOver s v piece ending t w × Keeps s (fed.Over ending) t
FeedsOpen s v piece fed.WriteFault t w = Broke s.client s.stage v (s.rest ++ piece) w
    × HasRisen v.faults w.faults × Keeps s fed.WriteFault t × HasRoom s piece × HoldsStill s t
FeedsOpen s v piece fed.Memory t w =
    FeedsNot s v piece w × Keeps s fed.Memory t × HasRoom s piece × HoldsStill s t

-- the same is answered again, and nothing is done
abbrev pub Stays : Standing → World → Fed → Fed → Standing → World → Type 0
Stays s v before r t w = (r ≡ before) × (t ≡ s) × (w ≡ v)

-- By what the last piece came to.
abbrev pub Feeds : Fed → Standing → World → List ℕ → Fed → Standing → World → Type 0
Feeds fed.More s v piece r t w = FeedsOpen s v piece r t w
Feeds (fed.Over ending) s v piece r t w = Stays s v (fed.Over ending) r t w
Feeds fed.WriteFault s v piece r t w = Stays s v fed.WriteFault r t w
Feeds fed.Memory s v piece r t w = Stays s v fed.Memory r t w

-- what bytes came to behind whose whole items this stands, at this byte of the stream
abbrev pub fed_of : ℕ → Stop → Fed
fed_of at stop.More = fed.More
fed_of at (stop.Bad rule) = fed.Over (served.Malformed at rule)
fed_of at stop.TooLong = fed.Over (served.LineTooLong at)

-- ---- end

-- how a connection ends whose input ends behind this rest
abbrev pub ending_at : List ℕ → Served
ending_at [] = served.Ended
ending_at (b ∷ bs) = served.Cut (length (b ∷ bs))

abbrev pub ending : Fed → List ℕ → Served
ending fed.More left = ending_at left
ending (fed.Over met) left = met
ending fed.WriteFault left = served.WriteFault
ending fed.Memory left = served.Memory

-- Leave is asked, and is not refused
abbrev pub Closes : Standing → Seated → Served → Seated → Type 0
Closes s v r w = (r ≡ ending s.fed s.rest) × ((reply : Reply) × Asks v Request.Leave (Ok reply) w)
