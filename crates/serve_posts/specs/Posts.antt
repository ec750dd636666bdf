-- What workers do at their posts, each in a seat of its own, over one history.
use Rattle.std.specs.Prelude.{◌≡◌, ◌⊎◌, ℕ, ◌+◌, ◌<◌, List, length, replicate, slice_get, Some, Option, Bool, true, false}
use Rattle.portal_base.specs.declared.limits.Settings.{Settings}
use Rattle.portal_model.specs.declared.entry.Entry.{Entry}
use Rattle.portal_desk.specs.Knowing.{Known}
use Rattle.portal_desk.specs.Opening.{IsOpeningState}
use Rattle.portal_model.specs.History.{Legal, of_seat, run}
use Rattle.portal_model.specs.Seated.{BeginsWith, Seated, exchanges, is_open, state_seen}
use Rattle.portal_model.specs.State.{State}
use Rattle.session.specs.Standings.{client}
use Rattle.turn_desk.specs.Sights.{Sight, Stays, seated_of}
use Rattle.worker_gate.specs.declared.worker.Post.{Post}
use Rattle.worker_gate.specs.declared.worker.WorkEnd.{WorkEnd}
use Rattle.worker_gate.specs.declared.worker.WorkEnd.TheVariants as end
use Rattle.worker_gate.specs.Listening.{Links}
use Rattle.worker_gate.specs.Working.{Hall, Sides, Works, hall}

-- how a listener is seen, by what its links, ends and faults are
abbrev pub halls : {L S K : Type 0} → (L → Option (Links S K)) → (L → ℕ) → (L → ℕ) → L → Hall S K
halls links ends faults l = hall (links l) (ends l) (faults l)

-- a post that is to be served on: its last worker ended since the history had no room
abbrev pub is_left : WorkEnd → Bool
is_left (end.Full cost limit) = true
is_left end.Closed = false
is_left end.Failed = false
is_left end.Memory = false

-- before their first turn all posts are
abbrev pub unserved : WorkEnd
unserved = end.Full 0 0

abbrev pub all_unserved : {L : Type 0} → List (Post L) → List WorkEnd
all_unserved posts = replicate (length posts) unserved

-- a seat that sits down: none of its requests was refused so far
abbrev pub sat_down : Sight → Sight
sat_down p = record p { refusals = 0 }

-- a seat of this number, which knows a history, and its own entries in it
abbrev pub newcomer : State → List Entry → ℕ → Seated
newcomer o base seat = record {
  opening = o;
  seat = seat;
  seen = base;
  mine = exchanges seat o base;
  refusals = 0;
}

-- Nothing was done at a post.
abbrev pub Rests : {L : Type 0} → Post L → WorkEnd → Sight → WorkEnd → Post L → Sight → Type 0
Rests before was a ended after b = (ended ≡ was) × (after ≡ before) × (b ≡ a)

-- A post stays as it was, and its seat has no new entries.
abbrev pub RestsPost : {L : Type 0} → List Entry → List Entry → ℕ → Post L → WorkEnd → WorkEnd
    → Post L → Type 0
RestsPost base log seat before was ended after =
    (ended ≡ was) × (after ≡ before) × (of_seat seat log ≡ of_seat seat base)

module _ {L S K : Type 0} (s : Sides S K) (hall_of : L → Hall S K) (settings : Settings) where
  -- What a worker did, from its post and its seat to what they are then: the links of the post were
  -- served, whose client stays the same, and it stays the same seat of the same turn, without an
  -- open connection.
  pub record Attends (before : Post L) (a : Sight) (ended : WorkEnd) (after : Post L) (b : Sight) :
      Type 0 where
    pub who : after.who ≡ before.who
    pub kind : after.kind ≡ before.kind
    pub polled : after.polled ≡ before.polled
    pub works : Works s before.polled (client before.who before.kind settings) ended
        (hall_of before.listener)
        (seated_of a) (hall_of after.listener) (seated_of b)
    pub known : Known (seated_of b)
    pub closed : is_open (state_seen (seated_of b)) b.knows.number ≡ false
    pub stays : Stays a b

  -- The same of a post whose last worker ended so: where it isn't left nothing was done.
  abbrev pub AttendsLeft : Post L → WorkEnd → Sight → WorkEnd → Post L → Sight → Type 0
  AttendsLeft before (end.Full cost limit) a ended after b = Attends before a ended after b
  AttendsLeft before end.Closed a ended after b = Rests before end.Closed a ended after b
  AttendsLeft before end.Failed a ended after b = Rests before end.Failed a ended after b
  AttendsLeft before end.Memory a ended after b = Rests before end.Memory a ended after b

  -- One post was served by the seat of this number, in a history that began in this state and went
  -- on from these entries: all that the history has of the seat is what its worker asked, and the
  -- seat has no open connection behind it.
  pub record ServesPost (o : State) (base log : List Entry) (seat : ℕ) (before : Post L)
      (ended : WorkEnd) (after : Post L) : Type 0 where
    pub who : after.who ≡ before.who
    pub kind : after.kind ≡ before.kind
    pub polled : after.polled ≡ before.polled
    pub last : Seated
    pub works : Works s before.polled (client before.who before.kind settings) ended
        (hall_of before.listener)
        (newcomer o base seat) (hall_of after.listener) last
    pub known : Known last
    pub seen : BeginsWith log last.seen
    pub mine : exchanges seat o log ≡ last.mine
    pub closed : is_open (run o log) seat ≡ false

  -- Each post was served by the seat of its number, from 1, and came back in its place with the end
  -- of its worker. The history is legal from an opening state, and has no entries of other numbers.
  pub record ServesPosts (o : State) (base log : List Entry) (posts : List (Post L))
      (ends : List WorkEnd) (back : List (Post L)) : Type 0 where
    pub started : IsOpeningState o
    pub legal : Legal o log
    pub begins : BeginsWith log base
    pub all_ended : length ends ≡ length posts
    pub all_back : length back ≡ length posts
    pub each : (k : ℕ) (p q : Post L) (e : WorkEnd) → slice_get posts k ≡ Some p
        → slice_get ends k ≡ Some e → slice_get back k ≡ Some q
        → ServesPost o base log (k + 1) p e q
    pub others : (n : ℕ) → (n ≡ 0) ⊎ (length posts < n) → of_seat n log ≡ of_seat n base

  -- A post whose last worker ended so was served, where it is left.
  abbrev pub ServesLeft : State → List Entry → List Entry → ℕ → Post L → WorkEnd → WorkEnd → Post L
      → Type 0
  ServesLeft o base log seat before (end.Full cost limit) ended after =
      ServesPost o base log seat before ended after
  ServesLeft o base log seat before end.Closed ended after =
      RestsPost base log seat before end.Closed ended after
  ServesLeft o base log seat before end.Failed ended after =
      RestsPost base log seat before end.Failed ended after
  ServesLeft o base log seat before end.Memory ended after =
      RestsPost base log seat before end.Memory ended after

  -- One turn: of posts whose last workers ended so, each that is left was served by the seat of its
  -- number, from 1, and all came back in their places. The history is legal from an opening state,
  -- and has no new entries of other numbers.
  pub record ServesTurn (o : State) (base log : List Entry) (posts : List (Post L))
      (were ends : List WorkEnd) (back : List (Post L)) : Type 0 where
    pub started : IsOpeningState o
    pub legal : Legal o log
    pub begins : BeginsWith log base
    pub all_ended : length ends ≡ length posts
    pub all_back : length back ≡ length posts
    pub each : (k : ℕ) (p q : Post L) (d e : WorkEnd) → slice_get posts k ≡ Some p
        → slice_get were k ≡ Some d → slice_get ends k ≡ Some e → slice_get back k ≡ Some q
        → ServesLeft o base log (k + 1) p d e q
    pub others : (n : ℕ) → (n ≡ 0) ⊎ (length posts < n) → of_seat n log ≡ of_seat n base
