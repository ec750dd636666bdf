-- What a worker does: it serves the links of a listener at a desk, one after another.
use Rattle.std.specs.Prelude.{◌≡◌, ℕ, ◌≤◌, List, [], ◌∷◌, ◌++◌, Bool, true, false, Option, Some, None, IfSome}
use Rattle.std.specs.List.{list_any}
use Rattle.portal_base.specs.Outside.{HasRisen}
use Rattle.portal_desk.specs.Knowing.{Known}
use Rattle.portal_model.specs.declared.reply.Refused.TheVariants as refused
use Rattle.portal_model.specs.Seated.{Exchange, Moved, Seated, is_open, state_seen}
use Rattle.session.specs.declared.act.Client.{Client}
use Rattle.session.specs.declared.served.Served.{Served}
use Rattle.session.specs.declared.served.Served.TheVariants as served
use Rattle.session.specs.Hearing.{IsHeard}
use Rattle.session.specs.Isolation.{IsIsolated}
use Rattle.session.specs.Ledger.{World, world}
use Rattle.session.specs.Pumps.{Spring, spring}
use Rattle.session.specs.Sessions.{enter}
use Rattle.worker_gate.specs.declared.listener.Link.{Link}
use Rattle.worker_gate.specs.declared.worker.WorkEnd.{WorkEnd}
use Rattle.worker_gate.specs.declared.worker.WorkEnd.TheVariants as end
use Rattle.worker_gate.specs.Listening.{Links, links}
use Rattle.worker_gate.specs.Polled.{CausedBy, ServesBy}

-- how the sources and the sinks of links are seen: what is left and what is told, and their counts
-- of faults
pub record Sides (S K : Type 0) : Type 0 where
  pub left : S → Option (List ℕ)
  pub read_faults : S → ℕ
  pub told : K → Option (List (List ℕ))
  pub write_faults : K → ℕ

abbrev pub sides : {S K : Type 0} → (S → Option (List ℕ)) → (S → ℕ)
    → (K → Option (List (List ℕ))) → (K → ℕ) → Sides S K
sides left read_faults told write_faults = record {
  left = left;
  read_faults = read_faults;
  told = told;
  write_faults = write_faults;
}

-- what contracts see of a link's source
abbrev pub spring_of : {S K : Type 0} → Sides S K → Link S K → Spring
spring_of s l = spring (s.left l.source) (s.read_faults l.source)

-- and of its sink, beside the desk
abbrev pub world_of : {S K : Type 0} → Sides S K → Seated → Link S K → World
world_of s d l = world d (s.told l.sink) (s.write_faults l.sink)

-- what came of a link: how its connection ended, and what the desk's seat made meanwhile
pub record Visit : Type 0 where
  pub ended : Served
  pub made : List Exchange

abbrev pub visit : Served → List Exchange → Visit
visit ended made = record { ended = ended; made = made }

-- One link was served, polled or not, as it was given and as it came back, by a desk before and
-- after: a served connection of this client, with an ending that means what it says of it.
pub record ServesLink {S K : Type 0} (s : Sides S K) (polled : Bool) (c : Client) (given : Link S K)
    (v : Seated) (x : Visit) (back : Link S K) (w : Seated) : Type 0 where
  pub serves : ServesBy polled c x.ended (spring_of s given) (spring_of s back) (world_of s v given)
      (world_of s w back)
  pub moved : Moved v w
  pub mine : w.mine ≡ v.mine ++ x.made
  pub refusals : v.refusals ≤ w.refusals
  pub closed : is_open (state_seen w) w.seat ≡ false
  pub known : Known w
  pub heard : IsHeard v w
  pub isolated : IsIsolated c.who v w

-- Links were served, one after another, each once, with what came of each, and came back in that
-- order.
abbrev pub ServesLinks : {S K : Type 0} → Sides S K → Bool → Client → List (Link S K) → Seated
    → List Visit → List (Link S K) → Seated → Type 0
ServesLinks s polled c [] v [] [] w = w ≡ v
ServesLinks s polled c (g ∷ given) v (x ∷ visits) (b ∷ back) w = (m : Seated)
    × ServesLink s polled c g v x b m × ServesLinks s polled c given m visits back w
ServesLinks s polled c [] v [] (b ∷ back) w = ⊥
ServesLinks s polled c [] v (x ∷ visits) back w = ⊥
ServesLinks s polled c (g ∷ given) v [] back w = ⊥
ServesLinks s polled c (g ∷ given) v (x ∷ visits) [] w = ⊥

-- what was made at all of them, in order
abbrev pub joined : List Visit → List Exchange
joined [] = []
joined (x ∷ visits) = x.made ++ joined visits

-- the history had no room for a link
abbrev pub is_full : Served → Bool
is_full (served.Full cost limit) = true
is_full served.Ended = false
is_full (served.Cut rest) = false
is_full (served.Malformed at rule) = false
is_full (served.LineTooLong at) = false
is_full served.ReadFault = false
is_full served.WriteFault = false
is_full served.Spent = false
is_full served.Memory = false

abbrev pub any_full : List Visit → Bool
any_full visits = list_any (λ x. is_full x.ended) visits

-- what contracts see of a listener
pub record Hall (S K : Type 0) : Type 0 where
  pub links : Option (Links S K)
  pub ends : ℕ
  pub faults : ℕ

abbrev pub hall : {S K : Type 0} → Option (Links S K) → ℕ → ℕ → Hall S K
hall told ends faults = record { links = told; ends = ends; faults = faults }

-- where a listener tells, these were the first links to come, and these are the last that were
-- taken back
abbrev pub Passes : {S K : Type 0} → Option (Links S K) → List (Link S K) → List (Link S K)
    → Option (Links S K) → Type 0
Passes None given back new = new ≡ None
Passes (Some old) given back new = (others : List _) × (old.coming ≡ given ++ others)
    × (new ≡ Some (links others (old.back ++ back)))

-- The history had no room for the last of these links, which is the first that it had none for: a
-- request was refused, and what the history costs, as the desk sees it then, and what the Enter of
-- this client costs pass the limit together.
pub record EndsFull (polled : Bool) (c : Client) (cost limit : ℕ) (visits : List Visit)
    (v w : Seated) : Type 0 where
  pub before : List Visit
  pub made : List Exchange
  pub last : visits ≡ before ++ visit (served.Full cost limit) made ∷ []
  pub none : any_full before ≡ false
  pub refused_is : HasRisen v.refusals w.refusals
  pub cause : CausedBy polled v w (enter c) (refused.Full cost limit)

-- How a worker ends, after links of which this came: the history had no room for the last of them;
-- or it had room for each, and no link is to come any more, accepting failed, or there was no
-- memory.
abbrev pub EndsWork : {S K : Type 0} → Bool → Client → WorkEnd → List Visit → Hall S K → Seated
    → Hall S K → Seated → Type 0
EndsWork polled c end.Closed visits a v b w = (any_full visits ≡ false) × HasRisen a.ends b.ends
    × (b.faults ≡ a.faults) × IfSome b.links (λ l. l.coming ≡ [])
EndsWork polled c end.Failed visits a v b w =
    (any_full visits ≡ false) × (b.ends ≡ a.ends) × HasRisen a.faults b.faults
EndsWork polled c end.Memory visits a v b w =
    (any_full visits ≡ false) × (b.ends ≡ a.ends) × (b.faults ≡ a.faults)
EndsWork polled c (end.Full cost limit) visits a v b w =
    EndsFull polled c cost limit visits v w × (b.ends ≡ a.ends) × (b.faults ≡ a.faults)

-- What a worker did, from a listener and a desk to what they are then: these links were served,
-- polled or not, and what the desk's seat made falls into their parts, and nothing else.
pub record Works {S K : Type 0} (s : Sides S K) (polled : Bool) (c : Client) (ended : WorkEnd)
    (a : Hall S K) (v : Seated) (b : Hall S K) (w : Seated) : Type 0 where
  pub given : List (Link S K)
  pub visits : List Visit
  pub back : List (Link S K)
  pub serves : ServesLinks s polled c given v visits back w
  pub passes : Passes a.links given back b.links
  pub moved : Moved v w
  pub mine : w.mine ≡ v.mine ++ joined visits
  pub ends : EndsWork polled c ended visits a v b w
