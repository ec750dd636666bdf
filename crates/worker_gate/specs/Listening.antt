-- What a listener tells, and what its calls do to it.
use Rattle.std.specs.Prelude.{◌≡◌, ℕ, ◌≤◌, List, [], ◌∷◌, ◌++◌, Option, Some, None}
use Rattle.portal_base.specs.Outside.{HasRisen}
use Rattle.worker_gate.specs.declared.listener.Accepted.{Accepted}
use Rattle.worker_gate.specs.declared.listener.Accepted.TheVariants as accepted
use Rattle.worker_gate.specs.declared.listener.Link.{Link}

-- the links to come, and the links that were taken back, each in order
pub record Links (S K : Type 0) : Type 0 where
  pub coming : List (Link S K)
  pub back : List (Link S K)

abbrev pub link : {S K : Type 0} → S → K → Link S K
link source sink = record { source = source; sink = sink }

abbrev pub links : {S K : Type 0} → List (Link S K) → List (Link S K) → Links S K
links coming back = record { coming = coming; back = back }

-- The first link to come is given, and leaves the others; no other answer changes the lists, and
-- Closed comes only where no link is to come.
abbrev pub Accepts : {S K : Type 0} → Option (Links S K) → Accepted S K → Option (Links S K)
    → Type 0
Accepts None answer new = new ≡ None
Accepts (Some old) (accepted.Link source sink) new =
    (others : List _) × (old.coming ≡ link source sink ∷ others)
    × (new ≡ Some (links others old.back))
Accepts (Some old) accepted.Closed new = (old.coming ≡ []) × (new ≡ Some old)
Accepts (Some old) accepted.Failed new = new ≡ Some old
Accepts (Some old) accepted.Memory new = new ≡ Some old

-- only an end is counted as one, and only a fault
abbrev pub AcceptCounts : {S K : Type 0} → ℕ → ℕ → Accepted S K → ℕ → ℕ → Type 0
AcceptCounts ends faults (accepted.Link source sink) ends' faults' =
    (ends' ≡ ends) × (faults' ≡ faults)
AcceptCounts ends faults accepted.Closed ends' faults' = HasRisen ends ends' × (faults' ≡ faults)
AcceptCounts ends faults accepted.Failed ends' faults' = (ends' ≡ ends) × HasRisen faults faults'
AcceptCounts ends faults accepted.Memory ends' faults' = (ends' ≡ ends) × (faults' ≡ faults)

-- a link that is given has room to be taken back
abbrev pub MakesRoom : {S K : Type 0} → Accepted S K → ℕ → Type 0
MakesRoom (accepted.Link source sink) room = 1 ≤ room
MakesRoom accepted.Closed room = Unit {0}
MakesRoom accepted.Failed room = Unit {0}
MakesRoom accepted.Memory room = Unit {0}

-- this link is the last that was taken back
abbrev pub returned : {S K : Type 0} → Option (Links S K) → S → K → Option (Links S K)
returned None source sink = None
returned (Some old) source sink = Some (links old.coming (old.back ++ link source sink ∷ []))
