-- The posts of a service: whose each is, what its connections speak, and where it listens.
use Rattle.std.specs.Prelude.{ℕ, Bool, List, [], ◌∷◌, replicate}
use Rattle.std.specs.List.{flat_map}
use Rattle.portal_base.specs.declared.who.Who.{Who}
use Rattle.portal_base.specs.declared.who.Kind.{Kind}
use Rattle.worker_gate.specs.declared.worker.Post.{Post}
use Rattle.serve_start.specs.declared.sockets.Socket.{Socket}

-- whose something is, what its connections speak, and whether they are polled
pub record Bound : Type 0 where
  pub who : Who
  pub kind : Kind
  pub polled : Bool

abbrev pub bound_of : {L : Type 0} → Post L → Bound
bound_of post = record { who = post.who; kind = post.kind; polled = post.polled }

abbrev pub bound_at : Bool → Socket → Bound
bound_at polled socket = record { who = socket.who; kind = socket.kind; polled = polled }

-- at each socket, in order, so many posts that are bound as it is
abbrev pub posts_of : ℕ → Bool → List Socket → List Bound
posts_of workers polled sockets =
    flat_map (λ socket. replicate workers (bound_at polled socket)) sockets

-- and the path of each of them, which is that of its socket
abbrev pub paths_of : ℕ → List Socket → List (List ℕ)
paths_of workers sockets = flat_map (λ socket. replicate workers socket.path) sockets

-- the listener of each post is at the path of the same place
abbrev pub ListenAt : {L : Type 0} → (L → List ℕ → Type 0) → List (Post L) → List (List ℕ) → Type 0
ListenAt at [] [] = Unit {0}
ListenAt at (post ∷ posts) (path ∷ paths) = at post.listener path × ListenAt at posts paths
ListenAt at [] (path ∷ paths) = ⊥
ListenAt at (post ∷ posts) [] = ⊥
