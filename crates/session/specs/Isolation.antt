-- What an application is served.
use Rattle.std.specs.Prelude.{◌≡◌, ℕ, ◌≤◌, List, ◌∷◌, ◌++◌, length, true, false, Some, slice_get}
use Rattle.portal_base.specs.declared.who.Who.{Who}
use Rattle.portal_model.specs.declared.entry.Entry.{Entry}
use Rattle.portal_model.specs.declared.reply.Reply.{Reply}
use Rattle.portal_model.specs.Alike.{Alike}
use Rattle.portal_model.specs.History.{run, replies}
use Rattle.portal_model.specs.Seated.{Seated}
use Rattle.portal_model.specs.Step.{reply_at}
use Rattle.app_world.specs.World.{app_run, trace}
use Rattle.served_world.specs.ServedWorld.{served_run, served_trace}

-- What is replied to an entry of a history from which an application's seat entered is what the
-- application's own machine replies over its trace, at the entry's place among all that it makes.
abbrev pub IsServed : List ℕ → Seated → Seated → Type 0
IsServed app v w = (front after : List Entry) (e : Entry) → w.seen ≡ front ++ e ∷ after
    → length v.seen ≤ length front → e.seat ≡ w.seat
    → slice_get (app_run (trace app w.opening w.seen)) (length (replies app w.opening front))
    ≡ Some (reply_at (run w.opening front) e)

-- The same over any tree, of the trace that has what the tree showed to the application's own
-- requests, and nothing that it showed to others. To what the machine replies is alike what is
-- given where the step replies so: it is the same but for the content that a READ shows.
abbrev pub IsServedByLooks : List ℕ → Seated → Seated → Type 0
IsServedByLooks app v w = (front after : List Entry) (e : Entry) → w.seen ≡ front ++ e ∷ after
    → length v.seen ≤ length front → e.seat ≡ w.seat
    → (own : Reply)
    × (slice_get (served_run (served_trace app w.opening w.seen))
    (length (replies app w.opening front))
    ≡ Some own)
    × ((given : Reply) → Alike w.opening.told e.request (reply_at (run w.opening front) e) given
    → Alike false e.request own given)

-- of the client of a connection, where it is an application: over a tree that tells its files, and
-- over any
abbrev pub IsIsolated : Who → Seated → Seated → Type 0
IsIsolated who v w = (app : List ℕ) → who ≡ Who.App app
    → (w.opening.told ≡ true → IsServed app v w) × IsServedByLooks app v w
