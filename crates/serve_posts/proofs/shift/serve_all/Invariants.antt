use Rattle.std.proofs.Common.{◌≡◌, ℕ}
use Rattle.portal_base.specs.Outside.{rises_by}
use Rattle.worker_gate.specs.Working.{sides}
use Rattle.serve_posts.specs.Posts.{all_unserved, halls}
use Rattle.serve_posts.specs.Rounds.{Turns, stand}
use Rattle.serve_posts.proofs.Rounds.{AllClosed}
use Rattle.serve_posts.proofs.shift.serve_all.Given as goal

-- one turn, and so many more
abbrev pub invariant-turns : goal.invariant-turns
invariant-turns g l =
    (goal.iterator-turns g).can_next l.iterator'
    × (goal.iterator-turns g).is_finite l.iterator'
    × ((more : ℕ) × (l.rounds ≡ rises_by 1 more)
    × Turns {L = g.row.L.Denot} {S = g.row.L-In.Denot} {K = g.row.L-Out.Denot} (sides g.L.In.Source.left g.L.In.Source.faults g.L.Out.Sink.told g.L.Out.Sink.faults) (halls g.L.Listener.links g.L.Listener.ends g.L.Listener.faults) l.settings more
    (stand (g.S.Storied.opening l.fn.story) (g.S.Storied.entries l.fn.story) l.fn.posts (all_unserved l.fn.posts))
    (stand (g.S.Storied.opening l.shift.story) (g.S.Storied.entries l.shift.story) l.shift.posts l.shift.ends))
    × AllClosed (g.S.Storied.opening l.shift.story) (g.S.Storied.entries l.shift.story)
