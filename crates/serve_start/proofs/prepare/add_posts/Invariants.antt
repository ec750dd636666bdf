use Rattle.std.proofs.Common.{◌≡◌, ◌+◌, ◌++◌, ℕ, List, length, map, replicate}
use Rattle.serve_start.specs.Posts.{ListenAt, bound_at, bound_of}
use Rattle.serve_start.proofs.prepare.add_posts.Given as goal

-- nothing was refused, and so many posts were added
abbrev pub invariant-loop : goal.invariant-loop
invariant-loop g l = record {
  faults : g.O.Openers.faults l.openers ≡ g.O.Openers.faults l.initial.openers;
  count : length l.posts ≡ length l.initial.posts + l.counter;
  bound : map bound_of l.posts ≡ map bound_of l.initial.posts ++ replicate l.counter (bound_at l.polled l.socket);
  listen : (paths : List (List ℕ)) → ListenAt g.O.Openers.at l.initial.posts paths → ListenAt g.O.Openers.at l.posts (paths ++ replicate l.counter l.socket.path);
}
