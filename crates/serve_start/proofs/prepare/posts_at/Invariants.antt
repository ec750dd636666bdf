use Rattle.std.proofs.Common.{◌≡◌, ◌*◌, length, map, take}
use Rattle.serve_start.specs.Posts.{ListenAt, bound_of, paths_of, posts_of}
use Rattle.serve_start.proofs.prepare.posts_at.Given as goal

-- nothing was refused, and the posts so far are those of the first sockets
abbrev pub invariant-loop-socket : goal.invariant-loop-socket
invariant-loop-socket g l = record {
  faults : g.O.Openers.faults l.openers ≡ g.O.Openers.faults l.initial.openers;
  count : length l.posts ≡ l.workers * l.socket-index;
  bound : map bound_of l.posts ≡ posts_of l.workers l.polled (take l.socket-index l.sockets);
  listen : ListenAt g.O.Openers.at l.posts (paths_of l.workers (take l.socket-index l.sockets));
}
