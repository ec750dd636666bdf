use Rattle.std.proofs.Common.{◌≡◌}
use Rattle.unix_links.proofs.listener.SocketListener.next_ends.Given as goal

abbrev pub invariant-loop : goal.invariant-loop
invariant-loop g l = l.self ≡ l.initial.self
