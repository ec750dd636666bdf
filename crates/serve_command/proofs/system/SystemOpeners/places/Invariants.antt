use Rattle.std.proofs.Common.{◌≡◌}
use Rattle.serve_command.proofs.system.SystemOpeners.places.Given as goal

-- nothing was refused so far
abbrev pub invariant-loop-socket : goal.invariant-loop-socket
invariant-loop-socket g l = l.self ≡ l.initial.self
