use Rattle.std.proofs.Common.{◌≡◌, ◌+◌, ◌*◌, length, take}
use Rattle.serve_start.specs.Sockets.{sockets_in}
use Rattle.serve_start.proofs.sockets.sockets_of.Given as goal

abbrev pub invariant-loop-app : goal.invariant-loop-app
invariant-loop-app l = (l.sockets ≡ sockets_in l.folder (take l.app-index l.apps))
    × (length l.sockets ≡ 2 + 2 * l.app-index)
