use Rattle.std.proofs.Common.{◌≡◌, fold, take, None}
use Rattle.portal_core.specs.Renewing.{lesser}
use Rattle.portal_core.proofs.renewal.least_seat.Given as goal

abbrev pub invariant-loop-connection : goal.invariant-loop-connection
invariant-loop-connection l = l.least ≡ fold lesser None (take l.connection-index l.connections)
