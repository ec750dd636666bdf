use Rattle.std.proofs.Common.{◌≡◌, ◌++◌, ◌-◌, ◌*◌, ◌≤◌, length}
use Rattle.fuse_wire.specs.Bodies.{forget_ones}
use Rattle.fuse_wire.proofs.body.forget_ones.Given as goal

abbrev pub invariant-loop-done : goal.invariant-loop-done
invariant-loop-done l = (l.nodes ++ forget_ones (l.count - l.done) l.rest ≡ forget_ones l.count l.bytes) × (16 * (l.count - l.done) ≤ length l.rest)
