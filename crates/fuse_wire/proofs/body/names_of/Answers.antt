use Rattle.std.proofs.Common.{◌≡◌, ℕ, Option, IfOk, ap, subst}
use Rattle.fuse_wire.specs.Bodies.{names_at}
use Rattle.fuse_wire.proofs.Zeros.{zero-inside}
use Rattle.fuse_wire.proofs.body.names_of.Goals as goal

pub names_at-requires : goal.names_at-requires
names_at-requires c = zero-inside c.args.bytes.now c.in-Some.end c.in-Some.ensures

pub returns-in-Some : goal.returns-in-Some
returns-in-Some c =
    subst (λ (found : Option ℕ). IfOk c.names_at.result (λ names. names ≡ names_at c.args.bytes.now found)) c.in-Some.ensures c.names_at.ensures

pub returns-in-None : goal.returns-in-None
returns-in-None c = ap (names_at c.args.bytes.now) c.in-None.ensures
